-- A file's events that are given to a replica one after another.
use Rattle.std.proofs.Common.{◌≡◌, ◌∙◌, ◌+◌, ◌≤◌, ℕ, suc, List, [], ◌∷◌, ◌++◌, length, Ok, Some, refl, sym, ap, subst, append_assoc, arith}
use Rattle.std.proofs.lemmas.List.{length-append}
use Rattle.ew_model.specs.declared.event.Event.{Event}
use Rattle.ew_model.specs.declared.event.Op.{Op}
use Rattle.file_words.specs.FileFaults.{FileFinding}
use Rattle.file_words.specs.FileFaults as model
use Rattle.event_file.specs.declared.fault.FileFault.{FileFault}
use Rattle.event_file.specs.declared.fault.FileFault.TheVariants.{Short, BadMagic, BadVersion, BadDigest, BadRecord, TooMany, OutOfMemory}
use Rattle.event_file.specs.Faults.{IsFault}
use Rattle.event_file.specs.Rest.{GoesOnBy, IsNext, Rest, in_front}
use Rattle.history_definitions.specs.Chains.{event_behind}
use Rattle.replica.specs.Giving.{Given, WereGiven}
use Rattle.replica.proofs.Fronts.{front_of}
use Rattle.stored_histories.specs.Giving.{HasGivenLast, IsGivenFront}

-- a fault is the same behind events
pub fault_behind : (before : List Event) (fault : FileFault) (found : FileFinding) → IsFault fault found → IsFault fault (in_front before found)
fault_behind before (Short len) found is = ap (in_front before) is
fault_behind before BadMagic found is = ap (in_front before) is
fault_behind before (BadVersion version) found is = ap (in_front before) is
fault_behind before (BadDigest stored other) found is = ap (in_front before) is
fault_behind before (BadRecord offset kind) found is = ap (in_front before) is
fault_behind before (TooMany count) found is = ap (in_front before) is
fault_behind before OutOfMemory found is = tt

-- more in front of what has some in front
pub both_in_front : (before more : List Event) (found : FileFinding) → in_front before (in_front more found) ≡ in_front (before ++ more) found
both_in_front before more (model.IsFile events) = ap model.IsFile (sym (append_assoc before more events))
both_in_front before more (model.Short len) = refl
both_in_front before more model.BadMagic = refl
both_in_front before more (model.BadVersion version) = refl
both_in_front before more (model.BadDigest stored other) = refl
both_in_front before more (model.BadRecord offset kind) = refl
both_in_front before more (model.TooMany count) = refl

-- one more is given
pub one_more : (before : List Event) (e : Event) (found : FileFinding) (given next : Given) (old new : Rest) (most : ℕ) → IsGivenFront before found given old most
    → old.found ≡ in_front (e ∷ []) new.found → old.records ≡ suc new.records → WereGiven (before ++ e ∷ []) next → IsGivenFront (before ++ e ∷ []) found next new most
one_more before e found given next old new most front is one were =
    (were, front.1 ∙ ap (in_front before) is ∙ both_in_front before (e ∷ []) new.found, omega (arith, front.2, one, length-append before (e ∷ [])))

-- the one that was handed out next is given
pub last_given : (before : List Event) (e : Event) (found : FileFinding) (given next : Given) (old new : Rest) (most : ℕ) → IsGivenFront before found given old most
    → IsNext (Ok (Some e)) old new → WereGiven (before ++ e ∷ []) next → HasGivenLast found next new most
last_given before e found given next old new most front is were =
    (before, e, is.2, one_more before e found given next old new most front is.0 is.1 were)

-- and so is the one that goes on from it
pub behind_given : (op : Op) (found : FileFinding) (given next : Given) (old new : Rest) (most : ℕ) → HasGivenLast found given old most
    → GoesOnBy op old new → ((events : List Event) (e : Event) → WereGiven (events ++ e ∷ []) given → WereGiven ((events ++ e ∷ []) ++ event_behind e.id op ∷ []) next)
    → HasGivenLast found next new most
behind_given op found given next old new most has on were =
    let before = has.0 in
    let e = has.1 in
    let both : Some on.last ≡ Some e.id = sym on.is_last ∙ has.2 in
    let same : on.last ≡ e.id = cc in
    last_given (before ++ e ∷ []) (event_behind e.id op) found given next old new most has.3
    (subst (λ x. IsNext (Ok (Some (event_behind x op))) old new) same on.next)
    (were before e has.3.0)

-- what is admitted and what is still to come is within the bound
pub few_admitted : (before : List Event) (found : FileFinding) (given : Given) (rest : Rest) (most : ℕ) → IsGivenFront before found given rest most → length given.admitted + rest.records ≤ most
few_admitted before found given rest most front =
    let later = front_of given.admitted given.refused before front.0.front in
    let long = ap (length {A = Event}) later.1 in
    omega (arith, front.2, long, length-append given.admitted later.0)
