-- What is known of an event by the answer to it, and what stays so when it is held or waits.
use Rattle.std.proofs.Common.{◌≡◌, ℕ, ◌≤◌, nat_le, Bool, true, false, cond, List, [], ◌∷◌, ◌++◌, length, Option, Some, None, refl, sym, ap, ◌∙◌, subst, arith, length-append}
use Rattle.std.specs.Bool.{then_some}
use Rattle.std.specs.List.{list_any}
use Rattle.std.proofs.lemmas.Bool.{false≢true, or_parts, leb-false, or_from}
use Rattle.ew_model.specs.declared.event.Event.{Event}
use Rattle.ew_model.specs.Ancestors.{is_held}
use Rattle.ew_model.specs.Events.{event_eq}
use Rattle.ew_model.specs.Kept.{AreFresh}
use Rattle.ew_model.specs.Limits.{LimitNumbers}
use Rattle.ew_model.specs.Verdicts.{Ruling, first_row, id_rows, later_rows, verdict, graph_verdict, is_verdict_good}
use Rattle.ew_model.specs.Verdicts.Ruling.{Repeat, Clash, SelfParent, TooManyParents, ParentsUnsorted, Unknown, PoolFull, NotReduced, Skipped, GraphFull, OutOfRange, Good}
use Rattle.ew_model.proofs.KeptLaws.{held_joined, fresh-push, fresh-wait}
use Rattle.replica.specs.declared.answer.Answer.{Answer}
use Rattle.replica.specs.declared.answer.Answer.TheVariants as answer
use Rattle.replica.specs.Desks.{answer_by, known_at, pooled, held_by, waiting_by}
use Rattle.replica.proofs.RulingRows.{or_else, by_id, by_parents, by_size, size_is, later_blind, verdict_is, graph_verdict_is, id_good, id_new}
use Rattle.ew_model.proofs.FirstBadLaws.{good_of}

-- the event is held or waits now
abbrev pub is_kept : Answer → Bool
is_kept answer.Held = true
is_kept answer.Waits = true
is_kept answer.Repeat = false
is_kept (answer.Refused reason) = false

-- the event is held now
abbrev pub is_taken : Answer → Bool
is_taken answer.Held = true
is_taken answer.Waits = false
is_taken answer.Repeat = false
is_taken (answer.Refused reason) = false

pub kept_before : (out : Option (ℕ × ℕ)) (n : ℕ) (full : Bool) (a : Answer) → is_kept (pooled full (known_at out n a)) ≡ true → is_kept a ≡ true
kept_before out n full answer.Held h = refl
kept_before out n full answer.Waits h = refl
kept_before None n full answer.Repeat h = h
kept_before (Some o) n full answer.Repeat h = h
kept_before None n full (answer.Refused reason) h = h
kept_before (Some o) n full (answer.Refused reason) h = h

pub taken_before : (out : Option (ℕ × ℕ)) (n : ℕ) (full : Bool) (a : Answer) → is_taken (pooled full (known_at out n a)) ≡ true → is_taken a ≡ true
taken_before out n full answer.Held h = refl
taken_before None n true answer.Waits h = h
taken_before None n false answer.Waits h = h
taken_before (Some o) n true answer.Waits h = h
taken_before (Some o) n false answer.Waits h = h
taken_before None n full answer.Repeat h = h
taken_before (Some o) n full answer.Repeat h = h
taken_before None n full (answer.Refused reason) h = h
taken_before (Some o) n full (answer.Refused reason) h = h

-- the same before it is asked whether it may wait
taken_known : (out : Option (ℕ × ℕ)) (n : ℕ) (a : Answer) → known_at out n a ≡ answer.Held → is_taken a ≡ true
taken_known out n answer.Held h = refl
taken_known None n answer.Waits h = let no : ⊥ = cc in absurd no
taken_known (Some o) n answer.Waits h = let no : ⊥ = cc in absurd no
taken_known None n answer.Repeat h = let no : ⊥ = cc in absurd no
taken_known (Some o) n answer.Repeat h = let no : ⊥ = cc in absurd no
taken_known None n (answer.Refused reason) h = let no : ⊥ = cc in absurd no
taken_known (Some o) n (answer.Refused reason) h = let no : ⊥ = cc in absurd no

kept_known : (out : Option (ℕ × ℕ)) (n : ℕ) (a : Answer) → known_at out n a ≡ answer.Waits → is_kept a ≡ true
kept_known out n answer.Held h = refl
kept_known out n answer.Waits h = refl
kept_known None n answer.Repeat h = let no : ⊥ = cc in absurd no
kept_known (Some o) n answer.Repeat h = let no : ⊥ = cc in absurd no
kept_known None n (answer.Refused reason) h = let no : ⊥ = cc in absurd no
kept_known (Some o) n (answer.Refused reason) h = let no : ⊥ = cc in absurd no

-- the answer by a ruling
taken_good : (r : Ruling) → is_taken (answer_by r) ≡ is_verdict_good r
taken_good Good = refl
taken_good Repeat = refl
taken_good Clash = refl
taken_good SelfParent = refl
taken_good TooManyParents = refl
taken_good ParentsUnsorted = refl
taken_good (Unknown p) = refl
taken_good PoolFull = refl
taken_good NotReduced = refl
taken_good Skipped = refl
taken_good GraphFull = refl
taken_good (OutOfRange len) = refl

-- both are Good where the first that isn't is
pub or_good : (q r : Ruling) → is_verdict_good (or_else q r) ≡ true → (is_verdict_good q ≡ true) × (is_verdict_good r ≡ true)
or_good q r h = at (is_verdict_good q) refl h
  where
    at : (b : Bool) → is_verdict_good q ≡ b → is_verdict_good (cond b r q) ≡ true → (is_verdict_good q ≡ true) × (is_verdict_good r ≡ true)
    at true p k = (p, k)
    at false p k = absurd (false≢true (sym p ∙ k))

pub good_or : (q r : Ruling) → is_verdict_good q ≡ true → or_else q r ≡ r
good_or q r h = ap (λ b. cond b r q) h

-- an event that is judged Good by all rows but that for the index
pub record IsAlmostGood (limits : LimitNumbers) (held waiting : List Event) (e : Event) : Type 0 where
  pub new : is_held held e.id ≡ false
  pub waits_not : is_held waiting e.id ≡ false
  pub parents : is_verdict_good (by_parents held e) ≡ true
  pub room : nat_le limits.events (length held) ≡ false

room_of : (b : Bool) → is_verdict_good (cond b GraphFull Good) ≡ true → b ≡ false
room_of true h = absurd (false≢true h)
room_of false h = refl

pub almost_good : (limits : LimitNumbers) (held waiting : List Event) (e : Event) → is_verdict_good (verdict limits false held waiting e) ≡ true → IsAlmostGood limits held waiting e
almost_good limits held waiting e h =
    let all = or_good (by_id held waiting e) (first_row (later_rows limits false held e)) (ap is_verdict_good (sym (verdict_is limits false held waiting e)) ∙ h) in
    let later = or_good (by_parents held e) (by_size limits held) (ap is_verdict_good (sym (later_blind limits held e)) ∙ all.1) in
    let ids = id_good held waiting e all.0 in
    record { new = ids.0; waits_not = ids.1; parents = later.0; room = room_of (nat_le limits.events (length held)) (ap is_verdict_good (sym (size_is limits held)) ∙ later.1) }

-- the graph judges it Good too
pub graph_good : (limits : LimitNumbers) (held waiting : List Event) (e : Event) → IsAlmostGood limits held waiting e → graph_verdict held e ≡ Good
graph_good limits held waiting e g =
    graph_verdict_is held e
    ∙ ap (λ (r : Ruling). or_else r (by_parents held e)) (id_new held [] e (held_joined held [] e.id ∙ or_from (is_held held e.id) false g.new refl))
    ∙ good_of (by_parents held e) g.parents

pub taken_then_good : (limits : LimitNumbers) (held waiting : List Event) (e : Event) → is_taken (answer_by (verdict limits false held waiting e)) ≡ true → IsAlmostGood limits held waiting e
taken_then_good limits held waiting e h = almost_good limits held waiting e (sym (taken_good (verdict limits false held waiting e)) ∙ h)

pub held_then_good : (limits : LimitNumbers) (held waiting : List Event) (e : Event) (out : Option (ℕ × ℕ)) (n : ℕ) (a : Answer) → a ≡ answer_by (verdict limits false held waiting e) → known_at out n a ≡ answer.Held → graph_verdict held e ≡ Good
held_then_good limits held waiting e out n a same h =
    graph_good limits held waiting e (taken_then_good limits held waiting e (ap is_taken (sym same) ∙ taken_known out n a h))

-- an event that is held or waits now wasn't there before
new_if : (b c : Bool) (r : Ruling) → is_kept (answer_by (or_else (first_row (then_some b Repeat ∷ then_some c Clash ∷ [])) r)) ≡ true → c ≡ false
new_if true c r h = absurd (false≢true h)
new_if false true r h = absurd (false≢true h)
new_if false false r h = refl

pub kept_is_new : (limits : LimitNumbers) (held waiting : List Event) (e : Event) → is_kept (answer_by (verdict limits false held waiting e)) ≡ true → (is_held held e.id ≡ false) × (is_held waiting e.id ≡ false)
unfolding id_rows
kept_is_new limits held waiting e h =
    let all : is_kept (answer_by (or_else (by_id held waiting e) (first_row (later_rows limits false held e)))) ≡ true = ap (λ (r : Ruling). is_kept (answer_by r)) (sym (verdict_is limits false held waiting e)) ∙ h in
    or_parts (is_held held e.id) (is_held waiting e.id)
    (sym (held_joined held waiting e.id) ∙ new_if (list_any (event_eq e) (held ++ waiting)) (is_held (held ++ waiting) e.id) (first_row (later_rows limits false held e)) all)

pub waits_then_new : (limits : LimitNumbers) (held waiting : List Event) (e : Event) (out : Option (ℕ × ℕ)) (n : ℕ) (a : Answer) → a ≡ answer_by (verdict limits false held waiting e) → known_at out n a ≡ answer.Waits → is_held waiting e.id ≡ false
waits_then_new limits held waiting e out n a same h = (kept_is_new limits held waiting e (ap is_kept (sym same) ∙ kept_known out n a h)).1

-- so no waiting event comes to have an id that is held
fresh_by : (a : Answer) (held waiting : List Event) (e : Event) → (is_kept a ≡ true → (is_held held e.id ≡ false) × (is_held waiting e.id ≡ false)) → AreFresh held waiting → AreFresh (held_by a e held) (waiting_by a e waiting)
fresh_by answer.Held held waiting e n f = fresh-push held waiting e f (n refl).1
fresh_by answer.Waits held waiting e n f = fresh-wait held waiting e f (n refl).0
fresh_by answer.Repeat held waiting e n f = f
fresh_by (answer.Refused reason) held waiting e n f = f

few_by : (a : Answer) (held : List Event) (e : Event) (most : ℕ) → (is_taken a ≡ true → nat_le most (length held) ≡ false) → length held ≤ most → length (held_by a e held) ≤ most
few_by answer.Held held e most n few = let room = leb-false most (length held) (n refl) in omega (arith, length-append held (e ∷ []), room)
few_by answer.Waits held e most n few = few
few_by answer.Repeat held e most n few = few
few_by (answer.Refused reason) held e most n few = few

-- the answer that is given at last
abbrev pub given_by : LimitNumbers → Option (ℕ × ℕ) → ℕ → Bool → List Event → List Event → Event → Answer
given_by limits out n full held waiting e = pooled full (known_at out n (answer_by (verdict limits false held waiting e)))

pub stays_fresh : (limits : LimitNumbers) (out : Option (ℕ × ℕ)) (n : ℕ) (full : Bool) (held waiting : List Event) (e : Event) (a : Answer) (graph pool : List Event) → a ≡ given_by limits out n full held waiting e
    → graph ≡ held_by a e held → pool ≡ waiting_by a e waiting → AreFresh held waiting → AreFresh graph pool
stays_fresh limits out n full held waiting e a graph pool is g p f =
    let by = answer_by (verdict limits false held waiting e) in
    let new = fresh_by a held waiting e (λ h. kept_is_new limits held waiting e (kept_before out n full by (ap is_kept (sym is) ∙ h))) f in
    subst (λ (l : List Event). AreFresh l pool) (sym g) (subst (AreFresh (held_by a e held)) (sym p) new)

pub stays_few : (limits : LimitNumbers) (out : Option (ℕ × ℕ)) (n : ℕ) (full : Bool) (held waiting : List Event) (e : Event) (a : Answer) (graph : List Event) → a ≡ given_by limits out n full held waiting e
    → graph ≡ held_by a e held → length held ≤ limits.events → length graph ≤ limits.events
stays_few limits out n full held waiting e a graph is g few =
    let by = answer_by (verdict limits false held waiting e) in
    subst (λ (l : List Event). length l ≤ limits.events) (sym g)
    (few_by a held e limits.events (λ h. (taken_then_good limits held waiting e (taken_before out n full by (ap is_taken (sym is) ∙ h))).room) few)
