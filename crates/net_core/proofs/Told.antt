-- What is told of received events that don't clash.
use Rattle.std.proofs.Common.{◌≡◌, ℕ, zero, suc, ◌+◌, ◌≤◌, true, false, Bool, List, [], ◌∷◌, ◌++◌, find, length, Option, Some, None, refl, sym, ap, option_map, arith}
use Rattle.std.specs.List.{AllByRecursion}
use Rattle.std.proofs.lemmas.Bool.{false≢true}
use Rattle.ew_model.specs.declared.event.Event.{Event}
use Rattle.ew_model.specs.declared.id.Id.{Id}
use Rattle.ew_model.specs.declared.verdict.Refusal.{Refusal}
use Rattle.ew_model.specs.Arrival.{Answer, Desk, Judgement, arrive, desk_of, judgements, most_judgements, next_judgement}
use Rattle.ew_model.specs.Limits.{LimitNumbers}
use Rattle.ew_model.specs.Verdicts as verdicts
use Rattle.ew_model.specs.Verdicts.{Ruling}
use Rattle.ew_model.specs.Verdicts.Ruling.{Repeat, SelfParent, TooManyParents, ParentsUnsorted, Unknown, PoolFull, NotReduced, Skipped, GraphFull, OutOfRange, Good}
use Rattle.ew_model.proofs.RoundLaws.{then}
use Rattle.history_definitions.specs.Tallies.{refused_by, refused_in}
use Rattle.peer_definitions.specs.Answering as exchange
use Rattle.peer_definitions.specs.Answering.{first_clash}
use Rattle.net_core.specs.Laws.{is_clash}

-- nothing told is a clash
abbrev tells_clash : (Id × Refusal) → Bool
tells_clash r = exchange.is_clash r.1

by_ruling : (e : Event) (r : Ruling) (more : List (Id × Refusal)) → is_clash r ≡ false → find tells_clash more ≡ None → find tells_clash
    (refused_by (record { event = e; ruling = r }) ++ more) ≡ None
by_ruling e verdicts.Ruling.Clash more h none = absurd (false≢true (sym h))
by_ruling e Repeat more h none = none
by_ruling e SelfParent more h none = none
by_ruling e TooManyParents more h none = none
by_ruling e ParentsUnsorted more h none = none
by_ruling e (Unknown p) more h none = none
by_ruling e PoolFull more h none = none
by_ruling e NotReduced more h none = none
by_ruling e Skipped more h none = none
by_ruling e GraphFull more h none = none
by_ruling e (OutOfRange len) more h none = none
by_ruling e Good more h none = none

none_found : (answers : List Answer) → AllByRecursion (λ (a : Answer). is_clash a.ruling ≡ false) answers → find tells_clash (refused_in answers) ≡ None
none_found [] h = refl
none_found (a ∷ answers) h = by_ruling a.event a.ruling (refused_in answers) h.0 (none_found answers h.1)

pub no_first_clash : (answers : List Answer) → AllByRecursion (λ (a : Answer). is_clash a.ruling ≡ false) answers → first_clash (refused_in answers) ≡ None
no_first_clash answers h = ap (option_map (λ (r : Id × Refusal). r.0)) (none_found answers h)

-- no more is answered than there are judgements
few_by : (limits : LimitNumbers) (n : ℕ) (d : Desk) (o : Option Judgement) → ((j : Judgement) → length (judgements limits true n j.desk).answers ≤ n)
    → length (then limits true n d o).answers ≤ suc n
few_by limits n d None f = omega arith
few_by limits n d (Some j) f = let one = f j in omega (arith, one)

few_answers : (limits : LimitNumbers) (n : ℕ) (d : Desk) → length (judgements limits true n d).answers ≤ n
few_answers limits zero d = omega arith
few_answers limits (suc n) d = few_by limits n d (next_judgement limits true d) (λ j. few_answers limits n j.desk)

pub few_told : (limits : LimitNumbers) (held waiting events : List Event)
    → length (arrive limits held waiting events).answers ≤ length waiting + (length events + length events)
unfolding arrive
few_told limits held waiting events =
    let d = desk_of held waiting events in
    let few = few_answers limits (most_judgements d) d in
    omega (arith, few)
