-- What the answers of a merge come to: its refusals, its counts, and what was appended.
use Rattle.std.proofs.Common.{◌≡◌, ℕ, ◌+◌, Bool, true, false, if◌then◌else◌, List, [], ◌∷◌, ◌++◌, map, filter, length, find, None, refl, sym, ap, ◌∙◌, arith, append-nil}
use Rattle.std.specs.List.{list_any, AllByRecursion}
use Rattle.std.specs.Option.{option_to_list, option_map}
use Rattle.std.proofs.lemmas.Bool.{false≢true}
use Rattle.std.proofs.lemmas.List.Sums.{sum_by-cons}
use Rattle.ew_model.specs.declared.id.Id.{Id}
use Rattle.ew_model.specs.declared.event.Event.{Event}
use Rattle.ew_model.specs.declared.verdict.Refusal.{Refusal}
use Rattle.ew_model.specs.Limits.{LimitNumbers}
use Rattle.ew_model.specs.Verdicts.{Ruling, is_verdict_good}
use Rattle.ew_model.specs.Verdicts.Ruling.{Repeat, Clash, SelfParent, TooManyParents, ParentsUnsorted, Unknown, PoolFull, NotReduced, Skipped, GraphFull, OutOfRange, Good}
use Rattle.ew_model.specs.Arrival.{Answer, arrive}
use Rattle.ew_model.specs.MergeLaw.{is_taken, is_clash_or_full, NoneClashes}
use Rattle.ew_model.proofs.AppendSteps.{arrivals_append}
use Rattle.history_definitions.specs.Tallies.{refusal_in, is_repeat, accepted_in, repeats_in, refused_in}
use Rattle.peer_definitions.specs.Answering.{is_clash}
use Rattle.command_table.specs.Table.{is_graph_full}

-- ---- what the refusals tell

-- one answer more
one_refusal : (x : Id) (r : Ruling) (rest : List (Id × Refusal))
    → find (λ p. is_clash p.1) (option_to_list (option_map (λ why. (x, why)) (refusal_in r)) ++ rest) ≡ None
    → list_any (λ p. is_graph_full p.1) (option_to_list (option_map (λ why. (x, why)) (refusal_in r)) ++ rest) ≡ false
    → (is_clash_or_full r ≡ false) × (find (λ p. is_clash p.1) rest ≡ None) × (list_any (λ p. is_graph_full p.1) rest ≡ false)
one_refusal x Repeat rest h k = (refl, h, k)
one_refusal x Clash rest h k = cc
one_refusal x SelfParent rest h k = (refl, h, k)
one_refusal x TooManyParents rest h k = (refl, h, k)
one_refusal x ParentsUnsorted rest h k = (refl, h, k)
one_refusal x (Unknown p) rest h k = (refl, h, k)
one_refusal x PoolFull rest h k = (refl, h, k)
one_refusal x NotReduced rest h k = (refl, h, k)
one_refusal x Skipped rest h k = (refl, h, k)
one_refusal x GraphFull rest h k = absurd (false≢true (sym k))
one_refusal x (OutOfRange len) rest h k = (refl, h, k)
one_refusal x Good rest h k = (refl, h, k)

-- where no event clashed and the history isn't full, no answer says so
pub none_ends : (answers : List Answer) → find (λ p. is_clash p.1) (refused_in answers) ≡ None → list_any (λ p. is_graph_full p.1) (refused_in answers) ≡ false → NoneClashes answers
none_ends [] h k = tt
none_ends (a ∷ answers) h k = let step = one_refusal a.event.id a.ruling (refused_in answers) h k in (step.0, none_ends answers step.1 step.2)

-- an answer that takes its event is counted once, and is no refusal
one_counted : (x : Id) (r : Ruling) (rest : List (Id × Refusal)) (m n : ℕ) → is_taken r ≡ true
    → (((if is_verdict_good r then 1 else 0) + m) + ((if is_repeat r then 1 else 0) + n) ≡ 1 + (m + n)) × (option_to_list (option_map (λ why. (x, why)) (refusal_in r)) ++ rest ≡ rest)
one_counted x Repeat rest m n h = (omega arith, refl)
one_counted x Clash rest m n h = absurd (false≢true h)
one_counted x SelfParent rest m n h = absurd (false≢true h)
one_counted x TooManyParents rest m n h = absurd (false≢true h)
one_counted x ParentsUnsorted rest m n h = absurd (false≢true h)
one_counted x (Unknown p) rest m n h = absurd (false≢true h)
one_counted x PoolFull rest m n h = absurd (false≢true h)
one_counted x NotReduced rest m n h = absurd (false≢true h)
one_counted x Skipped rest m n h = absurd (false≢true h)
one_counted x GraphFull rest m n h = absurd (false≢true h)
one_counted x (OutOfRange len) rest m n h = absurd (false≢true h)
one_counted x Good rest m n h = (omega arith, refl)

accepted-cons : (a : Answer) (answers : List Answer) → accepted_in (a ∷ answers) ≡ (if is_verdict_good a.ruling then 1 else 0) + accepted_in answers
accepted-cons a answers = sum_by-cons (λ (x : Answer). if is_verdict_good x.ruling then 1 else 0) a answers

repeats-cons : (a : Answer) (answers : List Answer) → repeats_in (a ∷ answers) ≡ (if is_repeat a.ruling then 1 else 0) + repeats_in answers
repeats-cons a answers = sum_by-cons (λ (x : Answer). if is_repeat x.ruling then 1 else 0) a answers

pub all_counted : (answers : List Answer) → AllByRecursion (λ a. is_taken a.ruling ≡ true) answers → (accepted_in answers + repeats_in answers ≡ length answers) × (refused_in answers ≡ [])
all_counted [] h = (refl, refl)
all_counted (a ∷ answers) h =
    let rest = all_counted answers h.1 in
    let step = one_counted a.event.id a.ruling (refused_in answers) (accepted_in answers) (repeats_in answers) h.0 in
    (omega (arith, step.0, rest.0, accepted-cons a answers, repeats-cons a answers), step.1 ∙ rest.1)

none_good : (b : Bool) (n : ℕ) → (if b then 1 else 0) + n ≡ 0 → (b ≡ false) × (n ≡ 0)
none_good true n h = absurd (omega (arith, h))
none_good false n h = (refl, omega (arith, h))

no_good : (answers : List Answer) → accepted_in answers ≡ 0 → filter (λ (a : Answer). is_verdict_good a.ruling) answers ≡ []
no_good [] h = refl
no_good (a ∷ answers) h =
    let step = none_good (is_verdict_good a.ruling) (accepted_in answers) (sym (accepted-cons a answers) ∙ h) in
    ap (λ (b : Bool). if b then a ∷ filter (λ (a : Answer). is_verdict_good a.ruling) answers else filter (λ (a : Answer). is_verdict_good a.ruling) answers) step.0 ∙ no_good answers step.1

-- where nothing was appended the history is as it was
pub appended_none : (limits : LimitNumbers) (held events : List Event) → accepted_in (arrive limits held [] events).answers ≡ 0 → (arrive limits held [] events).desk.held ≡ held
appended_none limits held events none =
    arrivals_append limits held [] events ∙ ap (λ (good : List Answer). held ++ map (λ (a : Answer). a.event) good) (no_good (arrive limits held [] events).answers none) ∙ append-nil held
