-- The agents of a history in order, with their counts.
use Rattle.std.proofs.Common.{◌≡◌, ℕ, ◌+◌, ◌≤◌, Bool, true, false, cond, ◌||◌, ◌⊎◌, inl, ⊎_elim, List, [], ◌∷◌, map, Result, Ok, Err, IfOk, refl, sym, ap, ◌∙◌, arith, All}
use Rattle.std.specs.List.{list_any}
use Rattle.std.specs.List.Sorted.{IsPermutation, IsSorted}
use Rattle.std.specs.Ordering.{nat_cmp, is_eq}
use Rattle.std.specs.declared.cmp.Ordering.TheVariants.{Equal}
use Rattle.std.specs.Cmp.Lexicographic.{slice_cmp}
use Rattle.std.proofs.lemmas.Bool.{false≢true, or_cases}
use Rattle.std.proofs.lemmas.Cmp.{nat_list_cmp_total}
use Rattle.std.proofs.lemmas.List.Elements.{All-from_recursion}
use Rattle.std.proofs.lemmas.List.Sums.{sum_by-cons}
use Rattle.ew_model.specs.declared.id.Id.{Id}
use Rattle.ew_model.specs.declared.event.Event.{Event}
use Rattle.ew_model.specs.Ids.{name_eq}
use Rattle.ew_model.specs.Ancestors.{ids_of}
use Rattle.ew_model.specs.Edits as edits
use Rattle.ew_model.specs.Sorting.{sort_by}
use Rattle.ew_model.proofs.IdLaws.{names_equal}
use Rattle.ew_model.proofs.ListTests.{any_from}
use Rattle.ew_model.proofs.SortingLaws.{NoTie, NoTies, all_from, sort_among}
use Rattle.ew_model.proofs.SortedLists.{sorted_is_sort_by}
use Rattle.ew_model.proofs.SetLaws.{among_map}
use Rattle.history_definitions.specs.Agents.{agents_of, count_of}
use Rattle.agent_ids.proofs.Agents.{count_cons, is_agent, AreDistinct, agents_distinct}
use Rattle.history_definitions.specs.Summary.{summary_of}
use Rattle.ew_model.proofs.RecordLaws.{map_same}

-- an agent has as many events as ids
pub same_count : (history : List Event) (agent : List ℕ) → count_of (ids_of history) agent ≡ edits.count_of history agent
same_count [] agent = refl
same_count (e ∷ history) agent =
    count_cons e.id (ids_of history) agent ∙ ap (λ n. cond (name_eq e.id.agent agent) 1 0 + n) (same_count history agent)
    ∙ sym (sum_by-cons (λ (f : Event). cond (name_eq f.id.agent agent) 1 0) e history)

not_tied : (a b : List ℕ) → name_eq a b ≡ false → slice_cmp nat_cmp a b ≡ Equal → ⊥
not_tied a b h e = false≢true (sym h ∙ ap is_eq e)

apart : (a : List ℕ) (names : List (List ℕ)) → list_any (name_eq a) names ≡ false → NoTie (slice_cmp nat_cmp) a names
apart a [] h = tt
apart a (b ∷ names) h = at (name_eq a b) refl h (λ k. apart a names k)
  where
    at : (c : Bool) → name_eq a b ≡ c → list_any (name_eq a) (b ∷ names) ≡ false → (list_any (name_eq a) names ≡ false → NoTie (slice_cmp nat_cmp) a names) → NoTie (slice_cmp nat_cmp) a (b ∷ names)
    at true e k f = absurd (false≢true (sym k ∙ any_from (name_eq a) (b ∷ names) b (inl refl) e))
    at false e k f = (not_tied a b e, f (sym (ap (λ d. d || list_any (name_eq a) names) e) ∙ k))

pub ties : (names : List (List ℕ)) → AreDistinct names → NoTies (slice_cmp nat_cmp) names
ties [] h = tt
ties (a ∷ names) h = (apart a names h.0, ties names h.1)

-- what a sort makes of the agents, with their counts
pub summed : (history : List Event) (names : List (List ℕ)) → IsPermutation (agents_of (ids_of history)) names → IsSorted (slice_cmp nat_cmp) names
    → map (λ name. (name, count_of (ids_of history) name)) names ≡ summary_of history
summed history names p s =
    ap (map (λ name. (name, count_of (ids_of history) name))) (sorted_is_sort_by nat_list_cmp_total (agents_of (ids_of history)) names (ties (agents_of (ids_of history)) (agents_distinct (ids_of history))) p s)
    ∙ map_same (λ name. (name, count_of (ids_of history) name)) (λ name. (name, edits.count_of history name)) (sort_by (slice_cmp nat_cmp) (agents_of (ids_of history))) (λ name m i. (name, same_count history name i))

some_count : (ids : List Id) (agent : List ℕ) → list_any (λ (x : Id). name_eq x.agent agent) ids ≡ true → 1 ≤ count_of ids agent
some_count [] agent h = absurd (false≢true h)
some_count (x ∷ ids) agent h = at (name_eq x.agent agent) refl (or_cases (name_eq x.agent agent) (list_any (λ (y : Id). name_eq y.agent agent) ids) h) (λ k. some_count ids agent k)
  where
    at : (c : Bool) → name_eq x.agent agent ≡ c → (name_eq x.agent agent ≡ true) ⊎ (list_any (λ (y : Id). name_eq y.agent agent) ids ≡ true) → (list_any (λ (y : Id). name_eq y.agent agent) ids ≡ true → 1 ≤ count_of ids agent) → 1 ≤ count_of (x ∷ ids) agent
    at true e k f = let one : count_of (x ∷ ids) agent ≡ 1 + count_of ids agent = count_cons x ids agent ∙ ap (λ c. cond c 1 0 + count_of ids agent) e in omega (arith, one)
    at false e k f =
        let one : count_of (x ∷ ids) agent ≡ 0 + count_of ids agent = count_cons x ids agent ∙ ap (λ c. cond c 1 0 + count_of ids agent) e in
        let some : 1 ≤ count_of ids agent = ⊎_elim (λ j. absurd (false≢true (sym e ∙ j))) f k in
        omega (arith, one, some)

-- each agent has an event
pub all_some : (history : List Event) → All (λ (a : List ℕ × ℕ). 1 ≤ a.1) (summary_of history)
all_some history =
    let names = sort_by (slice_cmp nat_cmp) (agents_of (ids_of history)) in
    All-from_recursion (λ (a : List ℕ × ℕ). 1 ≤ a.1) (summary_of history)
    (all_from (λ (a : List ℕ × ℕ). 1 ≤ a.1) (summary_of history) (λ a m.
    let name = among_map (λ n. (n, edits.count_of history n)) names a m in
    let there = sort_among nat_list_cmp_total (agents_of (ids_of history)) name.0 name.1 in
    let named : list_any (name_eq name.0) (agents_of (ids_of history)) ≡ true = any_from (name_eq name.0) (agents_of (ids_of history)) name.0 there (names_equal.refl name.0) in
    let some = some_count (ids_of history) name.0 (sym (is_agent (ids_of history) name.0) ∙ named) in
    let same = same_count history name.0 in
    let count : a.1 ≡ edits.count_of history name.0 = ap (λ (b : List ℕ × ℕ). b.1) name.2 in
    omega (arith, some, same, count)))

pub known_ok : {X E : Type 0} (P : X → Type 0) (r : Result X E) (Q : X → Type 0) → ((x : X) → P x → Q x) → IfOk r P → IfOk r Q
known_ok P (Ok x) Q f h = f x h
known_ok P (Err e) Q f h = tt
