-- Names that ascend, and the counts of a summary.
use Rattle.std.proofs.Common.{◌≡◌, ℕ, ◌<◌, ◌≤◌, ◌^◌, true, List, [], ◌∷◌, length, map, refl, sym, ap, ◌∙◌, subst, arith}
use Rattle.std.specs.List.{AllByRecursion, IsDistinct}
use Rattle.std.specs.List.Sorted.{IsStrictlySortedBy}
use Rattle.std.specs.Ordering.{is_lt, nat_cmp}
use Rattle.std.specs.declared.cmp.Ordering.{Ordering}
use Rattle.std.specs.declared.cmp.Ordering.TheVariants.{Less, Equal, Greater}
use Rattle.std.specs.Cmp.Lexicographic.{slice_cmp}
use Rattle.std.proofs.lemmas.Bool.{false≢true, and_parts, and_from}
use Rattle.std.proofs.lemmas.Cmp.{nat_list_cmp_total}
use Rattle.std.proofs.lemmas.List.{length-map}
use Rattle.std.proofs.lemmas.List.Elements.{recursion_from_All}
use Rattle.std.proofs.lemmas.List.Sums.{count_by-le-length}
use Rattle.std.proofs.lemmas.Map.Keys.{IsDistinct-from_sorted}
use Rattle.ew_model.specs.declared.id.Id.{Id}
use Rattle.ew_model.specs.declared.event.Event.{Event}
use Rattle.ew_model.specs.Ancestors.{ids_of}
use Rattle.ew_model.specs.Edits as edits
use Rattle.ew_model.specs.Ids.{name_eq}
use Rattle.ew_model.specs.Names.{is_name}
use Rattle.ew_model.specs.Sets.{Among}
use Rattle.ew_model.specs.Sorting.{sort_by}
use Rattle.ew_model.specs.Sound.{AreSound, IsSound}
use Rattle.ew_model.proofs.IdLaws.{name_exact, names_equal}
use Rattle.ew_model.proofs.ListTests.{any_from, found_by}
use Rattle.ew_model.proofs.SetLaws.{among_map}
use Rattle.ew_model.proofs.SortingLaws.{all_at, all_from, length-sort, sort_among, sort_sorted}
use Rattle.history_definitions.specs.Agents.{agents_of}
use Rattle.agent_ids.proofs.Agents.{agents_few, agents_distinct, is_agent}
use Rattle.history_definitions.specs.Summary.{summary_of}
use Rattle.event_graph.proofs.Summing.{ties, all_some}
use Rattle.peer_definitions.specs.Spelling.{AgentCount, IsSoundCount, names_ascend}

less : (r : Ordering) → is_lt r ≡ true → r ≡ Less
less Less h = refl
less Equal h = absurd (false≢true h)
less Greater h = absurd (false≢true h)

-- the first is below all others
below : (x : List ℕ) (names : List (List ℕ)) → names_ascend (x ∷ names) ≡ true → AllByRecursion (λ y. slice_cmp nat_cmp x y ≡ Less) names
below x [] h = tt
below x (y ∷ names) h =
    let parts = and_parts (is_lt (slice_cmp nat_cmp x y)) (names_ascend (y ∷ names)) h in
    (less (slice_cmp nat_cmp x y) parts.0, below_more x y names (less (slice_cmp nat_cmp x y) parts.0) (below y names parts.1))
  where
    below_more : (x y : List ℕ) (names : List (List ℕ)) → slice_cmp nat_cmp x y ≡ Less → AllByRecursion (λ z. slice_cmp nat_cmp y z ≡ Less) names → AllByRecursion (λ z. slice_cmp nat_cmp x z ≡ Less) names
    below_more x y [] l h = tt
    below_more x y (z ∷ names) l h = (nat_list_cmp_total.trans x y z l h.0, below_more x y names l h.1)

sorted : (names : List (List ℕ)) → names_ascend names ≡ true → IsStrictlySortedBy (slice_cmp nat_cmp) names
unfolding IsStrictlySortedBy
sorted [] h = tt
sorted (x ∷ []) h = (tt, tt)
sorted (x ∷ y ∷ names) h =
    let parts = and_parts (is_lt (slice_cmp nat_cmp x y)) (names_ascend (y ∷ names)) h in (below x (y ∷ names) h, sorted (y ∷ names) parts.1)

pub ascending_distinct : (names : List (List ℕ)) → names_ascend names ≡ true → IsDistinct name_eq names
ascending_distinct names h = IsDistinct-from_sorted (slice_cmp nat_cmp) names (sorted names h)

up : (names : List (List ℕ)) → IsStrictlySortedBy (slice_cmp nat_cmp) names → names_ascend names ≡ true
unfolding IsStrictlySortedBy
up [] s = refl
up (x ∷ []) s = refl
up (x ∷ y ∷ names) s = and_from (is_lt (slice_cmp nat_cmp x y)) (names_ascend (y ∷ names)) (ap is_lt s.0.0) (up (y ∷ names) s.1)

module _ (history : List Event) where
  abbrev agents : List (List ℕ)
  agents = sort_by (slice_cmp nat_cmp) (agents_of (ids_of history))

  names_back : (names : List (List ℕ)) → map (λ (c : AgentCount). c.0) (map (λ name. (name, edits.count_of history name)) names) ≡ names
  names_back [] = refl
  names_back (name ∷ names) = ap (λ more. name ∷ more) (names_back names)

  -- the names of a summary ascend
  pub summary_up : names_ascend (map (λ (c : AgentCount). c.0) (summary_of history)) ≡ true
  summary_up = ap names_ascend (names_back agents) ∙ up agents (sort_sorted nat_list_cmp_total (agents_of (ids_of history)) (ties (agents_of (ids_of history)) (agents_distinct (ids_of history))))

  some_each : (counts : List AgentCount) → AllByRecursion (λ (c : AgentCount). 1 ≤ c.1) counts → AllByRecursion (λ (c : AgentCount). 0 < c.1) counts
  some_each [] h = tt
  some_each (c ∷ counts) h = (let one = h.0 in omega (arith, one), some_each counts h.1)

  -- and each has an event
  pub summary_some : AllByRecursion (λ (c : AgentCount). 0 < c.1) (summary_of history)
  summary_some = some_each (summary_of history) (recursion_from_All (λ (c : AgentCount). 1 ≤ c.1) (summary_of history) (all_some history))

  -- there are no more agents than events
  pub summary_few : length (summary_of history) ≤ length history
  summary_few =
      let counts = length-map {B = AgentCount} agents (λ name. (name, edits.count_of history name)) in
      let sorted = length-sort (slice_cmp nat_cmp) (agents_of (ids_of history)) in
      let few = agents_few (ids_of history) in
      let ids = length-map history (λ (e : Event). e.id) in
      omega (arith, counts, sorted, few, ids)

-- an agent that is listed is that of an event
agent_sound : (history : List Event) (name : List ℕ) → AreSound history → Among name (agents_of (ids_of history)) → is_name name ≡ true
agent_sound history name sound m =
    let known = sym (is_agent (ids_of history) name) ∙ any_from (name_eq name) (agents_of (ids_of history)) name m (names_equal.refl name) in
    let x = found_by (λ (y : Id). name_eq y.agent name) (ids_of history) known in
    let e = among_map (λ (f : Event). f.id) history x.0 x.1 in
    let same : e.0.id.agent ≡ name = ap (λ (y : Id). y.agent) (sym e.2) ∙ name_exact x.0.agent name x.2 in
    ap is_name (sym same) ∙ (all_at IsSound history e.0 sound e.1).id.agent

-- each count of a summary has a name, and a number of 32 bits
pub summary_sound : (history : List Event) → AreSound history → length history < 2 ^ 32 → AllByRecursion IsSoundCount (summary_of history)
summary_sound history sound few = all_from IsSoundCount (summary_of history) one
  where
    one : (c : AgentCount) → Among c (summary_of history) → IsSoundCount c
    one c m =
        let p = among_map (λ (agent : List ℕ). (agent, edits.count_of history agent)) (agents history) c m in
        let most = count_by-le-length (λ (e : Event). name_eq e.id.agent p.0) history in
        subst IsSoundCount (sym p.2) (record {
          agent = agent_sound history p.0 sound (sort_among nat_list_cmp_total (agents_of (ids_of history)) p.0 p.1);
          count = omega (arith, most, few);
        })
