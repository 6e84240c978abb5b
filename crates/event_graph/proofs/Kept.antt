-- What is known where a graph is kept.
use Rattle.std.proofs.Common.{◌≡◌, ℕ, zero, suc, ◌-◌, ◌<◌, List, [], ◌∷◌, map, length, Some, refl, sym, ap, ◌∙◌, subst, arith, All}
use Rattle.std.specs.Prelude.{slice_get, slice_index_or}
use Rattle.ew_model.specs.Ancestors.{ids_of}
use Rattle.ew_model.specs.Ids.{id_cmp, id_eq}
use Rattle.ew_model.specs.Verdicts.{graph_verdict}
use Rattle.ew_model.specs.Verdicts.Ruling.{Good}
use Rattle.ew_model.specs.Positions.{AreParents, parents_at}
use Rattle.ew_model.proofs.GraphAlike.{laid_distinct}
use Rattle.ew_model.proofs.PositionNumbers.{few_positions}
use Rattle.ew_model.proofs.SortingLaws.{NoTies}
use Rattle.event_graph.specs.Keeping.{IsAdmitted, id_of}
use Rattle.event_graph.proofs.Admitted.{laid, let_in}
use Rattle.event_graph.proofs.Places.{positions_within, positions_increase}
use Rattle.event_graph.proofs.Rebuilt.{held_ties}
use Rattle.std.proofs.lemmas.List.{length-map}
use Rattle.ew_model.specs.declared.id.Id.{Id}
use Rattle.ew_model.specs.declared.event.Event.{Event}
use Rattle.ew_model.specs.Positions.{positions_in, parent_positions}
use Rattle.ew_model.specs.PositionLaws.{AgreesByPositions}
use Rattle.agent_ids.specs.IdRuns.{last_in}
use Rattle.history_definitions.specs.Chains.{last_id}
use Rattle.critical.specs.KeptCuts.{KeptCuts}
use Rattle.event_runs.specs.BareEvents.{BareEvent, bare, ops_in, parents_in}
use Rattle.event_graph.specs.Keeping.{IsKeptOf}
use Rattle.event_graph.proofs.Admitted.{agrees}
use Rattle.event_graph.proofs.Grown.{parents_kept, ops_kept}

module _ (now : List Event) (ids : List Id) (events : List BareEvent) (heads : List ℕ) (cuts : KeptCuts) (kept : IsKeptOf now ids events heads cuts) where
  pub agreement : AgreesByPositions now
  agreement = agrees now kept.admitted

  pub length_ids : length ids ≡ length now
  length_ids = ap (length {A = Id}) kept.ids_are ∙ length-map now (λ (e : Event). e.id)

  pub last_kept : (x : Id) → last_in ids ≡ Some x → last_id now ≡ Some x
  last_kept x last = ap (λ n. slice_get (ids_of now) (n - 1)) (sym (length-map now (λ (e : Event). e.id))) ∙ ap last_in (sym kept.ids_are) ∙ last

  pub length_events : length events ≡ length now
  length_events = ap (length {A = BareEvent}) kept.events_are ∙ length-map now (λ (e : Event). bare e.op (positions_in now e.parents))

  pub length_parents : length (parent_positions now) ≡ length now
  length_parents = length-map now (λ (e : Event). positions_in now e.parents)

  pub parents_are : parents_in events ≡ parent_positions now
  parents_are = ap parents_in kept.events_are ∙ parents_kept now

  pub ops_are : ops_in events ≡ map (λ (e : Event). e.op) now
  ops_are = ap ops_in kept.events_are ∙ ops_kept now

  event_there : (xs : List Event) (k : ℕ) → k < length xs → (x : Event) × (slice_get xs k ≡ Some x)
  event_there [] k h = absurd (omega arith)
  event_there (x ∷ xs) zero h = (x, refl)
  event_there (x ∷ xs) (suc k) h = event_there xs k (omega (arith, h))

  made_there : (make : Event → List ℕ) (xs : List Event) (k : ℕ) (x : Event) → slice_get xs k ≡ Some x → slice_index_or (map make xs) k [] ≡ make x
  made_there make [] k x h = let no : ⊥ = cc in absurd no
  made_there make (y ∷ xs) zero x h = let one : y ≡ x = cc in ap make one
  made_there make (y ∷ xs) (suc k) x h = made_there make xs k x h

  -- the ids of an event's parents don't tie
  pub parents_apart : (place : ℕ) → place < length now → NoTies id_cmp (map (id_of ids) (parents_at (parents_in events) place))
  parents_apart place h =
      let e = event_there now place h in
      let positions : parents_at (parents_in events) place ≡ positions_in now e.0.parents =
      ap (λ (lists : List (List ℕ)). parents_at lists place) parents_are ∙ made_there (λ (f : Event). positions_in now f.parents) now place e.0 e.1 in
      subst (λ (ps : List ℕ). NoTies id_cmp (map (id_of ids) ps)) (sym positions)
      (subst (λ (xs : List Id). NoTies id_cmp (map (id_of xs) (positions_in now e.0.parents))) (sym kept.ids_are) (held_ties now e.0.parents (laid now kept.admitted)))

-- positions of ids are those of events
pub positions_there : (now : List Event) (ids : List Id) (positions : List ℕ) → positions ≡ positions_in now ids → All (λ p. p < length (parent_positions now)) positions
positions_there now ids positions same =
    subst (λ n. All (λ p. p < n) positions) (sym (length-map now (λ (e : Event). positions_in now e.parents)))
    (subst (All (λ p. p < length now)) (sym same) (positions_within now ids))

-- the parents of an event that was judged good
pub next_parents : (now : List Event) (e : Event) → IsAdmitted now → graph_verdict now e ≡ Good → AreParents (length now) (positions_in now e.parents)
next_parents now e admitted good =
    let few = few_positions e.parents 0 now (laid_distinct (λ (f : Event). f.id) (λ (f : Event). f.parents) id_eq [] now (laid now admitted)) in
    let most = (let_in now e good).few in
    record { rising = positions_increase now e.parents; lower = positions_within now e.parents; few = omega (arith, few, most) }
