use Rattle.std.proofs.Common.{◌≡◌, ◌∙◌, ◌<◌, All, Bool, ℕ, List, IfOk, refl, sym, ap, subst}
use Rattle.std.proofs.lemmas.List.{length-map}
use Rattle.ew_model.specs.declared.id.Id.{Id}
use Rattle.ew_model.specs.declared.event.Event.{Event}
use Rattle.ew_model.specs.Sets.{Among}
use Rattle.std.specs.List.Sorted.{IsStrictlyIncreasing}
use Rattle.ew_model.specs.Ancestors.{is_reduced}
use Rattle.ew_model.specs.Positions.{is_reduced_at, positions_in, parent_positions}
use Rattle.event_graph.proofs.Admitted.{agrees}
use Rattle.event_graph.specs.Keeping.{IsAdmitted}
use Rattle.event_graph.proofs.HeadsReduced.{all_heads_reduced}
use Rattle.event_graph.proofs.Kept.{positions_there}
use Rattle.event_graph.proofs.Places.{positions_increase}
use Rattle.event_graph.proofs.graph.Graph.are_reduced.Goals as goal

pub is_reduced-requires-clause-rising : goal.is_reduced-requires-clause-rising
is_reduced-requires-clause-rising c = subst IsStrictlyIncreasing (sym c.requires) (positions_increase c.args.self.now c.args.parents.now)

pub is_reduced-requires-clause-parents : goal.is_reduced-requires-clause-parents
is_reduced-requires-clause-parents c = positions_there c.args.self.now c.args.parents.now c.args.positions.now c.requires

same : (now : List Event) (ids : List Id) (positions : List ℕ) → IsAdmitted now → positions ≡ positions_in now ids → is_reduced_at (parent_positions now) positions ≡ is_reduced now ids
same now ids positions admitted is = ap (is_reduced_at (parent_positions now)) is ∙ (agrees now admitted).reduced ids

pub returns-then-are_heads : goal.returns-then-are_heads
returns-then-are_heads c =
    let now = c.args.self.now in
    let ids = c.args.parents.now in
    sym (all_heads_reduced now ids (λ p m. c.are_heads.ensures c.if-are_heads.true p (subst (Among p) (sym c.requires) m)) c.count-count.ensures.admitted)

pub are_cut_apart-requires : goal.are_cut_apart-requires
are_cut_apart-requires c =
    let now = c.args.self.now in
    subst (λ n. All (λ p. p < n) c.args.positions.now) (length-map now (λ (e : Event). positions_in now e.parents)) (positions_there now c.args.parents.now c.args.positions.now c.requires)

pub returns-then-are_cut_apart : goal.returns-then-are_cut_apart
returns-then-are_cut_apart c = sym (c.are_cut_apart.ensures c.if-are_cut_apart.true) ∙ same c.args.self.now c.args.parents.now c.args.positions.now c.count-count.ensures.admitted c.requires

pub returns : goal.returns
returns c = subst (λ (x : Bool). IfOk c.is_reduced.result (λ b. b ≡ x)) (same c.args.self.now c.args.parents.now c.args.positions.now c.count-count.ensures.admitted c.requires) c.is_reduced.ensures
