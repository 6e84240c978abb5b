use Rattle.std.proofs.Common.{◌≡◌, ℕ, nat_eq, sym, ap, ◌∙◌, subst}
use Rattle.std.specs.declared.alloc.Global.{Global}
use Rattle.std.specs.declared.vec.Vec.{Vec}
use Rattle.std.proofs.lemmas.Result.{IfOk-weaker}
use Rattle.ew_model.specs.Tree.{tree_of}
use Rattle.character_runs.specs.EventPositions.{event_positions}
use Rattle.advance_retreat.specs.Hanging.{InTree}
use Rattle.advance_retreat.specs.Kept.{Kept}
use Rattle.advance_retreat.specs.Placing.{AreInOrder}
use Rattle.advance_retreat.specs.Refusals.{FewLoose}
use Rattle.advance_retreat.proofs.Placing.{in_order}
use Rattle.advance_retreat.proofs.state.State.order.Goals as goal

pub returns-clause-order : goal.returns-clause-order
returns-clause-order c = λ events prepared st.
    let read = ap (λ (s : Kept). event_positions s.records) c.self.view_is in
    IfOk-weaker c.event_positions.result (λ (ps : Vec ℕ Global). ps.items ≡ event_positions c.self.inside.tree.records) (λ (ps : Vec ℕ Global). AreInOrder (tree_of nat_eq 0 events) ps.items)
    (λ ps are. subst (AreInOrder (tree_of nat_eq 0 events)) (sym (are ∙ read)) (in_order c.args.self.now events prepared st)) c.event_positions.ensures.positions

pub returns-clause-same : goal.returns-clause-same
returns-clause-same c =
    let inside = c.self.inside in
    let build : InTree → Kept = λ (t : InTree). record { base = inside.base; records = t.records; attached = t.attached; targets = inside.targets; lost = inside.lost } in
    ap build c.event_positions.ensures.same ∙ c.self.view_is

pub invariant_of-self : goal.invariant_of-self
invariant_of-self c =
    let inside = c.self.inside in
    subst (λ (t : InTree). FewLoose inside.targets t.runs inside.lost) (sym c.event_positions.ensures.same) c.self.invariant
