use Rattle.std.proofs.Common.{◌≡◌, ◌∙◌, ◌<◌, ◌-◌, All, length, sym, subst}
use Rattle.std.proofs.lemmas.Bool.{ltb-true}
use Rattle.std.proofs.lemmas.List.{length-map}
use Rattle.ew_model.specs.declared.event.Event.{Event}
use Rattle.ew_model.specs.Cuts.{latest_cut}
use Rattle.ew_model.specs.Positions.{parent_positions, positions_in}
use Rattle.ew_model.proofs.CutLaws.{latest_at_most, latest_critical}
use Rattle.ew_model.proofs.OperationLaws.{got}
use Rattle.event_graph.proofs.Admitted.{agrees}
use Rattle.event_graph.proofs.KnownByCuts.{not_reduced}
use Rattle.event_graph.proofs.graph.Graph.are_cut_apart.Goals as goal

pub returns-then-first-last : goal.returns-then-first-last
returns-then-first-last c e =
    let now = c.args.self.now in
    let positions = c.args.positions.now in
    let history = parent_positions now in
    let first = c.in-Some-Some.first.now in
    let last = c.in-Some-Some.last.now in
    let agree = agrees now c.count-count.ensures.admitted in
    let long : length history ≡ length now = length-map now (λ (f : Event). positions_in now f.parents) in
    not_reduced history agree.parents positions (latest_cut now last) first last (subst (λ n. All (λ p. p < n) positions) (sym long) c.requires) (agree.cut (latest_cut now last) ∙ latest_critical now last)
    (subst (λ n. first < n) c.latest_cut.ensures (ltb-true first c.latest_cut.result e)) (latest_at_most now last) (got positions 0 first (sym c.in-Some-Some.ensures.value))
    (got positions (length positions - 1) last (sym c.in-Some-Some.ensures'.value))
