use Rattle.std.proofs.Common.{◌≡◌, ◌∙◌, ◌<◌, ◌-◌, true, length, sym, subst, arith}
use Rattle.std.proofs.lemmas.List.{length-map}
use Rattle.std.proofs.lemmas.List.Elements.{recursion_from_All}
use Rattle.ew_model.specs.declared.event.Event.{Event}
use Rattle.ew_model.specs.Cuts.{latest_cut}
use Rattle.ew_model.specs.Positions.{parent_positions, positions_in}
use Rattle.ew_model.specs.Sets.{Among}
use Rattle.ew_model.proofs.CutLaws.{latest_at_most, latest_critical}
use Rattle.ew_model.proofs.OperationLaws.{got}
use Rattle.ew_model.proofs.SortingLaws.{all_at}
use Rattle.event_graph.proofs.Admitted.{agrees}
use Rattle.event_graph.proofs.KnownByCuts.{known_below}
use Rattle.event_graph.proofs.graph.Graph.knows_at.Goals as goal

pub returns-then-position-latest_cut : goal.returns-then-position-latest_cut
returns-then-position-latest_cut c =
    let now = c.args.self.now in
    let version = c.args.positions.now in
    let history = parent_positions now in
    let last = c.in-Some.last.now in
    let agree = agrees now c.count-count.ensures.admitted in
    let cut = latest_cut now last in
    let there : Among last version = got version (length version - 1) last (sym c.in-Some.ensures.value) in
    let within : last < length now = all_at (λ p. p < length now) version last (recursion_from_All (λ p. p < length now) version c.requires.positions) there in
    let long : length history ≡ length now = length-map now (λ (e : Event). positions_in now e.parents) in
    sym (known_below history agree.parents version cut c.args.position last (agree.cut cut ∙ latest_critical now last) (subst (λ n. c.args.position < n) c.latest_cut.ensures c.if-position-latest_cut.true)
    (latest_at_most now last) (omega (arith, long, within)) there)
