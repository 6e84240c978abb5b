use Rattle.std.proofs.Common.{◌≡◌, ◌∙◌, Some, sym, ap, true≢false}
use Rattle.ew_model.specs.declared.event.Event.{Event}
use Rattle.event_graph.proofs.IdRows.{row_of_repeat, row_of_clash, row_of_new}
use Rattle.event_graph.proofs.Admitted.{laid}
use Rattle.event_graph.proofs.Places.{found_event}
use Rattle.event_graph.proofs.graph.Graph.judge_id.Goals as goal

pub returns-in_default : goal.returns-in_default
returns-in_default c = sym (row_of_new c.args.self.now c.args.e.now (sym c.find.ensures.value ∙ c.in_default.is))

pub returns-then-same : goal.returns-then-same
returns-then-same c = sym (row_of_repeat c.args.self.now c.args.e.now c.in_ok-held.held c.in-Some.position c.in_ok-held.ensures (c.same.ensures.0 c.if-same.true))

pub returns : goal.returns
returns c =
    let now = c.args.self.now in
    let e = c.args.e.now in
    let held = c.in_ok-held.held in
    let f = found_event now e.id c.in-Some.position (sym c.in-Some.ensures.value) in
    let both : Some f.0 ≡ Some held = sym f.1 ∙ c.in_ok-held.ensures in
    let one : f.0 ≡ held = cc in
    sym (row_of_clash now e held c.in-Some.position (laid now c.count-count.ensures.admitted) c.in_ok-held.ensures (f.2 ∙ ap (λ (x : Event). x.id) one) (λ q. true≢false (sym (c.same.ensures.1 q) ∙ c.if-same.false)))
