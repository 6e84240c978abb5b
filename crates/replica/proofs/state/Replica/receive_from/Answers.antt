use Rattle.std.proofs.Common.{◌≡◌, ◌+◌, false, refl}
use Rattle.std.proofs.lemmas.Result.{IfOk-weaker}
use Rattle.ew_model.specs.Arrival.{arrive}
use Rattle.ew_model.specs.TouchLaws.{NoneOutOfRange}
use Rattle.ew_model.specs.Touches.{touches}
use Rattle.event_graph.specs.Subgraphs.{events_at}
use Rattle.replica.proofs.state.Replica.receive_from.Goals as goal

pub returns-clause-touches : goal.returns-clause-touches
returns-clause-touches g c =
    let old = c.args.self.now in
    let exact = NoneOutOfRange (arrive old.limits old.held old.waiting (events_at c.args.other.now c.args.positions.now)).answers in
    IfOk-weaker c.receive_held.result (λ took. false ≡ false → exact → c.receive_held.new.steps ≡ c.args.steps.now + touches c.receive_held.new.self.held took.cut) (λ took. exact → c.receive_held.new.steps ≡ c.args.steps.now + touches c.receive_held.new.self.held took.cut)
    (λ took told. told refl) c.receive_held.ensures.touches
