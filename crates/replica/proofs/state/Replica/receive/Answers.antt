use Rattle.std.proofs.Common.{◌≡◌, ◌+◌, false, refl}
use Rattle.std.proofs.lemmas.Result.{IfOk-weaker}
use Rattle.ew_model.specs.Arrival.{arrive}
use Rattle.ew_model.specs.TouchLaws.{NoneOutOfRange}
use Rattle.ew_model.specs.Touches.{touches}
use Rattle.replica.proofs.state.Replica.receive.Goals as goal

pub returns-clause-touches : goal.returns-clause-touches
returns-clause-touches g c =
    let old = c.args.self.now in
    let exact = NoneOutOfRange (arrive old.limits old.held old.waiting c.args.events.items).answers in
    IfOk-weaker c.receive_listed.result (λ took. false ≡ false → exact → c.receive_listed.new.steps ≡ c.args.steps.now + touches c.receive_listed.new.self.held took.cut) (λ took. exact → c.receive_listed.new.steps ≡ c.args.steps.now + touches c.receive_listed.new.self.held took.cut)
    (λ took told. told refl) c.receive_listed.ensures.touches
