use Rattle.std.proofs.Common.{◌≡◌, true, List, length, None, sym, ap, ◌∙◌, subst, arith}
use Rattle.ew_model.specs.declared.event.Event.{Event}
use Rattle.ew_model.specs.Arrival.{next_judgement}
use Rattle.event_graph.specs.Subgraphs.{events_at}
use Rattle.replica.specs.Desks.{desk_of_replica}
use Rattle.replica.specs.Receiving.{Receives}
use Rattle.replica.proofs.OfferedPlaces.{as_many_events}
use Rattle.replica.proofs.Received.{IsTold, more_held, reached, receives, stands_between}
use Rattle.replica.proofs.ReceivedCounts.{most_taken, touches_taken}
use Rattle.replica.proofs.RoundParts.{on_err}
use Rattle.replica.proofs.state.Replica.receive_held.Goals as goal

pub receive_all-requires-clause-few : goal.receive_all-requires-clause-few
receive_all-requires-clause-few g c =
    let many = ap (length {A = Event}) c.held-offered.ensures ∙ as_many_events c.args.other.now c.args.positions.now c.requires.within in
    omega (arith, many, c.requires.few)

pub took-requires : goal.took-requires
took-requires g c =
    let old = c.args.self.now in
    let events = events_at c.args.other.now c.args.positions.now in
    let r = reached old c.receive_all.new.self c.held-offered.result events c.new-progress.result c.receive_all.new.progress c.new-progress.ensures c.held-offered.ensures c.receive_all.ensures.reaches in
    let more = more_held old c.receive_all.new.self events c.receive_all.new.progress r in
    let before = c.count-before.ensures in
    omega (arith, more, before)

pub returns-clause-received : goal.returns-clause-received
returns-clause-received g c =
    let old = c.args.self.now in
    let new = c.receive_all.new.self in
    let counted = c.receive_all.new.progress in
    let events = events_at c.args.other.now c.args.positions.now in
    let r = reached old new c.held-offered.result events c.new-progress.result counted c.new-progress.ensures c.held-offered.ensures c.receive_all.ensures.reaches in
    let end : next_judgement old.limits true (desk_of_replica new events counted) ≡ None = ap (λ (es : List Event). next_judgement old.limits true (desk_of_replica new es counted)) (sym c.held-offered.ensures) ∙ c.in_ok-receive_all.ensures.ends in
    let now = c.took.ensures in
    let told : IsTold (length old.held) new.held new.waiting counted c.took.result =
    subst (λ n. IsTold n new.held new.waiting counted c.took.result) c.count-before.ensures (record { accepted = now.accepted; waits = now.waiting; repeats = now.repeats; refused = now.refused; cut = now.cut }) in
    receives old new events counted c.took.result r c.receive_all.ensures.limits end told

pub returns-clause-touches : goal.returns-clause-touches
returns-clause-touches g c anew none =
    let old = c.args.self.now in
    let new = c.receive_all.new.self in
    let counted = c.receive_all.new.progress in
    let events = events_at c.args.other.now c.args.positions.now in
    let r = reached old new c.held-offered.result events c.new-progress.result counted c.new-progress.ensures c.held-offered.ensures c.receive_all.ensures.reaches in
    let end : next_judgement old.limits true (desk_of_replica new events counted) ≡ None = ap (λ (es : List Event). next_judgement old.limits true (desk_of_replica new es counted)) (sym c.held-offered.ensures) ∙ c.in_ok-receive_all.ensures.ends in
    let now = c.took.ensures in
    let told : IsTold (length old.held) new.held new.waiting counted c.took.result =
    subst (λ n. IsTold n new.held new.waiting counted c.took.result) c.count-before.ensures (record { accepted = now.accepted; waits = now.waiting; repeats = now.repeats; refused = now.refused; cut = now.cut }) in
    let is : Receives old events new c.took.result = receives old new events counted c.took.result r c.receive_all.ensures.limits end told in
    touches_taken old new c.held-offered.result events c.new-progress.result c.took.result c.args.steps.now c.receive_all.new.steps c.new-progress.ensures c.held-offered.ensures none is (c.in_ok-receive_all.ensures.touches anew)

pub returns-clause-most : goal.returns-clause-most
returns-clause-most g c =
    most_taken c.args.self.now c.held-offered.result (events_at c.args.other.now c.args.positions.now) c.new-progress.result c.args.steps.now c.receive_all.new.steps c.new-progress.ensures c.held-offered.ensures c.receive_all.ensures.most

pub returns-in_err-receive_all-clause-most : goal.returns-in_err-receive_all-clause-most
returns-in_err-receive_all-clause-most g c =
    most_taken c.args.self.now c.held-offered.result (events_at c.args.other.now c.args.positions.now) c.new-progress.result c.args.steps.now c.receive_all.new.steps c.new-progress.ensures c.held-offered.ensures c.receive_all.ensures.most

pub returns-in_err-receive_all-clause-stands : goal.returns-in_err-receive_all-clause-stands
returns-in_err-receive_all-clause-stands g c =
    let old = c.args.self.now in
    let new = c.receive_all.new.self in
    let counted = c.receive_all.new.progress in
    let events = events_at c.args.other.now c.args.positions.now in
    let r = reached old new c.held-offered.result events c.new-progress.result counted c.new-progress.ensures c.held-offered.ensures c.receive_all.ensures.reaches in
    on_err c.from_residual.result (stands_between old new events counted r c.receive_all.ensures.limits)
