use Rattle.std.proofs.Common.{◌≡◌, true, List, length, drop, None, sym, ap, ◌∙◌, subst, arith}
use Rattle.ew_model.specs.declared.event.Event.{Event}
use Rattle.ew_model.specs.Arrival.{next_judgement}
use Rattle.replica.specs.Desks.{desk_of_replica}
use Rattle.replica.specs.Receiving.{Receives}
use Rattle.replica.proofs.Received.{IsTold, more_held, reached, receives, stops_between}
use Rattle.replica.proofs.ReceivedCounts.{most_taken, touches_taken}
use Rattle.replica.proofs.state.Replica.receive_listed.Goals as goal

pub took-requires : goal.took-requires
took-requires g c =
    let old = c.args.self.now in
    let r = reached old c.receive_all.new.self c.listed-offered.result c.args.events.items c.new-progress.result c.receive_all.new.progress c.new-progress.ensures (c.listed-offered.ensures ∙ c.deref.ensures.value) c.receive_all.ensures.reaches in
    let more = more_held old c.receive_all.new.self c.args.events.items c.receive_all.new.progress r in
    let before = c.count-before.ensures in
    omega (arith, more, before)

pub took-took-requires : goal.took-took-requires
took-took-requires g c =
    let old = c.args.self.now in
    let r = reached old c.receive_all.new.self c.listed-offered.result c.args.events.items c.new-progress.result c.receive_all.new.progress c.new-progress.ensures (c.listed-offered.ensures ∙ c.deref.ensures.value) c.receive_all.ensures.reaches in
    let more = more_held old c.receive_all.new.self c.args.events.items c.receive_all.new.progress r in
    let before = c.count-before.ensures in
    omega (arith, more, before)

pub returns-in-Ok-clause-received : goal.returns-in-Ok-clause-received
returns-in-Ok-clause-received g c =
    let old = c.args.self.now in
    let new = c.receive_all.new.self in
    let counted = c.receive_all.new.progress in
    let events = c.args.events.items in
    let r = reached old new c.listed-offered.result events c.new-progress.result counted c.new-progress.ensures (c.listed-offered.ensures ∙ c.deref.ensures.value) c.receive_all.ensures.reaches in
    let end : next_judgement old.limits true (desk_of_replica new events counted) ≡ None = ap (λ (es : List Event). next_judgement old.limits true (desk_of_replica new es counted)) (sym (c.listed-offered.ensures ∙ c.deref.ensures.value)) ∙ c.in-Ok.ensures.ends in
    let now = c.took.ensures in
    let told : IsTold (length old.held) new.held new.waiting counted c.took.result =
    subst (λ n. IsTold n new.held new.waiting counted c.took.result) c.count-before.ensures (record { accepted = now.accepted; waits = now.waiting; repeats = now.repeats; refused = now.refused; cut = now.cut }) in
    receives old new events counted c.took.result r c.receive_all.ensures.limits end told

pub returns-in-Err-clause-stopped : goal.returns-in-Err-clause-stopped
returns-in-Err-clause-stopped g c =
    let old = c.args.self.now in
    let new = c.receive_all.new.self in
    let counted = c.receive_all.new.progress in
    let events = c.args.events.items in
    let r = reached old new c.listed-offered.result events c.new-progress.result counted c.new-progress.ensures (c.listed-offered.ensures ∙ c.deref.ensures.value) c.receive_all.ensures.reaches in
    let now = c.took-took.ensures in
    let told : IsTold (length old.held) new.held new.waiting counted c.took-took.result =
    subst (λ n. IsTold n new.held new.waiting counted c.took-took.result) c.count-before.ensures (record { accepted = now.accepted; waits = now.waiting; repeats = now.repeats; refused = now.refused; cut = now.cut }) in
    let rest : c.rest-rest.result.items ≡ drop counted.judged events = c.rest-rest.ensures ∙ ap (λ n. drop n events) c.judged.ensures in
    stops_between old new events counted (record { took = c.took-took.result; rest = c.rest-rest.result }) r c.receive_all.ensures.limits told rest

pub returns-in-Ok-clause-touches : goal.returns-in-Ok-clause-touches
returns-in-Ok-clause-touches g c anew none =
    let old = c.args.self.now in
    let new = c.receive_all.new.self in
    let counted = c.receive_all.new.progress in
    let events = c.args.events.items in
    let r = reached old new c.listed-offered.result events c.new-progress.result counted c.new-progress.ensures (c.listed-offered.ensures ∙ c.deref.ensures.value) c.receive_all.ensures.reaches in
    let end : next_judgement old.limits true (desk_of_replica new events counted) ≡ None = ap (λ (es : List Event). next_judgement old.limits true (desk_of_replica new es counted)) (sym (c.listed-offered.ensures ∙ c.deref.ensures.value)) ∙ c.in-Ok.ensures.ends in
    let now = c.took.ensures in
    let told : IsTold (length old.held) new.held new.waiting counted c.took.result =
    subst (λ n. IsTold n new.held new.waiting counted c.took.result) c.count-before.ensures (record { accepted = now.accepted; waits = now.waiting; repeats = now.repeats; refused = now.refused; cut = now.cut }) in
    let is : Receives old events new c.took.result = receives old new events counted c.took.result r c.receive_all.ensures.limits end told in
    touches_taken old new c.listed-offered.result events c.new-progress.result c.took.result c.args.steps.now c.receive_all.new.steps c.new-progress.ensures (c.listed-offered.ensures ∙ c.deref.ensures.value) none is (c.in-Ok.ensures.touches anew)

pub returns-in-Ok-clause-most : goal.returns-in-Ok-clause-most
returns-in-Ok-clause-most g c =
    most_taken c.args.self.now c.listed-offered.result c.args.events.items c.new-progress.result c.args.steps.now c.receive_all.new.steps c.new-progress.ensures (c.listed-offered.ensures ∙ c.deref.ensures.value) c.receive_all.ensures.most

pub returns-in-Err-clause-most : goal.returns-in-Err-clause-most
returns-in-Err-clause-most g c =
    most_taken c.args.self.now c.listed-offered.result c.args.events.items c.new-progress.result c.args.steps.now c.receive_all.new.steps c.new-progress.ensures (c.listed-offered.ensures ∙ c.deref.ensures.value) c.receive_all.ensures.most
