use Rattle.std.proofs.Common.{◌≤◌, ◌<◌, ◌^◌, inr, [], ◌∷◌, ◌++◌, length, List, sym, ap, ◌∙◌, subst, arith}
use Rattle.std.specs.List.{AllByRecursion}
use Rattle.std.proofs.lemmas.List.Elements.{All-from_recursion}
use Rattle.ew_model.specs.declared.id.Id.{Id}
use Rattle.ew_model.specs.declared.verdict.Refusal.{Refusal}
use Rattle.ew_model.specs.Limits.{AreLimits}
use Rattle.peer_definitions.specs.declared.frame.Frame.{Frame}
use Rattle.peer_frames.specs.Laws.{IsTaken}
use Rattle.peer_definitions.specs.Spelling.{IsSoundFrame}
use Rattle.peer_definitions.specs.Answering.{first_clash}
use Rattle.peer_exchange.proofs.Lengths.{told_taken}
use Rattle.peer_frames.proofs.Bodies.{events_few}
use Rattle.peer_exchange.proofs.Refused.{refused_few}
use Rattle.peer_exchange.proofs.answering.answer_events.Goals as goal

pub receive_going_on-requires : goal.receive_going_on-requires
receive_going_on-requires c x = events_few x.args.events.items x.requires.body

pub told-frame-requires : goal.told-frame-requires
told-frame-requires c x =
    let old = x.args.replica.now in
    let limits = subst AreLimits x.limits.ensures.limits x.events-most.ensures.range in
    let wait : length old.waiting ≤ 16777216 = let most = x.limits.ensures.kept.few_wait in let range = limits.few_waiting in omega (arith, most, range) in
    subst (λ (refused : List (Id × Refusal)). length refused < 2 ^ 32) (sym x.in-Ok.ensures.received.told.refused)
    (refused_few old.limits old.held old.waiting x.args.events.items wait x.requires.body)

pub returns-in_ok-push-in-Ok-clause-taken : goal.returns-in_ok-push-in-Ok-clause-taken
returns-in_ok-push-in-Ok-clause-taken c x =
    let limits = x.args.replica.now.limits in
    let are = subst AreLimits x.limits.ensures.limits x.events-most.ensures.range in
    let took = x.in-Ok.took in
    let frame = x.told-frame.ensures.frame in
    let taken : IsTaken limits x.told-frame.result.0 =
    subst (IsTaken limits) (sym frame)
    (told_taken limits took.accepted took.waiting took.repeats (length took.refused.items) (first_clash took.refused.items) are (subst IsSoundFrame frame x.told-frame.ensures.sound)) in
    let items = x.in_ok-push-in-Ok.ensures.items ∙ ap (λ (frames : List Frame). frames ++ x.told-frame.result.0 ∷ []) x.in_ok-frames.ensures.items in
    All-from_recursion (IsTaken limits) x.push.new.self.items (subst (AllByRecursion (IsTaken limits)) (sym items) (taken, tt))

pub returns-in-Err-clause-left : goal.returns-in-Err-clause-left
returns-in-Err-clause-left c x = inr (x.in-Err.field-0, x.in-Err.ensures.stopped)
