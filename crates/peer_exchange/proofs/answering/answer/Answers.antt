use Rattle.std.proofs.Common.{sym, ap, ◌∙◌, subst}
use Rattle.std.specs.Prelude.{OnErr}
use Rattle.peer_definitions.specs.declared.frame.Frame.TheVariants.{Events}
use Rattle.peer_exchange.specs.Replies.{IsLeftBy}
use Rattle.peer_exchange.proofs.answering.answer.Goals as goal

pub returns-in-Events-clause-left : goal.returns-in-Events-clause-left
returns-in-Events-clause-left c x =
    subst (λ f. OnErr x.answer_events.result (IsLeftBy f x.args.replica.now x.answer_events.new.replica)) (sym (x.in-Events.is ∙ ap Events (sym x.into_vec.ensures))) x.answer_events.ensures.left
