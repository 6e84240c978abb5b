use Rattle.std.proofs.Common.{sym, ◌∙◌, subst}
use Rattle.std.specs.List.{AllByRecursion}
use Rattle.ew_model.specs.Limits.{AreLimits}
use Rattle.peer_definitions.specs.declared.frame.Frame.TheVariants.{Have}
use Rattle.peer_frames.specs.Laws.{IsTaken}
use Rattle.peer_definitions.specs.Spelling.{IsSoundCount}
use Rattle.peer_exchange.proofs.Lengths.{question_taken}
use Rattle.peer_exchange.proofs.answering.ask.Goals as goal

pub returns-clause-taken : goal.returns-clause-taken
returns-clause-taken c =
    let summary = c.in_ok-counts.ensures.counts in
    let sound = subst (AllByRecursion IsSoundCount) summary c.in_ok-counts.ensures.sound in
    let limits = subst AreLimits c.limits.ensures.limits c.events-most.ensures.range in
    subst (λ counts. IsTaken c.args.replica.now.limits (Have counts)) (sym (c.from_vec.ensures ∙ summary))
    (question_taken c.args.replica.now limits sound c.limits.ensures.kept.few)
