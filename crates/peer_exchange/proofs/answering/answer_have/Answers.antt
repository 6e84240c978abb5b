use Rattle.std.proofs.Common.{[], ◌∷◌, ◌++◌, sym, ◌∙◌, subst}
use Rattle.std.specs.List.{AllByRecursion}
use Rattle.std.proofs.lemmas.List.Elements.{All-from_recursion}
use Rattle.ew_model.specs.Limits.{AreLimits}
use Rattle.ew_model.specs.Sound.{AreSound}
use Rattle.history_definitions.specs.Missing.{missing}
use Rattle.peer_definitions.specs.declared.frame.Frame.TheVariants.{Done}
use Rattle.peer_frames.specs.Laws.{IsTaken}
use Rattle.peer_definitions.specs.Answering.{event_frames}
use Rattle.peer_exchange.proofs.Lengths.{sent_taken, missing_few, missing_sound}
use Rattle.peer_exchange.proofs.answering.answer_have.Goals as goal

pub returns-clause-taken : goal.returns-clause-taken
returns-clause-taken c =
    let r = c.args.replica.now in
    let limits = subst AreLimits c.limits.ensures.limits c.events-most.ensures.range in
    let events = c.in_ok-missing.ensures in
    let sound = missing_sound r.held c.args.counts.now (subst AreSound c.graph.ensures.graph c.count-sound.ensures.sound) in
    let items = c.in_ok-frames.ensures ∙ (λ i. event_frames (c.limits-2.ensures.limits i) (events i) ++ Done ∷ []) in
    All-from_recursion (IsTaken r.limits) c.in_ok-frames.frames.items
    (subst (AllByRecursion (IsTaken r.limits)) (sym items) (sent_taken r.limits (missing r.held c.args.counts.now) limits sound (missing_few r.held c.args.counts.now c.limits.ensures.kept.orderly.good)))
