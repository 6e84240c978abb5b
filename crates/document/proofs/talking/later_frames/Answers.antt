use Rattle.std.proofs.Common.{◌∙◌, drop, sym, ap, subst}
use Rattle.std.specs.List.{AllByRecursion}
use Rattle.std.proofs.lemmas.List.Elements.{All-from_recursion}
use Rattle.ew_model.specs.Limits.{AreLimits}
use Rattle.ew_model.specs.Sound.{AreSound}
use Rattle.peer_definitions.specs.Answering.{event_frames}
use Rattle.peer_definitions.specs.Spelling.{HasSpelling}
use Rattle.document.proofs.Later.{later_spelled}
use Rattle.document.proofs.talking.later_frames.Goals as goal

pub returns-clause-spelled : goal.returns-clause-spelled
returns-clause-spelled c =
    let r = c.args.replica.now in
    let limits = subst AreLimits c.limits.ensures.limits c.events-most.ensures.range in
    let sound = subst AreSound c.graph.ensures.graph c.count-sound.ensures.sound in
    let events = c.in_ok-events.ensures ∙ ap (drop c.args.from) c.graph-2.ensures.graph in
    let items = c.in_ok-frames.ensures ∙ (λ i. event_frames (c.limits-2.ensures.limits i) (events i)) in
    All-from_recursion HasSpelling c.in_ok-frames.frames.items
    (subst (AllByRecursion HasSpelling) (sym items) (later_spelled r.limits r.held c.args.from limits sound c.limits.ensures.kept.orderly.good))
