use Rattle.std.proofs.Common.{length, ap, ◌∙◌, subst}
use Rattle.std.specs.List.{AllByRecursion}
use Rattle.std.proofs.lemmas.List.Elements.{recursion_from_All}
use Rattle.ew_model.specs.Cuts.{latest_cut}
use Rattle.ew_model.specs.Kept.{ReplicaState}
use Rattle.peer_frames.specs.Laws.{IsTaken}
use Rattle.net_core.proofs.DeliveryRows.{frame_printed, on_ok}
use Rattle.net_core.proofs.delivery.deliver_frame.Goals as goal

pub returns-clause-printed : goal.returns-clause-printed
returns-clause-printed g c =
    let p = c.args.peer.now in
    let new = c.answer.new.self in
    let graph = c.graph.ensures.graph ∙ ap (λ (r : ReplicaState). r.held) c.replica-2.ensures.replica in
    let before = c.count-before.ensures ∙ ap (λ (r : ReplicaState). length r.held) c.replica.ensures.replica in
    let reply = c.in_ok-reply.ensures.reply in
    on_ok c.push_replies.result
    (frame_printed p new.replica c.args.frame c.requires.apart c.name.result
    (c.name.ensures ∙ c.answer.ensures.name) c.in_ok-reply.reply.frames.items c.latest_cut-cut.result reply.frames reply.state
    (c.latest_cut-cut.ensures ∙ (λ i. latest_cut (graph i) (before i))) c.args.delivery.now.printed.items c.push_replies.new.delivery.printed.items)
    c.push_replies.ensures.printed

pub returns-clause-taken : goal.returns-clause-taken
returns-clause-taken g c =
    let limits = c.args.peer.now.replica.limits in
    let all = recursion_from_All (IsTaken limits) c.in_ok-reply.reply.frames.items c.in_ok-reply.ensures.taken in
    on_ok c.push_replies.result (λ e. subst (AllByRecursion (IsTaken limits)) c.in_ok-reply.ensures.reply.frames all) c.push_replies.ensures.replies
