use Rattle.std.proofs.Common.{[], ◌∷◌, ◌++◌, codes, sym, ap, ◌∙◌}
use Rattle.std.specs.Prelude.{decimal}
use Rattle.peer_definitions.specs.declared.frame.Frame.{Frame}
use Rattle.net_core.specs.Bytes.{reply_line}
use Rattle.net_core.proofs.ReplyLines.{five_counts}
use Rattle.net_core.proofs.delivery.print_reply.Goals as goal

pub returns-in_ok-push : goal.returns-in_ok-push
returns-in_ok-push c =
    let out = c.args.out.now.items in
    let name = c.args.name.now in
    let took = c.in-Took in
    let named = c.in_ok-extend_from_slice.ensures.items ∙ ap (λ n. out ++ n) c.as_slice.ensures.bytes in
    let one = c.in_ok-push_count.ensures ∙ ap (λ x. x ++ 32 ∷ (codes "accepted" ++ 32 ∷ decimal took.accepted)) named in
    let two = c.in_ok-push_count-2.ensures ∙ ap (λ x. x ++ 32 ∷ (codes "waiting" ++ 32 ∷ decimal took.waiting)) one in
    let three = c.in_ok-push_count-3.ensures ∙ ap (λ x. x ++ 32 ∷ (codes "repeats" ++ 32 ∷ decimal took.repeats)) two in
    let four = c.in_ok-push_count-4.ensures ∙ ap (λ x. x ++ 32 ∷ (codes "refused" ++ 32 ∷ decimal took.refused)) three in
    let five = c.in_ok-push_count-5.ensures ∙ ap (λ x. x ++ 32 ∷ (codes "cut" ++ 32 ∷ decimal c.args.cut)) four in
    c.in_ok-push.ensures.items ∙ ap (λ x. x ++ 10 ∷ []) five
    ∙ five_counts out name (codes "accepted") (decimal took.accepted) (codes "waiting") (decimal took.waiting) (codes "repeats") (decimal took.repeats) (codes "refused")
    (decimal took.refused) (codes "cut") (decimal c.args.cut)
    ∙ ap (λ (f : Frame). out ++ reply_line name f c.args.cut) (sym took.is)
