use Rattle.std.proofs.Common.{◌++◌, length, sym, ap, ◌∙◌, append-nil, arith}
use Rattle.std.specs.Vec.Iter.{into_iter_items}
use Rattle.net_core.specs.Bytes.{reply_lines}
use Rattle.ew_model.proofs.ListParts.{none_left, one_moved}
use Rattle.net_core.proofs.Receiving.{one_printed}
use Rattle.net_core.proofs.delivery.push_replies.Goals as goal

pub loop-frame-preserved : goal.loop-frame-preserved
loop-frame-preserved c =
    let old = c.loop-frame.delivery in
    let rest = into_iter_items c.loop-frame.frame-iterator in
    let more = into_iter_items c.next.new.self in
    let steps = c.in-Some.ensures.steps in
    let many = ap length steps.0 in
    record {
      replies = ap (λ fs. fs ++ more) c.in_ok-push.ensures.items ∙ one_moved old.replies.items rest more _ c.in-Some.frame steps.0 c.loop-frame.invariant.replies;
      printed = ap (λ out. out ++ reply_lines c.args.name.now c.args.cut more) c.in_ok-print_reply.ensures
          ∙ one_printed c.args.name.now c.args.cut old.printed.items _ rest more c.in-Some.frame steps.0 c.loop-frame.invariant.printed;
      many = omega (arith, steps.1, many, c.loop-frame.invariant.many);
    }

pub returns-clause-replies : goal.returns-clause-replies
returns-clause-replies c =
    let none = none_left (into_iter_items c.loop-frame.frame-iterator) (sym c.loop-frame.invariant.many ∙ c.in-None.ensures.steps.0) in
    sym (append-nil c.loop-frame.delivery.replies.items) ∙ ap (λ fs. c.loop-frame.delivery.replies.items ++ fs) (sym none) ∙ c.loop-frame.invariant.replies

pub returns-clause-printed : goal.returns-clause-printed
returns-clause-printed c =
    let none = none_left (into_iter_items c.loop-frame.frame-iterator) (sym c.loop-frame.invariant.many ∙ c.in-None.ensures.steps.0) in
    let out = c.loop-frame.delivery.printed.items in
    sym (append-nil out) ∙ ap (λ fs. out ++ reply_lines c.args.name.now c.args.cut fs) (sym none) ∙ c.loop-frame.invariant.printed
