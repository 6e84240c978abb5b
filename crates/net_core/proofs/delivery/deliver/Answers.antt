use Rattle.std.proofs.Common.{length, sym, ap, ◌∙◌, subst, arith}
use Rattle.std.specs.List.{AllByRecursion}
use Rattle.std.specs.Prelude.{OnErr}
use Rattle.std.specs.Vec.Iter.{into_iter_items}
use Rattle.std.proofs.lemmas.Result.{err_from_is_err_and}
use Rattle.ew_model.specs.Limits.{LimitNumbers}
use Rattle.peer_definitions.specs.Answering.{answer_to}
use Rattle.peer_frames.specs.Laws.{IsTaken}
use Rattle.net_core.specs.Answers.{IsLeftIn}
use Rattle.ew_model.proofs.EntryLaws.{all_joined}
use Rattle.net_core.proofs.Receiving.{IsReceiving, first_apart, left_at, next_received}
use Rattle.net_core.proofs.delivery.deliver.Goals as goal

pub deliver_frame-requires-clause-apart : goal.deliver_frame-requires-clause-apart
deliver_frame-requires-clause-apart g c =
    let start = c.args.peer.now in
    let peer = c.loop-frame.peer in
    let delivery = c.loop-frame.delivery in
    let at = subst (λ fs. IsReceiving start.name start.replica c.args.frames.items peer.replica fs delivery.replies.items delivery.printed.items)
    c.in-Some.ensures.steps.0 c.loop-frame.invariant.so_far in
    first_apart peer.replica c.in-Some.frame (into_iter_items c.next.new.self) at.apart

pub loop-frame-preserved : goal.loop-frame-preserved
loop-frame-preserved g c =
    let start = c.args.peer.now in
    let peer = c.loop-frame.peer in
    let delivery = c.loop-frame.delivery in
    let steps = c.in-Some.ensures.steps in
    let f = c.in-Some.frame in
    let rest = into_iter_items c.loop-frame.frame-iterator in
    let more = into_iter_items c.next.new.self in
    let invariant = c.loop-frame.invariant in
    let told = c.in_ok-deliver_frame.ensures in
    let many = ap length steps.0 in
    let all = IsTaken start.replica.limits in
    record {
      name = told.name ∙ invariant.name;
      caret = told.caret ∙ invariant.caret;
      so_far = next_received start peer c.deliver_frame.new.peer c.args.frames.items rest more f delivery.replies.items _ delivery.printed.items _ invariant.so_far invariant.name steps.0 told.replies told.printed told.replica;
      taken = (subst (AllByRecursion all) steps.0 invariant.taken).1;
      made = subst (AllByRecursion all) (sym told.replies)
          (all_joined all delivery.replies.items (answer_to peer.replica f).frames invariant.made
          (subst (λ (limits : LimitNumbers). AllByRecursion (IsTaken limits) (answer_to peer.replica f).frames) invariant.so_far.limits told.taken));
      many = omega (arith, steps.1, many, invariant.many);
    }

pub returns-in_err-deliver_frame-clause-left : goal.returns-in_err-deliver_frame-clause-left
returns-in_err-deliver_frame-clause-left g c =
    let start = c.args.peer.now in
    let peer = c.loop-frame.peer in
    let delivery = c.loop-frame.delivery in
    let f = c.in-Some.frame in
    let more = into_iter_items c.next.new.self in
    let at = subst (λ fs. IsReceiving start.name start.replica c.args.frames.items peer.replica fs delivery.replies.items delivery.printed.items)
    c.in-Some.ensures.steps.0 c.loop-frame.invariant.so_far in
    let left = left_at start.name start.replica c.args.frames.items peer.replica delivery.replies.items delivery.printed.items f more c.deliver_frame.new.peer.replica at
    c.in_err-deliver_frame.ensures.left in
    let told = err_from_is_err_and c.from_residual.result c.from_residual.ensures.1 in
    subst (λ r. OnErr r (IsLeftIn start.replica c.args.frames.items c.deliver_frame.new.peer.replica)) (sym told.1) left
