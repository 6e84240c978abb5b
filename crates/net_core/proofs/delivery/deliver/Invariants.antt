use Rattle.std.proofs.Common.{◌≡◌, length}
use Rattle.std.specs.List.{AllByRecursion}
use Rattle.std.specs.Vec.Iter.{into_iter_items, into_iter_len}
use Rattle.peer_frames.specs.Laws.{IsTaken}
use Rattle.net_core.proofs.Receiving.{IsReceiving}
use Rattle.net_core.proofs.delivery.deliver.Given as goal

-- the frames so far were received, and the rest is still to come
abbrev pub invariant-loop-frame : goal.invariant-loop-frame
invariant-loop-frame g l = record {
  name : l.peer.name ≡ l.initial.peer.name;
  caret : l.peer.caret ≡ l.initial.peer.caret;
  so_far : IsReceiving l.initial.peer.name l.initial.peer.replica l.fn.frames.items l.peer.replica
      (into_iter_items l.frame-iterator) l.delivery.replies.items l.delivery.printed.items;
  taken : AllByRecursion (IsTaken l.initial.peer.replica.limits) (into_iter_items l.frame-iterator);
  made : AllByRecursion (IsTaken l.initial.peer.replica.limits) l.delivery.replies.items;
  many : into_iter_len l.frame-iterator ≡ length (into_iter_items l.frame-iterator);
}
