use Rattle.std.proofs.Common.{◌≡◌, ◌++◌, length}
use Rattle.std.specs.Vec.Iter.{into_iter_items, into_iter_len}
use Rattle.net_core.specs.Bytes.{reply_lines}
use Rattle.net_core.proofs.delivery.push_replies.Given as goal

-- the frames so far stand behind the others, and the rest comes behind them
abbrev pub invariant-loop-frame : goal.invariant-loop-frame
invariant-loop-frame l = record {
  replies : l.delivery.replies.items ++ into_iter_items l.frame-iterator ≡ l.initial.delivery.replies.items ++ l.fn.frames.items;
  printed : l.delivery.printed.items ++ reply_lines l.name l.cut (into_iter_items l.frame-iterator) ≡ l.initial.delivery.printed.items ++ reply_lines l.name l.cut l.fn.frames.items;
  many : into_iter_len l.frame-iterator ≡ length (into_iter_items l.frame-iterator);
}
