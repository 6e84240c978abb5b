use Rattle.std.proofs.Common.{◌≡◌, ◌++◌, take}
use Rattle.document.specs.Talks.{spelled}
use Rattle.document.proofs.talking.put_frames.Given as goal

abbrev pub invariant-loop-frame : goal.invariant-loop-frame
invariant-loop-frame l = l.out.items ≡ l.fn.out.items ++ spelled (take l.frame-index l.frames)
