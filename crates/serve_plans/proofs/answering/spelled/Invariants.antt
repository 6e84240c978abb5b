use Rattle.std.proofs.Common.{◌≡◌, take}
use Rattle.command_table.specs.Sessions.{bytes_of}
use Rattle.serve_plans.proofs.answering.spelled.Given as goal

abbrev pub invariant-loop-frame : goal.invariant-loop-frame
invariant-loop-frame l = l.bytes.items ≡ bytes_of (take l.frame-index l.frames)
