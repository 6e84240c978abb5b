use Rattle.std.proofs.Common.{◌≡◌, take}
use Rattle.std.specs.String.{string_bytes}
use Rattle.ew_model.specs.Scripts.{escaped_text}
use Rattle.blame.proofs.escaped.escaped.Given as goal

abbrev pub invariant-loop-ch : goal.invariant-loop-ch
invariant-loop-ch l = string_bytes l.out ≡ escaped_text (take l.ch-index l.text)
