use Rattle.std.proofs.Common.{ℕ, ◌<◌, get_or}
use Rattle.std.specs.Char.{IsScalar}
use Rattle.event_graph.proofs.facts.read_characters.Given as goal

-- those so far are
abbrev pub invariant-loop-ch : goal.invariant-loop-ch
invariant-loop-ch l = (k : ℕ) (d : ℕ) → k < l.ch-index → IsScalar (get_or l.text k d)
