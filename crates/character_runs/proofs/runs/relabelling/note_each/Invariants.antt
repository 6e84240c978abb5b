use Rattle.std.proofs.Common.{◌≡◌, ℕ, List, length, ◌+◌}
use Rattle.walker_record.specs.Stretches.{Stretch}
use Rattle.order_tree.specs.Pairs.{IsRising, runs, AreGivenIn}
use Rattle.character_runs.specs.Laid.{AreLabelled}
use Rattle.character_runs.proofs.Renamed.{AreRenamed}
use Rattle.character_runs.proofs.runs.relabelling.note_each.Given as goal

abbrev pub invariant-loop-k : goal.invariant-loop-k
invariant-loop-k l =
    (ps qs : List (ℕ × Stretch)) (laid : AreLabelled ps l.fn.held) → IsRising ps → runs qs ≡ runs ps → (among : AreGivenIn ps qs l.fn.given.items)
    → AreRenamed ps qs l.fn.held l.held (length among.front + l.k)
