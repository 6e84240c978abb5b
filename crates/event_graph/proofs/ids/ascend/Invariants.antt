use Rattle.std.proofs.Common.{◌≡◌, drop}
use Rattle.ew_model.specs.Ids.{ids_ascend}
use Rattle.event_graph.proofs.ids.ascend.Given as goal

abbrev pub invariant-loop-i : goal.invariant-loop-i
invariant-loop-i l = ids_ascend l.ids ≡ ids_ascend (drop l.i l.ids)
