use Rattle.std.proofs.Common.{◌≡◌, ◌++◌, take, drop}
use Rattle.event_graph.specs.Keeping.{AreAdmittedAfter}
use Rattle.event_graph.specs.Tails.{hold_of}
use Rattle.replica.proofs.marking.admit_or_none.Given as goal

abbrev pub invariant-loop-e : goal.invariant-loop-e
invariant-loop-e l = record {
  grown : l.graph ≡ l.fn.graph ++ take l.e-index l.made;
  left : AreAdmittedAfter l.graph (drop l.e-index l.made);
  held : l.hold ≡ hold_of l.fn.graph;
}
