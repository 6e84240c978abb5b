-- The operations behind the first one of an edit. (No public contract cites this.)
use Rattle.std.specs.Prelude.{List, ⊤}
use Rattle.ew_model.specs.declared.event.Op.{Op}
use Rattle.event_runs.specs.RunOps.{ops_of, IndicesFit}
use Rattle.replica.specs.declared.later.Later.{Later}
use Rattle.replica.specs.declared.later.Later.TheVariants.{Run, Each}

-- the operations one by one
abbrev pub later_ops : Later → List Op
later_ops (Run ops) = ops_of ops
later_ops (Each ops) = ops.now

-- each of the indices is a number of 32 bits
abbrev pub LaterFit : Later → Type 0
LaterFit (Run ops) = IndicesFit ops
LaterFit (Each ops) = ⊤
