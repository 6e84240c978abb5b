-- The turn that an apply makes.
use Rattle.std.specs.Prelude.{Result, Ok, Err}
use Rattle.std.specs.declared.alloc.AllocError.{AllocError}
use Rattle.ew_model.specs.declared.text_op.TextOp.{TextOp}
use Rattle.advance_retreat.specs.declared.fault.ApplyFault.{ApplyFault}
use Rattle.advance_retreat.specs.declared.fault.ApplyFault.TheVariants as apply
use Rattle.transform.specs.declared.apply.Turn.{Turn}
use Rattle.transform.specs.declared.apply.Turn.TheVariants as turn

-- an operation, or the length at which an event is out of range
abbrev pub turn_by : Result TextOp ApplyFault → Result Turn AllocError
turn_by (Ok op) = Ok (turn.Applied op)
turn_by (Err (apply.OutOfRange len)) = Ok (turn.OutOfRange len)
turn_by (Err apply.OutOfMemory) = Err (record {})
