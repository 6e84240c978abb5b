-- When two operations, and two events, are the same.
use Rattle.std.specs.Prelude.{Bool, false, ◌&&◌, ◌==◌}
use Rattle.std.specs.Cmp.Lexicographic.{pointwise}
use Rattle.ew_model.specs.declared.event.Op.{Op}
use Rattle.ew_model.specs.declared.event.Op.TheVariants.{Ins, Del, Mark}
use Rattle.ew_model.specs.declared.event.Event.{Event}
use Rattle.ew_model.specs.Ids.{id_eq, name_eq}

-- the same operation with the same numbers, or with the same label
abbrev pub op_eq : Op → Op → Bool
op_eq (Ins i c) (Ins j d) = (i == j) && (c == d)
op_eq (Del i) (Del j) = i == j
op_eq (Mark a) (Mark b) = name_eq a b
op_eq o p = false

-- the same id, parents in their order, and operation
abbrev pub event_eq : Event → Event → Bool
event_eq e f = id_eq e.id f.id && pointwise id_eq e.parents f.parents && op_eq e.op f.op
