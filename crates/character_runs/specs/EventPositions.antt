-- The positions of the events whose characters are kept.
use Rattle.std.specs.Prelude.{ℕ, List, Option, Some, None, filter_map}
use Rattle.ew_model.specs.declared.node.Node.{Node}
use Rattle.ew_model.specs.declared.node.Node.TheVariants.{Root, Base, Event}
use Rattle.walker_record.specs.Stretches.{Stretch}

-- the position of the event whose node it is; the root and a base character are no event's
abbrev pub position_of : Node → Option ℕ
position_of Root = None
position_of (Base i) = None
position_of (Event n) = Some n

-- the positions of the events whose characters these are, in their order
abbrev pub event_positions : List Stretch → List ℕ
event_positions rs = filter_map (λ (r : Stretch). position_of r.from) rs
