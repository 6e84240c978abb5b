-- What the types of the program can hold: names, numbers and characters in their ranges.
use Rattle.std.specs.Prelude.{◌≡◌, ◌<◌, ◌^◌, true, List}
use Rattle.std.specs.Char.{IsScalar}
use Rattle.std.specs.List.{AllByRecursion}
use Rattle.ew_model.specs.declared.id.Id.{Id}
use Rattle.ew_model.specs.declared.event.Op.{Op}
use Rattle.ew_model.specs.declared.event.Op.TheVariants.{Ins, Del, Mark}
use Rattle.ew_model.specs.declared.event.Event.{Event}
use Rattle.ew_model.specs.Names.{is_name}

-- a name, and a number of 32 bits
pub record IsSoundId (x : Id) : Type 0 where
  pub agent : is_name x.agent ≡ true
  pub seq : x.seq < 2 ^ 32

-- an index of 32 bits, and a Unicode scalar value; or a label, which is a name
abbrev pub IsSoundOp : Op → Type 0
IsSoundOp (Ins at ch) = (at < 2 ^ 32) × IsScalar ch
IsSoundOp (Del at) = at < 2 ^ 32
IsSoundOp (Mark label) = is_name label ≡ true

-- an event that the type can hold
pub record IsSound (e : Event) : Type 0 where
  pub id : IsSoundId e.id
  pub parents : AllByRecursion IsSoundId e.parents
  pub op : IsSoundOp e.op

-- each event of the list is sound
abbrev pub AreSound : List Event → Type 0
AreSound events = AllByRecursion IsSound events
