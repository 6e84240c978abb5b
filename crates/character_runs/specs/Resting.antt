-- Records where no event is prepared.
use Rattle.std.specs.Prelude.{ℕ}
use Rattle.ew_model.specs.declared.node.Node.{Node}
use Rattle.ew_model.specs.declared.node.Node.TheVariants.{Root, Base, Event}
use Rattle.walker_record.specs.Stretches.{Stretch}

-- the prepared number of a node's character where no event is prepared: a base character is visible, and one of an event isn't inserted
abbrev pub at_rest : Node → ℕ
at_rest Root = 0
at_rest (Base i) = 1
at_rest (Event n) = 0

-- a record as it is then
abbrev pub rested : Stretch → Stretch
rested r = record { from = r.from; len = r.len; prepared = at_rest r.from; effect = r.effect }
