-- That any bytes hold batches.
use Rattle.std.specs.Prelude.{ℕ, List, Option}
use Rattle.ew_model.specs.declared.event.Event.{Event}
use Rattle.ew_model.specs.Bytes.{AreBytes}
use Rattle.peer_definitions.specs.Batches.{AreBatches}

-- whatever the bytes are, and however long a body may be, there are batches that they hold, and a bad place or none
abbrev pub BatchesAreFound : Type 0
BatchesAreFound = (most : ℕ) (bytes : List ℕ) → AreBytes bytes → (batches : List (List Event)) × (bad : Option ℕ) × AreBatches most bytes batches bad
