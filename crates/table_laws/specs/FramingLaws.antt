-- What holds of the frames of an input.
use Rattle.std.specs.Prelude.{◌≡◌, ℕ, List, take}
use Rattle.ew_model.specs.Bytes.{AreBytes}
use Rattle.ew_model.specs.Limits.{LimitNumbers}
use Rattle.peer_definitions.specs.Cutting.{AreFrames}
use Rattle.command_table.specs.Framings.{Framing, IsFramingOf}

-- Each input has a framing.
abbrev pub FramingsAreFound : Type 0
FramingsAreFound = (limits : LimitNumbers) (input : List ℕ) → AreBytes input → (f : Framing) × IsFramingOf limits input f

-- No input has two.
abbrev pub FramingsAreOne : Type 0
FramingsAreOne = (limits : LimitNumbers) (input : List ℕ) (f other : Framing) → IsFramingOf limits input f → IsFramingOf limits input other → f ≡ other

-- Its frames are those that the bytes up to the limit are cut into.
abbrev pub FramingsAreCuts : Type 0
FramingsAreCuts = (limits : LimitNumbers) (input : List ℕ) (f : Framing) → IsFramingOf limits input f → AreFrames limits (take limits.input input) f.frames f.stop
