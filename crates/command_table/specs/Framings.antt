-- The frames of an input, of which no more than the limit is read.
use Rattle.std.specs.Prelude.{◌≡◌, ℕ, false, List, [], ◌∷◌, take}
use Rattle.ew_model.specs.Limits.{LimitNumbers}
use Rattle.peer_definitions.specs.declared.frame.Frame.{Frame}
use Rattle.peer_definitions.specs.Cutting.{Front, Finds, is_whole}
use Rattle.peer_definitions.specs.Cutting.Front.{Whole}

-- the bytes begin with these whole frames, and these bytes come after them
abbrev pub BeginWith : LimitNumbers → List ℕ → List Frame → List ℕ → Type 0
BeginWith limits bytes [] rest = rest ≡ bytes
BeginWith limits bytes (f ∷ frames) rest = (behind : List ℕ) × Finds limits bytes (Whole f behind) × BeginWith limits behind frames rest

-- whole frames, the bytes after them, and what is found there
pub record Framing : Type 0 where
  pub frames : List Frame
  pub rest : List ℕ
  pub stop : Front

-- all whole frames of the input up to the limit
pub record IsFramingOf (limits : LimitNumbers) (input : List ℕ) (f : Framing) : Type 0 where
  pub begins : BeginWith limits (take limits.input input) f.frames f.rest
  pub found : Finds limits f.rest f.stop
  pub none : is_whole f.stop ≡ false
