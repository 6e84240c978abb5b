-- How bytes are cut into frames.
use Rattle.std.specs.Prelude.{◌≡◌, ℕ, ◌+◌, ◌*◌, Bool, true, false, not, ◌&&◌, List, [], ◌∷◌, length, take, drop, nat_lt, ◌==◌, if◌then◌else◌}
use Rattle.std.specs.Int.{w32, from_le_bytes}
use Rattle.ew_model.specs.Limits.{LimitNumbers}
use Rattle.peer_definitions.specs.declared.frame.Frame.{Frame}
use Rattle.peer_definitions.specs.Spelling.{IsBody}

-- 1 to 6
abbrev pub is_kind : ℕ → Bool
is_kind kind = nat_lt 0 kind && nat_lt kind 7

-- the longest body that a frame of this kind may have
abbrev pub most_body : LimitNumbers → ℕ → ℕ
most_body limits kind = if kind == 1 then 4 + 37 * limits.events else limits.body

-- what the kind and the length of the body tell
pub data Head : Type 0 where
  Incomplete : Head
  NoKind : (kind : ℕ) → Head
  OverLimit : (length : ℕ) → Head
  Complete : (kind : ℕ) (body rest : List ℕ) → Head

-- the length of the body, told by the four bytes after the kind
abbrev pub told_length : List ℕ → ℕ
told_length bytes = from_le_bytes w32 (take 4 bytes)

-- The first that holds: there is no byte; the first byte is no kind; the length isn't all there; it is above the limit of the
-- kind; the body isn't all there; the body is there, and the rest after it.
unfoldable pub head_of : LimitNumbers → List ℕ → Head
head_of limits [] = Incomplete
head_of limits (kind ∷ bytes) =
    if not (is_kind kind) then NoKind kind
    else if nat_lt (length bytes) 4 then Incomplete
    else if nat_lt (most_body limits kind) (told_length bytes) then OverLimit (told_length bytes)
    else if nat_lt (length bytes) (4 + told_length bytes) then Incomplete
    else Complete kind (take (told_length bytes) (drop 4 bytes)) (drop (4 + told_length bytes) bytes)

-- what stands at the front of bytes
pub data Front : Type 0 where
  Whole : (frame : Frame) (rest : List ℕ) → Front
  Partial : Front
  BadKind : (kind : ℕ) → Front
  TooLong : (length : ℕ) → Front
  BadBody : Front

-- a body that is there is that of the frame, or of no frame of its kind
abbrev pub Tells : Head → Front → Type 0
Tells Incomplete Partial = Unit {0}
Tells (NoKind kind) (BadKind k) = k ≡ kind
Tells (OverLimit length) (TooLong n) = n ≡ length
Tells (Complete kind body rest) (Whole f behind) = IsBody kind body f × (behind ≡ rest)
Tells (Complete kind body rest) BadBody = (f : Frame) → IsBody kind body f → ⊥
Tells head front = ⊥

-- what a reader finds that has these bytes
abbrev pub Finds : LimitNumbers → List ℕ → Front → Type 0
Finds limits bytes front = Tells (head_of limits bytes) front

-- a whole frame stands in front
abbrev pub is_whole : Front → Bool
is_whole (Whole f rest) = true
is_whole front = false

-- the bytes are these frames, and then comes no whole one
abbrev pub AreFrames : LimitNumbers → List ℕ → List Frame → Front → Type 0
AreFrames limits bytes [] end = Finds limits bytes end × (is_whole end ≡ false)
AreFrames limits bytes (f ∷ frames) end = (rest : List ℕ) × Finds limits bytes (Whole f rest) × AreFrames limits rest frames end
