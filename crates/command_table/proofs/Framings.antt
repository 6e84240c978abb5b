-- Frames in front of bytes.
use Rattle.std.proofs.Common.{◌≡◌, ℕ, false, List, [], ◌∷◌, subst}
use Rattle.ew_model.specs.Limits.{LimitNumbers}
use Rattle.peer_definitions.specs.declared.frame.Frame.{Frame}
use Rattle.peer_definitions.specs.Cutting.{Front, Finds, AreFrames, is_whole}
use Rattle.command_table.specs.Framings.{BeginWith}

-- frames in front of bytes that begin with no further one are all that the bytes are cut into
pub are_cut : (limits : LimitNumbers) (bytes : List ℕ) (frames : List Frame) (rest : List ℕ) (stop : Front)
    → BeginWith limits bytes frames rest → Finds limits rest stop → is_whole stop ≡ false → AreFrames limits bytes frames stop
are_cut limits bytes [] rest stop begins found none = (subst (λ bs. Finds limits bs stop) begins found, none)
are_cut limits bytes (f ∷ frames) rest stop begins found none = (begins.0, begins.1, are_cut limits begins.0 frames rest stop begins.2 found none)
