-- The frames of what is said.
use Rattle.std.proofs.Common.{◌≡◌, ℕ, ◌≤◌, List, [], ◌∷◌, length, refl, sym, ◌∙◌, subst, take_all}
use Rattle.std.specs.List.{AllByRecursion}
use Rattle.ew_model.specs.Limits.{LimitNumbers}
use Rattle.peer_definitions.specs.declared.frame.Frame.{Frame}
use Rattle.peer_definitions.specs.Cutting.{Tells}
use Rattle.peer_definitions.specs.Cutting.Front.{Whole, Partial}
use Rattle.peer_frames.specs.Laws.{IsTaken}
use Rattle.peer_frames.proofs.Cuts.{frames_come_back}
use Rattle.peer_frames.proofs.Heads.{head_spelled}
use Rattle.command_table.specs.Framings.{Framing, BeginWith, IsFramingOf}
use Rattle.command_table.specs.Sessions.{bytes_of}
use Rattle.table_laws.proofs.FramingLaws.{framings_are_one}

-- the bytes of frames begin with them, and nothing is left
begin_with : (limits : LimitNumbers) (frames : List Frame) → AllByRecursion (IsTaken limits) frames → BeginWith limits (bytes_of frames) frames []
begin_with limits [] h = refl
begin_with limits (f ∷ frames) h = (
  bytes_of frames,
  subst (λ g. Tells g (Whole f (bytes_of frames))) (sym (head_spelled limits f (bytes_of frames) h.0.spelled.body h.0.short)) (record { sound = h.0.sound; spelled = h.0.spelled; kind = refl; bytes = refl }, refl),
  begin_with limits frames h.1,
)

-- frames and nothing behind them
abbrev pub just : List Frame → Framing
just frames = record { frames = frames; rest = []; stop = Partial }

-- an input that is the bytes of frames, and not too long, is framed as these
pub framed : (limits : LimitNumbers) (frames : List Frame) (input : List ℕ) (f : Framing) → AllByRecursion (IsTaken limits) frames → input ≡ bytes_of frames → length input ≤ limits.input
    → IsFramingOf limits input f → f ≡ just frames
framed limits frames input f taken is short framing =
    framings_are_one limits input f (just frames) framing (record {
      begins = subst (λ (bytes : List ℕ). BeginWith limits bytes frames []) (sym (take_all limits.input input short ∙ is)) (begin_with limits frames taken);
      found = (frames_come_back limits [] tt).0;
      none = refl;
    })
