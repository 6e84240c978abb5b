-- At most how often walkers are touched while a peer is served.
use Rattle.std.specs.Prelude.{◌≤◌, ⊤, ℕ, ◌+◌, List, [], ◌∷◌, ◌++◌, take, Option, Some, None, IfSome, Result, Ok, Err}
use Rattle.ew_model.specs.Kept.{ReplicaState}
use Rattle.ew_model.specs.Limits.{LimitNumbers}
use Rattle.ew_outside.specs.Files.{Files}
use Rattle.peer_definitions.specs.declared.frame.Frame.{Frame}
use Rattle.peer_definitions.specs.Cutting.{Front, AreFrames}
use Rattle.peer_definitions.specs.Answering.{answer_to}
use Rattle.peer_exchange.specs.AnswerTouches.{answer_touches}
use Rattle.peer_definitions.specs.declared.end.End.{End}
use Rattle.command_table.specs.Framings.{IsFramingOf, Framing}
use Rattle.command_table.specs.Sessions.{opened_state}
use Rattle.command_table.specs.Table.{Text, open_file}
use Rattle.opened_files.specs.Touches.{TouchesAtMost, file_touches, touches_over}
use Rattle.ew_outside.specs.declared.fault.Fault.{Fault}
use Rattle.serve_plans.specs.declared.closing.Closing.{Closing}

-- none behind the end of a session
abbrev pub unless_ended : Option End → ℕ → ℕ
unless_ended None touches = touches
unless_ended (Some e) touches = 0

-- those of answering frames in order, up to one that ends the session
abbrev pub frames_touches : ReplicaState → List Frame → ℕ
frames_touches r [] = 0
frames_touches r (f ∷ frames) = answer_touches r f + unless_ended (answer_to r f).end (frames_touches (answer_to r f).state frames)

-- those of loading the file, and of answering the frames
abbrev pub session_touches : Text → LimitNumbers → List Frame → Files → ℕ
session_touches name limits frames files =
    file_touches name limits files + touches_over (λ events. frames_touches (opened_state limits events) frames) (open_file name limits files)

-- where the files and the input are told, serving takes no more
abbrev pub SessionTakes : Text → LimitNumbers → Option Files → Option (List ℕ) → ℕ → ℕ → Type 0
SessionTakes name limits files left before now =
    IfSome left (λ input. (f : Framing) → IsFramingOf limits input f → TouchesAtMost (session_touches name limits f.frames) files before now)

-- where the input is told, talking from a state takes no more than the touches of its frames
abbrev pub TalkTakes : LimitNumbers → ReplicaState → Option (List ℕ) → ℕ → ℕ → Type 0
TalkTakes limits start left before now =
    IfSome left (λ input. (f : Framing) → IsFramingOf limits input f → now ≤ before + frames_touches start f.frames)

-- whatever stands behind the bytes, no more was taken than the touches of all the frames there
abbrev pub TakesWithin : LimitNumbers → ReplicaState → List ℕ → ℕ → ℕ → Type 0
TakesWithin limits start bytes before now =
    (behind : List ℕ) (frames : List Frame) (stop : Front) → AreFrames limits (bytes ++ behind) frames stop → now ≤ before + frames_touches start frames

-- and of those touches so many are left as the frames behind may take that are still to be answered
abbrev pub LeavesTouches : LimitNumbers → ReplicaState → ReplicaState → List ℕ → List ℕ → ℕ → ℕ → Type 0
LeavesTouches limits start now bytes rest before after =
    (behind : List ℕ) (frames : List Frame) (stop : Front) → AreFrames limits (bytes ++ behind) frames stop
    → (more : List Frame) × AreFrames limits (rest ++ behind) more stop × (after + frames_touches now more ≤ before + frames_touches start frames)

-- what answering the whole frames in front of bytes takes
abbrev pub AnswersTake : LimitNumbers → ReplicaState → ReplicaState → List ℕ → List ℕ → ℕ → ℕ → Result (Option Closing) Fault → Type 0
AnswersTake limits start now bytes rest before after (Ok None) = LeavesTouches limits start now bytes rest before after
AnswersTake limits start now bytes rest before after (Ok (Some c)) = TakesWithin limits start bytes before after
AnswersTake limits start now bytes rest before after (Err halt) = TakesWithin limits start bytes before after

-- of the touches of an input's frames so many are left as those may take that stand in the bytes kept and those that may still be read
abbrev pub TouchesAhead : LimitNumbers → ReplicaState → ReplicaState → Option (List ℕ) → Option (List ℕ) → List ℕ → ℕ → ℕ → ℕ → Type 0
TouchesAhead limits start now (Some input) (Some ahead) kept room before after =
    (frames : List Frame) (stop : Front) → AreFrames limits (take limits.input input) frames stop
    → (more : List Frame) × AreFrames limits (kept ++ take room ahead) more stop × (after + frames_touches now more ≤ before + frames_touches start frames)
TouchesAhead limits start now (Some input) None kept room before after = ⊥
TouchesAhead limits start now None left kept room before after = ⊤
