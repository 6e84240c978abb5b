-- What a reply is, and what a frame leaves.
use Rattle.std.specs.Prelude.{◌≡◌, ◌⊎◌}
use Rattle.ew_model.specs.Kept.{ReplicaState}
use Rattle.peer_definitions.specs.declared.frame.Frame.{Frame}
use Rattle.peer_definitions.specs.declared.frame.Frame.TheVariants.{Events}
use Rattle.replica.specs.declared.took.Stopped.{Stopped}
use Rattle.replica.specs.Receiving.{StopsBetween}
use Rattle.peer_exchange.specs.declared.reply.Reply.{Reply}
use Rattle.peer_definitions.specs.Answering.{Answered}

-- the reply is what is answered, and the replica stands for what it stands for then
pub record IsReply (answered : Answered) (new : ReplicaState) (reply : Reply) : Type 0 where
  pub frames : reply.frames.items ≡ answered.frames
  pub end : reply.end ≡ answered.end
  pub state : new ≡ answered.state

-- What a frame leaves where memory is wanting: all as before, or, of events, what receiving left when it stopped between two
-- judgements.
abbrev pub IsLeftBy : Frame → ReplicaState → ReplicaState → Type 0
IsLeftBy (Events events) old new = (new ≡ old) ⊎ ((stopped : Stopped) × StopsBetween old events new stopped)
IsLeftBy f old new = new ≡ old
