-- What is answered to a frame.
use Rattle.std.specs.Prelude.{Bool, true, false, List, [], ◌∷◌, ◌++◌, length, map, find, Option, Some, None, option_map}
use Rattle.ew_model.specs.declared.id.Id.{Id}
use Rattle.ew_model.specs.declared.event.Event.{Event}
use Rattle.ew_model.specs.declared.verdict.Refusal.{Refusal}
use Rattle.ew_model.specs.declared.verdict.Refusal.TheVariants as why
use Rattle.ew_model.specs.Arrival.{Outcome, arrive}
use Rattle.ew_model.specs.Kept.{ReplicaState}
use Rattle.ew_model.specs.Limits.{LimitNumbers}
use Rattle.history_definitions.specs.Missing.{missing}
use Rattle.history_definitions.specs.Summary.{summary_of}
use Rattle.history_definitions.specs.Tallies.{accepted_in, repeats_in, refused_in}
use Rattle.peer_definitions.specs.declared.frame.Frame.{Frame}
use Rattle.peer_definitions.specs.declared.frame.Frame.TheVariants.{Have, Events, Done, Took, Clash, Bye}
use Rattle.history_definitions.specs.Outcomes.{state_at}
use Rattle.peer_definitions.specs.declared.end.End.{End}
use Rattle.peer_definitions.specs.declared.end.End.TheVariants as end
use Rattle.peer_definitions.specs.Pieces.{frame_room, pieces}

-- what is answered: frames, in order, and how the session ends, if it does; and what the replica stands for then
pub record Answered : Type 0 where
  pub frames : List Frame
  pub end : Option End
  pub state : ReplicaState

-- what is asked for a replica: how many events of each agent it holds
abbrev pub question : ReplicaState → Frame
question r = Have (summary_of r.held)

-- frames of the events, in order, each full but the last
abbrev pub event_frames : LimitNumbers → List Event → List Frame
event_frames limits events = map Events (pieces (frame_room limits) events)

-- another event is held or waits under the id
abbrev pub is_clash : Refusal → Bool
is_clash why.Clash = true
is_clash reason = false

-- the id of the first event that was refused for that
abbrev pub first_clash : List (Id × Refusal) → Option Id
first_clash refused = option_map (λ (r : Id × Refusal). r.0) (find (λ (r : Id × Refusal). is_clash r.1) refused)

-- how many events were appended, how many wait now, how many were there before, and how many were refused
abbrev pub took_of : Outcome → Frame
took_of o = Took (accepted_in o.answers) (length o.desk.waiting) (repeats_in o.answers) (length (refused_in o.answers))

-- the counts are told, or a clash instead
abbrev pub frame_for : Frame → Option Id → Frame
frame_for took None = took
frame_for took (Some x) = Clash x

-- Received events came to this: it is told in a frame, and a clash ends the session.
abbrev pub told_of : LimitNumbers → Outcome → Answered
told_of limits o =
    let clash = first_clash (refused_in o.answers) in
    record { frames = frame_for (took_of o) clash ∷ []; end = option_map end.Clash clash; state = state_at limits o }

-- What is answered to a frame. A Have gets the events that it lacks, and Done after them. Events are received, and what became
-- of them is told. A Bye gets a Bye, and ends the session; a Clash ends it.
abbrev pub answer_to : ReplicaState → Frame → Answered
answer_to r (Have counts) = record { frames = event_frames r.limits (missing r.held counts) ++ Done ∷ []; end = None; state = r }
answer_to r (Events events) = told_of r.limits (arrive r.limits r.held r.waiting events)
answer_to r Done = record { frames = []; end = None; state = r }
answer_to r (Took accepted waiting repeats refused) = record { frames = []; end = None; state = r }
answer_to r (Clash x) = record { frames = []; end = Some (end.Clash x); state = r }
answer_to r Bye = record { frames = Bye ∷ []; end = Some end.Bye; state = r }

-- the frame brings events, which are received
abbrev pub brings_events : Frame → Bool
brings_events (Events events) = true
brings_events f = false
