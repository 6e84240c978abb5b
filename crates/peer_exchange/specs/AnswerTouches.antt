-- At most how often walkers are touched by the answer to a frame.
use Rattle.std.specs.Prelude.{ℕ}
use Rattle.ew_model.specs.Kept.{ReplicaState}
use Rattle.ew_model.specs.Rounds.{most_touches}
use Rattle.peer_definitions.specs.declared.frame.Frame.{Frame}
use Rattle.peer_definitions.specs.declared.frame.Frame.TheVariants.{Events}

-- those of receiving the events of a frame; no other frame is walked for
abbrev pub answer_touches : ReplicaState → Frame → ℕ
answer_touches r (Events events) = most_touches r.limits r.held r.waiting events
answer_touches r f = 0
