-- What a replica stands for when receiving comes to an outcome.
use Rattle.ew_model.specs.Arrival.{Outcome}
use Rattle.ew_model.specs.Kept.{ReplicaState}
use Rattle.ew_model.specs.Limits.{LimitNumbers}

-- what a replica of these limits stands for when it comes to an outcome
abbrev pub state_at : LimitNumbers → Outcome → ReplicaState
state_at limits o = record { limits = limits; held = o.desk.held; waiting = o.desk.waiting }
