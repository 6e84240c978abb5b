-- What receiving leaves, and what is told of it.
use Rattle.std.specs.Prelude.{◌≡◌, ℕ, true, List, ◌++◌, length}
use Rattle.ew_model.specs.declared.event.Event.{Event}
use Rattle.ew_model.specs.Arrival.{Outcome, judgements, desk_of, arrive}
use Rattle.ew_model.specs.Cuts.{latest_cut}
use Rattle.ew_model.specs.Kept.{ReplicaState}
use Rattle.history_definitions.specs.Tallies.{accepted_in, repeats_in, refused_in}
use Rattle.replica.specs.declared.took.Took.{Took}
use Rattle.replica.specs.declared.took.Stopped.{Stopped}
use Rattle.replica.specs.Fronts.{IsFront}
use Rattle.history_definitions.specs.Outcomes.{state_at}

-- The answers are counted, how many wait now, and the greatest critical cut that isn't above the number held before.
pub record Tells (before : ℕ) (o : Outcome) (took : Took) : Type 0 where
  pub accepted : took.accepted ≡ accepted_in o.answers
  pub waiting : took.waiting ≡ length o.desk.waiting
  pub repeats : took.repeats ≡ repeats_in o.answers
  pub refused : took.refused.items ≡ refused_in o.answers
  pub cut : took.cut ≡ latest_cut o.desk.held before

-- the replica comes to just this outcome, which is told
pub record ComesTo (old new : ReplicaState) (o : Outcome) (took : Took) : Type 0 where
  pub state : new ≡ state_at old.limits o
  pub told : Tells (length old.held) o took

-- all is judged
abbrev pub Receives : ReplicaState → List Event → ReplicaState → Took → Type 0
Receives old events new took = ComesTo old new (arrive old.limits old.held old.waiting events) took

-- Some judgements were made and no other. What is held is a front of what would be, were all judged.
pub record StandsBetween (old : ReplicaState) (events : List Event) (new : ReplicaState) : Type 0 where
  pub number : ℕ
  pub state : new ≡ state_at old.limits (judgements old.limits true number (desk_of old.held old.waiting events))
  pub front : IsFront new.held (arrive old.limits old.held old.waiting events).desk.held

-- Some judgements were made and no other. What was answered by them is told, and the events that are still to come are handed
-- back, in order: the events received are those that were settled and these. What is held is a front of what would be, were all judged.
pub record StopsBetween (old : ReplicaState) (events : List Event) (new : ReplicaState) (stopped : Stopped) : Type 0 where
  pub number : ℕ
  pub comes : ComesTo old new (judgements old.limits true number (desk_of old.held old.waiting events)) stopped.took
  pub rest : stopped.rest.items ≡ (judgements old.limits true number (desk_of old.held old.waiting events)).desk.coming
  pub settled : List Event
  pub whole : events ≡ settled ++ stopped.rest.items
  pub front : IsFront new.held (arrive old.limits old.held old.waiting events).desk.held
