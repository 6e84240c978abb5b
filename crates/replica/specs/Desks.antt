-- Judging in the program: each received event, and each waiting one that is ready, without a look at its index.
use Rattle.std.specs.Prelude.{◌≡◌, ℕ, ◌+◌, ◌≤◌, ◌==◌, Bool, true, false, ◌&&◌, if◌then◌else◌, List, [], ◌∷◌, ◌++◌, drop, length, Option, Some, None, option_map}
use Rattle.ew_model.specs.declared.id.Id.{Id}
use Rattle.ew_model.specs.declared.event.Op.{Op}
use Rattle.ew_model.specs.declared.event.Event.{Event}
use Rattle.ew_model.specs.declared.verdict.Refusal.{Refusal}
use Rattle.ew_model.specs.declared.verdict.Refusal.TheVariants as why
use Rattle.ew_model.specs.Arrival as model
use Rattle.ew_model.specs.Arrival.{Judgement, next_judgement}
use Rattle.ew_model.specs.Kept.{AreFresh, ReplicaState}
use Rattle.ew_model.specs.Limits.{LimitNumbers}
use Rattle.ew_model.specs.Rounds.{is_out_of_range}
use Rattle.ew_model.specs.Verdicts.{Ruling, is_verdict_good}
use Rattle.ew_model.specs.Verdicts.Ruling.{Repeat, Clash, SelfParent, TooManyParents, ParentsUnsorted, Unknown, PoolFull, NotReduced, Skipped, GraphFull, OutOfRange, Good}
use Rattle.replica.specs.declared.answer.Answer.{Answer}
use Rattle.replica.specs.declared.answer.Answer.TheVariants as answer
use Rattle.replica.specs.declared.desk.Desk.{Desk}
use Rattle.replica.specs.Counting.{Counted}
use Rattle.replica.specs.Offering.{StandAt}
use Rattle.event_graph.specs.GoingOn.{chain_behind}
use Rattle.history_definitions.specs.Chains.{last_id}
use Rattle.history_definitions.specs.Tallies.{repeats_in, refused_in}
use Rattle.waiting_pool.specs.Waiting.{Waiting, events_of}
use Rattle.waiting_pool.specs.Knowing.{IsBehind}

-- what the program answers where the ruling is this
abbrev pub answer_by : Ruling → Answer
answer_by Good = answer.Held
answer_by (Unknown p) = answer.Waits
answer_by Repeat = answer.Repeat
answer_by Clash = answer.Refused why.Clash
answer_by SelfParent = answer.Refused why.SelfParent
answer_by TooManyParents = answer.Refused why.TooManyParents
answer_by ParentsUnsorted = answer.Refused why.ParentsUnsorted
answer_by PoolFull = answer.Refused why.PoolFull
answer_by NotReduced = answer.Refused why.NotReduced
answer_by Skipped = answer.Refused why.Skipped
answer_by GraphFull = answer.Refused why.GraphFull
answer_by (OutOfRange len) = answer.Refused (why.OutOfRange len)

-- An event that would be held is out of range, if it is the one known to be: it would come behind so many events, and the text at
-- its parents has this length.
abbrev pub known_at : Option (ℕ × ℕ) → ℕ → Answer → Answer
known_at (Some out) count answer.Held = if count == out.0 then answer.Refused (why.OutOfRange out.1) else answer.Held
known_at out count given = given

-- a good event is refused where no more may be held
abbrev pub sized : Bool → Answer → Answer
sized is_full answer.Held = if is_full then answer.Refused why.GraphFull else answer.Held
sized is_full given = given

-- an event that would wait is refused where no more may
abbrev pub pooled : Bool → Answer → Answer
pooled is_full answer.Waits = if is_full then answer.Refused why.PoolFull else answer.Waits
pooled is_full given = given

-- the events held after the answer
abbrev pub held_by : Answer → Event → List Event → List Event
held_by answer.Held e held = held ++ e ∷ []
held_by given e held = held

-- the events that wait after it
abbrev pub waiting_by : Answer → Event → List Event → List Event
waiting_by answer.Waits e waiting = waiting ++ e ∷ []
waiting_by given e waiting = waiting

-- the refusal that it tells, with the event's id
abbrev pub refused_at : Id → Answer → List (Id × Refusal)
refused_at x (answer.Refused reason) = (x, reason) ∷ []
refused_at x given = []

-- one for an event that was there before
abbrev pub repeats_at : Answer → ℕ
repeats_at answer.Repeat = 1
repeats_at given = 0

-- the answer says that an index is out of range
abbrev pub is_stop : Answer → Bool
is_stop (answer.Refused (why.OutOfRange len)) = true
is_stop given = false

-- the desk where these are held, these wait, and of the received events so many were judged
abbrev pub desk_at : List Event → List Event → List Event → Counted → model.Desk
desk_at held waiting events c = record { held = held; waiting = waiting; coming = drop c.judged events; is_settling = c.settling }

-- the desk of the definitions that the program's stands for
abbrev pub desk_as : List Event → List Event → Desk → model.Desk
desk_as held events d = desk_at held (events_of d.pool) events d.progress

-- a judgement without the row for the index, but that the event known to be out of range is answered so
abbrev pub with_known : Option (ℕ × ℕ) → model.Desk → Judgement → Judgement
with_known None d j = j
with_known (Some out) d j =
    if is_verdict_good j.answer.ruling && (length d.held == out.0) then
    record {
      desk = record { held = d.held; waiting = j.desk.waiting; coming = j.desk.coming; is_settling = true };
      answer = record { event = j.answer.event; ruling = OutOfRange out.1 };
    }
    else j

-- the next such judgement
abbrev pub next_known : LimitNumbers → Option (ℕ × ℕ) → model.Desk → Option Judgement
next_known limits out d = option_map (with_known out d) (next_judgement limits false d)

-- these answers were counted
pub record Counts (answers : List model.Answer) (old new : Counted) : Type 0 where
  pub repeats : new.repeats ≡ old.repeats + repeats_in answers
  pub refused : new.refused ≡ old.refused ++ refused_in answers

-- the next judgement was made and counted; no answer where there is none to make
abbrev pub Judges : LimitNumbers → Option (ℕ × ℕ) → (old new : model.Desk) → (before after : Counted) → Option Answer → Type 0
Judges limits out old new before after None = (next_known limits out old ≡ None) × (new ≡ old) × (after ≡ before)
Judges limits out old new before after (Some given) =
    (j : Judgement) × (next_known limits out old ≡ Some j) × (new ≡ j.desk) × (given ≡ answer_by j.answer.ruling) × Counts (j.answer ∷ []) before after

-- no more events were judged than there are, and no more were there before
pub record IsBegun (events : List Event) (c : Counted) : Type 0 where
  pub within : c.judged ≤ length events
  pub repeats : c.repeats ≤ c.judged

-- No waiting event has an id that is held, no list is too long, what is known of the waiting events holds, and there are no more
-- repeats than events were judged.
pub record IsDesk (limits : LimitNumbers) (held events : List Event) (pool : Waiting) (c : Counted) : Type 0 where
  pub fresh : AreFresh held (events_of pool)
  pub limit : pool.limit ≡ limits.waiting
  pub behind : IsBehind held pool
  pub few : length held ≤ limits.events
  pub begun : IsBegun events c

-- The next received events have these operations. The first goes on from the last one held, each further one from the one before it.
-- Nothing waits, so many more may be held, and no event is known to be out of range.
pub record AreNextHeld (limits : LimitNumbers) (out : Option (ℕ × ℕ)) (held events : List Event) (d : Desk) (ops : List Op) : Type 0 where
  pub last : Id
  pub held_last : last_id held ≡ Some last
  pub there : StandAt events d.progress.judged (chain_behind last ops)
  pub none_waits : events_of d.pool ≡ []
  pub room : length held + length ops ≤ limits.events
  pub none_out : out ≡ None

-- Such judgements lead from a desk to another, and none of them answers OutOfRange.
pub data Leads (limits : LimitNumbers) (out : Option (ℕ × ℕ)) (from : model.Desk) : List model.Answer → model.Desk → Type 0 where
  Here : Leads limits out from [] from
  Further : (answers : List model.Answer) (d : model.Desk) (j : Judgement) → Leads limits out from answers d → next_known limits out d ≡ Some j → is_out_of_range j.answer.ruling ≡ false
      → Leads limits out from (answers ++ j.answer ∷ []) j.desk

-- they lead from one desk to another, and were counted
pub record LeadsOn (limits : LimitNumbers) (out : Option (ℕ × ℕ)) (from to : model.Desk) (before after : Counted) : Type 0 where
  pub answers : List model.Answer
  pub way : Leads limits out from answers to
  pub counted : Counts answers before after

-- they lead on to where none is left to make
pub record LeadsToEnd (limits : LimitNumbers) (out : Option (ℕ × ℕ)) (from to : model.Desk) (before after : Counted) : Type 0 where
  pub answers : List model.Answer
  pub way : Leads limits out from answers to
  pub last : next_known limits out to ≡ None
  pub counted : Counts answers before after

-- or the next one answers OutOfRange, and leaves this desk
pub record LeadsToStop (limits : LimitNumbers) (out : Option (ℕ × ℕ)) (from to : model.Desk) (before after : Counted) : Type 0 where
  pub answers : List model.Answer
  pub there : model.Desk
  pub stop : Judgement
  pub way : Leads limits out from answers there
  pub next : next_known limits out there ≡ Some stop
  pub tells : is_out_of_range stop.answer.ruling ≡ true
  pub left : to ≡ stop.desk
  pub counted : Counts (answers ++ stop.answer ∷ []) before after

-- either, by whether a judgement told an index out of range
abbrev pub LeadsTo : LimitNumbers → Option (ℕ × ℕ) → (from to : model.Desk) → (before after : Counted) → Bool → Type 0
LeadsTo limits out from to before after true = LeadsToStop limits out from to before after
LeadsTo limits out from to before after false = LeadsToEnd limits out from to before after

-- the desk where a replica receives events
abbrev pub desk_of_replica : ReplicaState → List Event → Counted → model.Desk
desk_of_replica r events c = desk_at r.held r.waiting events c
