-- A run whose events are handed out one at a time.
use Rattle.std.specs.Prelude.{◌≡◌, ℕ, suc, ◌+◌, ◌<◌, ◌≤◌, ◌^◌, true, List, length, [], ◌∷◌, Option, Some, None}
use Rattle.std.specs.List.{AllByRecursion}
use Rattle.std.specs.Option.{option_map}
use Rattle.ew_model.specs.declared.id.Id.{Id}
use Rattle.ew_model.specs.declared.event.Op.{Op}
use Rattle.ew_model.specs.declared.event.Event.{Event}
use Rattle.ew_model.specs.Edits.{chain_of}
use Rattle.file_words.specs.FileFaults.{is_scalar}
use Rattle.file_words.specs.FileRuns.{RunOps, FileRun, ops_count}
use Rattle.file_words.specs.FileRuns.RunOps.{Insertions, Deletions, BackDeletions, OneMark}
use Rattle.history_definitions.specs.Chains.{next_id, event_behind}

-- a run that was read, without its parents; the id of the event that was handed out last; and what the events behind that do
pub record Opened : Type 0 where
  pub run : FileRun
  pub last : Id
  pub rest : List Op

-- the operation of the next event is handed out
pub record IsStepOf (op : Op) (old new : Opened) : Type 0 where
  pub next : old.rest ≡ op ∷ new.rest
  pub same : new.run ≡ old.run
  pub last : new.last ≡ next_id old.last

-- the run that was read last has a next event, which is handed out
pub record IsNextOf (e : Event) (old new : Option Opened) : Type 0 where
  pub first : Opened
  pub second : Opened
  pub old_is : old ≡ Some first
  pub new_is : new ≡ Some second
  pub event : e ≡ event_behind first.last e.op
  pub step : IsStepOf e.op first second

-- the same of the operation of the next event
pub record IsOpOf (op : Op) (old new : Option Opened) : Type 0 where
  pub first : Opened
  pub second : Opened
  pub old_is : old ≡ Some first
  pub new_is : new ≡ Some second
  pub step : IsStepOf op first second

-- the id of the same agent, so many numbers behind this one
abbrev pub id_behind : ℕ → Id → Id
id_behind n x = record { agent = x.agent; seq = x.seq + n }

-- the operations of all events behind are handed out at once
pub record IsRestOf (ops : List Op) (old new : Opened) : Type 0 where
  pub all : old.rest ≡ ops
  pub done : new.rest ≡ []
  pub same : new.run ≡ old.run
  pub last : new.last ≡ id_behind (length ops) old.last

-- the same of the run that was read last
pub record IsRestIn (ops : List Op) (old new : Option Opened) : Type 0 where
  pub first : Opened
  pub second : Opened
  pub old_is : old ≡ Some first
  pub new_is : new ≡ Some second
  pub step : IsRestOf ops first second

-- the run that was read last, if there is one
abbrev pub run_of : Option Opened → Option FileRun
run_of open_run = option_map (λ (o : Opened). o.run) open_run

-- the id that was handed out last, if there is one
abbrev pub last_of : Option Opened → Option Id
last_of open_run = option_map (λ (o : Opened). o.last) open_run

-- the events of the run that are still to be handed out
abbrev pub events_behind : Option Opened → List Event
events_behind None = []
events_behind (Some o) = chain_of o.last.agent (suc o.last.seq) (o.last ∷ []) o.rest

-- there is an event in the run, no more than are left, and their numbers are of 32 bits
pub record IsSoundRun (r : FileRun) (left : ℕ) : Type 0 where
  pub some : 0 < ops_count r.ops
  pub few : ops_count r.ops ≤ left
  pub fits : r.id.seq + ops_count r.ops ≤ 2 ^ 32

-- each character is a scalar, and each index a number of 32 bits: none of those that fall is below 0
abbrev pub CanGoOn : RunOps → Type 0
CanGoOn (Insertions at text) = (at + length text ≤ 2 ^ 32) × AllByRecursion (λ ch. is_scalar ch ≡ true) text
CanGoOn (Deletions at count) = Unit {0}
CanGoOn (BackDeletions at count) = count ≤ suc at
CanGoOn (OneMark label) = Unit {0}
