-- What is still to come of a file.
use Rattle.std.specs.Prelude.{◌≡◌, ℕ, suc, ◌+◌, List, [], ◌∷◌, ◌++◌, length, drop, Option, Some, None, Result, Ok, Err}
use Rattle.ew_model.specs.declared.id.Id.{Id}
use Rattle.ew_model.specs.declared.event.Op.{Op}
use Rattle.ew_model.specs.declared.event.Event.{Event}
use Rattle.ew_model.specs.Edits.{chain_of}
use Rattle.file_words.specs.FileFaults.{FileFinding, go_on, finding_of, read_records, read_end}
use Rattle.file_words.specs.FileFaults.FileFinding.{IsFile, Short, BadMagic, BadVersion, BadDigest, BadRecord, TooMany}
use Rattle.file_words.specs.FileRuns.{FileRun, read_runs}
use Rattle.history_definitions.specs.Chains.{event_behind}
use Rattle.event_file.specs.declared.fault.FileFault.{FileFault}
use Rattle.event_file.specs.Faults.{IsFault}
use Rattle.event_file.specs.OpenRuns.{Opened, id_behind, run_of, last_of, events_behind}
use Rattle.event_file.specs.Progress.{Known}

-- what a reader has still to hand out: so many events, and what is found of them and of the end behind them; and the id of the
-- event that was handed out last, if one was
pub record Rest : Type 0 where
  pub records : ℕ
  pub found : FileFinding
  pub last : Option Id

-- the same finding, without the first of its events
abbrev pub beyond : ℕ → FileFinding → FileFinding
beyond n (IsFile events) = IsFile (drop n events)
beyond n (Short len) = Short len
beyond n BadMagic = BadMagic
beyond n (BadVersion version) = BadVersion version
beyond n (BadDigest stored other) = BadDigest stored other
beyond n (BadRecord offset kind) = BadRecord offset kind
beyond n (TooMany count) = TooMany count

-- the same finding, with more events in front of its own
abbrev pub in_front : List Event → FileFinding → FileFinding
in_front before (IsFile events) = IsFile (before ++ events)
in_front before (Short len) = Short len
in_front before BadMagic = BadMagic
in_front before (BadVersion version) = BadVersion version
in_front before (BadDigest stored other) = BadDigest stored other
in_front before (BadRecord offset kind) = BadRecord offset kind
in_front before (TooMany count) = TooMany count

-- what is found of so many records behind those of these events, in a content of that many bytes
abbrev pub rest_found : List (List ℕ) → List Event → ℕ → ℕ → List ℕ → FileFinding
rest_found agents before records len bytes = beyond (length before) (finding_of len (go_on (read_records agents before records bytes) (read_end agents)))

-- the next event of the rest, its end, or its fault; only an event changes what is still to come
abbrev pub IsNext : Result (Option Event) FileFault → Rest → Rest → Type 0
IsNext (Ok (Some e)) old new = (old.found ≡ in_front (e ∷ []) new.found) × (old.records ≡ suc new.records) × (new.last ≡ Some e.id)
IsNext (Ok None) old new = (old.found ≡ IsFile []) × (old.records ≡ 0) × (new ≡ old)
IsNext (Err fault) old new = IsFault fault old.found × (new ≡ old)

-- the next event of the rest goes on from the last one, with this operation, and is handed out
pub record GoesOnBy (op : Op) (old new : Rest) : Type 0 where
  pub last : Id
  pub is_last : old.last ≡ Some last
  pub next : IsNext (Ok (Some (event_behind last op))) old new

-- the next events of the rest go on from the last one, each from the one before it, with these operations, and all are handed out
pub record GoOnBy (ops : List Op) (old new : Rest) : Type 0 where
  pub last : Id
  pub is_last : old.last ≡ Some last
  pub found : old.found ≡ in_front (chain_of last.agent (suc last.seq) (last ∷ []) ops) new.found
  pub records : old.records ≡ length ops + new.records
  pub new_last : new.last ≡ Some (id_behind (length ops) last)

-- what is found of records of runs behind those of these events and this run, in a content of that many bytes
abbrev pub runs_found : List (List ℕ) → List Event → Option FileRun → ℕ → ℕ → List ℕ → FileFinding
runs_found agents before last left len bytes = beyond (length before) (finding_of len (go_on (read_runs agents before last left left bytes) (read_end agents)))

-- what is still to come of a file in runs: the events of the run that was read last, and those of records that aren't read yet
abbrev pub run_rest : Known → Option Opened → ℕ → ℕ → List ℕ → Rest
run_rest known open_run left len bytes = record {
  records = length (events_behind open_run) + left;
  found = in_front (events_behind open_run) (runs_found known.agents known.events (run_of open_run) left len bytes);
  last = last_of open_run;
}

-- what a reader of a file in runs has still to hand out, and those of its events that are of the run that was read last
pub record RunsRest : Type 0 where
  pub rest : Rest
  pub behind : List Event

-- the same of what is known, the run that was read last, how many events and bytes are left, and the bytes
abbrev pub runs_rest : Known → Option Opened → ℕ → ℕ → List ℕ → RunsRest
runs_rest known open_run left len bytes = record { rest = run_rest known open_run left len bytes; behind = events_behind open_run }
