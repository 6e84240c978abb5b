-- The event file in runs: events of one agent that follow one another and take one step stand in one record.
use Rattle.std.specs.Prelude.{ℕ, zero, suc, ◌+◌, ◌-◌, ◌^◌, Bool, true, false, not, ◌&&◌, ◌||◌, List, [], ◌∷◌, ◌++◌, length, flat_map, Option, Some, None, if◌then◌else◌, nat_le, nat_lt, ◌==◌, slice_get}
use Rattle.std.specs.List.{list_all, position_or_len}
use Rattle.std.specs.Option.{option_map_or}
use Rattle.ew_model.specs.declared.id.Id.{Id}
use Rattle.ew_model.specs.declared.event.Op.{Op}
use Rattle.ew_model.specs.declared.event.Op.TheVariants.{Ins, Del, Mark}
use Rattle.ew_model.specs.declared.event.Event.{Event}
use Rattle.ew_model.specs.Ids.{name_eq, id_eq}
use Rattle.ew_model.specs.Ancestors.{ids_of, is_held}
use Rattle.ew_model.specs.Bytes.{four_bytes, name_bytes}
use Rattle.ew_model.specs.Edits.{chain_of, insertions_at, deletions_at, back_deletions_at}
use Rattle.ew_model.specs.Writable.{agents_of}
use Rattle.file_words.specs.File.{file_start, with_digest}
use Rattle.file_words.specs.FileFaults.{Reader, done, stops, ◌>>=◌, byte, number, field, only, read_name, read_names, read_parents, read_end, is_scalar, open_agents}
use Rattle.file_words.specs.FileFaults.RecordFault.{AgentNumber, IdTwice, ParentCount, KindBad, RunJoin, RunLength, Scalar}
use Rattle.file_words.specs.FileFaults.Stop.{OverLimit}

-- ---- runs

-- what a run does: characters inserted at rising indices, deletions at one index or at falling ones, so many, or one mark
pub data RunOps : Type 0 where
  Insertions : (at : ℕ) (text : List ℕ) → RunOps
  Deletions : (at count : ℕ) → RunOps
  BackDeletions : (at count : ℕ) → RunOps
  OneMark : (label : List ℕ) → RunOps

-- how many operations these are
abbrev pub ops_count : RunOps → ℕ
ops_count (Insertions at text) = length text
ops_count (Deletions at count) = count
ops_count (BackDeletions at count) = count
ops_count (OneMark label) = 1

-- the operations one by one
abbrev pub ops_in : RunOps → List Op
ops_in (Insertions at text) = insertions_at at text
ops_in (Deletions at count) = deletions_at at count
ops_in (BackDeletions at count) = back_deletions_at at count
ops_in (OneMark label) = Mark label ∷ []

-- a run: the id and the parents of its first event, and what its events do
pub record FileRun : Type 0 where
  pub id : Id
  pub parents : List Id
  pub ops : RunOps

-- the events of a run: each has the next number, and the one before it as its only parent
abbrev pub run_events : FileRun → List Event
run_events r = chain_of r.id.agent r.id.seq r.parents (ops_in r.ops)

-- the run of one event; a deletion alone is of the kind that stays at its index
abbrev pub op_alone : Op → RunOps
op_alone (Ins at ch) = Insertions at (ch ∷ [])
op_alone (Del at) = Deletions at 1
op_alone (Mark label) = OneMark label

abbrev pub run_of_one : Event → FileRun
run_of_one e = record { id = e.id; parents = e.parents; ops = op_alone e.op }

-- the operation takes the step of those before it; a deletion alone takes one at its index or one below; a mark takes none
abbrev pub takes_step : RunOps → Op → Bool
takes_step (Insertions at text) (Ins i ch) = i == at + length text
takes_step (Insertions at text) (Del i) = false
takes_step (Insertions at text) (Mark label) = false
takes_step (Deletions at count) (Ins i ch) = false
takes_step (Deletions at count) (Del i) = i == at || (count == 1 && suc i == at)
takes_step (Deletions at count) (Mark label) = false
takes_step (BackDeletions at count) (Ins i ch) = false
takes_step (BackDeletions at count) (Del i) = i + count == at
takes_step (BackDeletions at count) (Mark label) = false
takes_step (OneMark label) op = false

-- the id of the run's last event
abbrev pub last_id : FileRun → Id
last_id r = record { agent = r.id.agent; seq = r.id.seq + ops_count r.ops - 1 }

-- the second id is the next one of the same agent
abbrev pub is_next_id : Id → Id → Bool
is_next_id x y = name_eq x.agent y.agent && y.seq == suc x.seq

-- there is one id, and it is this
abbrev pub are_only : List Id → Id → Bool
are_only [] x = false
are_only (y ∷ []) x = id_eq x y
are_only (y ∷ z ∷ ids) x = false

-- the event continues the run
abbrev pub continues : FileRun → Event → Bool
continues r e = is_next_id (last_id r) e.id && are_only e.parents (last_id r) && takes_step r.ops e.op

-- the operations with one more behind them, which takes their step
abbrev pub with_op : RunOps → Op → RunOps
with_op (Insertions at text) (Ins i ch) = Insertions at (text ++ ch ∷ [])
with_op (Insertions at text) (Del i) = Insertions at text
with_op (Insertions at text) (Mark label) = Insertions at text
with_op (Deletions at count) (Ins i ch) = Deletions at count
with_op (Deletions at count) (Del i) = if i == at then Deletions at (suc count) else BackDeletions at (suc count)
with_op (Deletions at count) (Mark label) = Deletions at count
with_op (BackDeletions at count) op = BackDeletions at (suc count)
with_op (OneMark label) op = OneMark label

-- the run with one event more, which continues it
abbrev pub longer : FileRun → Event → FileRun
longer r e = record { id = r.id; parents = r.parents; ops = with_op r.ops e.op }

-- the runs of events that stand behind those of a run: each event that continues the run before it is one of that run
abbrev pub runs_from : FileRun → List Event → List FileRun
runs_from r [] = r ∷ []
runs_from r (e ∷ later) = if continues r e then runs_from (longer r e) later else r ∷ runs_from (run_of_one e) later

-- the runs of a history: from its first event on, each as long as it can be
unfoldable pub file_runs : List Event → List FileRun
file_runs [] = []
file_runs (e ∷ later) = runs_from (run_of_one e) later

-- ---- their bytes

-- the kind, the index, the number of events, and the characters of insertions; or the label of a mark
abbrev pub run_ops_bytes : RunOps → List ℕ
run_ops_bytes (Insertions at text) = 0 ∷ four_bytes at ++ four_bytes (length text) ++ flat_map four_bytes text
run_ops_bytes (Deletions at count) = 1 ∷ four_bytes at ++ four_bytes count
run_ops_bytes (OneMark label) = 2 ∷ name_bytes label
run_ops_bytes (BackDeletions at count) = 3 ∷ four_bytes at ++ four_bytes count

-- a run, with numbers for its agent and for the parents of its first event; a parent's number is the place of an event
unfoldable pub run_record : List Event → FileRun → List ℕ
run_record history r =
    four_bytes (position_or_len (name_eq r.id.agent) (agents_of history))
    ++ four_bytes r.id.seq
    ++ length r.parents ∷ flat_map (λ p. four_bytes (position_or_len (id_eq p) (ids_of history))) r.parents
    ++ run_ops_bytes r.ops

-- all of the file in runs before its digest
unfoldable pub file2_content : List Event → List ℕ
file2_content history = file_start 2 history ++ flat_map (run_record history) (file_runs history)

-- the file in runs of a list of events
unfoldable pub file2_of : List Event → List ℕ
file2_of history = with_digest (file2_content history)

-- ---- reading

-- so many characters behind these
unfoldable pub read_text : List ℕ → ℕ → Reader (List ℕ)
read_text text zero = done text
read_text text (suc n) = do
  ch ← field number (only is_scalar) Scalar
  read_text (text ++ ch ∷ []) n

-- one mark by its label
abbrev pub read_one_mark : Reader RunOps
read_one_mark = do
  label ← read_name
  done (OneMark label)

-- the first operation of a kind, at an index; which character an insertion has makes no difference to a run
abbrev pub first_op : ℕ → ℕ → Op
first_op kind at = if kind == 0 then Ins at 0 else Del at

-- the event continues the run before it, if there is one
abbrev pub joins : Option FileRun → Event → Bool
joins last e = option_map_or (λ r. continues r e) last false

-- the indices that so many operations of a kind take, from an index on, are numbers of 32 bits
abbrev pub indices_fit : ℕ → ℕ → ℕ → Bool
indices_fit kind at count = if kind == 0 then nat_le (at + count) (2 ^ 32) else if kind == 3 then nat_le count (suc at) else true

-- so many events of the kind: at least one, two at falling indices; no more than are left; with numbers and indices of 32 bits
abbrev pub may_be_count : ℕ → Id → ℕ → ℕ → ℕ → Bool
may_be_count left x kind at count =
    nat_lt (if kind == 3 then 1 else 0) count && nat_le count left && nat_le (x.seq + count) (2 ^ 32) && indices_fit kind at count

-- so many ids of an agent, from a number on
abbrev pub ids_from : List ℕ → ℕ → ℕ → List Id
ids_from agent n zero = []
ids_from agent n (suc count) = record { agent = agent; seq = n } ∷ ids_from agent (n + 1) count

-- no event has one of so many ids, from this one on
abbrev pub are_new : List Event → Id → ℕ → Bool
are_new before x count = list_all (λ y. not (is_held before y)) (ids_from x.agent x.seq count)

-- what the events of a run do, by its kind
abbrev pub read_ops_of : ℕ → ℕ → ℕ → Reader RunOps
read_ops_of kind at count =
    if kind == 0 then (do
      text ← read_text [] count
      done (Insertions at text))
    else if kind == 1 then done (Deletions at count)
    else done (BackDeletions at count)

-- the kind; a mark's label, or the index, which may not continue the run before, and the number of events, all of them new
unfoldable pub read_run_ops : List Event → Option FileRun → ℕ → Id → List Id → Reader RunOps
read_run_ops before last left x parents = do
  kind ← field byte (only (λ kind. nat_lt kind 4)) KindBad
  if kind == 2 then read_one_mark else do
    at ← field number (only (λ at. not (joins last (record { id = x; parents = parents; op = first_op kind at })))) RunJoin
    count ← field (field number (only (may_be_count left x kind at)) RunLength) (only (are_new before x)) IdTwice
    read_ops_of kind at count

-- the record of a run behind another one, where so many events are left
unfoldable pub read_run_record : List (List ℕ) → List Event → Option FileRun → ℕ → Reader FileRun
read_run_record agents before last left = do
  agent ← field number (slice_get (open_agents agents before)) AgentNumber
  id ← field number (λ seq. only (λ x. not (is_held before x)) (record { agent = agent; seq = seq })) IdTwice
  count ← field byte (only (λ n. nat_le n 16)) ParentCount
  parents ← read_parents (ids_of before) [] count
  ops ← read_run_ops before last left id parents
  done (record { id = id; parents = parents; ops = ops })

-- records until none of so many events is left; there are at most so many records, since each has an event
unfoldable pub read_runs : List (List ℕ) → List Event → Option FileRun → ℕ → ℕ → Reader (List Event)
read_runs agents before last left zero = done before
read_runs agents before last zero (suc most) = done before
read_runs agents before last (suc left) (suc most) = do
  r ← read_run_record agents before last (suc left)
  read_runs agents (before ++ run_events r) (Some r) (suc left - ops_count r.ops) most

-- at most so many events in runs, between the version and the digest
unfoldable pub read_run_events : ℕ → Reader (List Event)
read_run_events most = do
  agents ← number >>= read_names []
  count ← number
  if nat_lt most count then stops (OverLimit count) else do
    events ← read_runs agents [] None count count
    read_end agents events
