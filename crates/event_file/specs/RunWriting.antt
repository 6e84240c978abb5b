-- A file in runs, as the events of a history are put into it.
use Rattle.std.specs.Prelude.{◌≡◌, ℕ, ◌-◌, Bool, false, List, [], ◌++◌, length, take, flat_map, Option, Some, None, slice_get}
use Rattle.std.specs.Option.{option_map, option_map_or}
use Rattle.ew_model.specs.declared.event.Op.{Op}
use Rattle.ew_model.specs.declared.event.Event.{Event}
use Rattle.file_words.specs.File.{file_start}
use Rattle.file_words.specs.FileRuns.{RunOps, FileRun, takes_step, run_ops_bytes, file_runs, run_record}
use Rattle.event_file.specs.Places.{agent_place, places_of}

-- a run by places: that of its agent, the number of its first event, and what its events do
pub record PlacedRun : Type 0 where
  pub agent : ℕ
  pub seq : ℕ
  pub ops : RunOps

-- a file on its way: its bytes up to what the events of the last run do, that run, and how many events were put
pub record RunsPut : Type 0 where
  pub bytes : List ℕ
  pub last : Option PlacedRun
  pub count : ℕ

-- no event is put behind the start of the file
abbrev pub none_put : List ℕ → RunsPut
none_put start = record { bytes = start; last = None; count = 0 }

-- what the events of the last run do
abbrev pub last_ops : Option PlacedRun → List ℕ
last_ops None = []
last_ops (Some r) = run_ops_bytes r.ops

-- the bytes with all of the last run
abbrev pub all_put : RunsPut → List ℕ
all_put w = w.bytes ++ last_ops w.last

-- an operation takes the step of the last run
abbrev pub takes_last : RunsPut → Op → Bool
takes_last w op = option_map_or (λ r. takes_step r.ops op) w.last false

-- the run by the place of its agent
abbrev pub placed : List Event → FileRun → PlacedRun
placed history r = record { agent = agent_place history r.id.agent; seq = r.id.seq; ops = r.ops }

-- the last of the runs, if there is one
abbrev pub last_run : List FileRun → Option FileRun
last_run runs = slice_get runs (length runs - 1)

-- The first events of a history are put, so many: the bytes are those before the records, and the records of the runs that these
-- events make.
pub record ArePut (history : List Event) (n : ℕ) (w : RunsPut) : Type 0 where
  pub counted : w.count ≡ n
  pub written : all_put w ≡ file_start 2 history ++ flat_map (run_record history) (file_runs (take n history))
  pub last : w.last ≡ option_map (placed history) (last_run (file_runs (take n history)))

-- the event at a position of a history has the number and does the operation, and its agent and its parents have these places
pub record IsNamed (history : List Event) (position : ℕ) (agent seq : ℕ) (parents : List ℕ) (op : Op) : Type 0 where
  pub event : Event
  pub there : slice_get history position ≡ Some event
  pub agent_is : agent ≡ agent_place history event.id.agent
  pub seq_is : seq ≡ event.id.seq
  pub parents_are : parents ≡ places_of history event.parents
  pub op_is : op ≡ event.op
