-- What is read of a file of either version.
use Rattle.std.specs.Prelude.{ℕ, List, [], None, ◌==◌, if◌then◌else◌, nat_lt}
use Rattle.ew_model.specs.declared.event.Event.{Event}
use Rattle.file_words.specs.FileFaults.{Reader, done, stops, ◌>>=◌, number, read_names, read_records, read_end}
use Rattle.file_words.specs.FileFaults.Stop.{OverLimit}
use Rattle.file_words.specs.FileRuns.{read_runs}
use Rattle.event_file.specs.declared.reader.Records.{Records}
use Rattle.event_file.specs.declared.reader.Records.TheVariants.{Events, Runs}
use Rattle.event_file.specs.Rest.{Rest}

-- what is still to come
abbrev pub rest_of : Records → Rest
rest_of (Events rest) = rest
rest_of (Runs runs) = runs.rest

-- the agents and the number of events, at most so many
abbrev pub read_start : ℕ → Reader (List (List ℕ) × ℕ)
read_start most = do
  agents ← number >>= read_names []
  count ← number
  if nat_lt most count then stops (OverLimit count) else done (agents, count)

-- so many events of these agents, as the version writes them, and the end behind them
abbrev pub records_of : ℕ → List (List ℕ) → ℕ → Reader (List Event)
records_of version agents count = (if version == 1 then read_records agents [] count else read_runs agents [] None count count) >>= read_end agents
