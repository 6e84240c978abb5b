-- The last run of a file on its way, and the next event: words of private contracts. (No public contract cites this.)
use Rattle.std.specs.Prelude.{ℕ, suc, ◌+◌, ◌≤◌, Bool, false, ◌&&◌, List, [], ◌∷◌, ◌++◌, length, flat_map, Option, Some, None, ◌==◌}
use Rattle.std.specs.Option.{option_map, option_map_or}
use Rattle.ew_model.specs.declared.event.Op.{Op}
use Rattle.ew_model.specs.Bytes.{four_bytes}
use Rattle.file_words.specs.FileRuns.{ops_count, op_alone, takes_step, with_op}
use Rattle.event_file.specs.RunWriting.{PlacedRun, RunsPut, all_put}

-- the last run has no more events than were put
abbrev pub HasAtMost : ℕ → Option PlacedRun → Type 0
HasAtMost count None = Unit {0}
HasAtMost count (Some r) = ops_count r.ops ≤ count

-- a record up to its parents, with the places of its agent and of these
abbrev pub head_of : ℕ → ℕ → List ℕ → List ℕ
head_of agent seq parents = four_bytes agent ++ four_bytes seq ++ length parents ∷ flat_map four_bytes parents

-- there is one place, and it is that of the last of so many events
abbrev pub are_only_last : ℕ → List ℕ → Bool
are_only_last count [] = false
are_only_last count (p ∷ []) = suc p == count
are_only_last count (p ∷ q ∷ ps) = false

-- an event continues a run, whose last event is the last of so many
abbrev pub goes_on : ℕ → PlacedRun → ℕ → ℕ → List ℕ → Op → Bool
goes_on count r agent seq parents op = r.agent == agent && seq == r.seq + ops_count r.ops && are_only_last count parents && takes_step r.ops op

-- an event continues the last run
abbrev pub goes_on_last : RunsPut → ℕ → ℕ → List ℕ → Op → Bool
goes_on_last w agent seq parents op = option_map_or (λ r. goes_on w.count r agent seq parents op) w.last false

-- the run with one operation more
abbrev pub lengthened : Op → PlacedRun → PlacedRun
lengthened op r = record { agent = r.agent; seq = r.seq; ops = with_op r.ops op }

-- one event more in the last run
abbrev pub longer_put : RunsPut → Op → RunsPut
longer_put w op = record { bytes = w.bytes; last = option_map (lengthened op) w.last; count = w.count + 1 }

-- one event more, which begins a run
abbrev pub begun_put : RunsPut → ℕ → ℕ → List ℕ → Op → RunsPut
begun_put w agent seq parents op = record {
  bytes = all_put w ++ head_of agent seq parents;
  last = Some (record { agent = agent; seq = seq; ops = op_alone op });
  count = w.count + 1;
}
