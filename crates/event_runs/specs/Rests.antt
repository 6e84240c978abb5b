-- The events of a run from one on. (No public contract cites this.)
use Rattle.std.specs.Prelude.{◌≡◌, ℕ, suc, ◌+◌, ◌-◌, ◌<◌, ◌≤◌, ◌^◌, List, [], map, length}
use Rattle.std.specs.List.{range_with_len}
use Rattle.ew_model.specs.declared.text_op.TextOp.{TextOp}
use Rattle.ew_model.specs.TextLaws.{own_change}
use Rattle.event_runs.specs.declared.runs.Run.{Run}
use Rattle.event_runs.specs.KeptRuns.{op_in, chars_to_end, Fits}

-- what the event of a run so many places behind the first one does to the text at its parents; what the labels are doesn't matter
abbrev pub change_in : Run → List ℕ → ℕ → TextOp
change_in r chars k = own_change (op_in r.kind r.at r.chars_before (record { chars = chars; labels = [] }) k)

-- the same of each event of the run but for so many at its beginning
abbrev pub changes_from : Run → List ℕ → ℕ → List TextOp
changes_from r chars before = map (change_in r chars) (range_with_len before (suc r.more - before))

-- not all events of the run come before, its numbers are of 32 bits, and its characters are among all
pub record IsRest (r : Run) (chars : List ℕ) (before : ℕ) : Type 0 where
  pub some : before ≤ r.more
  pub few : suc r.more < 2 ^ 32
  pub fits : Fits r.kind r.at r.more
  pub within : chars_to_end r ≤ length chars
