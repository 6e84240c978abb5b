-- What the events of a run do, where its characters stand apart.
use Rattle.std.specs.Prelude.{ℕ, List, [], ◌∷◌, ◌++◌}
use Rattle.ew_model.specs.declared.event.Op.{Op}
use Rattle.ew_model.specs.declared.event.Op.TheVariants.{Ins, Del, Mark}
use Rattle.file_words.specs.FileRuns as model
use Rattle.file_words.specs.FileRuns.{RunOps}
use Rattle.event_file.specs.declared.steps.Steps.{Steps}
use Rattle.event_file.specs.declared.steps.Steps.TheVariants.{Insertions, Deletions, BackDeletions, OneMark}
use Rattle.event_file.specs.declared.steps.LastRun.{LastRun}
use Rattle.event_file.specs.RunWriting.{PlacedRun}

-- what the events do, with these characters
abbrev pub ops_of : Steps → List ℕ → RunOps
ops_of (Insertions at) text = model.Insertions at text
ops_of (Deletions at count) text = model.Deletions at count
ops_of (BackDeletions at count) text = model.BackDeletions at count
ops_of (OneMark label) text = model.OneMark label

-- how many events are counted: insertions are as many as their characters, and a mark is one
abbrev pub counted : Steps → ℕ
counted (Insertions at) = 0
counted (Deletions at count) = count
counted (BackDeletions at count) = count
counted (OneMark label) = 0

-- the characters with that of one operation more, if it has one
abbrev pub with_character : List ℕ → Op → List ℕ
with_character text (Ins at ch) = text ++ ch ∷ []
with_character text (Del at) = text
with_character text (Mark label) = text

-- the run with these characters
abbrev pub run_of : List ℕ → LastRun → PlacedRun
run_of text r = record { agent = r.agent; seq = r.seq; ops = ops_of r.steps text }
