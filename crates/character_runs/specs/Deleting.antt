-- Deletions one after another, of characters whose nodes follow one another.
use Rattle.std.specs.Prelude.{◌≡◌, ℕ, zero, suc, ◌<◌, Bool, true, List, map, Option, Some, None}
use Rattle.ew_model.specs.declared.node.Node.{Node}
use Rattle.ew_model.specs.declared.text_op.TextOp.{TextOp}
use Rattle.ew_model.specs.declared.text_op.TextOp.TheVariants.{Del, Nothing}
use Rattle.walker_record.specs.Stretches.{Stretch, node_on}
use Rattle.character_runs.specs.declared.change.Change.TheVariants.{Strike}
use Rattle.character_runs.specs.declared.characters.Deletions.{Deletions}
use Rattle.character_runs.specs.States.{changed_at}
use Rattle.character_runs.specs.Spots.{IsDeletion}

-- the records once so many characters from the node's on were deleted, one after another
abbrev pub struck_each : List Stretch → Node → ℕ → List Stretch
struck_each rs v zero = rs
struck_each rs v (suc n) = map (changed_at (node_on v n) Strike) (struck_each rs v n)

-- what a deletion does to the text: of the character at this index there, or of one that isn't there
abbrev pub deletion_op : Option ℕ → TextOp
deletion_op None = Nothing
deletion_op (Some n) = Del n

-- So many deletions one after another, of characters whose nodes follow one another. Each is of the character that is visible at the index once those before it were deleted, and does the same to the text.
abbrev pub AreDeletions : List Stretch → ℕ → Deletions → Type 0
AreDeletions rs at ds = (k : ℕ) → k < ds.count → IsDeletion (struck_each rs ds.first k) at (record { node = node_on ds.first k; op = deletion_op ds.index })

-- so many characters from the node's on are among these
abbrev pub AreAllAmong : (Node → Bool) → Node → ℕ → Type 0
AreAllAmong among v n = (k : ℕ) → k < n → among (node_on v k) ≡ true
