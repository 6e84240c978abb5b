-- An operation of a run, by the change that it asks for.
use Rattle.std.specs.Prelude.{◌≡◌, ℕ, ◌<◌}
use Rattle.ew_model.specs.declared.text_op.TextOp.TheVariants.{Nothing}
use Rattle.ew_model.specs.TextLaws.{own_change}
use Rattle.event_runs.specs.declared.runs.RunKind.{RunKind}
use Rattle.event_runs.specs.declared.runs.RunKind.TheVariants.{Insertions, Deletions, BackDeletions, Marks}
use Rattle.event_runs.specs.KeptRuns.{Told, op_in, HasLabel}

-- an operation that asks for nothing is a mark, whose label has a place
pub label_place : (kind : RunKind) (at place : ℕ) (told : Told) (k n : ℕ) → own_change (op_in kind at place told k) ≡ Nothing → HasLabel kind at n → at < n
label_place Insertions at place told k n is label = cc
label_place Deletions at place told k n is label = cc
label_place BackDeletions at place told k n is label = cc
label_place Marks at place told k n is label = label
