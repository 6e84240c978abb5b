use Rattle.std.proofs.Common.{◌≡◌, [], drop}
use Rattle.script_reader.specs.Meaning.{numbered_edits}
use Rattle.command_table.specs.Scripts.{edited_by}
use Rattle.line_plans.proofs.edit.do_edits.Given as goal

abbrev pub invariant-loop-line : goal.invariant-loop-line
invariant-loop-line g l =
    (edited_by l.initial.replica.limits l.agent l.initial.replica.held (numbered_edits l.edits) ≡ edited_by l.replica.limits l.agent l.replica.held (numbered_edits (drop l.line-index l.edits)))
    × (l.replica.limits ≡ l.initial.replica.limits)
    × (l.replica.waiting ≡ [])
    × (l.limits ≡ l.initial.replica.limits)
    × (l.steps ≡ l.initial.steps)
