use Rattle.std.proofs.Common.{◌≤◌, vec_capacity}
use Rattle.order_tree.specs.Parts.{one_pair}
use Rattle.order_tree.specs.Relabels.{IsOnward}
use Rattle.order_tree.proofs.relabel.relabel_entries.Given as goal

abbrev pub invariant-loop-entry : goal.invariant-loop-entry
invariant-loop-entry g l =
    IsOnward one_pair g.R.Run.known l.step l.before l.entry-index l.initial.entry-items l.entry-items l.initial.given.items l.given.items l.reached × (vec_capacity l.initial.given ≤ vec_capacity l.given)
