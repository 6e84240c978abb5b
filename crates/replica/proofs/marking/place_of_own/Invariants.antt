use Rattle.std.proofs.Common.{◌-◌, ◌≡◌, ◌<◌, ◌≤◌, true, false, length, take}
use Rattle.std.specs.List.{list_any}
use Rattle.ew_model.specs.Edits.{knows_agent}
use Rattle.replica.proofs.marking.place_of_own.Given as goal

abbrev pub invariant-loop-before : goal.invariant-loop-before
invariant-loop-before l = record {
  none : list_any (knows_agent l.graph l.agent) (take l.before l.ids) ≡ false;
  one : list_any (knows_agent l.graph l.agent) (take l.through l.ids) ≡ true;
  between : l.before < l.through;
  within : l.through ≤ length l.ids;
}

abbrev pub decreases-loop-before : goal.decreases-loop-before
decreases-loop-before l = l.through - l.before
