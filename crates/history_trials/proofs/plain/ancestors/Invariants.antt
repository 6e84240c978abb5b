use Rattle.std.proofs.Common.{◌≡◌, ◌||◌, drop, reverse}
use Rattle.ew_model.specs.declared.id.Id.{Id}
use Rattle.ew_model.specs.Ids.{is_among}
use Rattle.ew_model.specs.Ancestors.{is_parent, version_events, ancestors}
use Rattle.history_trials.proofs.plain.ancestors.Given as goal

-- what is taken of the later events, the last first, and that their parents are wanted too
abbrev pub invariant-loop-i : goal.invariant-loop-i
invariant-loop-i l = record {
  taken : reverse l.taken.items ≡ ancestors (drop l.i l.history) l.named;
  wanted : (x : Id) → is_among l.wanted.items x ≡ (is_among l.named x || is_parent (version_events (drop l.i l.history) l.named) x);
}
