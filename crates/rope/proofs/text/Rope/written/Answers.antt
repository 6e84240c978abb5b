use Rattle.std.proofs.Common.{ℕ, List, [], ◌≤◌, length, sym, subst}
use Rattle.rope.specs.Lengths.{most_chars}
use Rattle.rope.proofs.ShortTexts.{short_at_last}
use Rattle.rope.proofs.text.Rope.written.Goals as goal

pub invariant_of-result : goal.invariant_of-result
invariant_of-result c = (c.change_by_runs.ensures.root, subst (λ (cs : List ℕ). length cs ≤ most_chars) (sym c.in_ok-change_by_runs.ensures.ok) (short_at_last [] c.args.ops.now c.requires.short))
