use Rattle.std.proofs.Common.{◌≤◌, ℕ, List, length, sym, ap, ◌∙◌, subst}
use Rattle.ew_model.specs.Operations.{changed_by_all}
use Rattle.rope.specs.Lengths.{most_chars}
use Rattle.rope.specs.Whole.{Tree}
use Rattle.rope.proofs.ShortTexts.{short_at_last}
use Rattle.rope.proofs.text.Rope.change_here.Goals as goal

-- the new text is the last of those that the operations lead through
pub invariant_of-self : goal.invariant_of-self
invariant_of-self c =
    let same = c.in-Ok.ensures.ok ∙ ap (λ (t : Tree). changed_by_all c.args.ops.now t.chars) c.self.view_is in
    (c.change_all.ensures.root, subst (λ (cs : List ℕ). length cs ≤ most_chars) (sym same) (short_at_last c.args.self.now.chars c.args.ops.now c.requires.short))
