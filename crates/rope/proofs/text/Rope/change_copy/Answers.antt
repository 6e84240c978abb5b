use Rattle.std.proofs.Common.{◌≡◌, ◌≤◌, ℕ, List, length, sym, ap, ◌∙◌, subst}
use Rattle.ew_model.specs.Operations.{changed_by_all}
use Rattle.rope.specs.Lengths.{most_chars}
use Rattle.rope.specs.Whole.{Tree, chars_of_root}
use Rattle.rope.proofs.ShortTexts.{short_at_last}
use Rattle.rope.proofs.text.Rope.change_copy.Goals as goal

-- the new text is the last of those that the operations lead through
pub invariant_of-self : goal.invariant_of-self
invariant_of-self c =
    let copied : chars_of_root c.in_ok-changed.changed ≡ c.args.self.now.chars = ap chars_of_root c.in_ok-changed.ensures ∙ ap (λ (t : Tree). t.chars) c.self.view_is in
    let same = c.in_ok-change_all.ensures.ok ∙ ap (changed_by_all c.args.ops.now) copied in
    (c.change_all.ensures.root, subst (λ (cs : List ℕ). length cs ≤ most_chars) (sym same) (short_at_last c.args.self.now.chars c.args.ops.now c.requires.short))
