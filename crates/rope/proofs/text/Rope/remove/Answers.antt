use Rattle.std.proofs.Common.{length, remove, arith, ap, ◌∙◌}
use Rattle.rope.specs.Whole.{Tree, chars_of_root}
use Rattle.rope.proofs.DeletionRuns.{length-without, without_one}
use Rattle.rope.proofs.text.Rope.remove.Goals as goal

pub returns-clause-ok : goal.returns-clause-ok
returns-clause-ok c = c.remove_chars.ensures.chars ∙ without_one (chars_of_root c.self.inside.root) c.args.at ∙ ap (λ (t : Tree). remove t.chars c.args.at) c.self.view_is

pub invariant_of-self : goal.invariant_of-self
invariant_of-self c =
    let text = chars_of_root c.self.inside.root in
    let within = ap (λ (t : Tree). length t.chars) c.self.view_is in
    (c.remove_chars.ensures.root, omega (arith, ap length c.remove_chars.ensures.chars, length-without text c.args.at 1 (omega (arith, within, c.requires.within)), c.self.invariant.1))
