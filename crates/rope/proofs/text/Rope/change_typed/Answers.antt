use Rattle.std.proofs.Common.{◌≤◌, ℕ, List, length, sym, ap, ◌∙◌, subst}
use Rattle.rope.specs.Lengths.{most_chars}
use Rattle.rope.specs.Typed.{typed, with_more}
use Rattle.rope.specs.Whole.{Tree}
use Rattle.rope.proofs.ShortTexts.{short_at_last}
use Rattle.rope.proofs.TypedRuns.{is_line}
use Rattle.rope.proofs.text.Rope.change_typed.Goals as goal

pub insert_typed-requires-clause-within : goal.insert_typed-requires-clause-within
insert_typed-requires-clause-within c =
    rw (ap (λ (t : Tree). t.chars) c.self.view_is) (is_line c.args.ops.now c.args.at c.args.self.now.chars c.requires.some c.requires.typed c.requires.fit c.requires.short).within

pub insert_typed-requires-clause-short : goal.insert_typed-requires-clause-short
insert_typed-requires-clause-short c =
    rw (ap (λ (t : Tree). t.chars) c.self.view_is) (is_line c.args.ops.now c.args.at c.args.self.now.chars c.requires.some c.requires.typed c.requires.fit c.requires.short).short

pub insert_typed-requires-clause-some : goal.insert_typed-requires-clause-some
insert_typed-requires-clause-some c = (is_line c.args.ops.now c.args.at c.args.self.now.chars c.requires.some c.requires.typed c.requires.fit c.requires.short).some

pub returns-clause-ok : goal.returns-clause-ok
returns-clause-ok c =
    let line = is_line c.args.ops.now c.args.at c.args.self.now.chars c.requires.some c.requires.typed c.requires.fit c.requires.short in
    c.in_ok-insert_typed.ensures.ok ∙ ap (λ (t : Tree). with_more t.chars c.args.at (typed c.args.ops.now)) c.self.view_is ∙ sym line.change

pub invariant_of-self-2 : goal.invariant_of-self-2
invariant_of-self-2 c =
    let line = is_line c.args.ops.now c.args.at c.args.self.now.chars c.requires.some c.requires.typed c.requires.fit c.requires.short in
    let same = c.in_ok-insert_typed.ensures.ok ∙ ap (λ (t : Tree). with_more t.chars c.args.at (typed c.args.ops.now)) c.self.view_is ∙ sym line.change in
    (c.insert_typed.ensures.root, subst (λ (cs : List ℕ). length cs ≤ most_chars) (sym same) (short_at_last c.args.self.now.chars c.args.ops.now c.requires.short))
