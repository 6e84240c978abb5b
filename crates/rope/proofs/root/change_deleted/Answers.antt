use Rattle.std.proofs.Common.{arith, sym, ◌∙◌}
use Rattle.rope.specs.Whole.{chars_of_root}
use Rattle.rope.proofs.DeletionRuns.{first_change, first_fit}
use Rattle.rope.proofs.ShortTexts.{short_first}
use Rattle.rope.proofs.root.change_deleted.Goals as goal

pub overflow_cast-many : goal.overflow_cast-many
overflow_cast-many c =
    let first = c.first_deletions-place in
    let text = chars_of_root c.args.root.now in
    let within = first_fit first.result.1 c.args.ops.now first.result.0 text first.ensures.some first.ensures.within first.ensures.deletes c.requires.fit in
    omega (arith, within, short_first text c.args.ops.now c.requires.short)

pub remove_chars-requires-clause-within : goal.remove_chars-requires-clause-within
remove_chars-requires-clause-within c =
    let first = c.first_deletions-place in
    let text = chars_of_root c.args.root.now in
    first_fit first.result.1 c.args.ops.now first.result.0 text first.ensures.some first.ensures.within first.ensures.deletes c.requires.fit

pub remove_chars-requires-clause-small : goal.remove_chars-requires-clause-small
remove_chars-requires-clause-small c = omega (arith, short_first (chars_of_root c.args.root.now) c.args.ops.now c.requires.short)

pub returns-clause-ok : goal.returns-clause-ok
returns-clause-ok c =
    let first = c.first_deletions-place in
    let text = chars_of_root c.args.root.now in
    c.remove_chars.ensures.chars ∙ sym (first_change first.result.1 c.args.ops.now first.result.0 text first.ensures.within first.ensures.deletes c.requires.fit)
