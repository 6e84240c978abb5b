use Rattle.std.proofs.Common.{take, sym, ◌∙◌}
use Rattle.rope.specs.Whole.{chars_of_root}
use Rattle.rope.proofs.TypedRuns.{typed_fits, typed_short, typed_change}
use Rattle.rope.proofs.root.change_typed.Goals as goal

pub insert_typed-requires-clause-short : goal.insert_typed-requires-clause-short
insert_typed-requires-clause-short c =
    let text = chars_of_root c.args.root.now in
    let le = typed_fits c.args.ops.now c.args.at text c.requires.some c.requires.first c.requires.fit in
    typed_short c.typed_length-many.result c.args.at c.args.ops.now text c.typed_length-many.ensures.typed le c.requires.short

pub returns-clause-ok : goal.returns-clause-ok
returns-clause-ok c =
    let many = c.typed_length-many in
    let text = chars_of_root c.args.root.now in
    let le = typed_fits c.args.ops.now c.args.at text c.requires.some c.requires.first c.requires.fit in
    c.in_ok-insert_typed.ensures.ok ∙ sym (typed_change (take many.result c.args.ops.now) c.args.at text many.ensures.typed le)
