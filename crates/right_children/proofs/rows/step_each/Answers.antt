use Rattle.std.proofs.Common.{ℕ, ◌<◌, length, slice_index, slice_set, ap, ◌∙◌, arith}
use Rattle.std.proofs.lemmas.List.{get_or_default}
use Rattle.std.proofs.lemmas.List.Edits.{map_over_more}
use Rattle.right_children.specs.Rows.{stepped}
use Rattle.right_children.proofs.rows.step_each.Goals as goal

pub loop-row-preserved : goal.loop-row-preserved
loop-row-preserved c =
    let rows = c.loop-row.rows in
    let i = c.loop-row.row-index in
    let x = slice_index rows i in
    let within : i < length rows = omega (arith, c.loop-row-test.true, c.loop-row.auto.rows) in
    ap (slice_set rows i) c.stepped.ensures
    ∙ map_over_more (λ (row : ℕ). stepped row c.args.more) c.args.rows.now rows i x c.loop-row-test.true c.loop-row.invariant (get_or_default rows i 0 x within)
