use Rattle.std.proofs.Common.{length, ap, arith}
use Rattle.ew_model.proofs.EditTexts.{insertions_long}
use Rattle.event_runs.specs.declared.ops.RunOps.{RunOps}
use Rattle.event_runs.specs.RunOps.{ops_of}
use Rattle.event_runs.proofs.ops.RunOps.chars_from.Goals as goal

pub slice_bounds-result-count : goal.slice_bounds-result-count
slice_bounds-result-count c =
    let same = ap (λ (ops : RunOps). length (ops_of ops)) c.in-Insertions.is in
    let long = insertions_long c.in-Insertions.at c.in-Insertions.text.now in
    omega (arith, c.requires, same, long)

pub slice_bounds-result-start : goal.slice_bounds-result-start
slice_bounds-result-start c =
    let same = ap (λ (ops : RunOps). length (ops_of ops)) c.in-Insertions.is in
    let long = insertions_long c.in-Insertions.at c.in-Insertions.text.now in
    omega (arith, c.requires, same, long)
