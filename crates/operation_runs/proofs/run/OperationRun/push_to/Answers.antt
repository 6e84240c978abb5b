use Rattle.std.proofs.Common.{◌≡◌, ◌+◌, ◌-◌, ◌<◌, ◌≤◌, [], ◌∷◌, ◌++◌, length, take, sym, ap, ◌∙◌, append_assoc, arith}
use Rattle.std.proofs.lemmas.List.{take_more}
use Rattle.std.proofs.lemmas.Option.{get_or_from_slice_get}
use Rattle.operation_runs.specs.Runs.{run_ops}
use Rattle.operation_runs.proofs.run.OperationRun.push_to.Goals as goal

pub loop-place-preserved : goal.loop-place-preserved
loop-place-preserved c =
    let place = c.loop-place.place in
    let before = c.args.ops.now.items in
    let ops = run_ops c.args.self.now in
    let op = c.get.result in
    let inv = c.loop-place.invariant in
    let low : place < length ops = omega (arith, c.loop-place-test.true, c.count-count.ensures) in
    let more = take_more ops place op low ∙ ap (λ x. take place ops ++ x ∷ []) (get_or_from_slice_get ops place op op c.get.ensures) in (
      c.push_reserved.ensures.items ∙ ap (λ xs. xs ++ op ∷ []) inv.0 ∙ append_assoc before (take place ops) (op ∷ []) ∙ ap (λ xs. before ++ xs) (sym more),
      omega (arith, inv.1, c.push_reserved.ensures.len, c.push_reserved.ensures.capacity, c.loop-place-test.true),
    )
