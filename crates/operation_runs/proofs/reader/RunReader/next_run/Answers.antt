use Rattle.std.proofs.Common.{List, length, ap, ◌∙◌, subst, arith}
use Rattle.ew_model.specs.declared.text_op.TextOp.{TextOp}
use Rattle.operation_runs.specs.declared.stored.StoredRun.{StoredRun}
use Rattle.operation_runs.specs.Stored.{AreStored}
use Rattle.operation_runs.proofs.StoredLaws.{length-ops_by}
use Rattle.operation_runs.proofs.reader.RunReader.next_run.Goals as goal

pub returns-clause-some : goal.returns-clause-some
returns-clause-some c =
    let r = c.in_ok-first.first.now in
    let chars = c.split_at.result.0.now in
    let stored = subst (λ (rs : List StoredRun). AreStored rs c.self.inside.chars.now) c.in_ok-first.ensures.cases.0 c.self.invariant in
    let some = stored.0.some in
    let long = length-ops_by r.kind r.at r.count chars (c.split_at.ensures.front_len ∙ c.char_count.ensures) in
    omega (arith, some, long, ap (length {A = TextOp}) c.with_chars.ensures.ops)
