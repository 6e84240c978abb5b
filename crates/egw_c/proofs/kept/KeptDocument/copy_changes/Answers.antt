use Rattle.std.proofs.Common.{◌≡◌, ◌+◌, List, ◌++◌, map, take, drop, slice_set, sym, ap, ◌∙◌, arith}
use Rattle.ew_model.specs.declared.text_op.TextOp.{TextOp}
use Rattle.egw_c.specs.declared.change.Change.{Change}
use Rattle.egw_c.specs.Changes.{change_of}
use Rattle.egw_c.specs.Documents.{Shown}
use Rattle.egw_c.proofs.CopyLaws.{copy_more}
use Rattle.egw_c.proofs.kept.KeptDocument.copy_changes.Goals as goal

pub loop-i-preserved : goal.loop-i-preserved
loop-i-preserved c =
    let held = c.self.inside.changes.items in
    let same : held ≡ c.args.self.now.changes = ap (λ (d : Shown). d.changes) c.self.view_is in
    ap (λ (out : List Change). slice_set out c.loop-i.i c.change_of.result) (c.loop-i.invariant ∙ ap (λ (ops : List TextOp). take c.loop-i.i (map change_of ops) ++ drop c.loop-i.i c.args.out.now) (sym same))
    ∙ copy_more change_of held c.args.out.now c.loop-i.i c.index.result.now c.change_of.result
    (omega (arith, c.loop-i-test.true, c.min-count.ensures, c.len.ensures)) (omega (arith, c.loop-i-test.true, c.min-count.ensures, c.len.ensures)) c.index.ensures c.change_of.ensures
    ∙ ap (λ (ops : List TextOp). take (c.loop-i.i + 1) (map change_of ops) ++ drop (c.loop-i.i + 1) c.args.out.now) same
