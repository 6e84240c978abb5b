use Rattle.std.proofs.Common.{◌≡◌, ◌+◌, ◌≤◌, List, length, max, sym, ap, ◌∙◌, arith}
use Rattle.predecessor_map.specs.declared.block.Block.{Block}
use Rattle.predecessor_map.specs.Blocks.{entries_at}
use Rattle.predecessor_map.proofs.BlockLaws.{entries_push}
use Rattle.std.proofs.lemmas.List.{length_push}
use Rattle.predecessor_map.proofs.table.grow.Goals as goal

pub loop-alloc-preserved : goal.loop-alloc-preserved
loop-alloc-preserved c =
    let long = ap (λ (bs : List Block). length bs) c.in_ok-push.ensures.items ∙ length_push c.loop-alloc.blocks.items c.new.result in
    let less = c.loop-alloc-test.true in
    record {
      same = λ i. ap (λ (bs : List Block). entries_at bs i) c.in_ok-push.ensures.items ∙ entries_push c.loop-alloc.blocks.items i c.new.result c.new.ensures ∙ c.loop-alloc.invariant.same i;
      bound = omega (arith, long, less, c.len.ensures, c.loop-alloc.blocks.ok.0, c.loop-alloc.invariant.bound);
    }
