use Rattle.std.proofs.Common.{◌≡◌, List, length, sym, ap, ◌∙◌, subst, arith}
use Rattle.order_tree.specs.Pairs.{Tree}
use Rattle.order_tree.specs.Parts.{all_pairs}
use Rattle.order_tree.specs.Shape.{pairs_in, AllBelow}
use Rattle.order_tree.proofs.KidLaws.{kid_lower}
use Rattle.order_tree.proofs.AboutLaws.{counting_small}
use Rattle.order_tree.proofs.branch.Branch.+count.Goals as goal

pub count-count-requires : goal.count-count-requires
count-count-requires g t c κs within =
    let list = c.as_slice-kid-items.result.now in
    let shape = rw c.in-Inner.is at c.self.invariant.shape in
    let below = subst (λ (ks : List (Tree _)). AllBelow c.self.inside.depth ks) (sym c.as_slice-kid-items.ensures.value) shape.0 in
    let deep : c.args.self.now.depth ≡ c.self.inside.depth = sym (ap (λ (s : Tree _). s.depth) c.self.view_is) in
    let lower = kid_lower c.self.inside.depth list c.loop-kid.kid-index c.kid-item.result below c.loop-kid-test.true c.kid-item.is in
    let here : c.args.self.now.pairs ≡ all_pairs (λ k. k.pairs) list = sym (ap (λ (s : Tree _). s.pairs) c.self.view_is) ∙ ap pairs_in c.in-Inner.is ∙ sym (ap (λ (ks : List (Tree _)). all_pairs (λ k. k.pairs) ks) c.as_slice-kid-items.ensures.value) in
    (omega (arith, c.decreases, lower, deep), (within.0, (within.1, omega (arith, c.requires, ap length here, counting_small list c.loop-kid.kid-index c.loop-kid.count _ _ c.loop-kid.invariant c.kid-item.result c.loop-kid-test.true c.kid-item.is))))

pub overflow_add-count : goal.overflow_add-count
overflow_add-count g t c =
    let list = c.as_slice-kid-items.result.now in
    let here : c.args.self.now.pairs ≡ all_pairs (λ k. k.pairs) list = sym (ap (λ (s : Tree _). s.pairs) c.self.view_is) ∙ ap pairs_in c.in-Inner.is ∙ sym (ap (λ (ks : List (Tree _)). all_pairs (λ k. k.pairs) ks) c.as_slice-kid-items.ensures.value) in
    omega (arith, c.requires, ap length here, c.count-count.ensures.count, counting_small list c.loop-kid.kid-index c.loop-kid.count _ _ c.loop-kid.invariant c.kid-item.result c.loop-kid-test.true c.kid-item.is)
