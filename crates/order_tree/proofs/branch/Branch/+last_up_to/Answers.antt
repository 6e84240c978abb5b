use Rattle.std.proofs.Common.{◌≡◌, ℕ, List, subst, sym, ap, ◌∙◌}
use Rattle.order_tree.specs.Pairs.{Tree, EndsWith, up_to}
use Rattle.order_tree.specs.Parts.{all_pairs}
use Rattle.order_tree.specs.Shape.{pairs_in}
use Rattle.order_tree.proofs.branch.Branch.+last_up_to.Goals as goal

pub returns-in-Inner-clause-last : goal.returns-in-Inner-clause-last
returns-in-Inner-clause-last g t c =
    let is : all_pairs (λ k. k.pairs) c.as_slice-in-Inner.result.now ≡ c.args.self.now.pairs =
    ap (λ (ks : List (Tree _)). all_pairs (λ k. k.pairs) ks) c.as_slice-in-Inner.ensures.value ∙ sym (ap pairs_in c.in-Inner.is) ∙ ap (λ (s : Tree _). s.pairs) c.self.view_is in
    let found = c.last_up_to.result in
    subst (λ (ps : List (ℕ × _)). EndsWith (up_to ps c.args.label) found.0 found.1.now) is (c.kid_last.ensures.back found.0 found.1.now c.last_up_to.ensures.last)
