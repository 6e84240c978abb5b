use Rattle.std.proofs.Common.{◌≡◌, ℕ, List, Contains, subst, sym, ap, ◌∙◌}
use Rattle.order_tree.specs.Pairs.{Tree}
use Rattle.order_tree.specs.Parts.{all_pairs}
use Rattle.order_tree.specs.Shape.{pairs_in}
use Rattle.order_tree.proofs.branch.Branch.+locate.Goals as goal

pub returns-in-Inner-clause-run : goal.returns-in-Inner-clause-run
returns-in-Inner-clause-run g t c =
    let is : all_pairs (λ k. k.pairs) c.as_slice-in-Inner.result.now ≡ c.args.self.now.pairs =
    ap (λ (ks : List (Tree _)). all_pairs (λ k. k.pairs) ks) c.as_slice-in-Inner.ensures.value ∙ sym (ap pairs_in c.in-Inner.is) ∙ ap (λ (s : Tree _). s.pairs) c.self.view_is in
    subst (λ (ps : List (ℕ × _)). Contains ps (c.args.label, c.locate.result.now)) is (c.kid_with.ensures.back c.locate.result.now c.locate.ensures.run)
