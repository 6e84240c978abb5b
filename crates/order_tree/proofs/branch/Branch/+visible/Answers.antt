use Rattle.std.proofs.Common.{◌≡◌, ℕ, ◌+◌, List, Contains, subst, sym, ap, ◌∙◌}
use Rattle.order_tree.specs.Pairs.{Tree, total, lower}
use Rattle.order_tree.specs.Parts.{all_pairs}
use Rattle.order_tree.specs.Shape.{pairs_in}
use Rattle.order_tree.proofs.branch.Branch.+visible.Goals as goal

pub returns-in-Inner-clause-run : goal.returns-in-Inner-clause-run
returns-in-Inner-clause-run g t c =
    let is : all_pairs (λ k. k.pairs) c.as_slice-in-Inner.result.now ≡ c.args.self.now.pairs =
    ap (λ (ks : List (Tree _)). all_pairs (λ k. k.pairs) ks) c.as_slice-in-Inner.ensures.value ∙ sym (ap pairs_in c.in-Inner.is) ∙ ap (λ (s : Tree _). s.pairs) c.self.view_is in
    let found = c.visible-found.result in
    subst (λ (ps : List (ℕ × _)). Contains ps (found.label, found.run.now)) is (c.kid_visible-before.ensures.held found.label found.run.now c.visible-found.ensures.run)

pub returns-in-Inner-clause-before : goal.returns-in-Inner-clause-before
returns-in-Inner-clause-before g t c =
    let is : all_pairs (λ k. k.pairs) c.as_slice-in-Inner.result.now ≡ c.args.self.now.pairs =
    ap (λ (ks : List (Tree _)). all_pairs (λ k. k.pairs) ks) c.as_slice-in-Inner.ensures.value ∙ sym (ap pairs_in c.in-Inner.is) ∙ ap (λ (s : Tree _). s.pairs) c.self.view_is in
    let found = c.visible-found.result in
    ap (λ (n : ℕ). c.kid_visible-before.result.1 + n) c.visible-found.ensures.before
    ∙ c.kid_visible-before.ensures.before found.label found.run.now c.visible-found.ensures.run
    ∙ ap (λ (ps : List (ℕ × _)). total g.R.Run.effect (lower ps found.label)) is
