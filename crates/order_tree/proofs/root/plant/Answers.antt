use Rattle.std.proofs.Common.{◌≡◌, ℕ, Option, sym, ap, ◌∙◌, subst, arith, List, [], ◌∷◌, ◌++◌}
use Rattle.order_tree.specs.declared.edit.Edit.TheVariants.{Insert}
use Rattle.order_tree.specs.Pairs.{Tree, SumsFit}
use Rattle.order_tree.specs.Edits.{StaysFit}
use Rattle.order_tree.specs.Whole.{tree_of}
use Rattle.order_tree.proofs.WholeEdits.{planted, planted_fit}
use Rattle.order_tree.proofs.root.plant.Goals as goal

pub leaf-requires-clause-fit : goal.leaf-requires-clause-fit
leaf-requires-clause-fit g c =
    let own = c.choose-own.result in
    let items : c.push_reserved.new.self.items ≡ (own, c.args.run) ∷ [] = c.push_reserved.ensures.items ∙ ap (λ (xs : List (ℕ × _)). xs ++ ((own, c.args.run) ∷ [])) c.in_ok-entries.ensures.block.0 in
    let fits = subst (λ (o : Option (Tree _)). StaysFit g.R.Run (Insert c.args.run) c.args.label (tree_of o).pairs) c.requires.none c.requires.fits in
    subst (λ (ps : List (ℕ × _)). SumsFit g.R.Run ps) (sym items) (planted_fit g.R.Run c.args.label own c.args.run fits)

pub returns-clause-edited : goal.returns-clause-edited
returns-clause-edited g c =
    let own = c.choose-own.result in
    let items : c.push_reserved.new.self.items ≡ (own, c.args.run) ∷ [] = c.push_reserved.ensures.items ∙ ap (λ (xs : List (ℕ × _)). xs ++ ((own, c.args.run) ∷ [])) c.in_ok-entries.ensures.block.0 in
    planted g.R.Run c.args.label own c.args.run (tree_of c.args.root.now) c.leaf.result (ap (λ (o : Option (Tree _)). (tree_of o).pairs) c.requires.none) (c.leaf.ensures.pairs ∙ items) c.leaf.ensures.depth c.choose-own.ensures.above (omega (arith, c.choose-own.ensures.within))
