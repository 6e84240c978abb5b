use Rattle.std.proofs.Common.{◌+◌, ◌^◌, subst, sym, ap, ◌∙◌, arith}
use Rattle.order_tree.specs.declared.edit.Edit.TheVariants.{Insert}
use Rattle.order_tree.specs.Pairs.{Tree, inserted}
use Rattle.order_tree.specs.Edits.{StaysFit}
use Rattle.order_tree.specs.Whole.{tree_of}
use Rattle.order_tree.proofs.TreeEdits.{insert_fits, inserted_after}
use Rattle.order_tree.proofs.WholeEdits.{whole_after, shallow}
use Rattle.order_tree.proofs.tree.OrderTree.insert_after.Goals as goal

pub insert_run-requires-clause-fits : goal.insert_run-requires-clause-fits
insert_run-requires-clause-fits g c =
    subst (λ (t : Tree _). StaysFit g.R.Run (Insert c.args.run) c.args.label t.pairs) (sym c.self.view_is) (insert_fits g.R.Run c.args.run c.args.label c.args.self.now.pairs c.requires.known c.requires.prepared c.requires.effect)

pub insert_run-requires-clause-deep : goal.insert_run-requires-clause-deep
insert_run-requires-clause-deep g c = shallow g.R.Run c.self.inside.runs (tree_of c.self.inside.root) c.self.invariant (omega arith)

pub invariant_of-self-2 : goal.invariant_of-self-2
invariant_of-self-2 g c =
    let fits = subst (λ (t : Tree _). StaysFit g.R.Run (Insert c.args.run) c.args.label t.pairs) (sym c.self.view_is) (insert_fits g.R.Run c.args.run c.args.label c.args.self.now.pairs c.requires.known c.requires.prepared c.requires.effect) in
    whole_after g.R.Run (Insert c.args.run) c.args.label c.in_ok-own.own c.self.inside.runs (c.self.inside.runs + 1) (tree_of c.self.inside.root) (tree_of c.insert_run.new.root) c.ranges.label.fits fits c.self.invariant c.in_ok-own.ensures.edited (omega arith)

pub returns-clause-pairs : goal.returns-clause-pairs
returns-clause-pairs g c =
    let edited = c.in_ok-own.ensures.edited in
    inserted_after g.R.Run c.args.run (2 ^ 64) c.args.label (tree_of c.self.inside.root).pairs (tree_of c.insert_run.new.root).pairs c.in_ok-own.own edited.lost edited.gained edited.edited
    ∙ ap (λ (t : Tree _). inserted t.pairs c.args.label c.in_ok-own.own c.args.run) c.self.view_is
