use Rattle.std.proofs.Common.{◌+◌, ◌^◌, subst, sym, arith}
use Rattle.order_tree.specs.declared.edit.Edit.TheVariants.{Split}
use Rattle.order_tree.specs.Pairs.{Tree, IsCut}
use Rattle.order_tree.specs.Edits.{IsPlaced, IsBetween, IsFree}
use Rattle.order_tree.specs.Whole.{tree_of}
use Rattle.order_tree.proofs.WholeEdits.{split_fits, cut_after, whole_after, shallow, rooted, some_run}
use Rattle.order_tree.proofs.tree.OrderTree.cut.Goals as goal

pub edit_root-requires-clause-some : goal.edit_root-requires-clause-some
edit_root-requires-clause-some g c =
    let placed = subst (λ (t : Tree _). IsPlaced g.R.Run (Split c.args.at c.args.given) c.args.label t.pairs) (sym c.self.view_is) c.requires.inside in
    rooted c.self.inside.root (some_run (tree_of c.self.inside.root).pairs (c.args.label, placed.0) placed.1)

pub edit_root-requires-clause-placed : goal.edit_root-requires-clause-placed
edit_root-requires-clause-placed g c = subst (λ (t : Tree _). IsPlaced g.R.Run (Split c.args.at c.args.given) c.args.label t.pairs) (sym c.self.view_is) c.requires.inside

pub edit_root-requires-clause-fits : goal.edit_root-requires-clause-fits
edit_root-requires-clause-fits g c =
    split_fits g.R.Run c.args.at c.args.given c.args.label (tree_of c.self.inside.root).pairs g.met.R.Run.joined_known g.met.R.Run.joined_prepared g.met.R.Run.joined_effect c.self.invariant.fit

pub edit_root-requires-clause-deep : goal.edit_root-requires-clause-deep
edit_root-requires-clause-deep g c = shallow g.R.Run c.self.inside.runs (tree_of c.self.inside.root) c.self.invariant (omega arith)

pub invariant_of-self-2 : goal.invariant_of-self-2
invariant_of-self-2 g c =
    let fits = split_fits g.R.Run c.args.at c.args.given c.args.label (tree_of c.self.inside.root).pairs g.met.R.Run.joined_known g.met.R.Run.joined_prepared g.met.R.Run.joined_effect c.self.invariant.fit in
    whole_after g.R.Run (Split c.args.at c.args.given) c.args.label c.in_ok-own.own c.self.inside.runs (c.self.inside.runs + 1) (tree_of c.self.inside.root) (tree_of c.edit_root.new.root) c.ranges.label.fits fits c.self.invariant c.in_ok-own.ensures.edited (omega arith)

pub edit_root-requires-clause-label : goal.edit_root-requires-clause-label
edit_root-requires-clause-label g c = subst (λ (t : Tree _). IsFree (Split c.args.at c.args.given) (2 ^ 64) t.pairs c.args.label) (sym c.self.view_is) c.requires.free

pub returns-clause-pairs : goal.returns-clause-pairs
returns-clause-pairs g c =
    let edited = c.in_ok-own.ensures.edited in
    subst (λ (t : Tree _). IsCut g.R.Run t.pairs (tree_of c.edit_root.new.root).pairs c.args.label c.args.at c.in_ok-own.own) c.self.view_is
    (cut_after g.R.Run c.args.at c.args.given (2 ^ 64) c.args.label (tree_of c.self.inside.root).pairs (tree_of c.edit_root.new.root).pairs c.in_ok-own.own edited.lost edited.gained c.self.invariant.rising edited.edited)

pub returns-clause-between : goal.returns-clause-between
returns-clause-between g c =
    let edited = c.in_ok-own.ensures.edited in
    subst (λ (t : Tree _). IsBetween (2 ^ 64) c.args.label c.in_ok-own.own t.pairs) c.self.view_is edited.edited.between

pub returns-clause-given : goal.returns-clause-given
returns-clause-given g c = c.in_ok-own.ensures.edited.edited.puts.6
