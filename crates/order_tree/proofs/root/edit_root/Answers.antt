use Rattle.std.proofs.Common.{◌^◌, ap, subst, ◌++◌}
use Rattle.order_tree.specs.Pairs.{Tree}
use Rattle.order_tree.specs.Edits.{StaysFit}
use Rattle.order_tree.specs.Rights.{pairs_of_right}
use Rattle.order_tree.specs.Whole.{tree_of}
use Rattle.order_tree.proofs.InnerEdits.{edited_fits}
use Rattle.order_tree.proofs.root.edit_root.Goals as goal

pub edit-requires-clause-fits : goal.edit-requires-clause-fits
edit-requires-clause-fits g c = subst (λ (t : Tree _). StaysFit g.R.Run c.args.edit c.args.label t.pairs) (ap tree_of c.in-Some.is) c.requires.fits

pub raise-requires-clause-fit : goal.raise-requires-clause-fit
raise-requires-clause-fit g c =
    let fits = subst (λ (t : Tree _). StaysFit g.R.Run c.args.edit c.args.label t.pairs) (ap tree_of c.in-Some.is) c.requires.fits in
    let done = c.in_ok-done.done in
    edited_fits g.R.Run c.args.edit (2 ^ 64) c.args.label c.in-Some.branch.pairs (c.edit.new.self.pairs ++ pairs_of_right done.right) done.own done.lost done.gained fits c.in_ok-done.ensures.edited.edited
