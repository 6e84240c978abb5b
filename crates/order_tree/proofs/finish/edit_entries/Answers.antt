use Rattle.std.proofs.Common.{◌+◌, refl}
use Rattle.order_tree.proofs.InnerEdits.{edited_fits}
use Rattle.order_tree.proofs.BranchEdits.{halved_enough, halved_left}
use Rattle.order_tree.proofs.finish.edit_entries.Goals as goal

pub leaf_halves-right-requires-clause-fit : goal.leaf_halves-right-requires-clause-fit
leaf_halves-right-requires-clause-fit g c =
    rw c.as_slice-list.ensures.value (edited_fits g.R.Run c.args.edit (c.args.way.most + 1) c.args.way.label _ _ _ _ _ c.requires.fits c.in_ok-done.ensures.edited)

pub returns-clause-edited : goal.returns-clause-edited
returns-clause-edited g c =
    let halved = c.in_ok-done.ensures.halved in
    let halves = c.leaf_halves-right.ensures.halves in
    record {
      edited = rw c.leaf_halves-right.ensures.pairs c.in_ok-done.ensures.edited;
      depth = refl;
      enough = halved_enough c.args.way.above _ _ c.in_ok-done.done.tail halved;
      like = c.leaf_halves-right.ensures.like;
      left = halved_left c.args.way.above _ _ c.in_ok-done.done.tail _ halves halved;
    }
