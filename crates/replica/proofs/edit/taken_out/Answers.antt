use Rattle.std.proofs.Common.{◌∙◌, vec_len}
use Rattle.replica.proofs.EditOps.{taken_filled}
use Rattle.replica.proofs.edit.taken_out.Goals as goal

pub returns : goal.returns
returns c =
    c.in_ok-resize.ensures.items ∙ taken_filled c.args.at c.args.n (vec_len c.new-changes.result) c.new-changes.result.items c.new-changes.ensures.items c.new-changes.ensures.len
