use Rattle.std.proofs.Common.{◌∙◌, sym}
use Rattle.frontier.proofs.Removals.{without_found, without_missed}
use Rattle.frontier.proofs.heads.take_out.Goals as goal

pub returns-in-Ok-clause-items : goal.returns-in-Ok-clause-items
returns-in-Ok-clause-items c = c.remove.ensures.items ∙ sym (without_found c.args.heads.now.items c.as_slice.result.now c.args.position c.in-Ok.i c.as_slice.ensures c.requires.rising c.in-Ok.ensures.position)

pub returns-in_default-clause-items : goal.returns-in_default-clause-items
returns-in_default-clause-items c = sym (without_missed c.args.heads.now.items c.as_slice.result.now c.args.position c.binary_search.result c.as_slice.ensures c.requires.rising c.binary_search.ensures.position c.in_default.not-Ok)
