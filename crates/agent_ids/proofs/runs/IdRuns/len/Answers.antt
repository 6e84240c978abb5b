use Rattle.std.proofs.Common.{length, ap, arith}
use Rattle.ew_model.specs.declared.id.Id.{Id}
use Rattle.agent_ids.proofs.RunLists.{length_in}
use Rattle.agent_ids.proofs.runs.IdRuns.len.Goals as goal

pub returns : goal.returns
returns c = let all = length_in c.self.inside.runs.items 0 c.self.inside.count c.self.invariant in let long = ap (length {A = Id}) c.self.view_is in omega (arith, all, long)
