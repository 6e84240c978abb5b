use Rattle.std.proofs.Common.{◌∙◌, ℕ, ap, length, sym}
use Rattle.agent_ids.proofs.OwnPositions.{positions-length}
use Rattle.agent_ids.proofs.table.AgentTable.count_of.Goals as goal

pub returns-in-Some-clause-value : goal.returns-in-Some-clause-value
returns-in-Some-clause-value c = c.len.ensures ∙ ap (length {A = ℕ}) c.in-Some.ensures.value ∙ positions-length c.args.self.now c.args.name.now

pub returns-in-None-clause-value : goal.returns-in-None-clause-value
returns-in-None-clause-value c = ap (length {A = ℕ}) (sym c.in-None.ensures.value) ∙ positions-length c.args.self.now c.args.name.now
