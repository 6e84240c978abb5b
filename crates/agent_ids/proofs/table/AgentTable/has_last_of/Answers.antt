use Rattle.std.proofs.Common.{◌∙◌, sym, ap, arith}
use Rattle.std.proofs.lemmas.Option.{same_Some}
use Rattle.agent_ids.specs.IdRuns.{last_in}
use Rattle.agent_ids.proofs.LastIds.{some_last}
use Rattle.agent_ids.proofs.table.AgentTable.has_last_of.Goals as goal

pub returns-then-len-gt0-clause-last : goal.returns-then-len-gt0-clause-last
returns-then-len-gt0-clause-last c there =
    let last = some_last c.self.inside.ids (omega (arith, c.len.ensures, c.if-len-gt0.true)) in
    (last.0, ap last_in (sym c.self.view_is) ∙ last.1, same_Some last.0.agent c.args.name.now (sym (c.self.invariant.last_is last.0 last.1) ∙ c.is_at.ensures there))
