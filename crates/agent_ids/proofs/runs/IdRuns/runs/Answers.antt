use Rattle.std.proofs.Common.{◌≡◌, ◌∙◌, length, sym, ap, arith}
use Rattle.agent_ids.specs.IdRuns.{id_runs}
use Rattle.agent_ids.proofs.RunLists.{count_in, runs_end}
use Rattle.agent_ids.proofs.runs.IdRuns.runs.Goals as goal

pub overflow_cast-result : goal.overflow_cast-result
overflow_cast-result c = let few = runs_end c.self.inside.runs.items 0 c.self.inside.count c.self.invariant in omega (arith, few, c.len.ensures, c.self.inside.runs.ok.0)

pub returns : goal.returns
returns c =
    let long : c.len.result ≡ length c.self.inside.runs.items = omega (arith, c.len.ensures, c.self.inside.runs.ok.0) in
    long ∙ sym (count_in c.self.inside.runs.items 0 c.self.inside.count c.self.invariant) ∙ ap id_runs c.self.view_is
