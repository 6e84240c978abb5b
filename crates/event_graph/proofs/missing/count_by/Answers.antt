use Rattle.std.proofs.Common.{◌∙◌, ℕ, Option, sym, ap}
use Rattle.std.specs.Map.{lookup}
use Rattle.std.specs.Option.{unwrap_or}
use Rattle.agent_ids.proofs.Agents.{names_tested}
use Rattle.event_graph.proofs.missing.count_by.Goals as goal

pub returns-in-Some : goal.returns-in-Some
returns-in-Some c =
    ap (λ (o : Option ℕ). unwrap_or o 0)
    (c.in-Some.ensures.value ∙ ap (λ eq. lookup (eq c.args.agent.now) c.args.counts.now.entries) (sym names_tested))

pub returns-in-None : goal.returns-in-None
returns-in-None c =
    ap (λ (o : Option ℕ). unwrap_or o 0)
    (c.in-None.ensures.value ∙ ap (λ eq. lookup (eq c.args.agent.now) c.args.counts.now.entries) (sym names_tested))
