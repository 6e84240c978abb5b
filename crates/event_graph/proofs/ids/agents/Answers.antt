use Rattle.std.proofs.Common.{◌∙◌, ◌∷◌, [], ◌++◌, List, ℕ, sym, ap}
use Rattle.history_definitions.specs.Agents.{agents_of}
use Rattle.event_graph.proofs.Lists.{take_get}
use Rattle.event_graph.proofs.ids.agents.Goals as goal

pub loop-n-preserved : goal.loop-n-preserved
loop-n-preserved c =
    c.in_ok-push.ensures.items ∙ ap (λ (names : List (List ℕ)). names ++ c.name_of.result ∷ []) c.loop-n.invariant ∙ sym (take_get (agents_of c.args.table.now) c.loop-n.n c.name_of.result c.name_of.ensures)
