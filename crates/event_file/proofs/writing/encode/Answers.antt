use Rattle.std.proofs.Common.{length, List, ℕ, ap, ◌∙◌, arith}
use Rattle.event_file.proofs.writing.encode.Goals as goal
use Rattle.ew_model.proofs.AgentLaws.{few_agents}

pub usual_size-size-requires-clause-agents : goal.usual_size-size-requires-clause-agents
usual_size-size-requires-clause-agents c =
    let size = ap (λ (xs : List (List ℕ)). length xs) (c.as_slice.ensures ∙ c.in_ok-agents.ensures) in
    omega (arith, few_agents c.args.events.now, size, c.requires.few)

pub put_start-requires : goal.put_start-requires
put_start-requires c =
    let size = ap (λ (xs : List (List ℕ)). length xs) (c.as_slice-2.ensures ∙ c.in_ok-agents.ensures) in
    omega (arith, few_agents c.args.events.now, size, c.requires.few)
