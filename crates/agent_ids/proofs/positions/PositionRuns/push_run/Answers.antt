use Rattle.std.proofs.Common.{◌≡◌, ◌∙◌, ◌+◌, ◌++◌, ◌∷◌, [], ℕ, List, length, ap, arith}
use Rattle.std.specs.List.{range_with_len}
use Rattle.agent_ids.specs.PositionRuns.{positions_in, ArePositionRuns}
use Rattle.agent_ids.proofs.PositionLists.{positions_long, rest_behind}
use Rattle.agent_ids.proofs.positions.PositionRuns.push_run.Goals.{In_ok-put}
use Rattle.agent_ids.proofs.positions.PositionRuns.push_run.Goals as goal

pub overflow_add-self : goal.overflow_add-self
overflow_add-self c = let all = positions_long c.self.inside.runs.items 0 c.self.inside.count c.self.invariant in let long = ap (length {A = ℕ}) c.self.view_is in omega (arith, all, long, c.requires.room)

made : (c : In_ok-put) → (positions_in c.put.new.runs.items (c.self.inside.count + c.args.count) ≡ c.args.self.now ++ range_with_len c.args.position c.args.count) × ArePositionRuns 0 c.put.new.runs.items (c.self.inside.count + c.args.count)
made c =
    let all = positions_long c.self.inside.runs.items 0 c.self.inside.count c.self.invariant in
    let long = ap (length {A = ℕ}) c.self.view_is in
    rest_behind c.args.count c.put.new.runs.items c.args.self.now c.self.inside.count c.args.position c.in_ok-put.ensures.runs (omega (arith, all, long))
    (c.in_ok-put.ensures.ok ∙ ap (λ (ps : List ℕ). ps ++ c.args.position ∷ []) c.self.view_is) (omega arith) c.requires.positions

pub invariant_of-self-2 : goal.invariant_of-self-2
invariant_of-self-2 c = (made (goal.at.invariant_of-self-2 c).In_ok-put).1

pub returns-clause-ok : goal.returns-clause-ok
returns-clause-ok c = (made (goal.at.returns-clause-ok c).In_ok-put).0
