use Rattle.std.proofs.Common.{◌∙◌, ◌+◌, List, length, sym, ap, subst, arith}
use Rattle.ew_model.specs.declared.id.Id.{Id}
use Rattle.agent_ids.specs.declared.runs.IdRun.{IdRun}
use Rattle.agent_ids.specs.IdRuns.{ids_in, AreRuns}
use Rattle.agent_ids.proofs.LastIds.{more_with_next}
use Rattle.agent_ids.proofs.RunLists.{length_in}
use Rattle.agent_ids.proofs.runs.IdRuns.push_next.Goals as goal

pub overflow_add-self : goal.overflow_add-self
overflow_add-self c = let all = length_in c.self.inside.runs.items 0 c.self.inside.count c.self.invariant in let long = ap (length {A = Id}) c.self.view_is in omega (arith, all, long, c.requires.room)

pub invariant_of-self : goal.invariant_of-self
invariant_of-self c =
    let made = more_with_next c.self.inside.runs.items c.self.inside.count c.args.self.now c.self.invariant c.self.view_is c.requires.some c.requires.number in
    subst (λ (rs : List IdRun). AreRuns 0 rs (c.self.inside.count + 1)) (sym c.lengthen_last.ensures) made.3

pub returns : goal.returns
returns c =
    let made = more_with_next c.self.inside.runs.items c.self.inside.count c.args.self.now c.self.invariant c.self.view_is c.requires.some c.requires.number in
    (made.0, made.1, ap ids_in c.lengthen_last.ensures ∙ made.2)
