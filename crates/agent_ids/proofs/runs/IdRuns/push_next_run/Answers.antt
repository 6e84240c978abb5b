use Rattle.std.proofs.Common.{◌∙◌, ◌+◌, ◌++◌, suc, List, length, sym, ap, subst, arith}
use Rattle.ew_model.specs.declared.id.Id.{Id}
use Rattle.agent_ids.specs.declared.runs.IdRun.{IdRun}
use Rattle.agent_ids.specs.IdRuns.{id_with, ids_from, ids_in, last_in, AreRuns}
use Rattle.agent_ids.proofs.LastIds.{some_last, more_with_next_run}
use Rattle.agent_ids.proofs.RunLists.{length_in}
use Rattle.agent_ids.proofs.runs.IdRuns.push_next_run.Goals as goal

pub lengthen_last_by-requires : goal.lengthen_last_by-requires
lengthen_last_by-requires c =
    let all = length_in c.self.inside.runs.items 0 c.self.inside.count c.self.invariant in
    let long = ap (length {A = Id}) c.self.view_is in
    (c.self.inside.count, c.self.invariant, omega (arith, all, long, c.requires.room))

pub overflow_add-self : goal.overflow_add-self
overflow_add-self c = let all = length_in c.self.inside.runs.items 0 c.self.inside.count c.self.invariant in let long = ap (length {A = Id}) c.self.view_is in omega (arith, all, long, c.requires.room)

pub invariant_of-self : goal.invariant_of-self
invariant_of-self c =
    let last = some_last c.args.self.now c.requires.some in
    let made = more_with_next_run c.args.more c.self.inside.runs.items c.self.inside.count last.0 c.self.invariant (ap last_in c.self.view_is ∙ last.1) (c.requires.numbers last.0 last.1) in
    subst (λ (rs : List IdRun). AreRuns 0 rs (c.self.inside.count + c.args.more)) (sym c.lengthen_last_by.ensures) made.1

pub returns : goal.returns
returns c =
    let last = some_last c.args.self.now c.requires.some in
    let made = more_with_next_run c.args.more c.self.inside.runs.items c.self.inside.count last.0 c.self.invariant (ap last_in c.self.view_is ∙ last.1) (c.requires.numbers last.0 last.1) in
    (last.0, last.1, ap ids_in c.lengthen_last_by.ensures ∙ made.0 ∙ ap (λ (xs : List Id). xs ++ ids_from (id_with last.0.agent (suc last.0.seq)) c.args.more) c.self.view_is)
