use Rattle.std.proofs.Common.{◌∙◌, ◌++◌, List, length, sym, ap, subst, arith}
use Rattle.std.specs.List.{range_with_len}
use Rattle.std.proofs.Math.ListN.{set}
use Rattle.ew_model.specs.declared.id.Id.{Id}
use Rattle.agent_ids.specs.Table.{IsTable}
use Rattle.agent_ids.proofs.LastIds.{some_last, number_within, own_few, last_few, with_next_run}
use Rattle.agent_ids.proofs.table.AgentTable.append_next_run.Goals as goal

pub index_mut-requires : goal.index_mut-requires
index_mut-requires c =
    let long = ap (length {A = Id}) c.self.view_is in
    let last = some_last c.self.inside.ids (omega (arith, long, c.requires.some)) in
    let within = number_within c.self.inside.ids last.0 c.self.inside.names.keys c.self.inside.positions.items c.self.inside.last_agent c.self.invariant last.1 in
    omega (arith, within, c.self.inside.positions.ok.0)

pub push_run-requires : goal.push_run-requires
push_run-requires c =
    let long = ap (length {A = Id}) c.self.view_is in
    let last = some_last c.self.inside.ids (omega (arith, long, c.requires.some)) in
    let few = own_few c.self.inside.ids last.0 c.self.inside.names.keys c.self.inside.positions.items c.self.inside.last_agent c.self.invariant last.1 c.index_mut.result.now c.index_mut.ensures.value in
    record {
      room = omega (arith, long, few, c.requires.room);
      positions = omega (arith, long, c.len-lv.ensures, c.requires.room);
    }

pub push_next_run-requires : goal.push_next_run-requires
push_next_run-requires c =
    let long = ap (length {A = Id}) c.self.view_is in
    record {
      some = omega (arith, long, c.requires.some);
      room = omega (arith, long, c.requires.room);
      numbers = λ x last.
          let few = last_few c.self.inside.ids x c.self.inside.names.keys c.self.inside.positions.items c.self.inside.last_agent c.self.invariant last in omega (arith, long, few, c.requires.room);
    }

pub invariant_of-self-2 : goal.invariant_of-self-2
invariant_of-self-2 c =
    let ids = c.self.inside.ids in
    let long = ap (length {A = Id}) c.self.view_is in
    let x = c.push_next_run.ensures.0 in
    subst (λ (xs : List Id). IsTable xs c.self.inside.names.keys (set c.self.inside.positions.items c.self.inside.last_agent c.push_run.new.self) c.self.inside.last_agent) (sym c.push_next_run.ensures.2)
    (with_next_run c.args.count ids x c.self.inside.names.keys c.self.inside.positions.items c.self.inside.last_agent c.self.invariant c.push_next_run.ensures.1 c.index_mut.result.now c.push_run.new.self (omega (arith, long, c.requires.room))
    c.index_mut.ensures.value (c.in_ok-push_run.ensures.ok ∙ ap (λ p. c.index_mut.result.now ++ range_with_len p c.args.count) c.len-lv.ensures))
