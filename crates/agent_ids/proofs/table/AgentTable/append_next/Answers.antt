use Rattle.std.proofs.Common.{◌∙◌, ◌∷◌, ◌++◌, [], List, length, sym, ap, subst, arith}
use Rattle.std.proofs.Math.ListN.{set}
use Rattle.ew_model.specs.declared.id.Id.{Id}
use Rattle.agent_ids.specs.Table.{IsTable}
use Rattle.agent_ids.proofs.LastIds.{some_last, number_within, own_room, with_next}
use Rattle.agent_ids.proofs.table.AgentTable.append_next.Goals as goal

pub index_mut-requires : goal.index_mut-requires
index_mut-requires c =
    let long = ap (length {A = Id}) c.self.view_is in
    let last = some_last c.self.inside.ids (omega (arith, long, c.requires.some)) in
    let within = number_within c.self.inside.ids last.0 c.self.inside.names.keys c.self.inside.positions.items c.self.inside.last_agent c.self.invariant last.1 in
    omega (arith, within, c.self.inside.positions.ok.0)

pub push-requires : goal.push-requires
push-requires c =
    let long = ap (length {A = Id}) c.self.view_is in
    let last = some_last c.self.inside.ids (omega (arith, long, c.requires.some)) in
    record {
      room = own_room c.self.inside.ids last.0 c.self.inside.names.keys c.self.inside.positions.items c.self.inside.last_agent c.self.invariant last.1 c.index_mut.result.now (omega (arith, long, c.requires.room)) c.index_mut.ensures.value;
    }

pub invariant_of-self-2 : goal.invariant_of-self-2
invariant_of-self-2 c =
    let ids = c.self.inside.ids in
    let long = ap (length {A = Id}) c.self.view_is in
    let x = c.push_next.ensures.0 in
    subst (λ (xs : List Id). IsTable xs c.self.inside.names.keys (set c.self.inside.positions.items c.self.inside.last_agent c.push.new.self) c.self.inside.last_agent) (sym c.push_next.ensures.2)
    (with_next ids x c.self.inside.names.keys c.self.inside.positions.items c.self.inside.last_agent c.self.invariant c.push_next.ensures.1 c.index_mut.result.now c.push.new.self (omega (arith, long, c.requires.room))
    c.index_mut.ensures.value (c.in_ok-push.ensures.ok ∙ ap (λ p. c.index_mut.result.now ++ p ∷ []) c.len-lv.ensures))
