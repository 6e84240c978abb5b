use Rattle.std.proofs.Common.{◌≡◌, ◌∷◌, ◌++◌, [], List, length, refl, sym, ap, subst, arith, length-append}
use Rattle.ew_model.specs.declared.id.Id.{Id}
use Rattle.history_definitions.specs.Agents.{count_of}
use Rattle.agent_ids.specs.Table.{IsTable}
use Rattle.agent_ids.proofs.OwnPositions.{kept_alike, own_few}
use Rattle.agent_ids.proofs.LastIds.{last_behind}
use Rattle.agent_ids.proofs.Numbers.{numbered_push}
use Rattle.agent_ids.proofs.table.AgentTable.append_any.Goals as goal

pub add_position-requires : goal.add_position-requires
add_position-requires c =
    let alike = kept_alike _ _ _ c.self.invariant.agents in
    let long = ap (length {A = Id}) c.self.view_is in
    record {
      agents = (c.self.inside.ids, c.self.invariant.agents.named);
      alike = omega (arith, alike, c.self.inside.positions.ok.0);
      room = own_few c.self.inside.ids c.self.inside.names.keys c.self.inside.positions.items c.self.invariant.agents (omega (arith, c.requires.room, long));
    }

pub invariant_of-self-in-Ok : goal.invariant_of-self-in-Ok
invariant_of-self-in-Ok c =
    let ids = c.self.inside.ids in
    let more : ids ++ c.args.id ∷ [] ≡ c.push.new.self = sym c.in_ok-push.ensures.ok in
    let place : length ids ≡ c.len-lv.result = sym c.len-lv.ensures in
    let next = subst (λ (xs : List Id). c.args.id.seq ≡ count_of xs c.args.id.agent) (sym c.self.view_is) c.requires.next in
    let long = ap (length {A = Id}) c.self.view_is in
    subst (λ (xs : List Id). IsTable xs c.add_position.new.names.keys c.add_position.new.positions.items c.in-Ok.number) more (record {
      agents = c.in-Ok.ensures.ok ids c.args.id c.self.invariant.agents place refl;
      numbered = numbered_push ids c.args.id c.self.invariant.numbered next;
      few = omega (arith, c.requires.room, long, length-append ids (c.args.id ∷ []));
      last_is = last_behind ids c.args.id c.add_position.new.names.keys c.in-Ok.number c.in-Ok.ensures.number;
    })
