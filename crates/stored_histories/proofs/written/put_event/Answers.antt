use Rattle.std.proofs.Common.{◌≡◌, ◌∙◌, ◌+◌, List, ℕ, ap, sym, length, arith}
use Rattle.std.proofs.lemmas.List.{length-map}
use Rattle.std.proofs.lemmas.Option.{slice_get_within}
use Rattle.ew_model.specs.declared.id.Id.{Id}
use Rattle.ew_model.specs.declared.event.Event.{Event}
use Rattle.ew_model.specs.Writable.{IsWritable}
use Rattle.ew_model.proofs.Outcomes.{on_ok_then}
use Rattle.ew_model.proofs.AgentLaws.{within_ids}
use Rattle.event_graph.proofs.Counted.{event_there}
use Rattle.agreement.proofs.Shared.{same_made}
use Rattle.event_file.specs.Places.{agent_place, place_of, places_of}
use Rattle.event_file.specs.RunWriting.{ArePut, IsNamed}
use Rattle.event_file.proofs.Asked.{asked}
use Rattle.stored_histories.proofs.written.put_event.Goals as goal

pub find_parents-requires-clause-within : goal.find_parents-requires-clause-within
find_parents-requires-clause-within c = within_ids c.args.graph.now c.args.position c.requires.named.0 c.requires.named.1

pub id_near-id-requires : goal.id_near-id-requires
id_near-id-requires c = within_ids c.args.graph.now c.args.position c.requires.named.0 c.requires.named.1

pub op_near-op-requires : goal.op_near-op-requires
op_near-op-requires c = within_ids c.args.graph.now c.args.position c.requires.named.0 c.requires.named.1

pub put-requires : goal.put-requires
put-requires c =
    let history = c.args.graph.now in
    let here = event_there history c.args.position c.requires.named.0 c.requires.named.1 in
    let same = c.deref.ensures.value ∙ c.in_ok-find_parents.ensures here.0 here.1 in
    let size = ap (λ (xs : List ℕ). length xs) same ∙ length-map here.0.parents (place_of history) in
    let within = slice_get_within history c.args.position here.0 here.1 in
    let counted = c.requires.put.counted in
    record { few = omega (arith, size, (asked history c.args.position here.0 c.requires.writable here.1).few); room = omega (arith, counted, within, c.requires.writable.few) }

pub returns : goal.returns
returns c =
    let history = c.args.graph.now in
    let position = c.args.position in
    let x = c.requires.named.0 in
    let here = event_there history position x c.requires.named.1 in
    let e = here.0 in
    let id = c.id_near-id.result in
    let same = same_made (λ (f : Event). f.id) history position e id here.1 c.id_near-id.ensures in
    let op = same_made (λ (f : Event). f.op) history position e c.op_near-op.result here.1 c.op_near-op.ensures in
    let parents : c.deref.result.now ≡ places_of history e.parents = c.deref.ensures.value ∙ c.in_ok-find_parents.ensures e here.1 in
    on_ok_then c.put.result
    ((h : List Event) (n : ℕ) → IsWritable h → ArePut h n c.args.writer.now → IsNamed h n c.args.agent id.seq c.deref.result.now c.op_near-op.result → ArePut h (n + 1) c.put.new.self)
    (ArePut history (position + 1) c.put.new.self)
    (λ put. put history position c.requires.writable c.requires.put (record {
      event = e;
      there = here.1;
      agent_is = c.requires.named.2 ∙ ap (λ (y : Id). agent_place history y.agent) (sym here.2);
      seq_is = ap (λ (y : Id). y.seq) same;
      parents_are = parents;
      op_is = op;
    }))
    c.put.ensures.put
