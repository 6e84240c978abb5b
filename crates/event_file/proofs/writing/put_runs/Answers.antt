use Rattle.std.proofs.Common.{◌≡◌, ℕ, List, Some, All, length, take, map, refl, ap, ◌∙◌, sym, subst, arith}
use Rattle.std.specs.Prelude.{unwrap_or, IsSome, slice_get}
use Rattle.std.specs.BTreeMap.{get}
use Rattle.std.specs.List.{list_any, position_or_len}
use Rattle.std.proofs.lemmas.Bool.{leb-true}
use Rattle.std.proofs.lemmas.List.{length-map}
use Rattle.std.proofs.lemmas.Option.{slice_get-get_or}
use Rattle.ew_model.specs.declared.id.Id.{Id}
use Rattle.ew_model.specs.declared.event.Event.{Event}
use Rattle.ew_model.specs.Ids.{name_eq, id_cmp}
use Rattle.ew_model.specs.Ancestors.{ids_of}
use Rattle.event_file.specs.Places.{agent_place, places_of}
use Rattle.event_file.specs.RunWriting.{ArePut}
use Rattle.event_file.proofs.Tables.{all_have, follows_at, agent_there, places_more}
use Rattle.event_file.proofs.Asked.{places_told}
use Rattle.event_file.proofs.writing.put_runs.Goals as goal

pub number_of-agent-requires : goal.number_of-agent-requires
number_of-agent-requires c =
    let e = c.index-events-i.result in
    ap (list_any (name_eq e.id.agent)) c.requires.agents ∙ agent_there c.args.events.now c.loop-i.i e c.loop-i-test.true c.index-events-i.is

pub find_all-requires : goal.find_all-requires
find_all-requires c =
    let e = c.index-events-i.result in
    let f = follows_at c.args.events.now c.loop-i.i e c.requires.writable c.loop-i-test.true c.index-events-i.is in
    subst (All (λ (x : Id). IsSome (get id_cmp c.loop-i.positions x))) (sym c.as_slice.ensures)
    (all_have (ids_of (take c.loop-i.i c.args.events.now)) (get id_cmp c.loop-i.positions) e.parents c.loop-i.invariant.places f.held)

pub put-requires : goal.put-requires
put-requires c =
    let e = c.index-events-i.result in
    let number = λ (x : Id). unwrap_or (get id_cmp c.loop-i.positions x) 0 in
    let same : c.deref.result.now ≡ map number e.parents = c.deref.ensures.value ∙ c.in_ok-find_all.ensures ∙ ap (map number) c.as_slice.ensures in
    let size = ap (λ (xs : List ℕ). length xs) same ∙ length-map e.parents number in
    let few = leb-true (length e.parents) 16 (follows_at c.args.events.now c.loop-i.i e c.requires.writable c.loop-i-test.true c.index-events-i.is).few in
    let counted = c.loop-i.invariant.so_far.counted in
    record { few = omega (arith, size, few); room = omega (arith, counted, c.requires.writable.few) }

pub loop-i-preserved : goal.loop-i-preserved
loop-i-preserved c =
    let events = c.args.events.now in
    let e = c.index-events-i.result in
    let table = get id_cmp c.loop-i.positions in
    let number = λ (x : Id). unwrap_or (table x) 0 in
    let f = follows_at events c.loop-i.i e c.requires.writable c.loop-i-test.true c.index-events-i.is in
    let same : c.deref.result.now ≡ places_of events e.parents = c.deref.ensures.value ∙ c.in_ok-find_all.ensures ∙ ap (map number) c.as_slice.ensures ∙ places_told events c.loop-i.i table e.parents c.loop-i.invariant.places f.held in
    let agent : c.number_of-agent.result ≡ agent_place events e.id.agent = c.number_of-agent.ensures ∙ ap (position_or_len (name_eq e.id.agent)) c.requires.agents in
    let at : slice_get events c.loop-i.i ≡ Some e = slice_get-get_or events c.loop-i.i e c.loop-i-test.true ∙ ap (λ (x : Event). Some x) (sym c.index-events-i.is) in
    record {
      so_far = c.in_ok-put.ensures.put events c.loop-i.i c.requires.writable c.loop-i.invariant.so_far (record {
        event = e;
        there = at;
        agent_is = agent;
        seq_is = refl;
        parents_are = same;
        op_is = refl;
      });
      places = places_more events c.loop-i.i e table (get id_cmp c.insert.new.self) c.requires.writable c.loop-i-test.true c.index-events-i.is c.loop-i.invariant.places c.in_ok-insert.ensures.updates.0;
    }

pub returns : goal.returns
returns c =
    let events = c.args.events.now in
    let all : c.loop-i.i ≡ length events = omega arith in
    subst (λ n. ArePut events n c.loop-i.writer) all c.loop-i.invariant.so_far
