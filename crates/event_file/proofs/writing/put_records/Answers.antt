use Rattle.std.proofs.Common.{◌≡◌, ℕ, List, All, length, take, map, flat_map, [], ◌∷◌, ◌++◌, ap, ◌∙◌, sym, subst, arith}
use Rattle.std.specs.Prelude.{unwrap_or, IsSome}
use Rattle.std.specs.BTreeMap.{get}
use Rattle.std.specs.List.{list_any, position_or_len}
use Rattle.std.proofs.lemmas.Bool.{leb-true}
use Rattle.std.proofs.lemmas.List.{length-map, take_more, flat_map_more}
use Rattle.ew_model.specs.declared.id.Id.{Id}
use Rattle.ew_model.specs.Ids.{name_eq, id_cmp}
use Rattle.ew_model.specs.Ancestors.{ids_of}
use Rattle.ew_model.specs.Writable.{agents_of}
use Rattle.file_words.specs.File.{record_bytes}
use Rattle.event_file.specs.Writing.{fields_of}
use Rattle.event_file.proofs.Tables.{all_have, follows_at, agent_there, record_by, fields_by, record_is, places_more}
use Rattle.event_file.proofs.writing.put_records.Goals as goal

pub number_of-agent-requires : goal.number_of-agent-requires
number_of-agent-requires c =
    let e = c.index-events-i.result in
    ap (list_any (name_eq e.id.agent)) c.requires.agents ∙ agent_there c.args.events.now c.loop-i.i e c.loop-i-test.true c.index-events-i.is

pub find_all-requires : goal.find_all-requires
find_all-requires c =
    let e = c.index-events-i.result in
    let f = follows_at c.args.events.now c.loop-i.i e c.requires.writable c.loop-i-test.true c.index-events-i.is in
    subst (All (λ (x : Id). IsSome (get id_cmp c.loop-i.positions x))) (sym c.as_slice.ensures)
    (all_have (ids_of (take c.loop-i.i c.args.events.now)) (get id_cmp c.loop-i.positions) e.parents c.loop-i.invariant.places f.held)

pub put_record-requires : goal.put_record-requires
put_record-requires c =
    let e = c.index-events-i.result in
    let number = λ (x : Id). unwrap_or (get id_cmp c.loop-i.positions x) 0 in
    let same : c.deref.result.now ≡ map number e.parents = c.deref.ensures.value ∙ c.in_ok-find_all.ensures ∙ ap (map number) c.as_slice.ensures in
    let size = ap (λ (xs : List ℕ). length xs) same ∙ length-map e.parents number in
    let few = leb-true (length e.parents) 16 (follows_at c.args.events.now c.loop-i.i e c.requires.writable c.loop-i-test.true c.index-events-i.is).few in
    omega (arith, size, few)

pub loop-i-preserved : goal.loop-i-preserved
loop-i-preserved c =
    let events = c.args.events.now in
    let e = c.index-events-i.result in
    let table = get id_cmp c.loop-i.positions in
    let number = λ (x : Id). unwrap_or (table x) 0 in
    let agent = position_or_len (name_eq e.id.agent) (agents_of events) in
    let same : c.deref.result.now ≡ map number e.parents = c.deref.ensures.value ∙ c.in_ok-find_all.ensures ∙ ap (map number) c.as_slice.ensures in
    let put = fields_of c.number_of-agent.result e.id.seq c.deref.result.now e.op in
    let fields : put ≡ record_by (agents_of events) table e =
    ap (λ n. fields_of n e.id.seq c.deref.result.now e.op) (c.number_of-agent.ensures ∙ ap (position_or_len (name_eq e.id.agent)) c.requires.agents)
    ∙ ap (λ ps. fields_of agent e.id.seq ps e.op) same
    ∙ fields_by (agents_of events) table e in
    let record_text = fields ∙ record_is events c.loop-i.i e table c.requires.writable c.loop-i-test.true c.index-events-i.is c.loop-i.invariant.places in
    let more = take_more events c.loop-i.i e c.loop-i-test.true ∙ ap (λ x. take c.loop-i.i events ++ x ∷ []) (sym c.index-events-i.is) in
    record {
      so_far = c.in_ok-put_record.ensures ∙ ap (λ t. t ++ put) c.loop-i.invariant.so_far ∙ ap (λ t. (c.args.out.now.items ++ flat_map (record_bytes events) (take c.loop-i.i events)) ++ t) record_text
          ∙ flat_map_more (record_bytes events) c.args.out.now.items (take c.loop-i.i events) e ∙ ap (λ xs. c.args.out.now.items ++ flat_map (record_bytes events) xs) (sym more);
      places = places_more events c.loop-i.i e table (get id_cmp c.insert.new.self) c.requires.writable c.loop-i-test.true c.index-events-i.is c.loop-i.invariant.places c.in_ok-insert.ensures.updates.0;
    }
