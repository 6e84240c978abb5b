use Rattle.std.proofs.Common.{◌-◌, [], ◌∷◌, ◌++◌, length, refl, ap, arith, rules}
use Rattle.std.proofs.Math.Nat.{div-mul-le_self}
use Rattle.std.proofs.lemmas.List.{length-append}
use Rattle.ew_model.specs.declared.limits.TheConstants.{COUNT_BYTES, MOST_EVENT_BYTES}
use Rattle.ew_model.specs.Bytes.{four_bytes}
use Rattle.peer_definitions.specs.Spelling.{events_body}
use Rattle.event_journal.proofs.Lengths.{body_short, room_enough, fewer_parents}
use Rattle.event_journal.proofs.journal.behind_gate.Goals as goal

pub encode_events-requires-clause-bytes : goal.encode_events-requires-clause-bytes
encode_events-requires-clause-bytes c =
    let room = room_enough c.args.most c.args.events.now c.note_events.ensures c.requires.parents c.requires.least c.requires.few in
    omega (arith, room, c.requires.short)

pub encode_events-requires-clause-parents : goal.encode_events-requires-clause-parents
encode_events-requires-clause-parents c = fewer_parents c.args.events.now c.requires.parents

pub overflow_cast-len : goal.overflow_cast-len
overflow_cast-len c =
    let room = room_enough c.args.most c.args.events.now c.note_events.ensures c.requires.parents c.requires.least c.requires.few in
    omega (arith, room, c.len-2.ensures, ap length c.in_ok-body.ensures.bytes, c.requires.short)

pub returns-clause-batch : goal.returns-clause-batch
returns-clause-batch c =
    let room = room_enough c.args.most c.args.events.now c.note_events.ensures c.requires.parents c.requires.least c.requires.few in
    record {
      some = c.requires.some;
      body = record {
        sound = c.note_events.ensures;
        few = omega (arith, div-mul-le_self (c.args.most - COUNT_BYTES) MOST_EVENT_BYTES, c.requires.few, c.requires.short);
        parents = fewer_parents c.args.events.now c.requires.parents;
        spelled = refl;
      };
      short = room;
      told = omega (arith, room, c.requires.short);
    }

pub returns-clause-bytes : goal.returns-clause-bytes
returns-clause-bytes c = search rules

pub returns-clause-length : goal.returns-clause-length
returns-clause-length c =
    let body = events_body c.args.events.now in
    omega (
      arith,
      ap length (returns-clause-bytes c),
      body_short c.args.events.now c.note_events.ensures c.requires.parents,
      length-append (four_bytes (length body) ++ body) (0 ∷ []),
      length-append (four_bytes (length body)) body,
    )
