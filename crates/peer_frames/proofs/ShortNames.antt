-- How long names, ids, operations and events are in bytes.
use Rattle.std.proofs.Common.{◌≡◌, ℕ, ◌*◌, ◌<◌, ◌≤◌, List, [], ◌∷◌, length, flat_map, refl, arith}
use Rattle.std.specs.List.{AllByRecursion}
use Rattle.std.proofs.lemmas.List.{length-append}
use Rattle.ew_model.specs.declared.id.Id.{Id}
use Rattle.ew_model.specs.declared.event.Op.{Op}
use Rattle.ew_model.specs.declared.event.Op.TheVariants.{Ins, Del, Mark}
use Rattle.ew_model.specs.declared.event.Event.{Event}
use Rattle.ew_model.specs.Bytes.{four_bytes, name_bytes, op_bytes}
use Rattle.ew_model.specs.Sound.{IsSoundId, IsSoundOp}
use Rattle.peer_definitions.specs.Spelling.{id_bytes, event_bytes}
use Rattle.ew_model.proofs.NameLaws.{name_short}

pub four_long : (n : ℕ) → length (four_bytes n) ≡ 4
four_long n = refl

pub id_short : (x : Id) → IsSoundId x → length (id_bytes x) ≤ 37
id_short x h = let name = name_short x.agent h.agent in let whole = length-append (name_bytes x.agent) (four_bytes x.seq) in omega (arith, name, whole, four_long x.seq)

pub ids_short : (ids : List Id) → AllByRecursion IsSoundId ids → length (flat_map id_bytes ids) ≤ 37 * length ids
ids_short [] h = omega arith
ids_short (x ∷ ids) h = let one = id_short x h.0 in let rest = ids_short ids h.1 in let both = length-append (id_bytes x) (flat_map id_bytes ids) in omega (arith, one, rest, both)

pub op_short : (o : Op) → IsSoundOp o → length (op_bytes o) ≤ 34
op_short (Ins at ch) h = let both = length-append (four_bytes at) (four_bytes ch) in omega (arith, both, four_long at, four_long ch)
op_short (Del at) h = omega (arith, four_long at)
op_short (Mark label) h = omega (arith, name_short label h)

-- an event has a byte at least
pub events_long : (events : List Event) → length events ≤ length (flat_map event_bytes events)
events_long [] = omega arith
events_long (e ∷ events) = omega (arith, events_long events, length-append (event_bytes e) (flat_map event_bytes events), some e)
  where
    some : (e : Event) → 0 < length (event_bytes e)
    some e = omega arith
