-- How long things are in a frame.
use Rattle.std.proofs.Common.{◌≡◌, ℕ, zero, suc, ◌-◌, ◌*◌, ◌<◌, ◌≤◌, ◌^◌, nat_le, true, List, [], ◌∷◌, ◌++◌, length, map, take, drop, flat_map, Option, Some, None, refl, arith}
use Rattle.std.specs.List.{AllByRecursion}
use Rattle.std.proofs.lemmas.List.{length-append, length-take}
use Rattle.std.proofs.Math.Nat.{div-mul-le_self}
use Rattle.ew_model.specs.declared.id.Id.{Id}
use Rattle.ew_model.specs.declared.event.Event.{Event}
use Rattle.ew_model.specs.Bytes.{four_bytes, name_bytes, op_bytes}
use Rattle.ew_model.specs.Kept.{ReplicaState}
use Rattle.ew_model.specs.Limits.{LimitNumbers, AreLimits}
use Rattle.ew_model.specs.Sound.{IsSoundId, IsSound, AreSound}
use Rattle.ew_model.specs.Verdicts.{IsGoodAfter, IsGood}
use Rattle.ew_model.proofs.GoodLaws.{next_from_good}
use Rattle.ew_model.proofs.SortingLaws.{all_filter}
use Rattle.history_definitions.specs.Missing.{count_in, missing}
use Rattle.history_definitions.specs.Summary.{summary_of}
use Rattle.event_graph.proofs.Tails.{all_first}
use Rattle.peer_definitions.specs.declared.frame.Frame.{Frame}
use Rattle.peer_definitions.specs.declared.frame.Frame.TheVariants.{Have, Events, Done, Took, Clash, Bye}
use Rattle.peer_frames.specs.Laws.{IsTaken}
use Rattle.peer_definitions.specs.Spelling.{AgentCount, id_bytes, event_bytes, count_bytes, events_body, body_of, names_ascend, IsSoundCount, IsSoundFrame}
use Rattle.peer_frames.proofs.ShortNames.{four_long, id_short, ids_short, op_short}
use Rattle.peer_definitions.specs.Answering.{question, frame_for}
use Rattle.peer_definitions.specs.Pieces.{frame_room, pieces_from, pieces}
use Rattle.peer_exchange.proofs.Ascending.{summary_up, summary_some, summary_few}
use Rattle.ew_model.proofs.NameLaws.{name_short}

-- no event with at most 16 parents has more bytes than this
event_short : (e : Event) → IsSound e → length e.parents ≤ 16 → length (event_bytes e) ≤ 664
event_short e h few =
    let id = id_short e.id h.id in
    let parents = ids_short e.parents h.parents in
    let op = op_short e.op h.op in
    let front = length-append (id_bytes e.id) (length e.parents ∷ flat_map id_bytes e.parents) in
    let whole = length-append (id_bytes e.id ++ length e.parents ∷ flat_map id_bytes e.parents) (op_bytes e.op) in
    omega (arith, id, parents, op, front, whole, few)

abbrev pub HasFew : Event → Type 0
HasFew e = length e.parents ≤ 16

events_short : (events : List Event) → AreSound events → AllByRecursion HasFew events → length (flat_map event_bytes events) ≤ 664 * length events
events_short [] h few = omega arith
events_short (e ∷ events) h few =
    let one = event_short e h.0 few.0 in
    let rest = events_short events h.1 few.1 in
    let both = length-append (event_bytes e) (flat_map event_bytes events) in
    omega (arith, one, rest, both)

may_send : (events : List Event) → AllByRecursion HasFew events → AllByRecursion (λ (e : Event). length e.parents ≤ 255) events
may_send [] few = tt
may_send (e ∷ events) few = (let one = few.0 in omega (arith, one), may_send events few.1)

-- ---- frames

-- a frame of as many events as go into one
events_taken : (limits : LimitNumbers) (events : List Event) → AreLimits limits → AreSound events → AllByRecursion HasFew events → length events ≤ frame_room limits → IsTaken limits (Events events)
events_taken limits events are sound few fits =
    let flat = events_short events sound few in
    let room = div-mul-le_self (limits.body - 4) 664 in
    let whole = length-append (four_bytes (length events)) (flat_map event_bytes events) in
    let least = are.room_for_an_event in
    let most = are.short_body in
    let short : length (events_body events) ≤ limits.body = omega (arith, flat, room, whole, four_long (length events), fits, least) in
    record {
      sound = sound;
      spelled = record { content = may_send events few; body = omega (arith, short, most) };
      short = short;
    }

-- what holds of all holds of those behind the first
pub all_drop : {A : Type 0} (P : A → Type 0) (n : ℕ) (xs : List A) → AllByRecursion P xs → AllByRecursion P (drop n xs)
all_drop P zero xs h = h
all_drop P (suc n) [] h = tt
all_drop P (suc n) (x ∷ xs) h = all_drop P n xs h.1

pieces_taken : (limits : LimitNumbers) (k : ℕ) (events : List Event) → AreLimits limits → AreSound events → AllByRecursion HasFew events
    → AllByRecursion (IsTaken limits) (map Events (pieces_from (frame_room limits) k events))
pieces_taken limits zero events are sound few = tt
pieces_taken limits (suc k) events are sound few =
    let n = frame_room limits in
    let len = length-take n events in (
      events_taken limits (take n events) are (all_first IsSound n events sound) (all_first HasFew n events few) (omega (arith, len)),
      pieces_taken limits k (drop n events) are (all_drop IsSound n events sound) (all_drop HasFew n events few),
    )

pub done_taken : (limits : LimitNumbers) → IsTaken limits Done
done_taken limits = record { sound = tt; spelled = record { content = tt; body = omega arith }; short = omega arith }

pub bye_taken : (limits : LimitNumbers) → IsTaken limits Bye
bye_taken limits = record { sound = tt; spelled = record { content = tt; body = omega arith }; short = omega arith }

pub clash_taken : (limits : LimitNumbers) (x : Id) → AreLimits limits → IsSoundId x → IsTaken limits (Clash x)
clash_taken limits x are sound =
    let len = id_short x sound in
    let least = are.room_for_an_event in
    record { sound = sound; spelled = record { content = tt; body = omega (arith, len) }; short = omega (arith, len, least) }

pub took_taken : (limits : LimitNumbers) (a b c d : ℕ) → AreLimits limits → a < 2 ^ 32 → b < 2 ^ 32 → c < 2 ^ 32 → d < 2 ^ 32 → IsTaken limits (Took a b c d)
took_taken limits a b c d are fa fb fc fd =
    let long : length (body_of (Took a b c d)) ≡ 16 = refl in
    let least = are.room_for_an_event in
    record {
      sound = (fa, fb, fc, fd);
      spelled = record { content = tt; body = omega (arith, long) };
      short = omega (arith, long, least);
    }

-- the frames of events, and Done behind them
pub sent_taken : (limits : LimitNumbers) (events : List Event) → AreLimits limits → AreSound events → AllByRecursion HasFew events
    → AllByRecursion (IsTaken limits) (map Events (pieces (frame_room limits) events) ++ Done ∷ [])
sent_taken limits events are sound few = with_done (map Events (pieces (frame_room limits) events)) (pieces_taken limits _ events are sound few)
  where
    with_done : (frames : List Frame) → AllByRecursion (IsTaken limits) frames → AllByRecursion (IsTaken limits) (frames ++ Done ∷ [])
    with_done [] h = (done_taken limits, tt)
    with_done (f ∷ frames) h = (h.0, with_done frames h.1)

-- ---- counts

counts_short : (counts : List AgentCount) → AllByRecursion IsSoundCount counts → length (flat_map count_bytes counts) ≤ 37 * length counts
counts_short [] h = omega arith
counts_short (c ∷ counts) h =
    let name = name_short c.0 h.0.agent in
    let one = length-append (name_bytes c.0) (four_bytes c.1) in
    let both = length-append (count_bytes c) (flat_map count_bytes counts) in
    let rest = counts_short counts h.1 in
    omega (arith, name, one, both, rest, four_long c.1)

pub have_taken : (limits : LimitNumbers) (counts : List AgentCount) → AreLimits limits → AllByRecursion IsSoundCount counts → names_ascend (map (λ (c : AgentCount). c.0) counts) ≡ true
    → AllByRecursion (λ (c : AgentCount). 0 < c.1) counts → length counts ≤ limits.events → IsTaken limits (Have counts)
have_taken limits counts are sound up some few =
    let flat = counts_short counts sound in
    let whole = length-append (four_bytes (length counts)) (flat_map count_bytes counts) in
    let most = are.few_events in
    record {
      sound = sound;
      spelled = record { content = (up, some); body = omega (arith, flat, whole, four_long (length counts), few, most) };
      short = omega (arith, flat, whole, four_long (length counts), few);
    }

-- ---- what a replica has

-- no event of a good history has too many parents
pub few_after : (before events : List Event) → IsGoodAfter before events → AllByRecursion HasFew events
few_after before [] good = tt
few_after before (e ∷ events) good = ((next_from_good before e good.0).few, few_after (before ++ e ∷ []) events good.1)

-- of a good history no event that is missing elsewhere has too many parents
pub missing_few : (history : List Event) (counts : List AgentCount) → IsGood history → AllByRecursion HasFew (missing history counts)
unfolding IsGood
missing_few history counts good = all_filter HasFew (λ (e : Event). nat_le (count_in counts e.id.agent) e.id.seq) history (few_after [] history good)

pub missing_sound : (history : List Event) (counts : List AgentCount) → AreSound history → AreSound (missing history counts)
missing_sound history counts sound = all_filter IsSound (λ (e : Event). nat_le (count_in counts e.id.agent) e.id.seq) history sound

-- what is told of received events
pub told_taken : (limits : LimitNumbers) (a b c d : ℕ) (clash : Option Id) → AreLimits limits → IsSoundFrame (frame_for (Took a b c d) clash) → IsTaken limits (frame_for (Took a b c d) clash)
told_taken limits a b c d None are sound = took_taken limits a b c d are sound.0 sound.1 sound.2 sound.3
told_taken limits a b c d (Some x) are sound = clash_taken limits x are sound

-- what is asked
pub question_taken : (r : ReplicaState) → AreLimits r.limits → AllByRecursion IsSoundCount (summary_of r.held) → length r.held ≤ r.limits.events → IsTaken r.limits (question r)
question_taken r are sound few =
    have_taken r.limits (summary_of r.held) are sound (summary_up r.held) (summary_some r.held) (let fewer = summary_few r.held in omega (arith, few, fewer))
