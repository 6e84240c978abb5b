-- All records of a file, its agents, and the file.
use Rattle.std.proofs.Common.{◌≡◌, ℕ, zero, suc, ◌^◌, ◌<◌, ◌≤◌, Bool, true, false, cond, not, leb, ltb, eqb, ◌&&◌, inl, inr, List, [], ◌∷◌, ◌++◌, length, take, flat_map, Some, Ok, Err, refl, sym, ap, subst, ◌∙◌, append_assoc, append-nil, arith}
use Rattle.std.specs.Prelude.{slice_get}
use Rattle.std.specs.List.{list_any, list_all, position_or_len, AllByRecursion}
use Rattle.std.proofs.lemmas.Bool.{cases_Bool, and_parts, and_from, not-true, not_from_false, ltb-false, le-ltb, eqb-true, eq-eqb, cond-true}
use Rattle.std.proofs.lemmas.List.{map-append, length-append, nil_from_length}
use Rattle.ew_model.specs.declared.id.Id.{Id}
use Rattle.ew_model.specs.declared.event.Event.{Event}
use Rattle.ew_model.specs.Ids.{id_eq, ids_ascend, name_eq}
use Rattle.ew_model.specs.Ancestors.{ids_of, is_held}
use Rattle.ew_model.specs.Sound.{IsSoundId, IsSound, AreSound}
use Rattle.ew_model.specs.Bytes.{four_bytes, name_bytes, op_bytes, AreBytes}
use Rattle.ew_model.specs.Writable.{agents_of, are_writable_after, IsWritable}
use Rattle.file_words.specs.File.{record_bytes}
use Rattle.file_words.specs.FileFaults.{Stop, Reader, stops, go_on, ◌>>=◌, number, read_names, read_record, read_records, read_end, read_events, open_agents}
use Rattle.file_words.specs.FileFaults.Stop.{BadField, OverLimit}
use Rattle.file_words.specs.FileFaults.RecordFault.{UnusedAgent}
use Rattle.ew_model.proofs.EntryLaws.{all_joined}
use Rattle.ew_model.proofs.TextLaws.{ids_equal}
use Rattle.ew_model.specs.Distinct.{AllNew}
use Rattle.ew_model.proofs.AgentLaws.{agents_push, known_agent, next_agent, agents_after, agents_new_from, agents_good_from, agents_few_from, ids_count, IsGoodName}
use Rattle.ew_model.proofs.ListPlaces.{place_kept, one_more_new, used_or_next, used_is_open, next_is_open}
use Rattle.file_words.proofs.FileFields.{Takes, Takes-then, go_ok, number_takes, number_again, names_take, names_again}
use Rattle.ew_model.proofs.IdLaws.{names_equal, name_exact}
use Rattle.file_words.proofs.FileRecords.{id_eq_exact, parent_bytes, record_at, IsSetting, MayFollow, record_takes, record_again}

-- ---- records

-- records of events one behind the other
abbrev pub records_at : List (List ℕ) → List Event → List Event → List ℕ
records_at agents before [] = []
records_at agents before (e ∷ later) = record_at agents before e ++ records_at agents (before ++ e ∷ []) later

pub ids_push : (before : List Event) (e : Event) → ids_of (before ++ e ∷ []) ≡ ids_of before ++ e.id ∷ []
ids_push before e = map-append (λ (f : Event). f.id) before (e ∷ [])

pub setting_after : (agents : List (List ℕ)) (before : List Event) (e : Event) → IsSetting agents before → IsSound e → MayFollow before e → IsSetting agents (before ++ e ∷ [])
setting_after agents before e s sound follows = record {
  names = s.names;
  good = s.good;
  apart = subst (AllNew id_eq []) (sym (ids_push before e)) (one_more_new id_eq ids_equal id_eq_exact [] (ids_of before) e.id s.apart follows.new);
  sound = subst (AllByRecursion IsSoundId) (sym (ids_push before e)) (all_joined IsSoundId (ids_of before) (e.id ∷ []) s.sound (sound.id, tt));
}

pub writable_first : (before : List Event) (e : Event) (later : List Event) → MayFollow before e → are_writable_after (before ++ e ∷ []) later ≡ true → are_writable_after before (e ∷ later) ≡ true
writable_first before e later f rest =
    and_from _ _ (and_from _ _ (and_from _ _ (and_from _ _ (not_from_false _ f.new) f.held) f.ascend) f.few) rest

pub writable_parts : (before : List Event) (e : Event) (later : List Event) → are_writable_after before (e ∷ later) ≡ true → MayFollow before e × (are_writable_after (before ++ e ∷ []) later ≡ true)
writable_parts before e later h =
    let a = not (is_held before e.id) in
    let b = list_all (is_held before) e.parents in
    let c = ids_ascend e.parents in
    let d = leb (length e.parents) 16 in
    let p = and_parts (a && b && c && d) (are_writable_after (before ++ e ∷ []) later) h in
    let q = and_parts (a && b && c) d p.0 in
    let r = and_parts (a && b) c q.0 in
    let t = and_parts a b r.0 in
    (record { new = not-true _ t.0; held = t.1; ascend = r.1; few = q.1 }, p.1)

pub record AreRecordsRead (agents : List (List ℕ)) (before : List Event) (n : ℕ) (bytes : List ℕ) (read : List Event) (left : List ℕ) : Type 0 where
  pub more : List Event
  pub joined : read ≡ before ++ more
  pub takes : Takes bytes (records_at agents before more) left
  pub count : length more ≡ n
  pub writable : are_writable_after before more ≡ true
  pub sound : AreSound more
  pub unused : List (List ℕ)
  pub agents_are : agents ≡ agents_of read ++ unused

abbrev pub BeginsWithAgents : List (List ℕ) → List Event → Type 0
BeginsWithAgents agents events = (rest : List (List ℕ)) × (agents ≡ agents_of events ++ rest)

-- the agents stay in front when a record is read
pub agents_step : (agents : List (List ℕ)) (before : List Event) (e : Event) (unused : List (List ℕ)) (i : ℕ) → agents ≡ agents_of before ++ unused → slice_get (open_agents agents before) i ≡ Some e.id.agent → BeginsWithAgents agents (before ++ e ∷ [])
agents_step agents before e unused i are got =
    let used = agents_of before in
    let known : list_any (name_eq e.id.agent) used ≡ true → BeginsWithAgents agents (before ++ e ∷ []) =
    λ t. (unused, are ∙ ap (λ xs. xs ++ unused) (sym (agents_push before e ∙ known_agent used e t))) in
    let next : (more : List (List ℕ)) → unused ≡ e.id.agent ∷ more → list_any (name_eq e.id.agent) used ≡ false → BeginsWithAgents agents (before ++ e ∷ []) =
    λ more n f. (more, are ∙ ap (λ xs. used ++ xs) n ∙ sym (append_assoc used (e.id.agent ∷ []) more) ∙ ap (λ xs. xs ++ more) (sym (agents_push before e ∙ next_agent used e f))) in
    let here = ap (λ xs. slice_get (take (suc (length used)) xs) i) (sym are) ∙ got in
    elim (used_or_next name_eq names_equal name_exact used unused i e.id.agent here) [
      | inl t ↦ known t
      | inr n ↦ elim (cases_Bool (list_any (name_eq e.id.agent) used)) [ inl t ↦ known t | inr f ↦ next n.0 n.1 f ]
    ]

records_take : (n : ℕ) (agents : List (List ℕ)) (before : List Event) (unused : List (List ℕ)) (bytes : List ℕ) (y : List Event × List ℕ) → IsSetting agents before → agents ≡ agents_of before ++ unused → AreBytes bytes → read_records agents before n bytes ≡ Ok y → AreRecordsRead agents before n bytes y.0 y.1
unfolding read_records
records_take zero agents before unused bytes y s are fits e =
    let same : (before, bytes) ≡ y = cc in
    subst (λ (p : List Event × List ℕ). AreRecordsRead agents before zero bytes p.0 p.1) same
    (record { more = []; joined = sym (append-nil before); takes = record { parts = refl; fits = fits }; count = refl; writable = refl; sound = tt; unused = unused; agents_are = are })
records_take (suc n) agents before unused bytes y s are fits e =
    let g = go_ok (read_record agents before bytes) (λ x. read_records agents (before ++ x ∷ []) n) y e in
    let x = g.0.0 in
    let first = record_takes agents before bytes g.0 s fits g.1 in
    let step = agents_step agents before x unused first.place are first.agent in
    let others = records_take n agents (before ++ x ∷ []) step.0 g.0.1 y (setting_after agents before x s first.sound first.follows) step.1 first.takes.fits g.2 in
    record {
      more = x ∷ others.more;
      joined = others.joined ∙ append_assoc before (x ∷ []) others.more;
      takes = Takes-then bytes (record_at agents before x) g.0.1 (records_at agents (before ++ x ∷ []) others.more) y.1 first.takes others.takes;
      count = ap suc others.count;
      writable = writable_first before x others.more first.follows others.writable;
      sound = (first.sound, others.sound);
      unused = others.unused;
      agents_are = others.agents_are;
    }

-- the agent of an event stands among those seen before it, or is the next
pub agent_open : (before : List Event) (e : Event) (later : List Event) → slice_get (open_agents (agents_of (before ++ e ∷ later)) before) (position_or_len (name_eq e.id.agent) (agents_of (before ++ e ∷ later))) ≡ Some e.id.agent
agent_open before e later =
    let used = agents_of before in
    let after = agents_after before e later in
    let P : List (List ℕ) → Type 0 = λ agents. slice_get (take (suc (length used)) agents) (position_or_len (name_eq e.id.agent) agents) ≡ Some e.id.agent in
    elim (cases_Bool (list_any (name_eq e.id.agent) used)) [
      | inl t ↦ subst P (sym (after.1 ∙ ap (λ xs. xs ++ after.0) (known_agent used e t))) (used_is_open name_eq names_equal name_exact used after.0 e.id.agent t)
      | inr f ↦ subst P (sym (after.1 ∙ ap (λ xs. xs ++ after.0) (next_agent used e f) ∙ append_assoc used (e.id.agent ∷ []) after.0)) (next_is_open name_eq names_equal name_exact used after.0 e.id.agent f)
    ]

records_again : (later before : List Event) (agents : List (List ℕ)) (left : List ℕ) → agents ≡ agents_of (before ++ later) → AreSound later → are_writable_after before later ≡ true → length agents < 2 ^ 32 → length (before ++ later) < 2 ^ 32 → read_records agents before (length later) (records_at agents before later ++ left) ≡ Ok (before ++ later, left)
unfolding read_records
records_again [] before agents left are sound writable small_agents small = ap (λ x. Ok (x, left)) (sym (append-nil before))
records_again (e ∷ later) before agents left are sound writable small_agents small =
    let w = writable_parts before e later writable in
    let rest = records_at agents (before ++ e ∷ []) later ++ left in
    let shifted : (before ++ e ∷ []) ++ later ≡ before ++ e ∷ later = append_assoc before (e ∷ []) later in
    let ids_small : length (ids_of before) < 2 ^ 32 = omega (arith, ids_count before, length-append before (e ∷ later)) in
    let known = subst (λ xs. slice_get (open_agents xs before) (position_or_len (name_eq e.id.agent) xs) ≡ Some e.id.agent) (sym are) (agent_open before e later) in
    ap (read_records agents before (length (e ∷ later))) (append_assoc (record_at agents before e) (records_at agents (before ++ e ∷ []) later) left)
    ∙ ap (λ r. go_on r (λ x. read_records agents (before ++ x ∷ []) (length later))) (record_again agents before e rest sound.0 w.0 known small_agents ids_small)
    ∙ records_again later (before ++ e ∷ []) agents left (are ∙ ap agents_of (sym shifted)) sound.1 w.1 small_agents (subst (λ xs. length xs < 2 ^ 32) (sym shifted) small)
    ∙ ap (λ xs. Ok (xs, left)) shifted

-- parents that stand before have their places in the whole history
pub parents_whole : (before later : List Event) (parents : List Id) → list_all (is_held before) parents ≡ true → flat_map (parent_bytes (ids_of (before ++ later))) parents ≡ flat_map (parent_bytes (ids_of before)) parents
parents_whole before later [] held = refl
parents_whole before later (p ∷ parents) held =
    let h = and_parts (is_held before p) (list_all (is_held before) parents) held in
    let place : position_or_len (id_eq p) (ids_of (before ++ later)) ≡ position_or_len (id_eq p) (ids_of before) =
    ap (position_or_len (id_eq p)) (map-append (λ (f : Event). f.id) before later) ∙ place_kept id_eq ids_equal id_eq_exact (ids_of before) (ids_of later) p h.0 in
    λ i. four_bytes (place i) ++ parents_whole before later parents h.1 i

pub record_whole : (before : List Event) (e : Event) (later : List Event) → MayFollow before e → record_bytes (before ++ e ∷ later) e ≡ record_at (agents_of (before ++ e ∷ later)) before e
unfolding record_bytes
record_whole before e later f =
    ap (λ ps. four_bytes (position_or_len (name_eq e.id.agent) (agents_of (before ++ e ∷ later))) ++ four_bytes e.id.seq ++ length e.parents ∷ ps ++ op_bytes e.op) (parents_whole before (e ∷ later) e.parents f.held)

-- the records of a history, one behind the other
pub records_whole : (later before : List Event) → are_writable_after before later ≡ true → flat_map (record_bytes (before ++ later)) later ≡ records_at (agents_of (before ++ later)) before later
records_whole [] before h = refl
records_whole (e ∷ later) before h =
    let w = writable_parts before e later h in
    let shifted : (before ++ e ∷ []) ++ later ≡ before ++ e ∷ later = append_assoc before (e ∷ []) later in
    let rest = subst (λ (xs : List Event). flat_map (record_bytes xs) later ≡ records_at (agents_of xs) (before ++ e ∷ []) later) shifted (records_whole later (before ++ e ∷ []) w.1) in
    λ i. record_whole before e later w.0 i ++ rest i

-- ---- what stands between the version and the digest

-- the agents, and the events
abbrev pub events_text : List Event → List ℕ
events_text events =
    four_bytes (length (agents_of events)) ++ (flat_map name_bytes (agents_of events) ++ (four_bytes (length events) ++ flat_map (record_bytes events) events))

ended : (agents : List (List ℕ)) (events : List Event) (y : List Event × List ℕ) (b : Bool) → eqb (length (agents_of events)) (length agents) ≡ b → cond b (Ok (events, [])) (Err (BadField 0 UnusedAgent)) ≡ Ok y → (length (agents_of events) ≡ length agents) × (y.0 ≡ events)
ended agents events y true is h = let same : (events, []) ≡ y = cc in (eqb-true _ _ is, ap (λ (p : List Event × List ℕ). p.0) (sym same))
ended agents events y false is h = absurd cc

pub end_ok : (agents : List (List ℕ)) (events : List Event) (bytes : List ℕ) (y : List Event × List ℕ) → read_end agents events bytes ≡ Ok y → (bytes ≡ []) × (length (agents_of events) ≡ length agents) × (y.0 ≡ events)
unfolding read_end
end_ok agents events [] y e = let h = ended agents events y (eqb (length (agents_of events)) (length agents)) refl e in (refl, h.0, h.1)
end_ok agents events (b ∷ bytes) y e = absurd cc

pub limit_ok : (b : Bool) (why : Stop) (next : Reader (List Event)) (bytes : List ℕ) (y : List Event × List ℕ) → (cond b (stops why) next) bytes ≡ Ok y → (b ≡ false) × (next bytes ≡ Ok y)
limit_ok true why next bytes y e = absurd cc
limit_ok false why next bytes y e = (refl, e)

-- behind the names: the events
abbrev read_all : List (List ℕ) → ℕ → Reader (List Event)
read_all agents count = read_records agents [] count >>= read_end agents

abbrev with_names : ℕ → List (List ℕ) → Reader (List Event)
with_names most agents = number >>= λ count. cond (ltb most count) (stops (OverLimit count)) (read_all agents count)

pub record AreEventsRead (most : ℕ) (bytes : List ℕ) (events : List Event) : Type 0 where
  pub spelled : bytes ≡ events_text events
  pub sound : AreSound events
  pub writable : IsWritable events
  pub few : length events ≤ most

pub events_take : (most : ℕ) (bytes : List ℕ) (y : List Event × List ℕ) → AreBytes bytes → read_events most bytes ≡ Ok y → AreEventsRead most bytes y.0
unfolding read_events
events_take most bytes y fits e =
    let g = go_ok ((number >>= read_names []) bytes) (with_names most) y e in
    let h = go_ok (number bytes) (read_names []) g.0 g.1 in
    let n = number_takes bytes h.0 fits h.1 in
    let names = names_take h.0.0 [] h.0.1 g.0 n.0.fits h.2 in
    let agents = g.0.0 in
    let are : agents ≡ names.more = names.joined in
    let k = go_ok (number g.0.1) (λ count. cond (ltb most count) (stops (OverLimit count)) (read_all agents count)) y g.2 in
    let m = number_takes g.0.1 k.0 names.takes.fits k.1 in
    let l = limit_ok (ltb most k.0.0) (OverLimit k.0.0) (read_all agents k.0.0) k.0.1 y k.2 in
    let r = go_ok (read_records agents [] k.0.0 k.0.1) (read_end agents) y l.1 in
    let setting : IsSetting agents [] = record {
      names = subst (AllNew name_eq []) (sym are) names.new;
      good = subst (AllByRecursion IsGoodName) (sym are) names.good;
      apart = tt;
      sound = tt;
    } in
    let events = records_take k.0.0 agents [] agents k.0.1 r.0 setting refl m.0.fits r.1 in
    let end = end_ok agents r.0.0 r.0.1 y r.2 in
    let all : y.0 ≡ events.more = end.2 ∙ events.joined in
    let none : length events.unused ≡ 0 = omega (arith, ap (λ (xs : List (List ℕ)). length xs) events.agents_are, length-append (agents_of r.0.0) events.unused, end.1) in
    let agents_all : agents ≡ agents_of events.more = events.agents_are ∙ ap (λ xs. agents_of r.0.0 ++ xs) (nil_from_length events.unused none) ∙ append-nil (agents_of r.0.0) ∙ ap agents_of events.joined in
    let names_are : names.more ≡ agents_of events.more = sym are ∙ agents_all in
    let names_text : Takes bytes (four_bytes h.0.0 ++ flat_map name_bytes names.more) g.0.1 = Takes-then bytes (four_bytes h.0.0) h.0.1 (flat_map name_bytes names.more) g.0.1 n.0 names.takes in
    let records_text : k.0.1 ≡ flat_map (record_bytes events.more) events.more =
    events.takes.parts ∙ ap (λ t. records_at agents [] events.more ++ t) end.0 ∙ append-nil (records_at agents [] events.more) ∙ ap (λ xs. records_at xs [] events.more) agents_all ∙ sym (records_whole events.more [] events.writable) in
    let first : bytes ≡ four_bytes h.0.0 ++ (flat_map name_bytes names.more ++ (four_bytes k.0.0 ++ k.0.1)) = n.0.parts ∙ ap (λ t. four_bytes h.0.0 ++ t) (names.takes.parts ∙ ap (λ t. flat_map name_bytes names.more ++ t) m.0.parts) in
    let whole : bytes ≡ events_text events.more = first
    ∙ ap (λ i. four_bytes i ++ (flat_map name_bytes names.more ++ (four_bytes k.0.0 ++ k.0.1))) (sym names.count)
    ∙ ap (λ xs. four_bytes (length xs) ++ (flat_map name_bytes xs ++ (four_bytes k.0.0 ++ k.0.1))) names_are
    ∙ ap (λ i. four_bytes (length (agents_of events.more)) ++ (flat_map name_bytes (agents_of events.more) ++ (four_bytes i ++ k.0.1))) (sym events.count)
    ∙ ap (λ t. four_bytes (length (agents_of events.more)) ++ (flat_map name_bytes (agents_of events.more) ++ (four_bytes (length events.more) ++ t))) records_text in
    subst (λ xs. AreEventsRead most bytes xs) (sym all) (record {
      spelled = whole;
      sound = events.sound;
      writable = record { few = omega (arith, events.count, m.1); each = events.writable };
      few = omega (arith, events.count, ltb-false _ _ l.0);
    })

pub end_again : (agents : List (List ℕ)) (events : List Event) → agents ≡ agents_of events → read_end agents events [] ≡ Ok (events, [])
unfolding read_end
end_again agents events are = cond-true (eqb (length (agents_of events)) (length agents)) (Ok (events, [])) (Err (BadField 0 UnusedAgent)) (eq-eqb _ _ (ap (λ (xs : List (List ℕ)). length xs) (sym are)))

pub events_again : (most : ℕ) (events : List Event) → AreSound events → IsWritable events → length events ≤ most → read_events most (events_text events) ≡ Ok (events, [])
unfolding read_events
events_again most events sound writable few =
    let agents = agents_of events in
    let small : length agents < 2 ^ 32 = omega (arith, agents_few_from [] events, writable.few) in
    let records = flat_map (record_bytes events) events in
    let behind = four_bytes (length events) ++ records in
    let names : read_names [] (length agents) (flat_map name_bytes agents ++ behind) ≡ Ok (agents, behind) =
    names_again agents [] behind (agents_new_from [] events tt) (agents_good_from [] events tt sound) in
    let spelled : records ≡ records_at agents [] events ++ [] = records_whole events [] writable.each ∙ sym (append-nil (records_at agents [] events)) in
    let read : read_records agents [] (length events) records ≡ Ok (events, []) =
    ap (read_records agents [] (length events)) spelled ∙ records_again events [] agents [] refl sound writable.each small writable.few in
    ap (λ r. go_on (go_on r (read_names [])) (with_names most)) (number_again (length agents) (flat_map name_bytes agents ++ behind) small)
    ∙ ap (λ r. go_on r (with_names most)) names
    ∙ ap (λ r. go_on r (λ count. cond (ltb most count) (stops (OverLimit count)) (read_all agents count))) (number_again (length events) records writable.few)
    ∙ ap (λ b. (cond b (stops (OverLimit (length events))) (read_all agents (length events))) records) (le-ltb most (length events) few)
    ∙ ap (λ r. go_on r (read_end agents)) read
    ∙ end_again agents events refl
