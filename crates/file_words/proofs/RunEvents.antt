-- The events of one run behind others: what is told of the run is told of them, and the other way round.
use Rattle.std.proofs.Common.{◌≡◌, ℕ, zero, suc, ◌+◌, ◌-◌, ◌^◌, ◌<◌, ◌≤◌, true, false, not, ◌||◌, List, [], ◌∷◌, ◌++◌, length, refl, sym, ap, ◌∙◌, append_assoc, append-nil, arith}
use Rattle.std.specs.List.{list_any, AllByRecursion}
use Rattle.std.proofs.lemmas.Bool.{and_parts, and_from, or_parts, or_from, or_left, or_right, not-true, not_from_false, false_from_ne_true}
use Rattle.std.proofs.lemmas.List.Folds.{list_any-append}
use Rattle.ew_model.specs.declared.id.Id.{Id}
use Rattle.ew_model.specs.declared.event.Op.{Op}
use Rattle.ew_model.specs.declared.event.Event.{Event}
use Rattle.ew_model.specs.Ids.{id_eq, name_eq}
use Rattle.ew_model.specs.Ancestors.{ids_of, is_held}
use Rattle.ew_model.specs.Names.{is_name}
use Rattle.ew_model.specs.Sound.{IsSoundId, IsSoundOp, AreSound}
use Rattle.ew_model.specs.Edits.{chain_of, insertions_at}
use Rattle.ew_model.specs.Writable.{agents_of, are_writable_after}
use Rattle.ew_model.proofs.AgentLaws.{agents_push, known_agent}
use Rattle.ew_model.proofs.EditLaws.{chain_long}
use Rattle.ew_model.proofs.TextLaws.{ids_equal}
use Rattle.file_words.specs.FileRuns.{RunOps, FileRun, ops_count, ops_in, run_events, are_new}
use Rattle.file_words.specs.FileRuns.RunOps.{Insertions, Deletions, BackDeletions, OneMark}
use Rattle.file_words.specs.FileRunLaws.{IsSteady, first_op_of, first_event}
use Rattle.file_words.proofs.FileFields.{scalar_is}
use Rattle.file_words.proofs.FileRecords.{id_eq_exact, MayFollow}
use Rattle.file_words.proofs.FileEvents.{ids_push, writable_first, writable_parts}
use Rattle.file_words.proofs.FileRuns.{steady_some, ops_long}
use Rattle.file_words.proofs.RunFields.{AreScalars, AreSoundOps}
use Rattle.ew_model.proofs.EditTexts.{deletions_sound, back_sound}

-- ---- ids

held_behind : (before : List Event) (e : Event) (x : Id) → is_held (before ++ e ∷ []) x ≡ (is_held before x || (id_eq x e.id || false))
held_behind before e x = ap (λ ids. list_any (id_eq x) ids) (ids_push before e) ∙ list_any-append (id_eq x) (ids_of before) (e.id ∷ [])

other_number : (agent : List ℕ) (m n : ℕ) → m < n → id_eq (record { agent = agent; seq = n }) (record { agent = agent; seq = m }) ≡ false
other_number agent m n lt = false_from_ne_true _ (λ t.
    let same : n ≡ m = ap (λ (z : Id). z.seq) (id_eq_exact (record { agent = agent; seq = n }) (record { agent = agent; seq = m }) t) in
    omega (arith, same, lt))

-- the ids above an event's number are new behind it as well
new_behind : (count : ℕ) (before : List Event) (e : Event) (n : ℕ) → e.id.seq < n → are_new before (record { agent = e.id.agent; seq = n }) count ≡ true → are_new (before ++ e ∷ []) (record { agent = e.id.agent; seq = n }) count ≡ true
new_behind zero before e n lt h = refl
new_behind (suc count) before e n lt h =
    let y : Id = record { agent = e.id.agent; seq = n } in
    let p = and_parts (not (is_held before y)) (are_new before (record { agent = e.id.agent; seq = n + 1 }) count) h in
    let fresh : is_held (before ++ e ∷ []) y ≡ false = held_behind before e y ∙ or_from _ _ (not-true _ p.0) (or_from _ _ (other_number e.id.agent e.id.seq n lt) refl) in
    and_from _ _ (not_from_false _ fresh) (new_behind count before e (n + 1) (omega (arith, lt)) p.1)

new_before : (count : ℕ) (before : List Event) (e : Event) (agent : List ℕ) (n : ℕ) → are_new (before ++ e ∷ []) (record { agent = agent; seq = n }) count ≡ true → are_new before (record { agent = agent; seq = n }) count ≡ true
new_before zero before e agent n h = refl
new_before (suc count) before e agent n h =
    let y : Id = record { agent = agent; seq = n } in
    let p = and_parts (not (is_held (before ++ e ∷ []) y)) (are_new (before ++ e ∷ []) (record { agent = agent; seq = n + 1 }) count) h in
    let fresh = or_parts (is_held before y) (id_eq y e.id || false) (sym (held_behind before e y) ∙ not-true _ p.0) in
    and_from _ _ (not_from_false _ fresh.0) (new_before count before e agent (n + 1) p.1)

-- ---- events that may be written

chain_written : (ops : List Op) (agent : List ℕ) (n k : ℕ) (before later : List Event) → k < n → is_held before (record { agent = agent; seq = k }) ≡ true → are_new before (record { agent = agent; seq = n }) (length ops) ≡ true
    → are_writable_after (before ++ chain_of agent n (record { agent = agent; seq = k } ∷ []) ops) later ≡ true → are_writable_after before (chain_of agent n (record { agent = agent; seq = k } ∷ []) ops ++ later) ≡ true
chain_written [] agent n k before later lt held new h = sym (ap (λ (b : List Event). are_writable_after b later) (append-nil before)) ∙ h
chain_written (o ∷ ops) agent n k before later lt held new h =
    let x : Id = record { agent = agent; seq = n } in
    let e : Event = record { id = x; parents = record { agent = agent; seq = k } ∷ []; op = o } in
    let rest = chain_of agent (n + 1) (x ∷ []) ops in
    let p = and_parts (not (is_held before x)) (are_new before (record { agent = agent; seq = n + 1 }) (length ops)) new in
    let here : is_held (before ++ e ∷ []) x ≡ true = held_behind before e x ∙ or_right (is_held before x) (id_eq x x || false) (or_left (id_eq x x) false (ids_equal.refl x)) in
    writable_first before e (rest ++ later) (record { new = not-true _ p.0; held = and_from _ _ held refl; ascend = refl; few = refl })
    (chain_written ops agent (n + 1) n (before ++ e ∷ []) later (omega arith) here (new_behind (length ops) before e (n + 1) (omega arith) p.1)
    (ap (λ (b : List Event). are_writable_after b later) (append_assoc before (e ∷ []) rest) ∙ h))

-- the first of them has parents of its own
begun_written : (ops : List Op) (x : Id) (parents : List Id) (op : Op) (before later : List Event) → MayFollow before (record { id = x; parents = parents; op = op }) → are_new before x (length ops) ≡ true
    → are_writable_after (before ++ chain_of x.agent x.seq parents ops) later ≡ true → are_writable_after before (chain_of x.agent x.seq parents ops ++ later) ≡ true
begun_written [] x parents op before later f new h = sym (ap (λ (b : List Event). are_writable_after b later) (append-nil before)) ∙ h
begun_written (o ∷ ops) x parents op before later f new h =
    let e : Event = record { id = x; parents = parents; op = o } in
    let rest = chain_of x.agent (x.seq + 1) (x ∷ []) ops in
    let p = and_parts (not (is_held before x)) (are_new before (record { agent = x.agent; seq = x.seq + 1 }) (length ops)) new in
    let here : is_held (before ++ e ∷ []) x ≡ true = held_behind before e x ∙ or_right (is_held before x) (id_eq x x || false) (or_left (id_eq x x) false (ids_equal.refl x)) in
    writable_first before e (rest ++ later) (record { new = f.new; held = f.held; ascend = f.ascend; few = f.few })
    (chain_written ops x.agent (x.seq + 1) x.seq (before ++ e ∷ []) later (omega arith) here (new_behind (length ops) before e (x.seq + 1) (omega arith) p.1)
    (ap (λ (b : List Event). are_writable_after b later) (append_assoc before (e ∷ []) rest) ∙ h))

pub run_written : (r : FileRun) (before later : List Event) → MayFollow before (first_event r) → are_new before r.id (ops_count r.ops) ≡ true → are_writable_after (before ++ run_events r) later ≡ true → are_writable_after before (run_events r ++ later) ≡ true
run_written r before later f new h = begun_written (ops_in r.ops) r.id r.parents (first_op_of r.ops) before later f (ap (are_new before r.id) (ops_long r.ops) ∙ new) h

chain_back : (ops : List Op) (agent : List ℕ) (n : ℕ) (parents : List Id) (before later : List Event) → are_writable_after before (chain_of agent n parents ops ++ later) ≡ true
    → (are_new before (record { agent = agent; seq = n }) (length ops) ≡ true) × (are_writable_after (before ++ chain_of agent n parents ops) later ≡ true)
chain_back [] agent n parents before later h = (refl, ap (λ (b : List Event). are_writable_after b later) (append-nil before) ∙ h)
chain_back (o ∷ ops) agent n parents before later h =
    let x : Id = record { agent = agent; seq = n } in
    let e : Event = record { id = x; parents = parents; op = o } in
    let rest = chain_of agent (n + 1) (x ∷ []) ops in
    let p = writable_parts before e (rest ++ later) h in
    let q = chain_back ops agent (n + 1) (x ∷ []) (before ++ e ∷ []) later p.1 in (
      and_from _ _ (not_from_false _ p.0.new) (new_before (length ops) before e agent (n + 1) q.0),
      ap (λ (b : List Event). are_writable_after b later) (sym (append_assoc before (e ∷ []) rest)) ∙ q.1,
    )

first_back : (ops : List Op) (x : Id) (parents : List Id) (op : Op) (before later : List Event) → 0 < length ops → are_writable_after before (chain_of x.agent x.seq parents ops ++ later) ≡ true → MayFollow before (record { id = x; parents = parents; op = op })
first_back [] x parents op before later some h = absurd (omega (arith, some))
first_back (o ∷ ops) x parents op before later some h =
    let f = (writable_parts before (record { id = x; parents = parents; op = o }) (chain_of x.agent (x.seq + 1) (x ∷ []) ops ++ later) h).0 in
    record { new = f.new; held = f.held; ascend = f.ascend; few = f.few }

pub record IsWritten (before : List Event) (r : FileRun) (later : List Event) : Type 0 where
  pub first : MayFollow before (first_event r)
  pub new : are_new before r.id (ops_count r.ops) ≡ true
  pub rest : are_writable_after (before ++ run_events r) later ≡ true

pub run_back : (r : FileRun) (before later : List Event) → IsSteady r.ops → are_writable_after before (run_events r ++ later) ≡ true → IsWritten before r later
run_back r before later steady h =
    let long = ops_long r.ops in
    let some = steady_some r.ops steady in
    let c = chain_back (ops_in r.ops) r.id.agent r.id.seq r.parents before later h in
    record {
      first = first_back (ops_in r.ops) r.id r.parents (first_op_of r.ops) before later (omega (arith, long, some)) h;
      new = sym (ap (are_new before r.id) long) ∙ c.0;
      rest = c.1;
    }

-- ---- agents and numbers

-- further events of an agent that is there add none
pub chain_agents : (ops : List Op) (agent : List ℕ) (n : ℕ) (parents : List Id) (before : List Event) → list_any (name_eq agent) (agents_of before) ≡ true → agents_of (before ++ chain_of agent n parents ops) ≡ agents_of before
chain_agents [] agent n parents before known = ap agents_of (append-nil before)
chain_agents (o ∷ ops) agent n parents before known =
    let x : Id = record { agent = agent; seq = n } in
    let e : Event = record { id = x; parents = parents; op = o } in
    let rest = chain_of agent (n + 1) (x ∷ []) ops in
    let same : agents_of (before ++ e ∷ []) ≡ agents_of before = agents_push before e ∙ known_agent (agents_of before) e known in
    ap agents_of (sym (append_assoc before (e ∷ []) rest)) ∙ chain_agents ops agent (n + 1) (x ∷ []) (before ++ e ∷ []) (ap (list_any (name_eq agent)) same ∙ known) ∙ same

pub run_count : (r : FileRun) → length (run_events r) ≡ ops_count r.ops
run_count r = chain_long r.id.agent r.id.seq r.parents (ops_in r.ops) ∙ ops_long r.ops

-- ---- events that the type can hold

chain_sound : (agent : List ℕ) (n : ℕ) (parents : List Id) (ops : List Op) → is_name agent ≡ true → n + length ops ≤ 2 ^ 32 → AllByRecursion IsSoundId parents → AllByRecursion IsSoundOp ops → AreSound (chain_of agent n parents ops)
chain_sound agent n parents [] name few sound can = tt
chain_sound agent n parents (op ∷ ops) name few sound can =
    let id : IsSoundId (record { agent = agent; seq = n }) = record { agent = name; seq = omega (arith, few) } in
    (record { id = id; parents = sound; op = can.0 }, chain_sound agent (n + 1) _ ops name (omega (arith, few)) (id, tt) can.1)

insertions_sound : (at : ℕ) (text : List ℕ) → at + length text ≤ 2 ^ 32 → AreScalars text → AllByRecursion IsSoundOp (insertions_at at text)
insertions_sound at [] few scalars = tt
insertions_sound at (ch ∷ text) few scalars = ((omega (arith, few), sym (scalar_is ch) ∙ scalars.0), insertions_sound (at + 1) text (omega (arith, few)) scalars.1)

ops_sound : (ops : RunOps) → AreSoundOps ops → AllByRecursion IsSoundOp (ops_in ops)
ops_sound (Insertions at text) s = insertions_sound at text s.0 s.1
ops_sound (Deletions at count) s = deletions_sound at count s
ops_sound (BackDeletions at count) s = back_sound at count s
ops_sound (OneMark label) s = (s, tt)

pub run_sound : (r : FileRun) → IsSoundId r.id → AllByRecursion IsSoundId r.parents → r.id.seq + ops_count r.ops ≤ 2 ^ 32 → AreSoundOps r.ops → AreSound (run_events r)
run_sound r id parents few sound =
    let long = ops_long r.ops in
    chain_sound r.id.agent r.id.seq r.parents (ops_in r.ops) id.agent (omega (arith, long, few)) parents (ops_sound r.ops sound)

insertions_back : (at : ℕ) (text : List ℕ) → 0 < length text → AllByRecursion IsSoundOp (insertions_at at text) → (at + length text ≤ 2 ^ 32) × AreScalars text
insertions_back at [] some h = absurd (omega (arith, some))
insertions_back at (ch ∷ []) some h = (omega (arith, h.0.0), (scalar_is ch ∙ h.0.1, tt))
insertions_back at (ch ∷ d ∷ text) some h =
    let q = insertions_back (at + 1) (d ∷ text) (omega arith) h.1 in
    (omega (arith, q.0), (scalar_is ch ∙ h.0.1, q.1))

ops_back : (ops : RunOps) → IsSteady ops → AllByRecursion IsSoundOp (ops_in ops) → AreSoundOps ops
ops_back (Insertions at text) s h = insertions_back at text s h
ops_back (Deletions at zero) s h = absurd (omega (arith, s))
ops_back (Deletions at (suc n)) s h = h.0
ops_back (BackDeletions at zero) s h = absurd (omega (arith, s.0))
ops_back (BackDeletions at (suc n)) s h = h.0
ops_back (OneMark label) s h = h.0

-- what sound events of a run say of the run
pub record IsSoundRun (x : Id) (parents : List Id) (ops : List Op) : Type 0 where
  pub id : IsSoundId x
  pub on : AllByRecursion IsSoundId parents
  pub few : x.seq + length ops ≤ 2 ^ 32
  pub can : AllByRecursion IsSoundOp ops

chain_sound_back : (ops : List Op) (x : Id) (parents : List Id) → 0 < length ops → AreSound (chain_of x.agent x.seq parents ops) → IsSoundRun x parents ops
chain_sound_back [] x parents some h = absurd (omega (arith, some))
chain_sound_back (o ∷ []) x parents some h = record { id = h.0.id; on = h.0.parents; few = omega (arith, h.0.id.seq); can = (h.0.op, tt) }
chain_sound_back (o ∷ p ∷ ops) x parents some h =
    let q = chain_sound_back (p ∷ ops) (record { agent = x.agent; seq = x.seq + 1 }) (x ∷ []) (omega arith) h.1 in
    record { id = h.0.id; on = h.0.parents; few = omega (arith, q.few); can = (h.0.op, q.can) }

pub record RunIsSound (r : FileRun) : Type 0 where
  pub id : IsSoundId r.id
  pub parents : AllByRecursion IsSoundId r.parents
  pub numbered : r.id.seq + ops_count r.ops ≤ 2 ^ 32
  pub ops : AreSoundOps r.ops

pub run_sound_back : (r : FileRun) → IsSteady r.ops → AreSound (run_events r) → RunIsSound r
run_sound_back r steady h =
    let long = ops_long r.ops in
    let some = steady_some r.ops steady in
    let q = chain_sound_back (ops_in r.ops) r.id r.parents (omega (arith, long, some)) h in
    record { id = q.id; parents = q.on; numbered = omega (arith, q.few, long); ops = ops_back r.ops steady q.can }
