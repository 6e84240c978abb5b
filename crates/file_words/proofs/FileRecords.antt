-- Records: what is read of one is what was written, and the other way round.
use Rattle.std.proofs.Common.{◌≡◌, ℕ, zero, suc, ◌^◌, ◌<◌, Bool, true, false, not, leb, List, [], ◌∷◌, ◌++◌, length, flat_map, Option, Some, Ok, refl, sym, ap, subst, ◌∙◌, append_assoc, append-nil, arith}
use Rattle.std.specs.Prelude.{slice_get}
use Rattle.std.specs.List.{list_all, position_or_len, AllByRecursion}
use Rattle.std.proofs.lemmas.Bool.{and_parts, and_from, not-true, not_from_false}
use Rattle.std.proofs.lemmas.Option.{slice_get_within}
use Rattle.ew_model.specs.declared.id.Id.{Id}
use Rattle.ew_model.specs.declared.event.Event.{Event}
use Rattle.ew_model.specs.Ids.{id_eq, id_lt, is_among, ids_ascend, name_eq}
use Rattle.ew_model.specs.Ancestors.{ids_of, is_held}
use Rattle.ew_model.specs.Names.{is_name}
use Rattle.ew_model.specs.Sound.{IsSoundId, IsSound}
use Rattle.ew_model.specs.Bytes.{four_bytes, op_bytes, AreBytes}
use Rattle.ew_model.specs.Writable.{agents_of}
use Rattle.file_words.specs.FileFaults.{Reader, done, go_on, ◌>>=◌, byte, number, field, only, read_parents, read_op, read_record, open_agents}
use Rattle.file_words.specs.FileFaults.RecordFault.{AgentNumber, IdTwice, ParentCount, ParentPosition, ParentOrder}
pub use Rattle.ew_model.proofs.IdLaws.{names_equal, name_exact}
use Rattle.ew_model.proofs.PathOrder.{id_exact}
use Rattle.ew_model.proofs.GapLaws.{eq_from}
use Rattle.ew_model.proofs.TextLaws.{ids_equal}
use Rattle.ew_model.specs.Distinct.{AllNew}
use Rattle.ew_model.proofs.ListPlaces.{found_there, there_among, place_of, get-take}
use Rattle.file_words.proofs.FileFields.{Takes, Takes-then, go_ok, field_ok, only_ok, tested_ok, field_again, only_again, tested_again, byte_takes, number_takes, number_again, op_takes, op_again}

-- ---- ids that are equal

pub id_eq_exact : (x y : Id) → id_eq x y ≡ true → x ≡ y
id_eq_exact x y h = id_exact x y (eq_from _ h)

-- ---- parents

pub get_all : {X : Type 0} (P : X → Type 0) (xs : List X) (i : ℕ) (x : X) → AllByRecursion P xs → slice_get xs i ≡ Some x → P x
get_all P [] i x h e = absurd cc
get_all P (y ∷ ys) zero x h e = let same : y ≡ x = cc in subst P same h.0
get_all P (y ∷ ys) (suc i) x h e = get_all P ys i x h.1 e

-- a parent is told by the place of its id
abbrev pub parent_bytes : List Id → Id → List ℕ
parent_bytes ids p = four_bytes (position_or_len (id_eq p) ids)

abbrev above : List Id → Id → Bool
above parents x = ids_ascend (parents ++ x ∷ [])

pub record AreParentsBehind (ids parents : List Id) (n : ℕ) (bytes : List ℕ) (read : List Id) (left : List ℕ) : Type 0 where
  pub more : List Id
  pub joined : read ≡ parents ++ more
  pub takes : Takes bytes (flat_map (parent_bytes ids) more) left
  pub count : length more ≡ n
  pub held : list_all (is_among ids) more ≡ true
  pub ascend : ids_ascend read ≡ true
  pub sound : AllByRecursion IsSoundId more

pub parents_take : (n : ℕ) (ids parents : List Id) (bytes : List ℕ) (y : List Id × List ℕ) → AreBytes bytes → AllNew id_eq [] ids → AllByRecursion IsSoundId ids → ids_ascend parents ≡ true → read_parents ids parents n bytes ≡ Ok y → AreParentsBehind ids parents n bytes y.0 y.1
unfolding read_parents
parents_take zero ids parents bytes y fits apart sound up e =
    let same : (parents, bytes) ≡ y = cc in
    subst (λ (p : List Id × List ℕ). AreParentsBehind ids parents zero bytes p.0 p.1) same
    (record { more = []; joined = sym (append-nil parents); takes = record { parts = refl; fits = fits }; count = refl; held = refl; ascend = up; sound = tt })
parents_take (suc n) ids parents bytes y fits apart sound up e =
    let g = go_ok (field (field number (slice_get ids) ParentPosition) (only (above parents)) ParentOrder bytes) (λ p. read_parents ids (parents ++ p ∷ []) n) y e in
    let x = g.0.0 in
    let t = tested_ok (field number (slice_get ids) ParentPosition) (above parents) ParentOrder bytes g.0 g.1 in
    let f = field_ok number (slice_get ids) ParentPosition bytes g.0 t.0 in
    let m = number_takes bytes (f.0, g.0.1) fits f.1 in
    let others = parents_take n ids (parents ++ x ∷ []) g.0.1 y m.0.fits apart sound t.1 g.2 in
    let first : Takes bytes (parent_bytes ids x) g.0.1 = subst (λ i. Takes bytes (four_bytes i) g.0.1) (sym (place_of id_eq ids_equal id_eq_exact [] ids f.0 x apart f.2)) m.0 in
    record {
      more = x ∷ others.more;
      joined = others.joined ∙ append_assoc parents (x ∷ []) others.more;
      takes = Takes-then bytes (parent_bytes ids x) g.0.1 (flat_map (parent_bytes ids) others.more) y.1 first others.takes;
      count = ap suc others.count;
      held = and_from _ _ (there_among id_eq ids_equal id_eq_exact ids f.0 x f.2) others.held;
      ascend = others.ascend;
      sound = (get_all IsSoundId ids f.0 x sound f.2, others.sound);
    }

ascend_front : (xs ys : List Id) → ids_ascend (xs ++ ys) ≡ true → ids_ascend xs ≡ true
ascend_front [] ys h = refl
ascend_front (x ∷ []) ys h = refl
ascend_front (x ∷ y ∷ xs) ys h =
    let p = and_parts (id_lt x y) (ids_ascend (y ∷ xs ++ ys)) h in
    and_from (id_lt x y) (ids_ascend (y ∷ xs)) p.0 (ascend_front (y ∷ xs) ys p.1)

pub parents_again : (more ids parents : List Id) (left : List ℕ) → list_all (is_among ids) more ≡ true → ids_ascend (parents ++ more) ≡ true → length ids < 2 ^ 32 → read_parents ids parents (length more) (flat_map (parent_bytes ids) more ++ left) ≡ Ok (parents ++ more, left)
unfolding read_parents
parents_again [] ids parents left held up small = ap (λ x. Ok (x, left)) (sym (append-nil parents))
parents_again (x ∷ more) ids parents left held up small =
    let h = and_parts (is_among ids x) (list_all (is_among ids) more) held in
    let there = found_there id_eq ids_equal id_eq_exact ids x h.0 in
    let within = slice_get_within ids (position_or_len (id_eq x) ids) x there in
    let rest = flat_map (parent_bytes ids) more ++ left in
    let regrouped : flat_map (parent_bytes ids) (x ∷ more) ++ left ≡ parent_bytes ids x ++ rest = append_assoc (parent_bytes ids x) (flat_map (parent_bytes ids) more) left in
    let shifted : (parents ++ x ∷ []) ++ more ≡ parents ++ x ∷ more = append_assoc parents (x ∷ []) more in
    let up_here : ids_ascend ((parents ++ x ∷ []) ++ more) ≡ true = ap ids_ascend shifted ∙ up in
    let found : field number (slice_get ids) ParentPosition (parent_bytes ids x ++ rest) ≡ Ok (x, rest) =
    field_again number (slice_get ids) ParentPosition (parent_bytes ids x ++ rest) rest _ x (number_again (position_or_len (id_eq x) ids) rest (omega arith)) there in
    let first : field (field number (slice_get ids) ParentPosition) (only (above parents)) ParentOrder (parent_bytes ids x ++ rest) ≡ Ok (x, rest) =
    tested_again (field number (slice_get ids) ParentPosition) (above parents) ParentOrder (parent_bytes ids x ++ rest) rest x found (ascend_front (parents ++ x ∷ []) more up_here) in
    ap (read_parents ids parents (length (x ∷ more))) regrouped
    ∙ ap (λ r. go_on r (λ p. read_parents ids (parents ++ p ∷ []) (length more))) first
    ∙ parents_again more ids (parents ++ x ∷ []) left h.1 up_here small
    ∙ ap (λ ps. Ok (ps, left)) shifted

-- ---- one record

-- a record of an event behind those before it
abbrev pub record_at : List (List ℕ) → List Event → Event → List ℕ
record_at agents before e =
    four_bytes (position_or_len (name_eq e.id.agent) agents)
    ++ four_bytes e.id.seq
    ++ length e.parents ∷ flat_map (parent_bytes (ids_of before)) e.parents
    ++ op_bytes e.op

-- what is known of the agents and the events that a record is read behind
pub record IsSetting (agents : List (List ℕ)) (before : List Event) : Type 0 where
  pub names : AllNew name_eq [] agents
  pub good : AllByRecursion (λ x. is_name x ≡ true) agents
  pub apart : AllNew id_eq [] (ids_of before)
  pub sound : AllByRecursion IsSoundId (ids_of before)

-- an event that may stand behind those before it
pub record MayFollow (before : List Event) (e : Event) : Type 0 where
  pub new : is_held before e.id ≡ false
  pub held : list_all (is_held before) e.parents ≡ true
  pub ascend : ids_ascend e.parents ≡ true
  pub few : leb (length e.parents) 16 ≡ true

pub record IsRecordRead (agents : List (List ℕ)) (before : List Event) (bytes : List ℕ) (e : Event) (left : List ℕ) : Type 0 where
  pub takes : Takes bytes (record_at agents before e) left
  pub sound : IsSound e
  pub follows : MayFollow before e
  pub place : ℕ
  pub agent : slice_get (open_agents agents before) place ≡ Some e.id.agent

abbrev pub new_id : List Event → Id → Bool
new_id before x = not (is_held before x)

abbrev pub id_from : List Event → List ℕ → ℕ → Option Id
id_from before agent seq = only (new_id before) (record { agent = agent; seq = seq })

abbrev pub few_parents : ℕ → Bool
few_parents n = leb n 16

abbrev with_parents : Id → List Id → Reader Event
with_parents x parents = read_op >>= λ op. done (record { id = x; parents = parents; op = op })

abbrev with_count : List Event → Id → ℕ → Reader Event
with_count before x count = read_parents (ids_of before) [] count >>= with_parents x

abbrev with_id : List Event → Id → Reader Event
with_id before x = field byte (only few_parents) ParentCount >>= with_count before x

abbrev of_agent : List Event → List ℕ → Reader Event
of_agent before agent = field number (id_from before agent) IdTwice >>= with_id before

pub record_takes : (agents : List (List ℕ)) (before : List Event) (bytes : List ℕ) (y : Event × List ℕ) → IsSetting agents before → AreBytes bytes → read_record agents before bytes ≡ Ok y → IsRecordRead agents before bytes y.0 y.1
unfolding read_record
record_takes agents before bytes y s fits e =
    let g0 = go_ok (field number (slice_get (open_agents agents before)) AgentNumber bytes) (of_agent before) y e in
    let agent = g0.0.0 in
    let f0 = field_ok number (slice_get (open_agents agents before)) AgentNumber bytes g0.0 g0.1 in
    let there = get-take (suc (length (agents_of before))) agents f0.0 agent f0.2 in
    let t0 = number_takes bytes (f0.0, g0.0.1) fits f0.1 in
    let g1 = go_ok (field number (id_from before agent) IdTwice g0.0.1) (with_id before) y g0.2 in
    let f1 = field_ok number (id_from before agent) IdTwice g0.0.1 g1.0 g1.1 in
    let o1 = only_ok (new_id before) (record { agent = agent; seq = f1.0 }) g1.0.0 f1.2 in
    let t1 = number_takes g0.0.1 (f1.0, g1.0.1) t0.0.fits f1.1 in
    let g2 = go_ok (field byte (only few_parents) ParentCount g1.0.1) (with_count before g1.0.0) y g1.2 in
    let o2 = tested_ok byte few_parents ParentCount g1.0.1 g2.0 g2.1 in
    let t2 = byte_takes g1.0.1 g2.0 t1.0.fits o2.0 in
    let g3 = go_ok (read_parents (ids_of before) [] g2.0.0 g2.0.1) (with_parents g1.0.0) y g2.2 in
    let ps = parents_take g2.0.0 (ids_of before) [] g2.0.1 g3.0 t2.fits s.apart s.sound refl g3.1 in
    let g4 = go_ok (read_op g3.0.1) (λ op. done (record { id = g1.0.0; parents = g3.0.0; op = op })) y g3.2 in
    let t4 = op_takes g3.0.1 g4.0 ps.takes.fits g4.1 in
    let made : Event = record { id = record { agent = agent; seq = f1.0 }; parents = ps.more; op = g4.0.0 } in
    let is_made : (made, g4.0.1) ≡ y = ap (λ x. (record { id = x; parents = ps.more; op = g4.0.0 }, g4.0.1)) o1.1 ∙ ap (λ p. (record { id = g1.0.0; parents = p; op = g4.0.0 }, g4.0.1)) (sym ps.joined) ∙ cc in
    let end = Takes-then g2.0.1 (flat_map (parent_bytes (ids_of before)) ps.more) g3.0.1 (op_bytes g4.0.0) g4.0.1 ps.takes t4.0 in
    let count : Takes g1.0.1 (length ps.more ∷ []) g2.0.1 = subst (λ n. Takes g1.0.1 (n ∷ []) g2.0.1) (sym ps.count) t2 in
    let later = Takes-then g1.0.1 (length ps.more ∷ []) g2.0.1 (flat_map (parent_bytes (ids_of before)) ps.more ++ op_bytes g4.0.0) g4.0.1 count end in
    let behind = Takes-then g0.0.1 (four_bytes f1.0) g1.0.1 (length ps.more ∷ flat_map (parent_bytes (ids_of before)) ps.more ++ op_bytes g4.0.0) g4.0.1 t1.0 later in
    let first : Takes bytes (four_bytes (position_or_len (name_eq agent) agents)) g0.0.1 = subst (λ i. Takes bytes (four_bytes i) g0.0.1) (sym (place_of name_eq names_equal name_exact [] agents f0.0 agent s.names there)) t0.0 in
    subst (λ (p : Event × List ℕ). IsRecordRead agents before bytes p.0 p.1) is_made (record {
      takes = Takes-then bytes (four_bytes (position_or_len (name_eq agent) agents)) g0.0.1 (four_bytes f1.0 ++ length ps.more ∷ flat_map (parent_bytes (ids_of before)) ps.more ++ op_bytes g4.0.0) g4.0.1 first behind;
      sound = record { id = record { agent = get_all (λ x. is_name x ≡ true) agents f0.0 agent s.good there; seq = t1.1 }; parents = ps.sound; op = t4.1 };
      follows = record {
        new = ap (is_held before) o1.1 ∙ not-true _ o1.0;
        held = ps.held;
        ascend = ap ids_ascend (sym ps.joined) ∙ ps.ascend;
        few = ap few_parents ps.count ∙ o2.1;
      };
      place = f0.0;
      agent = f0.2;
    })

pub record_again : (agents : List (List ℕ)) (before : List Event) (e : Event) (left : List ℕ) → IsSound e → MayFollow before e → slice_get (open_agents agents before) (position_or_len (name_eq e.id.agent) agents) ≡ Some e.id.agent → length agents < 2 ^ 32 → length (ids_of before) < 2 ^ 32 → read_record agents before (record_at agents before e ++ left) ≡ Ok (e, left)
unfolding read_record
record_again agents before e left sound follows known small_agents small =
    let place = position_or_len (name_eq e.id.agent) agents in
    let within = slice_get_within agents place e.id.agent (get-take (suc (length (agents_of before))) agents place e.id.agent known) in
    let ps = flat_map (parent_bytes (ids_of before)) e.parents in
    let last = op_bytes e.op ++ left in
    let third = length e.parents ∷ ps ++ last in
    let second = four_bytes e.id.seq ++ third in
    let regrouped : record_at agents before e ++ left ≡ four_bytes place ++ second = ap (λ t. four_bytes place ++ four_bytes e.id.seq ++ length e.parents ∷ t) (append_assoc ps (op_bytes e.op) left) in
    let a : field number (slice_get (open_agents agents before)) AgentNumber (four_bytes place ++ second) ≡ Ok (e.id.agent, second) =
    field_again number (slice_get (open_agents agents before)) AgentNumber (four_bytes place ++ second) second place e.id.agent (number_again place second (omega arith)) known in
    let b : field number (id_from before e.id.agent) IdTwice second ≡ Ok (e.id, third) =
    field_again number (id_from before e.id.agent) IdTwice second third e.id.seq e.id (number_again e.id.seq third sound.id.seq) (only_again (new_id before) e.id (not_from_false _ follows.new)) in
    let c : field byte (only few_parents) ParentCount third ≡ Ok (length e.parents, ps ++ last) =
    tested_again byte few_parents ParentCount third (ps ++ last) (length e.parents) refl follows.few in
    let d : read_parents (ids_of before) [] (length e.parents) (ps ++ last) ≡ Ok (e.parents, last) = parents_again e.parents (ids_of before) [] last follows.held follows.ascend small in
    ap (read_record agents before) regrouped
    ∙ ap (λ r. go_on r (of_agent before)) a
    ∙ ap (λ r. go_on r (with_id before)) b
    ∙ ap (λ r. go_on r (with_count before e.id)) c
    ∙ ap (λ r. go_on r (with_parents e.id)) d
    ∙ ap (λ r. go_on r (λ op. done (record { id = e.id; parents = e.parents; op = op }))) (op_again e.op left sound.op)
