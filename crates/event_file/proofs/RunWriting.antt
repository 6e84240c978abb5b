-- Events of a history that are put one behind the other give the records of its runs.
use Rattle.std.proofs.Common.{◌≡◌, ℕ, zero, suc, ◌+◌, ◌-◌, ◌<◌, Bool, true, false, eqb, ◌&&◌, inl, inr, List, [], ◌∷◌, ◌++◌, length, take, flat_map, Option, Some, None, refl, sym, ap, subst, ◌∙◌, append_assoc, append-nil, add-one, arith, if◌then◌else◌}
use Rattle.std.specs.Prelude.{slice_get}
use Rattle.std.specs.Option.{option_map, option_map_or}
use Rattle.std.specs.List.{list_any, position_or_len, AllByRecursion}
use Rattle.std.proofs.lemmas.Bool.{cases_Bool, eqb-true, eq-eqb, cond-true, cond-false}
use Rattle.std.proofs.lemmas.List.{length-map, length_push, append_cancel_right, take_all}
use Rattle.std.proofs.lemmas.Option.{slice_get-map, slice_get_within}
use Rattle.ew_model.specs.declared.id.Id.{Id}
use Rattle.ew_model.specs.declared.event.Op.{Op}
use Rattle.ew_model.specs.declared.event.Op.TheVariants.{Ins, Del, Mark}
use Rattle.ew_model.specs.declared.event.Event.{Event}
use Rattle.ew_model.specs.Ids.{name_eq, id_eq}
use Rattle.ew_model.specs.Ancestors.{ids_of, is_held}
use Rattle.ew_model.specs.Bytes.{four_bytes}
use Rattle.ew_model.specs.Writable.{agents_of, IsWritable}
use Rattle.ew_model.proofs.IdLaws.{names_equal, name_exact}
use Rattle.ew_model.proofs.TextLaws.{ids_equal}
use Rattle.ew_model.proofs.ListParts.{element_there, take_next}
use Rattle.ew_model.proofs.ListTests.{same_truth}
use Rattle.ew_model.proofs.ListPlaces.{some_is, none_is_some, found_there, place_of as place_at}
use Rattle.ew_model.proofs.PositionCuts.{last_at}
use Rattle.history_definitions.specs.Chains.{event_behind}
use Rattle.file_words.specs.File.{file_start, with_digest}
use Rattle.file_words.specs.FileRuns.{FileRun, ops_count, op_alone, run_of_one, takes_step, last_id, are_only, continues, longer, runs_from, file_runs, run_ops_bytes, run_record, file2_content, file2_of}
use Rattle.file_words.specs.FileRunLaws.{IsSteady}
use Rattle.file_words.proofs.FileRecords.{id_eq_exact}
use Rattle.file_words.proofs.FileRuns.{alone_steady, steady_some, steps_grow, continues_parts}
use Rattle.event_file.specs.LastRuns.{head_of, are_only_last, goes_on, goes_on_last, lengthened, longer_put, begun_put}
use Rattle.event_file.specs.Places.{agent_place, place_of, places_of}
use Rattle.event_file.specs.RunWriting.{PlacedRun, RunsPut, none_put, all_put, last_ops, placed, last_run, takes_last, ArePut, IsNamed}
use Rattle.event_file.specs.Writing.{start_of}
use Rattle.event_file.proofs.Tables.{numbered_bytes}
use Rattle.event_file.proofs.Asked.{asked, all_new}

-- ---- a run by places

abbrev run_head : List Event → FileRun → List ℕ
run_head history r = head_of (agent_place history r.id.agent) r.id.seq (places_of history r.parents)

record_parts : (history : List Event) (r : FileRun) → run_record history r ≡ run_head history r ++ run_ops_bytes r.ops
unfolding run_record
record_parts history r =
    let agent = four_bytes (agent_place history r.id.agent) in
    let seq = four_bytes r.id.seq in
    let ops = run_ops_bytes r.ops in
    let places = places_of history r.parents in
    let parents = length places ∷ flat_map four_bytes places in
    ap (λ n. agent ++ seq ++ n ∷ flat_map (λ p. four_bytes (place_of history p)) r.parents ++ ops) (sym (length-map r.parents (place_of history)))
    ∙ ap (λ ps. agent ++ seq ++ length places ∷ ps ++ ops) (sym (numbered_bytes (place_of history) r.parents))
    ∙ ap (λ t. agent ++ t) (sym (append_assoc seq parents ops))
    ∙ sym (append_assoc agent (seq ++ parents) ops)

-- ---- an event continues a run where it goes on from it by places

same_agents : (agents : List (List ℕ)) (a b : List ℕ) → list_any (name_eq a) agents ≡ true → list_any (name_eq b) agents ≡ true → eqb (position_or_len (name_eq a) agents) (position_or_len (name_eq b) agents) ≡ name_eq a b
same_agents agents a b there_a there_b = same_truth (eqb (position_or_len (name_eq a) agents) (position_or_len (name_eq b) agents)) (name_eq a b) one_name one_place
  where
    one_name : eqb (position_or_len (name_eq a) agents) (position_or_len (name_eq b) agents) ≡ true → name_eq a b ≡ true
    one_name h =
        let places = eqb-true (position_or_len (name_eq a) agents) (position_or_len (name_eq b) agents) h in
        let same : a ≡ b = some_is a b (sym (found_there name_eq names_equal name_exact agents a there_a) ∙ ap (slice_get agents) places ∙ found_there name_eq names_equal name_exact agents b there_b) in
        ap (name_eq a) (sym same) ∙ names_equal.refl a

    one_place : name_eq a b ≡ true → eqb (position_or_len (name_eq a) agents) (position_or_len (name_eq b) agents) ≡ true
    one_place h = eq-eqb (position_or_len (name_eq a) agents) (position_or_len (name_eq b) agents) (ap (λ n. position_or_len (name_eq n) agents) (name_exact a b h))

same_parent : (history : List Event) (n : ℕ) (x y : Id) → IsWritable history → slice_get (ids_of history) n ≡ Some x → is_held history y ≡ true → eqb (suc (place_of history y)) (suc n) ≡ id_eq x y
same_parent history n x y w at held = same_truth (eqb (suc (place_of history y)) (suc n)) (id_eq x y) one_id one_place
  where
    one_id : eqb (suc (place_of history y)) (suc n) ≡ true → id_eq x y ≡ true
    one_id h =
        let here : place_of history y ≡ n = let e = eqb-true (suc (place_of history y)) (suc n) h in omega arith in
        let same : x ≡ y = some_is x y (sym at ∙ ap (slice_get (ids_of history)) (sym here) ∙ found_there id_eq ids_equal id_eq_exact (ids_of history) y held) in
        ap (id_eq x) (sym same) ∙ ids_equal.refl x

    one_place : id_eq x y ≡ true → eqb (suc (place_of history y)) (suc n) ≡ true
    one_place h =
        let same : x ≡ y = id_eq_exact x y h in
        let here : place_of history y ≡ n = place_at id_eq ids_equal id_eq_exact [] (ids_of history) n y (all_new [] history w.each) (at ∙ ap (λ z. Some z) same) in
        eq-eqb (suc (place_of history y)) (suc n) (ap suc here)

same_parents : (history : List Event) (n : ℕ) (x : Id) (parents : List Id) → IsWritable history → slice_get (ids_of history) n ≡ Some x → AllByRecursion (λ y. is_held history y ≡ true) parents → are_only_last (suc n) (places_of history parents) ≡ are_only parents x
same_parents history n x [] w at held = refl
same_parents history n x (y ∷ []) w at held = same_parent history n x y w at held.0
same_parents history n x (y ∷ z ∷ ids) w at held = refl

-- the agent of an id that stands among them is there
agent_of_there : (history : List Event) (n : ℕ) (x : Id) → IsWritable history → slice_get (ids_of history) n ≡ Some x → list_any (name_eq x.agent) (agents_of history) ≡ true
agent_of_there history n x w at = by (slice_get history n) refl (sym (slice_get-map (λ (f : Event). f.id) history n) ∙ at)
  where
    by : (o : Option Event) → slice_get history n ≡ o → option_map (λ (f : Event). f.id) (slice_get history n) ≡ Some x → list_any (name_eq x.agent) (agents_of history) ≡ true
    by None is h = none_is_some x (sym (ap (option_map (λ (f : Event). f.id)) is) ∙ h)
    by (Some f) is h =
        let same : f.id ≡ x = some_is f.id x (sym (ap (option_map (λ (f : Event). f.id)) is) ∙ h) in
        ap (λ (y : Id). list_any (name_eq y.agent) (agents_of history)) (sym same) ∙ (asked history n f w is).agent

goes_on_is : (history : List Event) (n place : ℕ) (r : FileRun) (e : Event) → IsWritable history → IsSteady r.ops → slice_get (ids_of history) n ≡ Some (last_id r) → slice_get history place ≡ Some e
    → goes_on (suc n) (placed history r) (agent_place history e.id.agent) e.id.seq (places_of history e.parents) e.op ≡ continues r e
goes_on_is history n place r e w steady last at =
    let a = asked history place e w at in
    let some = steady_some r.ops steady in
    let agents = same_agents (agents_of history) r.id.agent e.id.agent (agent_of_there history n (last_id r) w last) a.agent in
    let next : r.id.seq + ops_count r.ops ≡ suc (r.id.seq + ops_count r.ops - 1) = omega arith in
    let parents = same_parents history n (last_id r) e.parents w last a.each_held in
    λ i. agents i && eqb e.id.seq (next i) && parents i && takes_step r.ops e.op

-- ---- the runs of events with one more behind them

-- the last run of the events behind those of a run, and the runs before it
abbrev last_from : FileRun → List Event → FileRun
last_from q [] = q
last_from q (x ∷ xs) = if continues q x then last_from (longer q x) xs else last_from (run_of_one x) xs

abbrev before_from : FileRun → List Event → List FileRun
before_from q [] = []
before_from q (x ∷ xs) = if continues q x then before_from (longer q x) xs else q ∷ before_from (run_of_one x) xs

runs_parts : (q : FileRun) (xs : List Event) → runs_from q xs ≡ before_from q xs ++ last_from q xs ∷ []
runs_parts q [] = refl
runs_parts q (x ∷ xs) = by (continues q x) (runs_parts (longer q x) xs) (runs_parts (run_of_one x) xs)
  where
    by : (b : Bool) → runs_from (longer q x) xs ≡ before_from (longer q x) xs ++ last_from (longer q x) xs ∷ [] → runs_from (run_of_one x) xs ≡ before_from (run_of_one x) xs ++ last_from (run_of_one x) xs ∷ []
        → (if b then runs_from (longer q x) xs else q ∷ runs_from (run_of_one x) xs)
        ≡ (if b then before_from (longer q x) xs else q ∷ before_from (run_of_one x) xs) ++ (if b then last_from (longer q x) xs else last_from (run_of_one x) xs) ∷ []
    by true goes ends = goes
    by false goes ends = ap (λ rs. q ∷ rs) ends

-- the last run once the event is there, and the runs before that
abbrev grown : FileRun → Event → FileRun
grown r e = if continues r e then longer r e else run_of_one e

abbrev with_ended : List FileRun → FileRun → Event → List FileRun
with_ended before r e = if continues r e then before else before ++ r ∷ []

last_grown : (q : FileRun) (xs : List Event) (e : Event) → last_from q (xs ++ e ∷ []) ≡ grown (last_from q xs) e
last_grown q [] e = refl
last_grown q (x ∷ xs) e = by (continues q x) (last_grown (longer q x) xs e) (last_grown (run_of_one x) xs e)
  where
    by : (b : Bool) → last_from (longer q x) (xs ++ e ∷ []) ≡ grown (last_from (longer q x) xs) e → last_from (run_of_one x) (xs ++ e ∷ []) ≡ grown (last_from (run_of_one x) xs) e
        → (if b then last_from (longer q x) (xs ++ e ∷ []) else last_from (run_of_one x) (xs ++ e ∷ [])) ≡ grown (if b then last_from (longer q x) xs else last_from (run_of_one x) xs) e
    by true goes ends = goes
    by false goes ends = ends

front_kept : (q : FileRun) (before : List FileRun) (r : FileRun) (b : Bool) → q ∷ (if b then before else before ++ r ∷ []) ≡ (if b then q ∷ before else (q ∷ before) ++ r ∷ [])
front_kept q before r true = refl
front_kept q before r false = refl

before_grown : (q : FileRun) (xs : List Event) (e : Event) → before_from q (xs ++ e ∷ []) ≡ with_ended (before_from q xs) (last_from q xs) e
before_grown q [] e = refl
before_grown q (x ∷ xs) e = by (continues q x) (before_grown (longer q x) xs e) (before_grown (run_of_one x) xs e)
  where
    by : (b : Bool) → before_from (longer q x) (xs ++ e ∷ []) ≡ with_ended (before_from (longer q x) xs) (last_from (longer q x) xs) e
        → before_from (run_of_one x) (xs ++ e ∷ []) ≡ with_ended (before_from (run_of_one x) xs) (last_from (run_of_one x) xs) e
        → (if b then before_from (longer q x) (xs ++ e ∷ []) else q ∷ before_from (run_of_one x) (xs ++ e ∷ []))
        ≡ with_ended (if b then before_from (longer q x) xs else q ∷ before_from (run_of_one x) xs) (if b then last_from (longer q x) xs else last_from (run_of_one x) xs) e
    by true goes ends = goes
    by false goes ends =
        let r = last_from (run_of_one x) xs in
        ap (λ rs. q ∷ rs) ends ∙ front_kept q (before_from (run_of_one x) xs) r (continues r e)

last_steady : (q : FileRun) (xs : List Event) → IsSteady q.ops → IsSteady (last_from q xs).ops
last_steady q [] steady = steady
last_steady q (x ∷ xs) steady = elim (cases_Bool (continues q x)) [
  | inl t ↦
      subst (λ (s : FileRun). IsSteady s.ops) (sym (cond-true (continues q x) (last_from (longer q x) xs) (last_from (run_of_one x) xs) t))
      (last_steady (longer q x) xs (steps_grow q.ops x.op steady (continues_parts q x steady t).step).0)
  | inr f ↦
      subst (λ (s : FileRun). IsSteady s.ops) (sym (cond-false (continues q x) (last_from (longer q x) xs) (last_from (run_of_one x) xs) f))
      (last_steady (run_of_one x) xs (alone_steady x.op))
]

-- ---- the last event of the last run

alone_counted : (op : Op) → ops_count (op_alone op) ≡ 1
alone_counted (Ins at ch) = refl
alone_counted (Del at) = refl
alone_counted (Mark label) = refl

last_alone : (e : Event) → last_id (run_of_one e) ≡ e.id
last_alone e =
    let one = alone_counted e.op in
    let same : e.id.seq + ops_count (op_alone e.op) - 1 ≡ e.id.seq = omega (arith, one) in
    λ i. record { agent = e.id.agent; seq = same i }

longer_own : (r : FileRun) (e : Event) → IsSteady r.ops → continues r e ≡ true → last_id (longer r e) ≡ e.id
longer_own r e steady goes =
    let c = continues_parts r e steady goes in
    let g = steps_grow r.ops e.op steady c.step in
    let count = g.2 in
    let seq : r.id.seq + ops_count (longer r e).ops - 1 ≡ r.id.seq + ops_count r.ops = omega (arith, count) in
    ap (λ n. record { agent = r.id.agent; seq = n }) seq ∙ sym (ap (λ (f : Event). f.id) c.is)

grown_own : (r : FileRun) (e : Event) → IsSteady r.ops → last_id (grown r e) ≡ e.id
grown_own r e steady = elim (cases_Bool (continues r e)) [
  | inl t ↦ ap last_id (cond-true (continues r e) (longer r e) (run_of_one e) t) ∙ longer_own r e steady t
  | inr f ↦ ap last_id (cond-false (continues r e) (longer r e) (run_of_one e) f) ∙ last_alone e
]

-- ---- the runs of the first events of a history

-- the last run of the first events of a history, of which there are some, and the runs before it
pub record IsLastRun (history : List Event) (n : ℕ) (before : List FileRun) (run : FileRun) : Type 0 where
  pub runs : file_runs (take n history) ≡ before ++ run ∷ []
  pub steady : IsSteady run.ops
  pub stands : slice_get (ids_of history) (n - 1) ≡ Some (last_id run)

last_of_first : (first : Event) (later : List Event) (m : ℕ) (e : Event) → slice_get (first ∷ later) m ≡ Some e → last_id (last_from (run_of_one first) (take m later)) ≡ e.id
last_of_first first later zero e at = last_alone first ∙ ap (λ (f : Event). f.id) (some_is first e at)
last_of_first first later (suc m) e at =
    ap (λ (xs : List Event). last_id (last_from (run_of_one first) xs)) (take_next later m e at)
    ∙ ap last_id (last_grown (run_of_one first) (take m later) e)
    ∙ grown_own (last_from (run_of_one first) (take m later)) e (last_steady (run_of_one first) (take m later) (alone_steady first.op))

has_last : (first : Event) (later : List Event) (m : ℕ) → m < length (first ∷ later) → IsLastRun (first ∷ later) (suc m) (before_from (run_of_one first) (take m later)) (last_from (run_of_one first) (take m later))
unfolding file_runs
has_last first later m within =
    let e = element_there (first ∷ later) m within in
    let here : suc m - 1 ≡ m = omega arith in
    record {
      runs = runs_parts (run_of_one first) (take m later);
      steady = last_steady (run_of_one first) (take m later) (alone_steady first.op);
      stands = ap (slice_get (ids_of (first ∷ later))) here ∙ slice_get-map (λ (f : Event). f.id) (first ∷ later) m ∙ ap (option_map (λ (f : Event). f.id)) e.1
          ∙ ap (λ (x : Id). Some x) (sym (last_of_first first later m e.0 e.1));
    }

-- the runs once one event more is there
runs_next : (first : Event) (later : List Event) (m : ℕ) (e : Event) → slice_get later m ≡ Some e
    → file_runs (take (suc (suc m)) (first ∷ later)) ≡ with_ended (before_from (run_of_one first) (take m later)) (last_from (run_of_one first) (take m later)) e ++ grown (last_from (run_of_one first) (take m later)) e ∷ []
unfolding file_runs
runs_next first later m e at =
    let q = run_of_one first in
    let xs = take m later in
    ap (runs_from q) (take_next later m e at) ∙ runs_parts q (xs ++ e ∷ []) ∙ (λ i. before_grown q xs e i ++ last_grown q xs e i ∷ [])

-- the last of the runs
last_run_is : (before : List FileRun) (r : FileRun) → last_run (before ++ r ∷ []) ≡ Some r
last_run_is before r =
    let long = length_push before r in
    let place : length (before ++ r ∷ []) - 1 ≡ length before = omega (arith, long) in
    ap (slice_get (before ++ r ∷ [])) place ∙ last_at before r

-- ---- the events that are put

-- the last run of the events that are put
put_last : (history : List Event) (n : ℕ) (w : RunsPut) (before : List FileRun) (r : FileRun) → ArePut history n w → file_runs (take n history) ≡ before ++ r ∷ [] → w.last ≡ Some (placed history r)
put_last history n w before r put runs = put.last ∙ ap (λ rs. option_map (placed history) (last_run rs)) runs ∙ ap (option_map (placed history)) (last_run_is before r)

records_push : (history : List Event) (before : List FileRun) (r : FileRun) → flat_map (run_record history) (before ++ r ∷ []) ≡ flat_map (run_record history) before ++ run_record history r
records_push history [] r = append-nil (run_record history r)
records_push history (q ∷ before) r = ap (λ t. run_record history q ++ t) (records_push history before r) ∙ sym (append_assoc (run_record history q) (flat_map (run_record history) before) (run_record history r))

-- the bytes up to what the events of the last run do
put_bytes : (history : List Event) (n : ℕ) (w : RunsPut) (before : List FileRun) (r : FileRun) → ArePut history n w → file_runs (take n history) ≡ before ++ r ∷ []
    → w.bytes ≡ (file_start 2 history ++ flat_map (run_record history) before) ++ run_head history r
put_bytes history n w before r put runs =
    let start = file_start 2 history in
    let records = flat_map (run_record history) before in
    append_cancel_right w.bytes ((start ++ records) ++ run_head history r) (run_ops_bytes r.ops)
    (ap (λ o. w.bytes ++ last_ops o) (sym (put_last history n w before r put runs))
    ∙ put.written
    ∙ ap (λ rs. start ++ flat_map (run_record history) rs) runs
    ∙ ap (λ t. start ++ t) (records_push history before r)
    ∙ sym (append_assoc start records (run_record history r))
    ∙ ap (λ t. (start ++ records) ++ t) (record_parts history r)
    ∙ sym (append_assoc (start ++ records) (run_head history r) (run_ops_bytes r.ops)))

-- the event begins a run
abbrev event_begun : List Event → RunsPut → Event → RunsPut
event_begun history w e = begun_put w (agent_place history e.id.agent) e.id.seq (places_of history e.parents) e.op

begins : (history : List Event) (n : ℕ) (w : RunsPut) (e : Event) (runs : List FileRun) → ArePut history n w → file_runs (take n history) ≡ runs → file_runs (take (suc n) history) ≡ runs ++ run_of_one e ∷ [] → ArePut history (suc n) (event_begun history w e)
begins history n w e runs put are next =
    let start = file_start 2 history in
    let r = run_of_one e in
    record {
      counted = add-one w.count ∙ ap suc put.counted;
      written = append_assoc (all_put w) (run_head history r) (run_ops_bytes r.ops)
          ∙ (λ i. put.written i ++ sym (record_parts history r) i)
          ∙ append_assoc start (flat_map (run_record history) (file_runs (take n history))) (run_record history r)
          ∙ ap (λ rs. start ++ (flat_map (run_record history) rs ++ run_record history r)) are
          ∙ ap (λ t. start ++ t) (sym (records_push history runs r))
          ∙ ap (λ rs. start ++ flat_map (run_record history) rs) (sym next);
      last = ap (option_map (placed history)) (sym (last_run_is runs r)) ∙ ap (λ rs. option_map (placed history) (last_run rs)) (sym next);
    }

-- the first event of a history begins its first run
first_put : (first : Event) (later : List Event) (w : RunsPut) → ArePut (first ∷ later) 0 w → ArePut (first ∷ later) 1 (event_begun (first ∷ later) w first)
unfolding file_runs
first_put first later w put = begins (first ∷ later) 0 w first [] put refl refl

-- an event that continues the last run is one of it
goes_longer : (history : List Event) (n : ℕ) (w : RunsPut) (e : Event) (before : List FileRun) (r : FileRun) → ArePut history n w → file_runs (take n history) ≡ before ++ r ∷ [] → file_runs (take (suc n) history) ≡ before ++ longer r e ∷ []
    → ArePut history (suc n) (longer_put w e.op)
goes_longer history n w e before r put are next =
    let start = file_start 2 history in
    let records = flat_map (run_record history) before in
    let last : option_map (lengthened e.op) w.last ≡ Some (placed history (longer r e)) = ap (option_map (lengthened e.op)) (put_last history n w before r put are) in
    record {
      counted = add-one w.count ∙ ap suc put.counted;
      written = (λ i. put_bytes history n w before r put are i ++ last_ops (last i))
          ∙ append_assoc (start ++ records) (run_head history r) (run_ops_bytes (longer r e).ops)
          ∙ ap (λ t. (start ++ records) ++ t) (sym (record_parts history (longer r e)))
          ∙ append_assoc start records (run_record history (longer r e))
          ∙ ap (λ t. start ++ t) (sym (records_push history before (longer r e)))
          ∙ ap (λ rs. start ++ flat_map (run_record history) rs) (sym next);
      last = last ∙ ap (option_map (placed history)) (sym (last_run_is before (longer r e))) ∙ ap (λ rs. option_map (placed history) (last_run rs)) (sym next);
    }

-- the two runs by whether the event continues the last one
runs_longer : (runs before : List FileRun) (r : FileRun) (e : Event) → runs ≡ with_ended before r e ++ grown r e ∷ [] → continues r e ≡ true → runs ≡ before ++ longer r e ∷ []
runs_longer runs before r e are t = are ∙ (λ i. cond-true (continues r e) before (before ++ r ∷ []) t i ++ cond-true (continues r e) (longer r e) (run_of_one e) t i ∷ [])

runs_ended : (runs before : List FileRun) (r : FileRun) (e : Event) → runs ≡ with_ended before r e ++ grown r e ∷ [] → continues r e ≡ false → runs ≡ (before ++ r ∷ []) ++ run_of_one e ∷ []
runs_ended runs before r e are f = are ∙ (λ i. cond-false (continues r e) before (before ++ r ∷ []) f i ++ cond-false (continues r e) (longer r e) (run_of_one e) f i ∷ [])

-- the event is one of the last run where it goes on from it by places, and begins one where not
abbrev event_put : List Event → RunsPut → Event → RunsPut
event_put history w e =
    if goes_on_last w (agent_place history e.id.agent) e.id.seq (places_of history e.parents) e.op then longer_put w e.op else event_begun history w e

put_by : (history : List Event) (n : ℕ) (w : RunsPut) (e : Event) (before : List FileRun) (r : FileRun) → IsWritable history → ArePut history (suc n) w → slice_get history (suc n) ≡ Some e → IsLastRun history (suc n) before r
    → file_runs (take (suc (suc n)) history) ≡ with_ended before r e ++ grown r e ∷ [] → ArePut history (suc (suc n)) (event_put history w e)
put_by history n w e before r writable put at last next =
    let here : suc n - 1 ≡ n = omega arith in
    let stands = ap (slice_get (ids_of history)) (sym here) ∙ last.stands in
    let agent = agent_place history e.id.agent in
    let parents = places_of history e.parents in
    let test = goes_on_last w agent e.id.seq parents e.op in
    let same : test ≡ continues r e =
    (λ i. option_map_or (λ r. goes_on (put.counted i) r agent e.id.seq parents e.op) (put_last history (suc n) w before r put last.runs i) false)
    ∙ goes_on_is history n (suc n) r e writable last.steady stands at in
    elim (cases_Bool (continues r e)) [
      | inl goes ↦
          subst (ArePut history (suc (suc n))) (sym (cond-true test (longer_put w e.op) (event_begun history w e) (same ∙ goes)))
          (goes_longer history (suc n) w e before r put last.runs (runs_longer (file_runs (take (suc (suc n)) history)) before r e next goes))
      | inr ends ↦
          subst (ArePut history (suc (suc n))) (sym (cond-false test (longer_put w e.op) (event_begun history w e) (same ∙ ends)))
          (begins history (suc n) w e (before ++ r ∷ []) put last.runs (runs_ended (file_runs (take (suc (suc n)) history)) before r e next ends))
    ]

put_more : (history : List Event) (n : ℕ) (w : RunsPut) (e : Event) → IsWritable history → ArePut history n w → slice_get history n ≡ Some e → ArePut history (suc n) (event_put history w e)
unfolding file_runs
put_more [] n w e writable put at = none_is_some e at
put_more (first ∷ later) zero w e writable put at =
    let history = first ∷ later in
    let same : first ≡ e = some_is first e at in
    let none : w.last ≡ None = put.last in
    let test : goes_on_last w (agent_place history first.id.agent) first.id.seq (places_of history first.parents) first.op ≡ false =
    ap (λ o. option_map_or (λ r. goes_on w.count r (agent_place history first.id.agent) first.id.seq (places_of history first.parents) first.op) o false) none in
    subst (λ (f : Event). ArePut history 1 (event_put history w f)) same
    (subst (ArePut history 1) (sym (cond-false (goes_on_last w (agent_place history first.id.agent) first.id.seq (places_of history first.parents) first.op) (longer_put w first.op) (event_begun history w first) test)) (first_put first later w put))
put_more (first ∷ later) (suc n) w e writable put at =
    let history = first ∷ later in
    let within = slice_get_within history (suc n) e at in
    put_by history n w e (before_from (run_of_one first) (take n later)) (last_from (run_of_one first) (take n later)) writable put at (has_last first later n (omega (arith, within))) (runs_next first later n e at)

-- one event more is put
pub put_next : (history : List Event) (n : ℕ) (w new : RunsPut) (agent seq : ℕ) (parents : List ℕ) (op : Op) → IsWritable history → ArePut history n w → IsNamed history n agent seq parents op
    → new ≡ (if goes_on_last w agent seq parents op then longer_put w op else begun_put w agent seq parents op) → ArePut history (n + 1) new
put_next history n w new agent seq parents op writable put named is =
    let e = named.event in
    let next : new ≡ event_put history w e =
    is ∙ (λ i. if goes_on_last w (named.agent_is i) (named.seq_is i) (named.parents_are i) (named.op_is i) then longer_put w (named.op_is i) else begun_put w (named.agent_is i) (named.seq_is i) (named.parents_are i) (named.op_is i)) in
    subst (λ k. ArePut history k new) (sym (add-one n)) (subst (ArePut history (suc n)) (sym next) (put_more history n w e writable put named.there))

-- no event is put yet
put_none : (history : List Event) (w : RunsPut) → w ≡ none_put (file_start 2 history) → ArePut history 0 w
unfolding file_runs
put_none history w is = subst (ArePut history 0) (sym is) (record {
  counted = refl;
  written = refl;
  last = refl;
})

-- ---- an event that goes on from the last one

-- the last run, and whether an operation takes its step
takes_told : (w : RunsPut) (r : PlacedRun) (op : Op) → w.last ≡ Some r → takes_last w op ≡ true → takes_step r.ops op ≡ true
takes_told w r op last takes = sym (ap (λ o. option_map_or (λ (q : PlacedRun). takes_step q.ops op) o false) last) ∙ takes

goes_behind : (r : FileRun) (x : Id) (op : Op) → last_id r ≡ x → takes_step r.ops op ≡ true → continues r (event_behind x op) ≡ true
goes_behind r x op is takes =
    (λ i. name_eq (is i).agent x.agent && eqb (suc x.seq) (suc (is i).seq) && are_only (x ∷ []) (is i) && takes i)
    ∙ (λ i. names_equal.refl x.agent i && eq-eqb (suc x.seq) (suc x.seq) refl i && ids_equal.refl x i && true)

pub put_behind : (history : List Event) (n : ℕ) (w new : RunsPut) (x : Id) (op : Op) → ArePut history (suc n) w → slice_get (ids_of history) n ≡ Some x → slice_get history (suc n) ≡ Some (event_behind x op)
    → takes_last w op ≡ true → new ≡ longer_put w op → ArePut history (suc (suc n)) new
put_behind [] n w new x op put at next takes is = none_is_some (event_behind x op) next
put_behind (first ∷ later) n w new x op put at next takes is =
    let history = first ∷ later in
    let e = event_behind x op in
    let before = before_from (run_of_one first) (take n later) in
    let r = last_from (run_of_one first) (take n later) in
    let within = slice_get_within history (suc n) e next in
    let last = has_last first later n (omega (arith, within)) in
    let here : suc n - 1 ≡ n = omega arith in
    let own : last_id r ≡ x = some_is (last_id r) x (sym last.stands ∙ ap (slice_get (ids_of history)) here ∙ at) in
    let goes = goes_behind r x op own (takes_told w (placed history r) op (put_last history (suc n) w before r put last.runs) takes) in
    subst (ArePut history (suc (suc n))) (sym is) (goes_longer history (suc n) w e before r put last.runs (runs_longer (file_runs (take (suc (suc n)) history)) before r e (runs_next first later n e next) goes))

-- ---- none and all of the events

-- no event is put behind the start of a history's file
pub put_begun : (history : List Event) (agents : List (List ℕ)) (count : ℕ) (w : RunsPut) → w ≡ none_put (start_of 2 agents count) → agents ≡ agents_of history → count ≡ length history → ArePut history 0 w
put_begun history agents count w is same many = put_none history w (is ∙ (λ i. none_put (start_of 2 (same i) (many i))))

-- all events are put
pub put_whole : (history : List Event) (w : RunsPut) → ArePut history (length history) w → with_digest (all_put w) ≡ file2_of history
unfolding file2_of file2_content
put_whole history w put = ap with_digest (put.written ∙ ap (λ (events : List Event). file_start 2 history ++ flat_map (run_record history) (file_runs events)) (take_all (length history) history (omega arith)))
