-- What is still to come of a file in runs: how it begins, goes on and ends.
use Rattle.std.proofs.Common.{◌≡◌, ◌↔◌, IsTrue, ℕ, zero, suc, ◌+◌, ◌-◌, ◌<◌, ◌≤◌, ◌^◌, Bool, true, false, cond, not, leb, eqb, List, [], ◌∷◌, ◌++◌, length, take, map, Option, Some, None, Result, Ok, Err, refl, sym, ap, ◌∙◌, subst, append_assoc, arith, le-ltb}
use Rattle.std.specs.Prelude.{IfSome, IfNone, get_or, nat_le, nat_lt, slice_get, ◌==◌, if◌then◌else◌}
use Rattle.std.specs.List.{list_all, AllByRecursion}
use Rattle.std.proofs.lemmas.Bool.{and_parts, and_from, ltb-true, leb-true, eqb-true, eqb-false, eq-eqb}
use Rattle.ew_model.proofs.ListTests.{same_truth}
use Rattle.ew_model.proofs.IdLaws.{names_equal, name_exact}
use Rattle.std.proofs.lemmas.List.{map-append, length-append}
use Rattle.ew_model.specs.declared.id.Id.{Id}
use Rattle.ew_model.specs.declared.event.Op.{Op}
use Rattle.ew_model.specs.declared.event.Event.{Event}
use Rattle.ew_model.specs.Ids.{name_eq, id_eq, is_among}
use Rattle.ew_model.specs.Ancestors.{ids_of, is_held}
use Rattle.ew_model.specs.Edits.{chain_of}
use Rattle.file_words.specs.FileFaults as model
use Rattle.file_words.specs.FileFaults.{Reader, done, stops, go_on, ◌>>=◌, field, only, number, byte, open_agents, read_name, read_names, read_parents, read_records, read_end, FileFinding, finding_of, is_scalar}
use Rattle.file_words.specs.FileFaults.RecordFault.{AgentNumber, IdTwice, ParentCount, KindBad, RunJoin, RunLength, Scalar}
use Rattle.file_words.specs.FileRuns.{RunOps, FileRun, ops_count, ops_in, run_events, read_text, read_one_mark, first_op, is_next_id, are_only, joins, may_be_count, ids_from, are_new, read_ops_of, read_run_ops, read_run_record, read_runs, read_run_events}
use Rattle.file_words.specs.FileRuns.RunOps.{Insertions, Deletions, BackDeletions, OneMark}
use Rattle.file_words.proofs.RunFields.{IsCount, count_is}
use Rattle.file_words.proofs.FileFields.{go_ok, tested_ok, then_again}
use Rattle.file_words.proofs.FileRuns.{ops_long}
use Rattle.history_definitions.specs.Chains.{next_id, event_behind}
use Rattle.event_file.specs.declared.fault.Stop.{Stop}
use Rattle.event_file.specs.declared.fault.FileFault.{FileFault}
use Rattle.event_file.specs.Faults.{IsFault}
use Rattle.event_file.specs.Known.{known_by, known_run}
use Rattle.event_file.specs.OpenRuns.{Opened, IsStepOf, IsNextOf, IsOpOf, IsRestOf, IsRestIn, CanGoOn, run_of, events_behind}
use Rattle.event_file.specs.Progress.{Known}
use Rattle.event_file.specs.Reading.{Stops, IsStop}
use Rattle.event_file.specs.Rest.{Rest, beyond, in_front, runs_found, run_rest, runs_rest, IsNext, GoesOnBy, GoOnBy}
use Rattle.event_file.proofs.Indexes.{ids_of_run}
use Rattle.event_file.proofs.Rest.{same_agents, same_steps, same_end, whole, without, one_less, stops_with, none_beyond}

-- ---- a record asks only for the ids of the events before it, and for what the run before is joined by

abbrev new_by : List Id → Id → ℕ → Bool
new_by ids x count = list_all (λ y. not (is_among ids y)) (ids_from x.agent x.seq count)

abbrev ops_by : List Id → (Event → Bool) → ℕ → Id → List Id → Reader RunOps
ops_by ids joined left x parents = do
  kind ← field byte (only (λ kind. nat_lt kind 4)) KindBad
  if kind == 2 then read_one_mark else do
    at ← field number (only (λ at. not (joined (record { id = x; parents = parents; op = first_op kind at })))) RunJoin
    count ← field (field number (only (may_be_count left x kind at)) RunLength) (only (new_by ids x)) IdTwice
    read_ops_of kind at count

abbrev record_by : List (List ℕ) → List Id → (Event → Bool) → ℕ → Reader FileRun
record_by agents ids joined left = do
  agent ← field number (slice_get agents) AgentNumber
  id ← field number (λ seq. only (λ x. not (is_among ids x)) (record { agent = agent; seq = seq })) IdTwice
  count ← field byte (only (λ n. nat_le n 16)) ParentCount
  parents ← read_parents ids [] count
  ops ← ops_by ids joined left id parents
  done (record { id = id; parents = parents; ops = ops })

by_parts : (agents : List (List ℕ)) (before : List Event) (last : Option FileRun) (left : ℕ) (bytes : List ℕ) → read_run_record agents before last left bytes ≡ record_by (open_agents agents before) (ids_of before) (joins last) left bytes
unfolding read_run_record read_run_ops
by_parts agents before last left bytes = refl

same_record : (agents : List (List ℕ)) (xs ys : List Event) (last other : Option FileRun) (left : ℕ) (bytes : List ℕ) → ids_of xs ≡ ids_of ys → ((e : Event) → joins last e ≡ joins other e) → read_run_record agents xs last left bytes ≡ read_run_record agents ys other left bytes
same_record agents xs ys last other left bytes same joined =
    by_parts agents xs last left bytes ∙ ap (λ (names : List (List ℕ)). record_by (take (suc (length names)) agents) (ids_of xs) (joins last) left bytes) (same_agents xs ys same)
    ∙ ap (λ ids. record_by (open_agents agents ys) ids (joins last) left bytes) same
    ∙ (λ i. record_by (open_agents agents ys) (ids_of ys) (λ e. joined e i) left bytes)
    ∙ sym (by_parts agents ys other left bytes)

-- ---- a record has an event

text_length : (n : ℕ) (text bytes : List ℕ) (y : List ℕ × List ℕ) → read_text text n bytes ≡ Ok y → length y.0 ≡ length text + n
unfolding read_text
text_length zero text bytes y e =
    let same : (text, bytes) ≡ y = cc in
    let size = ap (λ (p : List ℕ × List ℕ). length p.0) same in
    omega (arith, size)
text_length (suc n) text bytes y e =
    let g = go_ok (field number (only is_scalar) Scalar bytes) (λ ch. read_text (text ++ ch ∷ []) n) y e in
    let ih = text_length n (text ++ g.0.0 ∷ []) g.0.1 y g.2 in
    let size = length-append text (g.0.0 ∷ []) in
    omega (arith, ih, size)

text_scalars : (n : ℕ) (text bytes : List ℕ) (y : List ℕ × List ℕ) → AllByRecursion (λ c. is_scalar c ≡ true) text → read_text text n bytes ≡ Ok y → AllByRecursion (λ c. is_scalar c ≡ true) y.0
unfolding read_text
text_scalars zero text bytes y all e =
    let same : (text, bytes) ≡ y = cc in
    subst (λ (p : List ℕ × List ℕ). AllByRecursion (λ c. is_scalar c ≡ true) p.0) same all
text_scalars (suc n) text bytes y all e =
    let g = go_ok (field number (only is_scalar) Scalar bytes) (λ ch. read_text (text ++ ch ∷ []) n) y e in
    let t = tested_ok number is_scalar Scalar bytes g.0 g.1 in
    text_scalars n (text ++ g.0.0 ∷ []) g.0.1 y (pushed text g.0.0 all t.1) g.2
  where
    pushed : (xs : List ℕ) (c : ℕ) → AllByRecursion (λ d. is_scalar d ≡ true) xs → is_scalar c ≡ true → AllByRecursion (λ d. is_scalar d ≡ true) (xs ++ c ∷ [])
    pushed [] c h one = (one, tt)
    pushed (x ∷ xs) c h one = (h.0, pushed xs c h.1 one)

-- operations that are read: there is one, no more than are left, of new ids and numbers of 32 bits
pub record IsFit (before : List Event) (left : ℕ) (x : Id) (ops : RunOps) : Type 0 where
  pub some : 0 < ops_count ops
  pub few : 1 ≤ left → ops_count ops ≤ left
  pub fits : x.seq < 2 ^ 32 → x.seq + ops_count ops ≤ 2 ^ 32
  pub new : are_new before x 1 ≡ true → are_new before x (ops_count ops) ≡ true
  pub sound : CanGoOn ops

-- a run of so many events has one at least
counted : (b : Bool) (count : ℕ) → cond b 1 0 < count → 0 < count
counted true count some = omega (arith, some)
counted false count some = some

kinds_fit : (before : List Event) (left : ℕ) (x : Id) (kind at count : ℕ) (bytes : List ℕ) (y : RunOps × List ℕ) → kind < 4 → eqb kind 2 ≡ false → IsCount left x kind at count → are_new before x count ≡ true → read_ops_of kind at count bytes ≡ Ok y → IsFit before left x y.0
kinds_fit before left x kind at count bytes y known no_mark c new e = by_kind (eqb kind 0) (eqb kind 1) refl refl e
  where
    by_number : (n : ℕ) → n < 4 → (n ≡ 0 → ⊥) → (n ≡ 1 → ⊥) → (n ≡ 2 → ⊥) → n ≡ 3
    by_number n few none one two = omega arith

    of : (ops : RunOps) (rest : List ℕ) → ops_count ops ≡ count → CanGoOn ops → done ops rest ≡ Ok y → IsFit before left x y.0
    of ops rest same sound f =
        let some = counted (eqb kind 3) count c.some in
        let few = c.few in
        let fits = c.numbered in
        subst (λ (p : RunOps × List ℕ). IsFit before left x p.0) (let is : (ops, rest) ≡ y = cc in is)
        (record { some = omega (arith, some, same); few = λ _. omega (arith, few, same); fits = λ _. omega (arith, fits, same); new = λ _. ap (are_new before x) same ∙ new; sound = sound })

    low : eqb kind 0 ≡ true → at + count ≤ 2 ^ 32
    low t = leb-true (at + count) (2 ^ 32) (sym (ap (λ b. cond b (leb (at + count) (2 ^ 32)) (cond (eqb kind 3) (leb count (suc at)) true)) t) ∙ c.indices)

    back : eqb kind 0 ≡ false → eqb kind 1 ≡ false → count ≤ suc at
    back no_insertion no_deletion =
        let none = eqb-false kind 0 no_insertion in
        let other = eqb-false kind 1 no_deletion in
        let unmarked = eqb-false kind 2 no_mark in
        let falls : kind ≡ 3 = by_number kind known none other unmarked in
        leb-true count (suc at)
        (sym ((λ i. cond (no_insertion i) (leb (at + count) (2 ^ 32)) (cond (eqb kind 3) (leb count (suc at)) true)) ∙ ap (λ b. cond b (leb count (suc at)) true) (eq-eqb kind 3 falls)) ∙ c.indices)

    by_kind : (b d : Bool) → eqb kind 0 ≡ b → eqb kind 1 ≡ d → (cond b (read_text [] count >>= (λ text. done (Insertions at text))) (cond d (done (Deletions at count)) (done (BackDeletions at count)))) bytes ≡ Ok y → IsFit before left x y.0
    by_kind true d is other f =
        let g = go_ok (read_text [] count bytes) (λ text. done (Insertions at text)) y f in
        let size = text_length count [] bytes g.0 g.1 in
        let high = low is in
        of (Insertions at g.0.0) g.0.1 (omega (arith, size)) (omega (arith, size, high), text_scalars count [] bytes g.0 tt g.1) g.2
    by_kind false true is other f = of (Deletions at count) bytes refl tt f
    by_kind false false is other f = of (BackDeletions at count) bytes refl (back is other) f

pub ops_fit : (before : List Event) (last : Option FileRun) (left : ℕ) (x : Id) (parents : List Id) (bytes : List ℕ) (y : RunOps × List ℕ) → read_run_ops before last left x parents bytes ≡ Ok y → IsFit before left x y.0
unfolding read_run_ops
ops_fit before last left x parents bytes y e =
    let k = go_ok (field byte (only (λ kind. nat_lt kind 4)) KindBad bytes) with_kind y e in
    let t = tested_ok byte (λ kind. nat_lt kind 4) KindBad bytes k.0 k.1 in
    by_kind k.0.0 (eqb k.0.0 2) (ltb-true k.0.0 4 t.1) refl k.0.1 k.2
  where
    with_index : ℕ → ℕ → Reader RunOps
    with_index kind at = field (field number (only (may_be_count left x kind at)) RunLength) (only (are_new before x)) IdTwice >>= read_ops_of kind at

    indexed : ℕ → Reader RunOps
    indexed kind = field number (only (λ at. not (joins last (record { id = x; parents = parents; op = first_op kind at })))) RunJoin >>= with_index kind

    with_kind : ℕ → Reader RunOps
    with_kind kind = cond (eqb kind 2) read_one_mark (indexed kind)

    by_kind : (kind : ℕ) (b : Bool) → kind < 4 → eqb kind 2 ≡ b → (rest : List ℕ) → (cond b read_one_mark (indexed kind)) rest ≡ Ok y → IsFit before left x y.0
    by_kind kind true known is rest f =
        let g = go_ok (read_name rest) (λ label. done (OneMark label)) y f in
        let same : (OneMark g.0.0, g.0.1) ≡ y = (let h = g.2 in cc) in
        subst (λ (p : RunOps × List ℕ). IsFit before left x p.0) same (record { some = omega arith; few = λ le. le; fits = λ lt. omega (arith, lt); new = λ n. n; sound = tt })
    by_kind kind false known is rest f =
        let g = go_ok (field number (only (λ at. not (joins last (record { id = x; parents = parents; op = first_op kind at })))) RunJoin rest) (with_index kind) y f in
        let at = g.0.0 in
        let counted = field number (only (may_be_count left x kind at)) RunLength in
        let h = go_ok (field counted (only (are_new before x)) IdTwice g.0.1) (read_ops_of kind at) y g.2 in
        let t = tested_ok counted (are_new before x) IdTwice g.0.1 h.0 h.1 in
        let u = tested_ok number (may_be_count left x kind at) RunLength g.0.1 h.0 t.0 in
        kinds_fit before left x kind at h.0.0 h.0.1 y known is (count_is left x kind at h.0.0 u.1) t.1 h.2

record_some : (agents : List (List ℕ)) (before : List Event) (last : Option FileRun) (left : ℕ) (bytes : List ℕ) (y : FileRun × List ℕ) → read_run_record agents before last left bytes ≡ Ok y → 0 < ops_count y.0.ops
unfolding read_run_record
record_some agents before last left bytes y e =
    let a = go_ok (field number (slice_get (open_agents agents before)) AgentNumber bytes) with_agent y e in
    let b = go_ok (field number (id_for a.0.0) IdTwice a.0.1) with_id y a.2 in
    let c = go_ok (field byte (only (λ n. nat_le n 16)) ParentCount b.0.1) (with_count b.0.0) y b.2 in
    let d = go_ok (read_parents (ids_of before) [] c.0.0 c.0.1) (with_parents b.0.0) y c.2 in
    let f = go_ok (read_run_ops before last left b.0.0 d.0.0 d.0.1) (with_ops b.0.0 d.0.0) y d.2 in
    let r : FileRun = record { id = b.0.0; parents = d.0.0; ops = f.0.0 } in
    let same : (r, f.0.1) ≡ y = (let h = f.2 in cc) in
    subst (λ (p : FileRun × List ℕ). 0 < ops_count p.0.ops) same (ops_fit before last left b.0.0 d.0.0 d.0.1 f.0 f.1).some
  where
    id_for : List ℕ → ℕ → Option Id
    id_for agent seq = only (λ y. not (is_held before y)) (record { agent = agent; seq = seq })

    with_ops : Id → List Id → RunOps → Reader FileRun
    with_ops id parents o = done (record { id = id; parents = parents; ops = o })

    with_parents : Id → List Id → Reader FileRun
    with_parents id parents = read_run_ops before last left id parents >>= with_ops id parents

    with_count : Id → ℕ → Reader FileRun
    with_count id count = read_parents (ids_of before) [] count >>= with_parents id

    with_id : Id → Reader FileRun
    with_id id = field byte (only (λ n. nat_le n 16)) ParentCount >>= with_count id

    with_agent : List ℕ → Reader FileRun
    with_agent agent = field number (id_for agent) IdTwice >>= with_id

-- ---- the events that are still to come, without those before

abbrev to_come : List (List ℕ) → List Event → Option FileRun → ℕ → ℕ → Reader (List Event)
to_come agents before last left zero bytes = go_on (read_end agents before bytes) (λ _. done [])
to_come agents before last zero (suc most) bytes = go_on (read_end agents before bytes) (λ _. done [])
to_come agents before last (suc left) (suc most) bytes =
    go_on (read_run_record agents before last (suc left) bytes) (λ r later. go_on (to_come agents (before ++ run_events r) (Some r) (suc left - ops_count r.ops) most later) (λ es. done (run_events r ++ es)))

-- the ids of those before are all that counts
same_to_come : (most left : ℕ) (agents : List (List ℕ)) (xs ys : List Event) (last other : Option FileRun) (bytes : List ℕ) → ids_of xs ≡ ids_of ys → ((e : Event) → joins last e ≡ joins other e) → to_come agents xs last left most bytes ≡ to_come agents ys other left most bytes
same_to_come zero left agents xs ys last other bytes same joined = same_end agents xs ys bytes same
same_to_come (suc most) zero agents xs ys last other bytes same joined = same_end agents xs ys bytes same
same_to_come (suc most) (suc left) agents xs ys last other bytes same joined =
    ap (λ r. go_on r (λ s later. go_on (to_come agents (xs ++ run_events s) (Some s) (suc left - ops_count s.ops) most later) (λ es. done (run_events s ++ es)))) (same_record agents xs ys last other (suc left) bytes same joined)
    ∙ same_steps (read_run_record agents ys other (suc left) bytes) (λ s later. go_on (to_come agents (xs ++ run_events s) (Some s) (suc left - ops_count s.ops) most later) (λ es. done (run_events s ++ es)))
    (λ s later. go_on (to_come agents (ys ++ run_events s) (Some s) (suc left - ops_count s.ops) most later) (λ es. done (run_events s ++ es)))
    (λ s later. ap (λ r. go_on r (λ es. done (run_events s ++ es))) (same_to_come most (suc left - ops_count s.ops) agents (xs ++ run_events s) (ys ++ run_events s) (Some s) (Some s) later (more s) (λ e. refl)))
  where
    more : (s : FileRun) → ids_of (xs ++ run_events s) ≡ ids_of (ys ++ run_events s)
    more s = map-append (λ (f : Event). f.id) xs (run_events s) ∙ ap (λ ids. ids ++ ids_of (run_events s)) same ∙ sym (map-append (λ (f : Event). f.id) ys (run_events s))

-- there are no more records than events
enough : (most more left : ℕ) (agents : List (List ℕ)) (before : List Event) (last : Option FileRun) (bytes : List ℕ) → left ≤ most → left ≤ more → to_come agents before last left most bytes ≡ to_come agents before last left more bytes
enough zero zero left agents before last bytes le lf = refl
enough zero (suc more) zero agents before last bytes le lf = refl
enough zero (suc more) (suc left) agents before last bytes le lf = absurd (omega (arith, le))
enough (suc most) zero zero agents before last bytes le lf = refl
enough (suc most) zero (suc left) agents before last bytes le lf = absurd (omega (arith, lf))
enough (suc most) (suc more) zero agents before last bytes le lf = refl
enough (suc most) (suc more) (suc left) agents before last bytes le lf =
    at (read_run_record agents before last (suc left) bytes) refl
    (λ s later some. enough most more (suc left - ops_count s.ops) agents (before ++ run_events s) (Some s) later (omega (arith, some, le)) (omega (arith, some, lf)))
  where
    at : (r : Result (FileRun × List ℕ) model.Stop) → read_run_record agents before last (suc left) bytes ≡ r
        → ((s : FileRun) (later : List ℕ) → 0 < ops_count s.ops → to_come agents (before ++ run_events s) (Some s) (suc left - ops_count s.ops) most later ≡ to_come agents (before ++ run_events s) (Some s) (suc left - ops_count s.ops) more later)
        → go_on r (λ s later. go_on (to_come agents (before ++ run_events s) (Some s) (suc left - ops_count s.ops) most later) (λ es. done (run_events s ++ es)))
        ≡ go_on r (λ s later. go_on (to_come agents (before ++ run_events s) (Some s) (suc left - ops_count s.ops) more later) (λ es. done (run_events s ++ es)))
    at (Ok found) is ih = ap (λ r. go_on r (λ es. done (run_events found.0 ++ es))) (ih found.0 found.1 (record_some agents before last (suc left) bytes found is))
    at (Err why) is ih = refl

-- with the events before in front it is what the definition reads
all_of : (most left : ℕ) (agents : List (List ℕ)) (before : List Event) (last : Option FileRun) (bytes : List ℕ) → go_on (read_runs agents before last left most bytes) (read_end agents) ≡ go_on (to_come agents before last left most bytes) (λ es. done (before ++ es))
unfolding read_runs read_records
all_of zero left agents before last bytes = whole agents before zero bytes
all_of (suc most) zero agents before last bytes = whole agents before zero bytes
all_of (suc most) (suc left) agents before last bytes = at (read_run_record agents before last (suc left) bytes) (λ s later. all_of most (suc left - ops_count s.ops) agents (before ++ run_events s) (Some s) later)
  where
    behind : (s : FileRun) (r : Result (List Event × List ℕ) model.Stop) → go_on r (λ es. done ((before ++ run_events s) ++ es)) ≡ go_on (go_on r (λ es. done (run_events s ++ es))) (λ es. done (before ++ es))
    behind s (Ok found) = ap (λ es. Ok (es, found.1)) (append_assoc before (run_events s) found.0)
    behind s (Err why) = refl

    at : (r : Result (FileRun × List ℕ) model.Stop)
        → ((s : FileRun) (later : List ℕ) → go_on (read_runs agents (before ++ run_events s) (Some s) (suc left - ops_count s.ops) most later) (read_end agents) ≡ go_on (to_come agents (before ++ run_events s) (Some s) (suc left - ops_count s.ops) most later) (λ es. done ((before ++ run_events s) ++ es)))
        → go_on (go_on r (λ s. read_runs agents (before ++ run_events s) (Some s) (suc left - ops_count s.ops) most)) (read_end agents)
        ≡ go_on (go_on r (λ s later. go_on (to_come agents (before ++ run_events s) (Some s) (suc left - ops_count s.ops) most later) (λ es. done (run_events s ++ es)))) (λ es. done (before ++ es))
    at (Ok found) ih = ih found.0 found.1 ∙ behind found.0 (to_come agents (before ++ run_events found.0) (Some found.0) (suc left - ops_count found.0.ops) most found.1)
    at (Err why) ih = refl

found_is : (agents : List (List ℕ)) (before : List Event) (last : Option FileRun) (left len : ℕ) (bytes : List ℕ) → runs_found agents before last left len bytes ≡ finding_of len (to_come agents before last left left bytes)
found_is agents before last left len bytes = ap (λ r. beyond (length before) (finding_of len r)) (all_of left left agents before last bytes) ∙ without before len (to_come agents before last left left bytes)

front_of : (xs : List Event) (len : ℕ) (r : Result (List Event × List ℕ) model.Stop) → finding_of len (go_on r (λ es. done (xs ++ es))) ≡ in_front xs (finding_of len r)
front_of xs len (Ok found) = refl
front_of xs len (Err (model.BadField left kind)) = refl
front_of xs len (Err (model.OverLimit count)) = refl

chain_ids : (ops : List Op) (agent : List ℕ) (n : ℕ) (parents : List Id) → ids_of (chain_of agent n parents ops) ≡ ids_from agent n (length ops)
chain_ids [] agent n parents = refl
chain_ids (op ∷ ops) agent n parents = ap (λ ids. record { agent = agent; seq = n } ∷ ids) (chain_ids ops agent (n + 1) (record { agent = agent; seq = n } ∷ []))

-- a record that is read is the next run, and of the events before the ids are enough
pub goes_on : (agents : List (List ℕ)) (before : List Event) (last : Option FileRun) (left len : ℕ) (bytes later : List ℕ) (r : FileRun) → 0 < left → read_run_record agents before last left bytes ≡ Ok (r, later)
    → runs_found agents before last left len bytes
    ≡ in_front (run_events r) (runs_found agents (before ++ known_run r.id (ops_count r.ops)) (Some (record { id = r.id; parents = []; ops = r.ops })) (left - ops_count r.ops) len later)
goes_on agents before last left len bytes later r more one =
    let other : Option FileRun = Some (record { id = r.id; parents = []; ops = r.ops }) in
    let known = before ++ known_run r.id (ops_count r.ops) in
    let rest = left - ops_count r.ops in
    let some = record_some agents before last left bytes (r, later) one in
    let first : to_come agents before last left left bytes ≡ go_on (read_run_record agents before last left bytes) (λ s behind. go_on (to_come agents (before ++ run_events s) (Some s) (left - ops_count s.ops) (left - 1) behind) (λ es. done (run_events s ++ es))) =
    ap (λ n. to_come agents before last n n bytes) (one_less left more)
    ∙ ap (λ n. go_on (read_run_record agents before last n bytes) (λ s behind. go_on (to_come agents (before ++ run_events s) (Some s) (n - ops_count s.ops) (left - 1) behind) (λ es. done (run_events s ++ es)))) (sym (one_less left more)) in
    found_is agents before last left len bytes ∙ ap (finding_of len) first
    ∙ ap (λ x. finding_of len (go_on x (λ s behind. go_on (to_come agents (before ++ run_events s) (Some s) (left - ops_count s.ops) (left - 1) behind) (λ es. done (run_events s ++ es))))) one
    ∙ ap (λ x. finding_of len (go_on x (λ es. done (run_events r ++ es)))) (
    enough (left - 1) rest rest agents (before ++ run_events r) (Some r) later (omega (arith, some)) (omega arith)
    ∙ same_to_come rest rest agents (before ++ run_events r) known (Some r) other later same (λ e. refl)
    )
    ∙ front_of (run_events r) len (to_come agents known other rest rest later)
    ∙ ap (in_front (run_events r)) (sym (found_is agents known other rest len later))
  where
    same : ids_of (before ++ run_events r) ≡ ids_of (before ++ known_run r.id (ops_count r.ops))
    same =
        map-append (λ (f : Event). f.id) before (run_events r)
        ∙ ap (λ ids. ids_of before ++ ids) (chain_ids (ops_in r.ops) r.id.agent r.id.seq r.parents ∙ ap (ids_from r.id.agent r.id.seq) (ops_long r.ops) ∙ sym (ids_of_run r.id (ops_count r.ops)))
        ∙ sym (map-append (λ (f : Event). f.id) before (known_run r.id (ops_count r.ops)))

-- a record that can't be read is the fault of the rest
pub faults : (stop : Stop) (fault : FileFault) (agents : List (List ℕ)) (before : List Event) (last : Option FileRun) (left len : ℕ) (bytes : List ℕ) → 0 < left → Stops stop (read_run_record agents before last left bytes) → IsStop stop len fault
    → IsFault fault (runs_found agents before last left len bytes)
faults stop fault agents before last left len bytes more stopped is =
    let next : FileRun → Reader (List Event) = λ s behind. go_on (to_come agents (before ++ run_events s) (Some s) (left - ops_count s.ops) (left - 1) behind) (λ es. done (run_events s ++ es)) in
    let first : to_come agents before last left left bytes ≡ go_on (read_run_record agents before last left bytes) next =
    ap (λ n. to_come agents before last n n bytes) (one_less left more)
    ∙ ap (λ n. go_on (read_run_record agents before last n bytes) (λ s behind. go_on (to_come agents (before ++ run_events s) (Some s) (n - ops_count s.ops) (left - 1) behind) (λ es. done (run_events s ++ es)))) (sym (one_less left more)) in
    subst (IsFault fault) (sym (found_is agents before last left len bytes ∙ ap (finding_of len) first))
    (stops_with stop fault len (read_run_record agents before last left bytes) next stopped is)

-- where no event is to come the end is read
pub ends : (agents : List (List ℕ)) (before : List Event) (last : Option FileRun) (len : ℕ) (bytes : List ℕ) → read_end agents before bytes ≡ Ok (before, []) → runs_found agents before last 0 len bytes ≡ model.IsFile []
ends agents before last len bytes one = found_is agents before last 0 len bytes ∙ ap (λ (r : Result (List Event × List ℕ) model.Stop). finding_of len (go_on r (λ _. done []))) one

pub end_faults : (stop : Stop) (fault : FileFault) (agents : List (List ℕ)) (before : List Event) (last : Option FileRun) (len : ℕ) (bytes : List ℕ) → Stops stop (read_end agents before bytes) → IsStop stop len fault
    → IsFault fault (runs_found agents before last 0 len bytes)
end_faults stop fault agents before last len bytes stopped is =
    subst (IsFault fault) (sym (found_is agents before last 0 len bytes)) (stops_with stop fault len (read_end agents before bytes) (λ _. done []) stopped is)

-- before the first record all is still to come
pub begins : (agents : List (List ℕ)) (n len : ℕ) (bytes : List ℕ) → runs_found agents [] None n len bytes ≡ finding_of len (go_on (read_runs agents [] None n n bytes) (read_end agents))
begins agents n len bytes = none_beyond (finding_of len (go_on (read_runs agents [] None n n bytes) (read_end agents)))

-- behind the agents and the number of events only the records and the end are left
pub events_from : (most : ℕ) (bytes names records left : List ℕ) (n count : ℕ) (agents : List (List ℕ)) → number bytes ≡ Ok (n, names) → read_names [] n names ≡ Ok (agents, records) → number records ≡ Ok (count, left) → count ≤ most
    → read_run_events most bytes ≡ go_on (read_runs agents [] None count count left) (read_end agents)
unfolding read_run_events
events_from most bytes names records left n count agents first named second le =
    then_again (number >>= read_names []) counted bytes (agents, records) (then_again number (read_names []) bytes (n, names) first ∙ named)
    ∙ then_again number (limited agents) records (count, left) second
    ∙ ap (λ over. (if over then stops (model.OverLimit count) else read_runs agents [] None count count >>= read_end agents) left) (le-ltb most count le)
  where
    limited : List (List ℕ) → ℕ → Reader (List Event)
    limited names k = if nat_lt most k then stops (model.OverLimit k) else read_runs names [] None k k >>= read_end names

    counted : List (List ℕ) → Reader (List Event)
    counted names = number >>= limited names

-- ---- the events of an open run

pub in_front_none : (found : FileFinding) → in_front [] found ≡ found
in_front_none (model.IsFile events) = refl
in_front_none (model.Short len) = refl
in_front_none model.BadMagic = refl
in_front_none (model.BadVersion version) = refl
in_front_none (model.BadDigest stored other) = refl
in_front_none (model.BadRecord offset kind) = refl
in_front_none (model.TooMany count) = refl

in_front_first : (e : Event) (es : List Event) (found : FileFinding) → in_front (e ∷ es) found ≡ in_front (e ∷ []) (in_front es found)
in_front_first e es (model.IsFile events) = refl
in_front_first e es (model.Short len) = refl
in_front_first e es model.BadMagic = refl
in_front_first e es (model.BadVersion version) = refl
in_front_first e es (model.BadDigest stored other) = refl
in_front_first e es (model.BadRecord offset kind) = refl
in_front_first e es (model.TooMany count) = refl

-- the events from one number on are those behind the id before it
behind_last : (n m : ℕ) (e : Event) (x : Id) (y : Id) (ops : List Op) → n ≡ suc x.seq → x ≡ y → e ∷ chain_of x.agent n (x ∷ []) ops ≡ e ∷ chain_of y.agent (suc y.seq) (y ∷ []) ops
behind_last n m e x y ops next same = ap (λ k. e ∷ chain_of x.agent k (x ∷ []) ops) next ∙ ap (λ (z : Id). e ∷ chain_of z.agent (suc z.seq) (z ∷ []) ops) same

step_behind : (o new : Opened) (op : Op) → IsStepOf op o new → events_behind (Some o) ≡ event_behind o.last op ∷ events_behind (Some new)
step_behind o new op step =
    ap (chain_of o.last.agent (suc o.last.seq) (o.last ∷ [])) step.next
    ∙ behind_last (suc o.last.seq + 1) 0 (event_behind o.last op) (next_id o.last) new.last new.rest (omega arith) (sym step.last)

-- where no event of a run is left
pub none_behind : (o : Opened) → o.rest ≡ [] → events_behind (Some o) ≡ []
none_behind o none = ap (chain_of o.last.agent (suc o.last.seq) (o.last ∷ [])) none

-- the next event of the run is handed out
pub step_next : (known : Known) (o new : Opened) (left len : ℕ) (bytes : List ℕ) (e : Event) → e ≡ event_behind o.last e.op → IsStepOf e.op o new → IsNext (Ok (Some e)) (run_rest known (Some o) left len bytes) (run_rest known (Some new) left len bytes)
step_next known o new left len bytes e is step =
    let behind : events_behind (Some o) ≡ e ∷ events_behind (Some new) = step_behind o new e.op step ∙ ap (λ f. f ∷ events_behind (Some new)) (sym is) in
    let found = λ (r : FileRun). runs_found known.agents known.events (Some r) left len bytes in
    let size = ap (length {A = Event}) behind in (
      ap (λ es. in_front es (found o.run)) behind ∙ in_front_first e (events_behind (Some new)) (found o.run) ∙ ap (λ r. in_front (e ∷ []) (in_front (events_behind (Some new)) (found r))) (sym step.same),
      omega (arith, size),
      ap (λ x. Some x) (step.last ∙ ap (λ (f : Event). f.id) (sym is)),
    )

pub step_goes_on : (known : Known) (o new : Opened) (left len : ℕ) (bytes : List ℕ) (op : Op) → IsStepOf op o new → GoesOnBy op (run_rest known (Some o) left len bytes) (run_rest known (Some new) left len bytes)
step_goes_on known o new left len bytes op step = record { last = o.last; is_last = refl; next = step_next known o new left len bytes (event_behind o.last op) refl step }

pub step_next_of : (known : Known) (old new : Option Opened) (left len : ℕ) (bytes : List ℕ) (e : Event) → IsNextOf e old new → IsNext (Ok (Some e)) (run_rest known old left len bytes) (run_rest known new left len bytes)
step_next_of known old new left len bytes e n =
    subst (λ o. IsNext (Ok (Some e)) (run_rest known o left len bytes) (run_rest known new left len bytes)) (sym n.old_is)
    (subst (λ o. IsNext (Ok (Some e)) (run_rest known (Some n.first) left len bytes) (run_rest known o left len bytes)) (sym n.new_is)
    (step_next known n.first n.second left len bytes e n.event n.step))

pub step_op_of : (known : Known) (old new : Option Opened) (left len : ℕ) (bytes : List ℕ) (op : Op) → IsOpOf op old new → GoesOnBy op (run_rest known old left len bytes) (run_rest known new left len bytes)
step_op_of known old new left len bytes op n =
    subst (λ o. GoesOnBy op (run_rest known o left len bytes) (run_rest known new left len bytes)) (sym n.old_is)
    (subst (λ o. GoesOnBy op (run_rest known (Some n.first) left len bytes) (run_rest known o left len bytes)) (sym n.new_is)
    (step_goes_on known n.first n.second left len bytes op n.step))

chain_long : (ops : List Op) (agent : List ℕ) (n : ℕ) (parents : List Id) → length (chain_of agent n parents ops) ≡ length ops
chain_long [] agent n parents = refl
chain_long (op ∷ ops) agent n parents = ap suc (chain_long ops agent (n + 1) (record { agent = agent; seq = n } ∷ []))

-- all events of the run that are behind are handed out
rest_goes_on : (known : Known) (o new : Opened) (left len : ℕ) (bytes : List ℕ) (ops : List Op) → IsRestOf ops o new → GoOnBy ops (run_rest known (Some o) left len bytes) (run_rest known (Some new) left len bytes)
rest_goes_on known o new left len bytes ops step =
    let chain = chain_of o.last.agent (suc o.last.seq) (o.last ∷ []) ops in
    let behind : events_behind (Some o) ≡ chain = ap (chain_of o.last.agent (suc o.last.seq) (o.last ∷ [])) step.all in
    let nothing = none_behind new step.done in
    let found = λ (r : FileRun). runs_found known.agents known.events (Some r) left len bytes in
    let size = ap (length {A = Event}) behind in
    let long = chain_long ops o.last.agent (suc o.last.seq) (o.last ∷ []) in
    let none = ap (length {A = Event}) nothing in
    record {
      last = o.last;
      is_last = refl;
      found =
          ap (λ es. in_front es (found o.run)) behind
          ∙ ap (in_front chain) (ap found (sym step.same) ∙ sym (in_front_none (found new.run)) ∙ ap (λ es. in_front es (found new.run)) (sym nothing));
      records = omega (arith, size, long, none);
      new_last = ap (λ x. Some x) step.last;
    }

-- so many calls, one behind the other, hand out the same as one
pub no_more : (rest : Rest) (x : Id) → rest.last ≡ Some x → GoOnBy [] rest rest
no_more rest x is =
    let at : x.seq ≡ x.seq + length {A = Op} [] = omega arith in
    record {
      last = x;
      is_last = is;
      found = sym (in_front_none rest.found);
      records = omega arith;
      new_last = is ∙ ap (λ n. Some (record { agent = x.agent; seq = n })) at;
    }

pub one_and_more : (op : Op) (ops : List Op) (old mid new : Rest) → GoesOnBy op old mid → GoOnBy ops mid new → GoOnBy (op ∷ ops) old new
one_and_more op ops old mid new one more =
    let e = event_behind one.last op in
    let both : Some more.last ≡ Some (next_id one.last) = sym more.is_last ∙ one.next.2 in
    let same : more.last ≡ next_id one.last = cc in
    let chain = chain_of more.last.agent (suc more.last.seq) (more.last ∷ []) ops in
    let after : suc one.last.seq + length ops ≡ one.last.seq + suc (length ops) = omega arith in
    let count = one.next.1 in
    let rest = more.records in
    record {
      last = one.last;
      is_last = one.is_last;
      found =
          one.next.0 ∙ ap (in_front (e ∷ [])) more.found ∙ sym (in_front_first e chain new.found)
          ∙ ap (λ es. in_front es new.found) (sym (behind_last (suc one.last.seq + 1) 0 e (next_id one.last) more.last ops (omega arith) (sym same)));
      records = omega (arith, count, rest);
      new_last = more.new_last ∙ ap (λ (x : Id). Some (record { agent = x.agent; seq = x.seq + length ops })) same ∙ ap (λ n. Some (record { agent = one.last.agent; seq = n })) after;
    }

rest_in : (known : Known) (old new : Option Opened) (left len : ℕ) (bytes : List ℕ) (ops : List Op) → IsRestIn ops old new → GoOnBy ops (run_rest known old left len bytes) (run_rest known new left len bytes)
rest_in known old new left len bytes ops n =
    subst (λ o. GoOnBy ops (run_rest known o left len bytes) (run_rest known new left len bytes)) (sym n.old_is)
    (subst (λ o. GoOnBy ops (run_rest known (Some n.first) left len bytes) (run_rest known o left len bytes)) (sym n.new_is)
    (rest_goes_on known n.first n.second left len bytes ops n.step))

-- how many operations are left behind the first
pub count_step : (ops rest : RunOps) (op : Op) → ops_in ops ≡ op ∷ ops_in rest → ops_count ops ≡ suc (ops_count rest)
count_step ops rest op e =
    let size = ap (length {A = Op}) e in
    let a = ops_long ops in
    let b = ops_long rest in
    omega (arith, size, a, b)

pub count_none : (ops : RunOps) → ops_in ops ≡ [] → ops_count ops ≡ 0
count_none ops e =
    let size = ap (length {A = Op}) e in
    let a = ops_long ops in
    omega (arith, size, a)

pub none_counted : (ops : RunOps) → ops_count ops ≡ 0 → ops_in ops ≡ []
none_counted ops e = at (ops_in ops) (ops_long ops ∙ e)
  where
    at : (os : List Op) → length os ≡ 0 → os ≡ []
    at [] f = refl
    at (o ∷ os) f = absurd cc

pub done_when : (ops : RunOps) (n : ℕ) (rest : List Op) → n ≡ ops_count ops → ops_in ops ≡ rest → IsTrue (eqb n 0) ↔ (rest ≡ [])
done_when ops n rest count is = ((λ t. sym is ∙ none_counted ops (sym count ∙ eqb-true n 0 t)), (λ e. eq-eqb n 0 (count ∙ count_none ops (is ∙ e))))

-- whether an id is the next one
pub next_told : (b : Bool) (x y : Id) → (IsTrue b ↔ (y ≡ next_id x)) → b ≡ is_next_id x y
next_told b x y h = same_truth b (is_next_id x y) (λ e. on (h.0 e)) (λ e. h.1 (back e))
  where
    on : y ≡ next_id x → is_next_id x y ≡ true
    on e = ap (is_next_id x) e ∙ and_from (name_eq x.agent x.agent) (eqb (suc x.seq) (suc x.seq)) (names_equal.refl x.agent) (eq-eqb (suc x.seq) (suc x.seq) refl)

    back : is_next_id x y ≡ true → y ≡ next_id x
    back e =
        let p = and_parts (name_eq x.agent y.agent) (eqb y.seq (suc x.seq)) e in
        let agent = sym (name_exact x.agent y.agent p.0) in
        let seq = eqb-true y.seq (suc x.seq) p.1 in
        λ i. record { agent = agent i; seq = seq i }

pub some_goes_on : (known : Known) (old new : Option Opened) (left len : ℕ) (bytes : List ℕ) (r : Option Op) → IfSome r (λ op. IsOpOf op old new) → IfSome r (λ op. GoesOnBy op (run_rest known old left len bytes) (run_rest known new left len bytes))
some_goes_on known old new left len bytes None h = h
some_goes_on known old new left len bytes (Some op) h = step_op_of known old new left len bytes op h

pub none_goes_on : {A : Type 0} (known : Known) (old new : Option Opened) (left len : ℕ) (bytes : List ℕ) (r : Option A) → IfNone r ((events_behind old ≡ []) × (new ≡ old))
    → IfNone r ((events_behind old ≡ []) × (runs_rest known new left len bytes ≡ runs_rest known old left len bytes))
none_goes_on known old new left len bytes None h = (h.0, ap (λ o. runs_rest known o left len bytes) h.1)
none_goes_on known old new left len bytes (Some op) h = h

pub some_rest : {A : Type 0} (ops_of : A → List Op) (known : Known) (old new : Option Opened) (left len : ℕ) (bytes : List ℕ) (r : Option A) → IfSome r (λ x. IsRestIn (ops_of x) old new)
    → IfSome r (λ x. GoOnBy (ops_of x) (run_rest known old left len bytes) (run_rest known new left len bytes))
some_rest ops_of known old new left len bytes None h = h
some_rest ops_of known old new left len bytes (Some x) h = rest_in known old new left len bytes (ops_of x) h

pub rest_done : {A : Type 0} (ops_of : A → List Op) (old new : Option Opened) (r : Option A) → IfSome r (λ x. IsRestIn (ops_of x) old new) → IfSome r (λ x. events_behind new ≡ [])
rest_done ops_of old new None h = h
rest_done ops_of old new (Some x) h = ap events_behind h.new_is ∙ none_behind h.second h.step.done

pub only_one : (ids : List Id) (x y : Id) → length ids ≡ 1 → y ≡ get_or ids 0 y → are_only ids x ≡ id_eq x y
only_one [] x y one is = absurd (omega (arith, one))
only_one (z ∷ []) x y one is = ap (id_eq x) (sym is)
only_one (z ∷ w ∷ ids) x y one is = absurd (omega (arith, one))

pub no_open : (known : Known) (open_run : Option Opened) (left len : ℕ) (bytes : List ℕ) → events_behind open_run ≡ [] → (run_rest known open_run left len bytes).found ≡ runs_found known.agents known.events (run_of open_run) left len bytes
no_open known open_run left len bytes none = ap (λ es. in_front es (runs_found known.agents known.events (run_of open_run) left len bytes)) none ∙ in_front_none (runs_found known.agents known.events (run_of open_run) left len bytes)

-- the first event of a record is handed out
pub record_next : (known after : Known) (open_run : Option Opened) (new : Opened) (left len : ℕ) (bytes later : List ℕ) (r : FileRun) (op : Op) → events_behind open_run ≡ [] → 0 < left → ops_count r.ops ≤ left
    → read_run_record known.agents known.events (run_of open_run) left bytes ≡ Ok (r, later)
    → after ≡ record { agents = known.agents; events = known.events ++ known_run r.id (ops_count r.ops) }
    → ops_in r.ops ≡ op ∷ new.rest → new.run ≡ record { id = r.id; parents = []; ops = r.ops } → new.last ≡ r.id
    → IsNext (Ok (Some (record { id = r.id; parents = r.parents; op = op }))) (run_rest known open_run left len bytes) (run_rest after (Some new) (left - ops_count r.ops) len later)
record_next known after open_run new left len bytes later r op none more few one kept ops run last =
    let e : Event = record { id = r.id; parents = r.parents; op = op } in
    let n = ops_count r.ops in
    let events : run_events r ≡ e ∷ events_behind (Some new) =
    ap (chain_of r.id.agent r.id.seq r.parents) ops ∙ behind_last (r.id.seq + 1) 0 e r.id new.last new.rest (omega arith) (sym last) in
    let found = λ (k : Known) (s : FileRun). runs_found k.agents k.events (Some s) (left - n) len later in
    let size = ap (length {A = Event}) events in
    let long = chain_long (ops_in r.ops) r.id.agent r.id.seq r.parents in
    let count = ops_long r.ops in
    let nothing = ap (length {A = Event}) none in (
      no_open known open_run left len bytes none ∙ goes_on known.agents known.events (run_of open_run) left len bytes later r more one
          ∙ ap (λ (k : Known). in_front (run_events r) (found k (record { id = r.id; parents = []; ops = r.ops }))) (sym kept)
          ∙ ap (λ s. in_front (run_events r) (found after s)) (sym run)
          ∙ ap (λ es. in_front es (found after new.run)) events
          ∙ in_front_first e (events_behind (Some new)) (found after new.run),
      omega (arith, size, long, count, few, nothing),
      ap (λ x. Some x) last,
    )

-- an open run has no event left where it has no operation left
pub behind_when : (opened : Option Opened) (o : Opened) (b : Bool) → opened ≡ Some o → (IsTrue b ↔ (o.rest ≡ [])) → IsTrue b ↔ (events_behind opened ≡ [])
behind_when opened o b is h = ((λ t. ap events_behind is ∙ none_behind o (h.0 t)), (λ e. h.1 (no_rest o.rest o.last.agent (suc o.last.seq) (o.last ∷ []) (sym (ap events_behind is) ∙ e))))
  where
    no_rest : (ops : List Op) (agent : List ℕ) (n : ℕ) (parents : List Id) → chain_of agent n parents ops ≡ [] → ops ≡ []
    no_rest [] agent n parents e = refl
    no_rest (op ∷ ops) agent n parents e = absurd cc

-- where all events of the run were handed out: the end, its fault, and the fault of a record
pub run_done : (known : Known) (open_run : Option Opened) (left len : ℕ) (bytes : List ℕ) → events_behind open_run ≡ [] → left ≡ 0 → read_end known.agents known.events bytes ≡ Ok (known.events, []) → ((run_rest known open_run left len bytes).found ≡ model.IsFile []) × ((run_rest known open_run left len bytes).records ≡ 0)
run_done known open_run left len bytes none zero_left one =
    let nothing = ap (length {A = Event}) none in (
      no_open known open_run left len bytes none ∙ ap (λ n. runs_found known.agents known.events (run_of open_run) n len bytes) zero_left ∙ ends known.agents known.events (run_of open_run) len bytes one,
      omega (arith, nothing, zero_left),
    )

pub run_end_fault : (stop : Stop) (fault : FileFault) (known : Known) (open_run : Option Opened) (left len : ℕ) (bytes : List ℕ) → events_behind open_run ≡ [] → left ≡ 0 → Stops stop (read_end known.agents known.events bytes) → IsStop stop len fault
    → IsFault fault (run_rest known open_run left len bytes).found
run_end_fault stop fault known open_run left len bytes none zero_left stopped is =
    subst (IsFault fault) (sym (no_open known open_run left len bytes none ∙ ap (λ n. runs_found known.agents known.events (run_of open_run) n len bytes) zero_left))
    (end_faults stop fault known.agents known.events (run_of open_run) len bytes stopped is)

pub run_record_fault : (stop : Stop) (fault : FileFault) (known : Known) (open_run : Option Opened) (left len : ℕ) (bytes : List ℕ) → events_behind open_run ≡ [] → 0 < left → Stops stop (read_run_record known.agents known.events (run_of open_run) left bytes) → IsStop stop len fault
    → IsFault fault (run_rest known open_run left len bytes).found
run_record_fault stop fault known open_run left len bytes none more stopped is =
    subst (IsFault fault) (sym (no_open known open_run left len bytes none)) (faults stop fault known.agents known.events (run_of open_run) left len bytes more stopped is)

pub known_long : (x : Id) (n : ℕ) → length (known_run x n) ≡ n
known_long x n = long x.seq n
  where
    long : (seq k : ℕ) → length (map known_by (ids_from x.agent seq k)) ≡ k
    long seq zero = refl
    long seq (suc k) = ap suc (long (seq + 1) k)

-- a record that is read goes into what is left
pub few_after : (known after : Known) (x : Id) (n left : ℕ) → length known.events + left < 2 ^ 32 → n ≤ left → after ≡ record { agents = known.agents; events = known.events ++ known_run x n } → length after.events + (left - n) < 2 ^ 32
few_after known after x n left few le kept =
    let size = ap (λ (k : Known). length k.events) kept ∙ length-append known.events (known_run x n) in
    let long = known_long x n in
    omega (arith, size, long, few, le)

-- the same with the count as it was computed, and the run as it was opened
pub record_opened : (known after : Known) (open_run : Option Opened) (new : Opened) (left len count : ℕ) (bytes later : List ℕ) (r : FileRun) (op : Op) (rest : RunOps) → events_behind open_run ≡ [] → 0 < left → ops_count r.ops ≤ left → count ≡ ops_count r.ops
    → read_run_record known.agents known.events (run_of open_run) left bytes ≡ Ok (r, later)
    → after ≡ record { agents = known.agents; events = known.events ++ known_run r.id (ops_count r.ops) }
    → ops_in r.ops ≡ op ∷ ops_in rest → new ≡ record { run = record { id = r.id; parents = []; ops = r.ops }; last = r.id; rest = ops_in rest }
    → IsNext (Ok (Some (record { id = r.id; parents = r.parents; op = op }))) (run_rest known open_run left len bytes) (run_rest after (Some new) (left - count) len later)
record_opened known after open_run new left len count bytes later r op rest none more few same one kept ops opened =
    let e : Event = record { id = r.id; parents = r.parents; op = op } in
    subst (λ n. IsNext (Ok (Some e)) (run_rest known open_run left len bytes) (run_rest after (Some new) (left - n) len later)) (sym same)
    (record_next known after open_run new left len bytes later r op none more few one kept (ops ∙ ap (λ (o : Opened). op ∷ o.rest) (sym opened)) (ap (λ (o : Opened). o.run) opened) (ap (λ (o : Opened). o.last) opened))
