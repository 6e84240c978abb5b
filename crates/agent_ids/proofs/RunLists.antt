-- Ids in runs: where one stands, one more, the last run cut, and how many runs there are.
use Rattle.std.proofs.Common.{◌≡◌, ℕ, zero, suc, ◌+◌, ◌-◌, ◌<◌, ◌≤◌, ◌^◌, Bool, true, false, cond, List, [], ◌∷◌, ◌++◌, length, map, set, slice_get, slice_index_or, Some, refl, sym, ap, ◌∙◌, subst, arith, append-nil, append_assoc, length-append, take, nat_lt, lt-ltb, le-ltb, max}
use Rattle.std.specs.List.{AllWithin, range_with_len}
use Rattle.std.proofs.lemmas.Bool.{ltb-true, ltb-false, true≢false}
use Rattle.std.proofs.lemmas.List.{length-map, map-append}
use Rattle.std.proofs.lemmas.List.FromFn.{length-range_with_len}
use Rattle.std.proofs.lemmas.Option.{same_Some, slice_get-get_or, slice_get_within, get_or_from_slice_get}
use Rattle.ew_model.specs.declared.id.Id.{Id}
use Rattle.ew_model.specs.Ids.{id_eq}
use Rattle.ew_model.proofs.IdLaws.{is_same_id}
use Rattle.agent_ids.specs.declared.runs.IdRun.{IdRun}
use Rattle.agent_ids.specs.IdRuns.{id_runs, id_with, last_in, is_next, ids_in, last_of, IsApart, AreRuns, IsHeldAt, goes_on, with_more, with_more_by, shortened}
use Rattle.ew_model.proofs.Ranges.{range_more}

-- so many ids of an agent, from a number on
abbrev pub block : List ℕ → ℕ → ℕ → List Id
block agent seq n = map (id_with agent) (range_with_len seq n)

pub block_more : (agent : List ℕ) (seq n : ℕ) → block agent seq (suc n) ≡ block agent seq n ++ id_with agent (seq + n) ∷ []
block_more agent seq n = ap (map (id_with agent)) (range_more seq n) ∙ map-append (id_with agent) (range_with_len seq n) ((seq + n) ∷ [])

read_block : (agent : List ℕ) (seq n : ℕ) (rest : List Id) (p : ℕ) → p < n → slice_get (block agent seq n ++ rest) p ≡ Some (id_with agent (seq + p))
read_block agent seq zero rest p l = absurd (omega (arith, l))
read_block agent seq (suc n) rest zero l = let e : seq ≡ seq + 0 = omega arith in ap (λ k. Some (id_with agent k)) e
read_block agent seq (suc n) rest (suc p) l = let e : seq + 1 + p ≡ seq + suc p = omega arith in read_block agent (seq + 1) n rest p (omega (arith, l)) ∙ ap (λ k. Some (id_with agent k)) e

skip_block : (agent : List ℕ) (seq n : ℕ) (rest : List Id) (p q : ℕ) → q ≡ n + p → slice_get (block agent seq n ++ rest) q ≡ slice_get rest p
skip_block agent seq zero rest p q e = let same : q ≡ p = omega (arith, e) in ap (slice_get rest) same
skip_block agent seq (suc n) rest p zero e = absurd (omega (arith, e))
skip_block agent seq (suc n) rest p (suc q) e = skip_block agent (seq + 1) n rest p q (omega (arith, e))

pub length_in : (runs : List IdRun) (start end : ℕ) → AreRuns start runs end → start + length (ids_in runs) ≡ end
length_in [] start end r = omega (arith, r)
length_in (x ∷ runs) start end r =
    let ih = length_in runs (start + suc x.more) end r.3 in
    let one = length-append (block x.agent x.seq (suc x.more)) (ids_in runs) in
    let two = length-map (range_with_len x.seq (suc x.more)) (id_with x.agent) in
    let three = length-range_with_len x.seq (suc x.more) in
    omega (arith, ih, one, two, three)

pub runs_end : (runs : List IdRun) (start end : ℕ) → AreRuns start runs end → start + length runs ≤ end
runs_end [] start end r = omega (arith, r)
runs_end (x ∷ runs) start end r = let ih = runs_end runs (start + suc x.more) end r.3 in omega (arith, ih)

pub run_within : (runs : List IdRun) (start end place : ℕ) (x : IdRun) → AreRuns start runs end → slice_get runs place ≡ Some x → (start ≤ x.start) × (x.start + suc x.more ≤ end) × (x.seq + x.more < 2 ^ 32)
run_within [] start end place x r e = let no : ⊥ = cc in absurd no
run_within (y ∷ runs) start end zero x r e =
    let high = runs_end runs (start + suc y.more) end r.3 in
    subst (λ (z : IdRun). (start ≤ z.start) × (z.start + suc z.more ≤ end) × (z.seq + z.more < 2 ^ 32)) (same_Some y x e) ((let at = r.0 in omega (arith, at)), (let at = r.0 in omega (arith, at, high)), r.1)
run_within (y ∷ runs) start end (suc place) x r e = let ih = run_within runs (start + suc y.more) end place x r.3 e in ((let low = ih.0 in omega (arith, low)), ih.1, ih.2)

pub starts_rise : (runs : List IdRun) (start end i j : ℕ) (d : IdRun) → AreRuns start runs end → i ≤ j → j < length runs → (slice_index_or runs i d).start ≤ (slice_index_or runs j d).start
starts_rise [] start end i j d r l m = absurd (omega (arith, m))
starts_rise (y ∷ runs) start end zero zero d r l m = omega arith
starts_rise (y ∷ runs) start end (suc i) zero d r l m = absurd (omega (arith, l))
starts_rise (y ∷ runs) start end zero (suc j) d r l m =
    let high = (run_within runs (start + suc y.more) end j (slice_index_or runs j d) r.3 (slice_get-get_or runs j d (omega (arith, m)))).0 in
    let at = r.0 in omega (arith, high, at)
starts_rise (y ∷ runs) start end (suc i) (suc j) d r l m = starts_rise runs (start + suc y.more) end i j d r.3 (omega (arith, l)) (omega (arith, m))

-- where the last run begins at a place or before it, all do
pub all_begin : (runs : List IdRun) (end place : ℕ) (x : IdRun) → AreRuns 0 runs end → slice_get runs (length runs - 1) ≡ Some x → x.start ≤ place → AllWithin (λ (r : IdRun). r.start ≤ place) runs 0 (length runs)
all_begin runs end place x r e l = λ k d low m.
    let rise = starts_rise runs 0 end k (length runs - 1) d r (omega (arith, m)) (omega (arith, m)) in
    let read = ap (λ (y : IdRun). y.start) (get_or_from_slice_get runs (length runs - 1) x d e) in
    omega (arith, rise, read, l)

-- THE ID at a place
pub read_run : (runs : List IdRun) (start end place i p : ℕ) (x : IdRun) → AreRuns start runs end → slice_get runs i ≡ Some x → x.start ≤ place → place ≤ x.start + x.more → start + p ≡ place
    → slice_get (ids_in runs) p ≡ Some (id_with x.agent (x.seq + (place - x.start)))
read_run [] start end place i p x r e l h q = let no : ⊥ = cc in absurd no
read_run (y ∷ runs) start end place zero p x r e l h q =
    let same = same_Some y x e in
    let at : x.start ≡ start = ap (λ (z : IdRun). z.start) (sym same) ∙ r.0 in
    let more = ap (λ (z : IdRun). z.more) same in
    let there : place - x.start ≡ p = omega (arith, at, q) in
    read_block y.agent y.seq (suc y.more) (ids_in runs) p (omega (arith, at, more, q, h)) ∙ ap (λ (z : IdRun). Some (id_with z.agent (z.seq + p))) same ∙ ap (λ k. Some (id_with x.agent (x.seq + k))) (sym there)
read_run (y ∷ runs) start end place (suc i) p x r e l h q =
    let high = (run_within runs (start + suc y.more) end i x r.3 e).0 in
    let back : start + suc y.more + (p - suc y.more) ≡ place = omega (arith, high, l, q) in
    skip_block y.agent y.seq (suc y.more) (ids_in runs) (p - suc y.more) p (omega (arith, high, l, q)) ∙ read_run runs (start + suc y.more) end place i (p - suc y.more) x r.3 e l h back

pub in_run : (runs : List IdRun) (start end place i : ℕ) (x : IdRun) → AreRuns start runs end → slice_get runs i ≡ Some x → place < end
    → ((t : IdRun) → slice_get runs (suc i) ≡ Some t → place < t.start) → place ≤ x.start + x.more
in_run [] start end place i x r e l f = let no : ⊥ = cc in absurd no
in_run (y ∷ []) start end place zero x r e l f =
    let same = same_Some y x e in
    let at = ap (λ (z : IdRun). z.start) same in let more = ap (λ (z : IdRun). z.more) same in
    let first = r.0 in let last = r.3 in omega (arith, at, more, first, last, l)
in_run (y ∷ t ∷ runs) start end place zero x r e l f =
    let same = same_Some y x e in
    let at = ap (λ (z : IdRun). z.start) same in let more = ap (λ (z : IdRun). z.more) same in
    let first = r.0 in let next = r.3.0 in let low = f t refl in omega (arith, at, more, first, next, low)
in_run (y ∷ runs) start end place (suc i) x r e l f = in_run runs (start + suc y.more) end place i x r.3 e l f

-- HOW MANY RUNS there are
next_of_agent : (agent : List ℕ) (seq next : ℕ) → next ≡ suc seq → is_next (id_with agent seq) (id_with agent next) ≡ true
next_of_agent agent seq next e = ap (λ k. id_eq (id_with agent (suc seq)) (id_with agent k)) e ∙ (is_same_id (id_with agent (suc seq)) (id_with agent (suc seq))).1 refl

count_alone : (agent : List ℕ) (seq n : ℕ) → id_runs (block agent seq (suc n) ++ []) ≡ 1
count_alone agent seq zero = refl
count_alone agent seq (suc n) =
    let rest = id_runs (block agent (seq + 1) (suc n) ++ []) in
    ap (λ b. cond b rest (suc rest)) (next_of_agent agent seq (seq + 1) (omega arith)) ∙ count_alone agent (seq + 1) n

count_then : (agent : List ℕ) (seq n : ℕ) (y : Id) (ids : List Id) → is_next (id_with agent (seq + n)) y ≡ false → id_runs (block agent seq (suc n) ++ y ∷ ids) ≡ suc (id_runs (y ∷ ids))
count_then agent seq zero y ids e =
    let same : seq + 0 ≡ seq = omega arith in
    ap (λ b. cond b (id_runs (y ∷ ids)) (suc (id_runs (y ∷ ids)))) (ap (λ k. is_next (id_with agent k) y) (sym same) ∙ e)
count_then agent seq (suc n) y ids e =
    let rest = id_runs (block agent (seq + 1) (suc n) ++ y ∷ ids) in
    let same : seq + 1 + n ≡ seq + suc n = omega arith in
    ap (λ b. cond b rest (suc rest)) (next_of_agent agent seq (seq + 1) (omega arith)) ∙ count_then agent (seq + 1) n y ids (ap (λ k. is_next (id_with agent k) y) same ∙ e)

pub count_in : (runs : List IdRun) (start end : ℕ) → AreRuns start runs end → id_runs (ids_in runs) ≡ length runs
count_in [] start end r = refl
count_in (x ∷ []) start end r = count_alone x.agent x.seq x.more
count_in (x ∷ y ∷ runs) start end r =
    count_then x.agent x.seq x.more (id_with y.agent y.seq) (block y.agent (y.seq + 1) y.more ++ ids_in runs) r.2 ∙ ap suc (count_in (y ∷ runs) (start + suc x.more) end r.3)

-- ONE MORE, in the last run
pub more_in : (runs : List IdRun) (start end : ℕ) (x : Id) → AreRuns start runs end → goes_on runs x ≡ true → x.seq < 2 ^ 32
    → (ids_in (with_more runs) ≡ ids_in runs ++ x ∷ []) × AreRuns start (with_more runs) (end + 1)
more_in [] start end x r e l = absurd (true≢false (sym e))
more_in (y ∷ []) start end x r e l =
    let is : id_with y.agent (suc (y.seq + y.more)) ≡ x = (is_same_id (id_with y.agent (suc (y.seq + y.more))) x).0 e in
    let next = ap (λ (z : Id). z.seq) is in
    let more : suc (y.more + 1) ≡ suc (suc y.more) = omega arith in
    let top : y.seq + suc y.more ≡ suc (y.seq + y.more) = omega arith in (
      append-nil (block y.agent y.seq (suc (y.more + 1))) ∙ ap (block y.agent y.seq) more ∙ block_more y.agent y.seq (suc y.more)
          ∙ (λ i. sym (append-nil (block y.agent y.seq (suc y.more))) i ++ (ap (id_with y.agent) top ∙ is) i ∷ []),
      (r.0, (omega (arith, next, l)), tt, (let last = r.3 in omega (arith, last))),
    )
more_in (y ∷ z ∷ runs) start end x r e l =
    let ih = more_in (z ∷ runs) (start + suc y.more) end x r.3 e l in (
      ap (λ xs. block y.agent y.seq (suc y.more) ++ xs) ih.0 ∙ sym (append_assoc (block y.agent y.seq (suc y.more)) (ids_in (z ∷ runs)) (x ∷ [])),
      (r.0, r.1, apart runs, ih.1),
    )
  where
    apart : (later : List IdRun) → IsApart (last_of y) (with_more (z ∷ later))
    apart [] = r.2
    apart (t ∷ later) = r.2

-- in a run of its own
pub started_in : (runs : List IdRun) (start end : ℕ) (x : Id) → AreRuns start runs end → goes_on runs x ≡ false → x.seq < 2 ^ 32
    → (ids_in (runs ++ record { start = end; agent = x.agent; seq = x.seq; more = 0 } ∷ []) ≡ ids_in runs ++ x ∷ []) × AreRuns start (runs ++ record { start = end; agent = x.agent; seq = x.seq; more = 0 } ∷ []) (end + 1)
started_in [] start end x r e l = (refl, ((sym r), (omega (arith, l)), tt, (omega (arith, r))))
started_in (y ∷ []) start end x r e l = (
  sym (append_assoc (block y.agent y.seq (suc y.more)) [] (x ∷ [])),
  (r.0, r.1, e, ((let last = r.3 in sym last), (omega (arith, l)), tt, (let last = r.3 in omega (arith, last)))),
)
started_in (y ∷ z ∷ runs) start end x r e l =
    let ih = started_in (z ∷ runs) (start + suc y.more) end x r.3 e l in (
      ap (λ xs. block y.agent y.seq (suc y.more) ++ xs) ih.0 ∙ sym (append_assoc (block y.agent y.seq (suc y.more)) (ids_in (z ∷ runs)) (x ∷ [])),
      (r.0, r.1, r.2, ih.1),
    )

-- THE LAST RUN cut at a place
block_split : (agent : List ℕ) (seq n m : ℕ) → block agent seq (n + m) ≡ block agent seq n ++ block agent (seq + n) m
block_split agent seq zero m =
    let none : 0 + m ≡ m = omega arith in
    let same : seq ≡ seq + 0 = omega arith in
    λ i. block agent (same i) (none i)
block_split agent seq (suc n) m =
    let next : suc n + m ≡ suc (n + m) = omega arith in
    let same : seq + 1 + n ≡ seq + suc n = omega arith in
    ap (block agent seq) next ∙ ap (λ xs. id_with agent seq ∷ xs) (block_split agent (seq + 1) n m ∙ ap (λ k. block agent (seq + 1) n ++ block agent k m) same)

pub last_ends : (runs : List IdRun) (start end at : ℕ) (x : IdRun) → AreRuns start runs end → length runs ≡ suc at → slice_get runs at ≡ Some x → x.start + suc x.more ≡ end
last_ends [] start end at x r long e = absurd (omega (arith, long))
last_ends (y ∷ []) start end zero x r long e =
    let first = r.0 in let stop = r.3 in
    let all : y.start + suc y.more ≡ end = omega (arith, first, stop) in
    subst (λ (z : IdRun). z.start + suc z.more ≡ end) (same_Some y x e) all
last_ends (y ∷ []) start end (suc at) x r long e = absurd (omega (arith, long))
last_ends (y ∷ z ∷ runs) start end zero x r long e = absurd (omega (arith, long))
last_ends (y ∷ z ∷ runs) start end (suc at) x r long e = last_ends (z ∷ runs) (start + suc y.more) end at x r.3 (omega (arith, long)) e

abbrev IsCutAt : List IdRun → List IdRun → ℕ → ℕ → IdRun → Type 0
IsCutAt runs less start place x = (ids_in runs ≡ ids_in less ++ block x.agent (x.seq + (place - x.start)) (suc (x.start + x.more - place))) × AreRuns start less place

cut_alone : (y : IdRun) (start end place : ℕ) (b : Bool) → nat_lt y.start place ≡ b → AreRuns start (y ∷ []) end → y.start ≤ place → place ≤ y.start + y.more
    → IsCutAt (y ∷ []) (cond b (record { start = y.start; agent = y.agent; seq = y.seq; more = place - 1 - y.start } ∷ []) []) start place y
cut_alone y start end place true q r l h =
    let low = ltb-true y.start place q in
    let first = r.0 in let fits = r.1 in
    let m = place - 1 - y.start in
    let parts : suc y.more ≡ suc m + suc (y.start + y.more - place) = omega (arith, low, h) in
    let top : y.seq + suc m ≡ y.seq + (place - y.start) = omega (arith, low) in (
      append-nil (block y.agent y.seq (suc y.more)) ∙ ap (block y.agent y.seq) parts ∙ block_split y.agent y.seq (suc m) (suc (y.start + y.more - place))
          ∙ (λ i. sym (append-nil (block y.agent y.seq (suc m))) i ++ block y.agent (top i) (suc (y.start + y.more - place))),
      (first, omega (arith, fits, h, low), tt, omega (arith, first, low)),
    )
cut_alone y start end place false q r l h =
    let high = ltb-false y.start place q in
    let first = r.0 in
    let same : y.seq ≡ y.seq + (place - y.start) = omega (arith, high) in
    let all : suc y.more ≡ suc (y.start + y.more - place) = omega (arith, high, l) in (
      append-nil (block y.agent y.seq (suc y.more)) ∙ (λ i. block y.agent (same i) (all i)),
      omega (arith, first, high, l),
    )

pub shorter_in : (runs : List IdRun) (start end place at : ℕ) (x : IdRun) → AreRuns start runs end → length runs ≡ suc at → slice_get runs at ≡ Some x → x.start ≤ place → place ≤ x.start + x.more
    → IsCutAt runs (shortened runs place) start place x
shorter_in [] start end place at x r long e l h = absurd (omega (arith, long))
shorter_in (y ∷ []) start end place (suc at) x r long e l h = absurd (omega (arith, long))
shorter_in (y ∷ []) start end place zero x r long e l h =
    let same = same_Some y x e in
    let low : y.start ≤ place = subst (λ (z : IdRun). z.start ≤ place) (sym same) l in
    let high : place ≤ y.start + y.more = subst (λ (z : IdRun). place ≤ z.start + z.more) (sym same) h in
    subst (λ (z : IdRun). IsCutAt (y ∷ []) (shortened (y ∷ []) place) start place z) same (cut_alone y start end place (nat_lt y.start place) refl r low high)
shorter_in (y ∷ z ∷ runs) start end place zero x r long e l h = absurd (omega (arith, long))
shorter_in (y ∷ z ∷ runs) start end place (suc at) x r long e l h =
    let ih = shorter_in (z ∷ runs) (start + suc y.more) end place at x r.3 (omega (arith, long)) e l h in (
      ap (λ xs. block y.agent y.seq (suc y.more) ++ xs) ih.0
          ∙ sym (append_assoc (block y.agent y.seq (suc y.more)) (ids_in (shortened (z ∷ runs) place)) (block x.agent (x.seq + (place - x.start)) (suc (x.start + x.more - place)))),
      (r.0, r.1, apart runs, ih.1),
    )
  where
    apart : (later : List IdRun) → IsApart (last_of y) (shortened (z ∷ later) place)
    apart [] = one (nat_lt z.start place)
      where
        one : (b : Bool) → IsApart (last_of y) (cond b (record { start = z.start; agent = z.agent; seq = z.seq; more = place - 1 - z.start } ∷ []) [])
        one true = r.2
        one false = tt
    apart (t ∷ later) = r.2

pub record IsLastCut (all : List IdRun) (n cut : ℕ) (x : IdRun) : Type 0 where
  pub parts : ids_in all ≡ ids_in (shortened all cut) ++ block x.agent (x.seq + (cut - x.start)) (suc (x.start + x.more - cut))
  pub runs : AreRuns 0 (shortened all cut) cut
  pub fits : x.seq + (cut - x.start) < 2 ^ 32
  pub front : n ≤ length (ids_in (shortened all cut))

pub cut_last : (runs : List IdRun) (count n cut : ℕ) (x : IdRun) → AreRuns 0 runs count → 0 < length runs → Some x ≡ slice_get runs (length runs - 1) → n < length (ids_in runs) → cut ≡ max n x.start → IsLastCut runs n cut x
cut_last runs count n cut x r some e l is =
    let at = length runs - 1 in
    let there : slice_get runs at ≡ Some x = sym e in
    let long : length runs ≡ suc at = omega (arith, some) in
    let all = length_in runs 0 count r in
    let stop = last_ends runs 0 count at x r long there in
    let within = run_within runs 0 count at x r there in
    let low : x.start ≤ cut = omega (arith, is) in
    let high : cut ≤ x.start + x.more = omega (arith, is, all, stop, l) in
    let made = shorter_in runs 0 count cut at x r long there low high in
    let left = length_in (shortened runs cut) 0 cut made.1 in
    record {
      parts = made.0;
      runs = made.1;
      fits = omega (arith, within, high, low);
      front = omega (arith, is, left);
    }

pub last_more : (runs : List IdRun) (place : ℕ) (x : IdRun) → length runs ≡ suc place → x ≡ slice_index_or runs place x → set runs place (record { start = x.start; agent = x.agent; seq = x.seq; more = x.more + 1 }) ≡ with_more runs
last_more [] place x long e = absurd (omega (arith, long))
last_more (y ∷ []) zero x long e = ap (λ (z : IdRun). record { start = z.start; agent = z.agent; seq = z.seq; more = z.more + 1 } ∷ []) e
last_more (y ∷ []) (suc place) x long e = absurd (omega (arith, long))
last_more (y ∷ z ∷ runs) zero x long e = absurd (omega (arith, long))
last_more (y ∷ z ∷ runs) (suc place) x long e = ap (λ rs. y ∷ rs) (last_more (z ∷ runs) place x (omega (arith, long)) e)

pub last_more_by : (runs : List IdRun) (place n : ℕ) (x : IdRun) → length runs ≡ suc place → x ≡ slice_index_or runs place x → set runs place (record { start = x.start; agent = x.agent; seq = x.seq; more = x.more + n }) ≡ with_more_by runs n
last_more_by [] place n x long e = absurd (omega (arith, long))
last_more_by (y ∷ []) zero n x long e = ap (λ (z : IdRun). record { start = z.start; agent = z.agent; seq = z.seq; more = z.more + n } ∷ []) e
last_more_by (y ∷ []) (suc place) n x long e = absurd (omega (arith, long))
last_more_by (y ∷ z ∷ runs) zero n x long e = absurd (omega (arith, long))
last_more_by (y ∷ z ∷ runs) (suc place) n x long e = ap (λ rs. y ∷ rs) (last_more_by (z ∷ runs) place n x (omega (arith, long)) e)

-- none more, and one more and then so many
pub none_more : (runs : List IdRun) → with_more_by runs 0 ≡ runs
none_more [] = refl
none_more (y ∷ []) = let e : y.more + 0 ≡ y.more = omega arith in λ i. record { start = y.start; agent = y.agent; seq = y.seq; more = e i } ∷ []
none_more (y ∷ z ∷ runs) = ap (λ rs. y ∷ rs) (none_more (z ∷ runs))

pub more_by : (runs : List IdRun) (n : ℕ) → with_more_by (with_more runs) n ≡ with_more_by runs (suc n)
more_by [] n = refl
more_by (y ∷ []) n = let e : y.more + 1 + n ≡ y.more + suc n = omega arith in λ i. record { start = y.start; agent = y.agent; seq = y.seq; more = e i } ∷ []
more_by (y ∷ z ∷ runs) n = kept runs (more_by (z ∷ runs) n)
  where
    kept : (later : List IdRun) → with_more_by (with_more (z ∷ later)) n ≡ with_more_by (z ∷ later) (suc n) → with_more_by (y ∷ with_more (z ∷ later)) n ≡ y ∷ with_more_by (z ∷ later) (suc n)
    kept [] e = ap (λ rs. y ∷ rs) e
    kept (t ∷ later) e = ap (λ rs. y ∷ rs) e

pub last_goes_on : (runs : List IdRun) (place : ℕ) (r : IdRun) (x : Id) → length runs ≡ suc place → slice_get runs place ≡ Some r → goes_on runs x ≡ is_next (last_of r) x
last_goes_on [] place r x long e = absurd (omega (arith, long))
last_goes_on (y ∷ []) zero r x long e = ap (λ (z : IdRun). is_next (last_of z) x) (same_Some y r e)
last_goes_on (y ∷ []) (suc place) r x long e = absurd (omega (arith, long))
last_goes_on (y ∷ z ∷ runs) zero r x long e = absurd (omega (arith, long))
last_goes_on (y ∷ z ∷ runs) (suc place) r x long e = last_goes_on (z ∷ runs) place r x (omega (arith, long)) e

pub some_before : (runs : List IdRun) (end place below : ℕ) → AreRuns 0 runs end → place < end → ((d : IdRun) → below ≤ 0 → 0 < length runs → place < (slice_index_or runs 0 d).start) → 1 ≤ below
some_before [] end place below r l f = let stop = r in absurd (omega (arith, stop, l))
some_before (y ∷ runs) end place zero r l f = let high = f y (omega arith) (omega arith) in let first = r.0 in absurd (omega (arith, high, first))
some_before (y ∷ runs) end place (suc below) r l f = omega arith

pub last_shorter : (runs : List IdRun) (place at : ℕ) (x : IdRun) → length runs ≡ suc at → x ≡ slice_index_or runs at x → x.start < place → set runs at (record { start = x.start; agent = x.agent; seq = x.seq; more = place - 1 - x.start }) ≡ shortened runs place
last_shorter [] place at x long e l = absurd (omega (arith, long))
last_shorter (y ∷ []) place zero x long e l =
    ap (λ (z : IdRun). record { start = z.start; agent = z.agent; seq = z.seq; more = place - 1 - z.start } ∷ []) e
    ∙ sym (ap (λ b. cond b (record { start = y.start; agent = y.agent; seq = y.seq; more = place - 1 - y.start } ∷ []) []) (lt-ltb y.start place (subst (λ (z : IdRun). z.start < place) e l)))
last_shorter (y ∷ []) place (suc at) x long e l = absurd (omega (arith, long))
last_shorter (y ∷ z ∷ runs) place zero x long e l = absurd (omega (arith, long))
last_shorter (y ∷ z ∷ runs) place (suc at) x long e l = ap (λ rs. y ∷ rs) (last_shorter (z ∷ runs) place at x (omega (arith, long)) e l)

pub last_gone : (runs : List IdRun) (place at : ℕ) (x : IdRun) → length runs ≡ suc at → x ≡ slice_index_or runs at x → place ≤ x.start → take at runs ≡ shortened runs place
last_gone [] place at x long e l = absurd (omega (arith, long))
last_gone (y ∷ []) place zero x long e l = sym (ap (λ b. cond b (record { start = y.start; agent = y.agent; seq = y.seq; more = place - 1 - y.start } ∷ []) []) (le-ltb y.start place (subst (λ (z : IdRun). place ≤ z.start) e l)))
last_gone (y ∷ []) place (suc at) x long e l = absurd (omega (arith, long))
last_gone (y ∷ z ∷ runs) place zero x long e l = absurd (omega (arith, long))
last_gone (y ∷ z ∷ runs) place (suc at) x long e l = ap (λ rs. y ∷ rs) (last_gone (z ∷ runs) place at x (omega (arith, long)) e l)

-- THE LAST ID is that of the last run, and the last run goes on with the next one.
pub last_of_last : (runs : List IdRun) (end : ℕ) (r : IdRun) → AreRuns 0 runs end → 0 < length runs → slice_get runs (length runs - 1) ≡ Some r → last_in (ids_in runs) ≡ Some (last_of r)
last_of_last runs end r are some e =
    let at = length runs - 1 in
    let all = length_in runs 0 end are in
    let stop = last_ends runs 0 end at r are (omega (arith, some)) e in
    let place : length (ids_in runs) - 1 ≡ r.start + r.more = omega (arith, all, stop) in
    let behind : r.start + r.more - r.start ≡ r.more = omega arith in
    ap (slice_get (ids_in runs)) place ∙ read_run runs 0 end (r.start + r.more) at (r.start + r.more) r are e (omega arith) (omega arith) (omega arith)
    ∙ ap (λ k. Some (id_with r.agent (r.seq + k))) behind

pub next_in : (runs : List IdRun) (end : ℕ) (x : Id) → AreRuns 0 runs end → last_in (ids_in runs) ≡ Some x → goes_on runs (id_with x.agent (suc x.seq)) ≡ true
next_in [] end x are e = let no : ⊥ = cc in absurd no
next_in (y ∷ runs) end x are e =
    let at = length runs in
    let d : IdRun = y in
    let r = slice_index_or (y ∷ runs) at d in
    let there : slice_get (y ∷ runs) at ≡ Some r = slice_get-get_or (y ∷ runs) at d (omega arith) in
    let place : length (y ∷ runs) - 1 ≡ at = omega arith in
    let one : last_of r ≡ x = same_Some (last_of r) x (sym (last_of_last (y ∷ runs) end r are (omega arith) (ap (slice_get (y ∷ runs)) place ∙ there)) ∙ e) in
    last_goes_on (y ∷ runs) at r (id_with x.agent (suc x.seq)) refl there ∙ subst (λ (z : Id). is_next (last_of r) (id_with z.agent (suc z.seq)) ≡ true) one (next_of_agent r.agent (r.seq + r.more) (suc (r.seq + r.more)) refl)

-- the run at a place that is held is the one that is read there
pub found : (runs seen : List IdRun) (at place : ℕ) (run : IdRun) → seen ≡ runs → IsHeldAt seen at place → run ≡ slice_index_or runs at run → (slice_get runs at ≡ Some run) × (run.start ≤ place) × (place ≤ run.start + run.more)
found runs seen at place run same h is =
    let there : slice_get runs at ≡ Some h.run = ap (λ (rs : List IdRun). slice_get rs at) (sym same) ∙ h.there in
    let here : slice_get runs at ≡ Some run = slice_get-get_or runs at run (slice_get_within runs at h.run there) ∙ ap Some (sym is) in
    let one : h.run ≡ run = same_Some h.run run (sym there ∙ here) in
    (here, subst (λ (r : IdRun). r.start ≤ place) one h.from, subst (λ (r : IdRun). place ≤ r.start + r.more) one h.to)
