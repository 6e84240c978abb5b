-- Ids in runs: where one stands, and how more are put behind.
use Rattle.std.proofs.Common.{◌≡◌, ℕ, zero, suc, ◌+◌, ◌-◌, ◌<◌, ◌≤◌, ◌^◌, List, [], ◌∷◌, ◌++◌, length, set, slice_get, slice_index_or, Some, None, refl, sym, ap, ◌∙◌, subst, arith, append-nil, append_assoc, length-append, inl, inr, ltb-true, ltb-false, nat_lt}
use Rattle.std.specs.List.{AllWithin}
use Rattle.std.specs.Option.{option_map}
use Rattle.std.proofs.lemmas.Bool.{cases_Bool}
use Rattle.std.proofs.lemmas.Option.{same_Some, slice_get-get_or, slice_get_past}
use Rattle.event_file.specs.declared.short_id.ShortId.{ShortId}
use Rattle.event_file.specs.declared.id_runs.IdRun.{IdRun}
use Rattle.event_file.specs.IdRuns.{short_run, short_ids, last_short, AreIdRuns, IsLastBegun, IsBehind, with_more}

pub length_run : (agent seq n : ℕ) → length (short_run agent seq n) ≡ n
length_run agent seq zero = refl
length_run agent seq (suc n) = ap suc (length_run agent (seq + 1) n)

run_split : (agent seq n m : ℕ) → short_run agent seq (n + m) ≡ short_run agent seq n ++ short_run agent (seq + n) m
run_split agent seq zero m =
    let none : 0 + m ≡ m = omega arith in
    let same : seq ≡ seq + 0 = omega arith in
    λ i. short_run agent (same i) (none i)
run_split agent seq (suc n) m =
    let next : suc n + m ≡ suc (n + m) = omega arith in
    let same : seq + 1 + n ≡ seq + suc n = omega arith in
    ap (short_run agent seq) next ∙ ap (λ xs. record { agent = agent; seq = seq } ∷ xs) (run_split agent (seq + 1) n m ∙ ap (λ k. short_run agent (seq + 1) n ++ short_run agent k m) same)

read_short : (agent seq n : ℕ) (rest : List ShortId) (p : ℕ) → p < n → slice_get (short_run agent seq n ++ rest) p ≡ Some (record { agent = agent; seq = seq + p })
read_short agent seq zero rest p l = absurd (omega (arith, l))
read_short agent seq (suc n) rest zero l = let e : seq ≡ seq + 0 = omega arith in ap (λ k. Some (record { agent = agent; seq = k })) e
read_short agent seq (suc n) rest (suc p) l = let e : seq + 1 + p ≡ seq + suc p = omega arith in read_short agent (seq + 1) n rest p (omega (arith, l)) ∙ ap (λ k. Some (record { agent = agent; seq = k })) e

skip_short : (agent seq n : ℕ) (rest : List ShortId) (p q : ℕ) → q ≡ n + p → slice_get (short_run agent seq n ++ rest) q ≡ slice_get rest p
skip_short agent seq zero rest p q e = let same : q ≡ p = omega (arith, e) in ap (slice_get rest) same
skip_short agent seq (suc n) rest p zero e = absurd (omega (arith, e))
skip_short agent seq (suc n) rest p (suc q) e = skip_short agent (seq + 1) n rest p q (omega (arith, e))

length_in : (r : IdRun) (runs : List IdRun) → length (short_ids (r ∷ runs)) ≡ suc r.more + length (short_ids runs)
length_in r runs = length-append (short_run r.agent r.seq (suc r.more)) (short_ids runs) ∙ ap (λ n. n + length (short_ids runs)) (length_run r.agent r.seq (suc r.more))

-- where a run stands, and that its numbers are of 32 bits
pub run_within : (runs : List IdRun) (start place : ℕ) (x : IdRun) → AreIdRuns start runs → slice_get runs place ≡ Some x → (start ≤ x.start) × (x.start + suc x.more ≤ start + length (short_ids runs)) × (x.seq + x.more < 2 ^ 32)
run_within [] start place x r e = absurd cc
run_within (y ∷ runs) start zero x r e =
    let all = length_in y runs in
    let at = r.0 in
    subst (λ (z : IdRun). (start ≤ z.start) × (z.start + suc z.more ≤ start + length (short_ids (y ∷ runs))) × (z.seq + z.more < 2 ^ 32)) (same_Some y x e) (omega (arith, at), omega (arith, at, all), r.1)
run_within (y ∷ runs) start (suc place) x r e =
    let ih = run_within runs (start + suc y.more) place x r.2 e in
    let all = length_in y runs in
    ((let low = ih.0 in omega (arith, low)), (let high = ih.1 in omega (arith, high, all)), ih.2)

pub starts_rise : (runs : List IdRun) (start i j : ℕ) (d : IdRun) → AreIdRuns start runs → i ≤ j → j < length runs → (slice_index_or runs i d).start ≤ (slice_index_or runs j d).start
starts_rise [] start i j d r l m = absurd (omega (arith, m))
starts_rise (y ∷ runs) start zero zero d r l m = omega arith
starts_rise (y ∷ runs) start (suc i) zero d r l m = absurd (omega (arith, l))
starts_rise (y ∷ runs) start zero (suc j) d r l m =
    let high = (run_within runs (start + suc y.more) j (slice_index_or runs j d) r.2 (slice_get-get_or runs j d (omega (arith, m)))).0 in
    let at = r.0 in omega (arith, high, at)
starts_rise (y ∷ runs) start (suc i) (suc j) d r l m = starts_rise runs (start + suc y.more) i j d r.2 (omega (arith, l)) (omega (arith, m))

-- the id at a place
read_run : (runs : List IdRun) (start place i p : ℕ) (x : IdRun) → AreIdRuns start runs → slice_get runs i ≡ Some x → x.start ≤ place → place ≤ x.start + x.more → start + p ≡ place
    → slice_get (short_ids runs) p ≡ Some (record { agent = x.agent; seq = x.seq + (place - x.start) })
read_run [] start place i p x r e l h q = absurd cc
read_run (y ∷ runs) start place zero p x r e l h q =
    let same = same_Some y x e in
    let at : x.start ≡ start = ap (λ (z : IdRun). z.start) (sym same) ∙ r.0 in
    let more = ap (λ (z : IdRun). z.more) same in
    let there : place - x.start ≡ p = omega (arith, at, q) in
    read_short y.agent y.seq (suc y.more) (short_ids runs) p (omega (arith, at, more, q, h)) ∙ ap (λ (z : IdRun). Some (record { agent = z.agent; seq = z.seq + p })) same ∙ ap (λ k. Some (record { agent = x.agent; seq = x.seq + k })) (sym there)
read_run (y ∷ runs) start place (suc i) p x r e l h q =
    let high = (run_within runs (start + suc y.more) i x r.2 e).0 in
    let back : start + suc y.more + (p - suc y.more) ≡ place = omega (arith, high, l, q) in
    skip_short y.agent y.seq (suc y.more) (short_ids runs) (p - suc y.more) p (omega (arith, high, l, q)) ∙ read_run runs (start + suc y.more) place i (p - suc y.more) x r.2 e l h back

-- the last run ends where all do
pub last_ends : (runs : List IdRun) (start at : ℕ) (x : IdRun) → AreIdRuns start runs → length runs ≡ suc at → slice_get runs at ≡ Some x → x.start + suc x.more ≡ start + length (short_ids runs)
last_ends [] start at x r long e = absurd (omega (arith, long))
last_ends (y ∷ []) start zero x r long e =
    let first = r.0 in
    let all = length_in y [] in
    let ends : y.start + suc y.more ≡ start + length (short_ids (y ∷ [])) = omega (arith, first, all) in
    subst (λ (z : IdRun). z.start + suc z.more ≡ start + length (short_ids (y ∷ []))) (same_Some y x e) ends
last_ends (y ∷ []) start (suc at) x r long e = absurd (omega (arith, long))
last_ends (y ∷ z ∷ runs) start zero x r long e = absurd (omega (arith, long))
last_ends (y ∷ z ∷ runs) start (suc at) x r long e =
    let ih = last_ends (z ∷ runs) (start + suc y.more) at x r.2 (omega (arith, long)) e in
    let all = length_in y (z ∷ runs) in
    omega (arith, ih, all)

-- a run of which the next one begins behind a place goes so far, or all of them end before it
within_last : (runs : List IdRun) (start place i : ℕ) (x : IdRun) → AreIdRuns start runs → slice_get runs i ≡ Some x → place < start + length (short_ids runs)
    → ((t : IdRun) → slice_get runs (suc i) ≡ Some t → place < t.start) → place ≤ x.start + x.more
within_last [] start place i x r e l f = absurd cc
within_last (y ∷ []) start place zero x r e l f =
    let same = same_Some y x e in
    let at = ap (λ (z : IdRun). z.start) same in
    let more = ap (λ (z : IdRun). z.more) same in
    let first = r.0 in
    let all = length_in y [] in
    omega (arith, at, more, first, all, l)
within_last (y ∷ t ∷ runs) start place zero x r e l f =
    let same = same_Some y x e in
    let at = ap (λ (z : IdRun). z.start) same in
    let more = ap (λ (z : IdRun). z.more) same in
    let first = r.0 in
    let next = r.2.0 in
    let low = f t refl in
    omega (arith, at, more, first, next, low)
within_last (y ∷ runs) start place (suc i) x r e l f =
    let all = length_in y runs in
    within_last runs (start + suc y.more) place i x r.2 e (omega (arith, l, all)) f

-- where no run begins up to a place there is none
pub none_begun : (runs : List IdRun) (place n : ℕ) → AreIdRuns 0 runs → n ≡ 0 → AllWithin (λ (r : IdRun). place < r.start) runs n (length runs) → runs ≡ []
none_begun [] place n are none behind = refl
none_begun (y ∷ runs) place n are none behind =
    let first = are.0 in
    let high = behind 0 y (omega (arith, none)) (omega arith) in
    absurd (omega (arith, first, high))

-- the last run that begins up to a place has the id there
pub found_in : (runs : List IdRun) (place : ℕ) (x : IdRun) → AreIdRuns 0 runs → IsLastBegun runs place x → place - x.start ≤ x.more
    → slice_get (short_ids runs) place ≡ Some (record { agent = x.agent; seq = x.seq + (place - x.start) })
found_in runs place x are b near =
    let low = b.begun in
    read_run runs 0 place b.place place x are b.there b.begun (omega (arith, near, low)) (omega arith)

-- or there is none
pub not_found : (runs : List IdRun) (place : ℕ) (x : IdRun) → AreIdRuns 0 runs → IsLastBegun runs place x → x.more < place - x.start → slice_get (short_ids runs) place ≡ None
not_found runs place x are b far = slice_get_past (short_ids runs) place (past (length (short_ids runs)) refl)
  where
    past : (n : ℕ) → length (short_ids runs) ≡ n → n ≤ place
    past n is = elim (cases_Bool (nat_lt place n)) [
      | inl t ↦ (let lt = ltb-true place n t in let to = within_last runs 0 place b.place x are b.there (omega (arith, lt, is)) b.next in absurd (omega (arith, to, far)))
      | inr f ↦ ltb-false place n f
    ]

-- the last id is that of the last run
pub last_found : (runs : List IdRun) (x : IdRun) → AreIdRuns 0 runs → slice_get runs (length runs - 1) ≡ Some x → last_short (short_ids runs) ≡ Some (x.start + x.more, record { agent = x.agent; seq = x.seq + x.more })
last_found [] x are e = absurd cc
last_found (y ∷ runs) x are e =
    let all = y ∷ runs in
    let at : length all - 1 ≡ length runs = omega arith in
    let there : slice_get all (length runs) ≡ Some x = ap (slice_get all) (sym at) ∙ e in
    let ends = last_ends all 0 (length runs) x are refl there in
    let place : length (short_ids all) - 1 ≡ x.start + x.more = omega (arith, ends) in
    let behind : x.start + x.more - x.start ≡ x.more = omega arith in
    let read = read_run all 0 (x.start + x.more) (length runs) (x.start + x.more) x are there (omega arith) (omega arith) (omega arith) in
    ap (λ n. option_map (λ (y : ShortId). (n, y)) (slice_get (short_ids all) n)) place
    ∙ ap (option_map (λ (y : ShortId). (x.start + x.more, y))) read
    ∙ ap (λ k. Some (x.start + x.more, record { agent = x.agent; seq = x.seq + k })) behind

-- more ids in the last run
pub more_in : (runs : List IdRun) (start : ℕ) (x : ShortId) (n : ℕ) → AreIdRuns start runs → IsBehind runs x → x.seq + n < 2 ^ 32
    → (short_ids (with_more runs (n + 1)) ≡ short_ids runs ++ short_run x.agent x.seq (suc n)) × AreIdRuns start (with_more runs (n + 1))
more_in [] start x n are b fits = let e = b.there in absurd cc
more_in (y ∷ []) start x n are b fits =
    let same : y ≡ b.run = same_Some y b.run b.there in
    let agent : y.agent ≡ x.agent = ap (λ (z : IdRun). z.agent) same ∙ b.agent in
    let seq : suc (y.seq + y.more) ≡ x.seq = ap (λ (z : IdRun). suc (z.seq + z.more)) same ∙ b.seq in
    let more : suc (y.more + (n + 1)) ≡ suc y.more + suc n = omega arith in
    let behind : y.seq + suc y.more ≡ x.seq = omega (arith, seq) in (
      append-nil (short_run y.agent y.seq (suc (y.more + (n + 1)))) ∙ ap (short_run y.agent y.seq) more ∙ run_split y.agent y.seq (suc y.more) (suc n)
          ∙ (λ i. sym (append-nil (short_run y.agent y.seq (suc y.more))) i ++ short_run (agent i) (behind i) (suc n)),
      (are.0, omega (arith, seq, fits), tt),
    )
more_in (y ∷ z ∷ runs) start x n are b fits =
    let place : length (y ∷ z ∷ runs) - 1 ≡ suc (length (z ∷ runs) - 1) = omega arith in
    let there : slice_get (z ∷ runs) (length (z ∷ runs) - 1) ≡ Some b.run = sym (ap (slice_get (y ∷ z ∷ runs)) place) ∙ b.there in
    let ih = more_in (z ∷ runs) (start + suc y.more) x n are.2 (record { run = b.run; there = there; agent = b.agent; seq = b.seq }) fits in (
      ap (λ xs. short_run y.agent y.seq (suc y.more) ++ xs) ih.0 ∙ sym (append_assoc (short_run y.agent y.seq (suc y.more)) (short_ids (z ∷ runs)) (short_run x.agent x.seq (suc n))),
      (are.0, are.1, ih.1),
    )

-- in a run of their own
pub started_in : (runs : List IdRun) (start end : ℕ) (x : ShortId) (n : ℕ) → AreIdRuns start runs → end ≡ start + length (short_ids runs) → x.seq + n < 2 ^ 32
    → (short_ids (runs ++ record { start = end; agent = x.agent; seq = x.seq; more = n } ∷ []) ≡ short_ids runs ++ short_run x.agent x.seq (suc n))
    × AreIdRuns start (runs ++ record { start = end; agent = x.agent; seq = x.seq; more = n } ∷ [])
started_in [] start end x n are is fits = (append-nil (short_run x.agent x.seq (suc n)), (omega (arith, is), fits, tt))
started_in (y ∷ runs) start end x n are is fits =
    let all = length_in y runs in
    let ih = started_in runs (start + suc y.more) end x n are.2 (omega (arith, is, all)) fits in (
      ap (λ xs. short_run y.agent y.seq (suc y.more) ++ xs) ih.0 ∙ sym (append_assoc (short_run y.agent y.seq (suc y.more)) (short_ids runs) (short_run x.agent x.seq (suc n))),
      (are.0, are.1, ih.1),
    )

pub last_more : (runs : List IdRun) (place : ℕ) (x : IdRun) (n : ℕ) → length runs ≡ suc place → x ≡ slice_index_or runs place x → set runs place (record { start = x.start; agent = x.agent; seq = x.seq; more = x.more + n }) ≡ with_more runs n
last_more [] place x n long e = absurd (omega (arith, long))
last_more (y ∷ []) zero x n long e = ap (λ (z : IdRun). record { start = z.start; agent = z.agent; seq = z.seq; more = z.more + n } ∷ []) e
last_more (y ∷ []) (suc place) x n long e = absurd (omega (arith, long))
last_more (y ∷ z ∷ runs) zero x n long e = absurd (omega (arith, long))
last_more (y ∷ z ∷ runs) (suc place) x n long e = ap (λ rs. y ∷ rs) (last_more (z ∷ runs) place x n (omega (arith, long)) e)
