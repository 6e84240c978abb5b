-- Positions in runs: where one stands, one more, and the first of them.
use Rattle.std.proofs.Common.{◌≡◌, ℕ, zero, suc, ◌+◌, ◌-◌, ◌<◌, ◌≤◌, ◌^◌, true, false, List, [], ◌∷◌, ◌++◌, length, take, slice_get, slice_index_or, Some, refl, sym, ap, ◌∙◌, subst, arith, append-nil, append_assoc, length-append, nat_eq}
use Rattle.std.specs.List.{AllWithin, range_with_len}
use Rattle.std.proofs.Math.Seq.{take-append-add}
use Rattle.std.proofs.lemmas.Bool.{eqb-true, eqb-false, eq-eqb, true≢false}
use Rattle.std.proofs.lemmas.Option.{same_Some}
use Rattle.ew_model.proofs.PositionCuts.{last_at as pushed_there}
use Rattle.std.proofs.lemmas.List.{take-append-le}
use Rattle.std.proofs.lemmas.List.FromFn.{length-range_with_len}
use Rattle.agent_ids.specs.declared.positions.PositionRun.{PositionRun}
use Rattle.agent_ids.specs.PositionRuns.{first_seq, positions_in, ArePositionRuns, goes_on_at}
use Rattle.ew_model.proofs.Ranges.{range_more, read_range, skip_range}

-- neighbouring numbers
take_range : (a n m : ℕ) → m ≤ n → take m (range_with_len a n) ≡ range_with_len a m
take_range a n zero l = refl
take_range a zero (suc m) l = absurd (omega (arith, l))
take_range a (suc n) (suc m) l = ap (λ xs. a ∷ xs) (take_range (a + 1) n m (omega (arith, l)))

-- HOW MANY positions there are
pub positions_long : (runs : List PositionRun) (seq count : ℕ) → ArePositionRuns seq runs count → seq + length (positions_in runs count) ≡ count
positions_long [] seq count r = omega (arith, r)
positions_long (x ∷ runs) seq count r =
    let ih = positions_long runs (first_seq runs count) count r.4 in
    let one = length-append (range_with_len x.start (first_seq runs count - x.seq)) (positions_in runs count) in
    let two = length-range_with_len x.start (first_seq runs count - x.seq) in
    let at = r.0 in let some = r.1 in
    omega (arith, ih, one, two, at, some)

-- the numbers of the runs rise
low_seq : (runs : List PositionRun) (seq count i : ℕ) (d : PositionRun) → ArePositionRuns seq runs count → i < length runs → seq ≤ (slice_index_or runs i d).seq
low_seq [] seq count i d r l = absurd (omega (arith, l))
low_seq (x ∷ runs) seq count zero d r l = let at = r.0 in omega (arith, at)
low_seq (x ∷ runs) seq count (suc i) d r l = let ih = low_seq runs (first_seq runs count) count i d r.4 (omega (arith, l)) in let some = r.1 in omega (arith, ih, some)

pub seqs_rise : (runs : List PositionRun) (seq count i j : ℕ) (d : PositionRun) → ArePositionRuns seq runs count → i ≤ j → j < length runs → (slice_index_or runs i d).seq ≤ (slice_index_or runs j d).seq
seqs_rise [] seq count i j d r l m = absurd (omega (arith, m))
seqs_rise (x ∷ runs) seq count zero zero d r l m = omega arith
seqs_rise (x ∷ runs) seq count (suc i) zero d r l m = absurd (omega (arith, l))
seqs_rise (x ∷ runs) seq count zero (suc j) d r l m = let high = low_seq runs (first_seq runs count) count j d r.4 (omega (arith, m)) in let at = r.0 in let some = r.1 in omega (arith, high, at, some)
seqs_rise (x ∷ runs) seq count (suc i) (suc j) d r l m = seqs_rise runs (first_seq runs count) count i j d r.4 (omega (arith, l)) (omega (arith, m))

pub some_first : (runs : List PositionRun) (count number below : ℕ) → ArePositionRuns 0 runs count → number < count → ((d : PositionRun) → below ≤ 0 → 0 < length runs → suc number ≤ (slice_index_or runs 0 d).seq) → 1 ≤ below
some_first [] count number below r l f = absurd (omega (arith, r, l))
some_first (x ∷ runs) count number zero r l f = let high = f x (omega arith) (omega arith) in let at = r.0 in absurd (omega (arith, high, at))
some_first (x ∷ runs) count number (suc below) r l f = omega arith

-- THE POSITION of a number
pub read_position : (runs : List PositionRun) (seq count number i p : ℕ) (d : PositionRun) → ArePositionRuns seq runs count → number < count → seq + p ≡ number → i < length runs → (slice_index_or runs i d).seq ≤ number
    → ((e : PositionRun) → suc i < length runs → number < (slice_index_or runs (suc i) e).seq)
    → (slice_get (positions_in runs count) p ≡ Some ((slice_index_or runs i d).start + (number - (slice_index_or runs i d).seq))) × ((slice_index_or runs i d).start + (number - (slice_index_or runs i d).seq) < 2 ^ 32)
read_position [] seq count number i p d r l q m low high = absurd (omega (arith, m))
read_position (x ∷ runs) seq count number zero p d r l q m low high =
    let at = r.0 in let fits = r.2 in
    let inside : number < first_seq runs count = below runs high in
    let there : p ≡ number - x.seq = omega (arith, at, q) in (
      read_range x.start (first_seq runs count - x.seq) (positions_in runs count) p (omega (arith, at, q, inside)) ∙ ap (λ k. Some (x.start + k)) there,
      omega (arith, at, fits, inside),
    )
  where
    below : (later : List PositionRun) → ((e : PositionRun) → 1 < length (x ∷ later) → number < (slice_index_or (x ∷ later) 1 e).seq) → number < first_seq later count
    below [] h = l
    below (y ∷ later) h = h y (omega arith)
read_position (x ∷ runs) seq count number (suc i) p d r l q m low high =
    let at = r.0 in let some = r.1 in
    let first = low_seq runs (first_seq runs count) count i d r.4 (omega (arith, m)) in
    let n = first_seq runs count - x.seq in
    let ih = read_position runs (first_seq runs count) count number i (p - n) d r.4 l (omega (arith, at, some, first, low, q)) (omega (arith, m)) low (λ e k. high e (omega (arith, k))) in
    (skip_range x.start n (positions_in runs count) (p - n) p (omega (arith, at, some, first, low, q)) ∙ ih.0, ih.1)

-- by halving: so many of the runs begin at the number or before it
pub found_at : (runs : List PositionRun) (count number below : ℕ) (d : PositionRun) → ArePositionRuns 0 runs count → number < count → below ≤ length runs → AllWithin (λ (r : PositionRun). r.seq < number + 1) runs 0 below
    → AllWithin (λ (r : PositionRun). number + 1 ≤ r.seq) runs below (length runs)
    → (slice_get (positions_in runs count) number ≡ Some ((slice_index_or runs (below - 1) d).start + (number - (slice_index_or runs (below - 1) d).seq))) × ((slice_index_or runs (below - 1) d).start + (number - (slice_index_or runs (below - 1) d).seq) < 2 ^ 32)
found_at runs count number below d r l bound low high =
    let one = some_first runs count number below r l (λ e m k. let at = high 0 e m k in omega (arith, at)) in
    read_position runs 0 count number (below - 1) number d r l (omega arith) (omega (arith, one, bound))
    (let at = low (below - 1) d (omega arith) (omega (arith, one)) in omega (arith, at))
    (λ e k. let at = high (suc (below - 1)) e (omega (arith, one)) k in omega (arith, at))

-- ONE MORE, in the last run
pub more_last : (runs : List PositionRun) (seq count position : ℕ) → ArePositionRuns seq runs count → goes_on_at runs count position ≡ true → position < 2 ^ 32
    → (positions_in runs (count + 1) ≡ positions_in runs count ++ position ∷ []) × ArePositionRuns seq runs (count + 1)
more_last [] seq count position r e l = absurd (true≢false (sym e))
more_last (x ∷ []) seq count position r e l =
    let at = r.0 in let some = r.1 in
    let is : x.start + (count - x.seq) ≡ position = eqb-true (x.start + (count - x.seq)) position e in
    let more : count + 1 - x.seq ≡ suc (count - x.seq) = omega (arith, at, some) in (
      append-nil (range_with_len x.start (count + 1 - x.seq)) ∙ ap (range_with_len x.start) more ∙ range_more x.start (count - x.seq)
          ∙ (λ i. sym (append-nil (range_with_len x.start (count - x.seq))) i ++ is i ∷ []),
      (at, omega (arith, some), omega (arith, is, l, at, some), tt, refl),
    )
more_last (x ∷ y ∷ runs) seq count position r e l =
    let ih = more_last (y ∷ runs) y.seq count position r.4 e l in (
      ap (λ xs. range_with_len x.start (y.seq - x.seq) ++ xs) ih.0 ∙ sym (append_assoc (range_with_len x.start (y.seq - x.seq)) (positions_in (y ∷ runs) count) (position ∷ [])),
      (r.0, r.1, r.2, r.3, ih.1),
    )

-- in a run of its own
pub started_last : (runs : List PositionRun) (seq count position : ℕ) → ArePositionRuns seq runs count → goes_on_at runs count position ≡ false → position < 2 ^ 32
    → (positions_in (runs ++ record { seq = count; start = position } ∷ []) (count + 1) ≡ positions_in runs count ++ position ∷ []) × ArePositionRuns seq (runs ++ record { seq = count; start = position } ∷ []) (count + 1)
started_last [] seq count position r e l =
    let one : count + 1 - count ≡ 1 = omega arith in
    (ap (λ n. range_with_len position n ++ []) one, (sym r, omega (arith, r), omega (arith, r, l), tt, refl))
started_last (x ∷ []) seq count position r e l =
    let one : count + 1 - count ≡ 1 = omega arith in
    let at = r.0 in
    let away = eqb-false (x.start + (count - x.seq)) position e in (
      ap (λ n. range_with_len x.start (count - x.seq) ++ (range_with_len position n ++ [])) one ∙ sym (append_assoc (range_with_len x.start (count - x.seq)) [] (position ∷ [])),
      (at, r.1, r.2, (λ same. away (ap (λ k. x.start + (count - k)) at ∙ same)), (refl, omega arith, omega (arith, l), tt, refl)),
    )
started_last (x ∷ y ∷ runs) seq count position r e l =
    let ih = started_last (y ∷ runs) y.seq count position r.4 e l in (
      ap (λ xs. range_with_len x.start (y.seq - x.seq) ++ xs) ih.0 ∙ sym (append_assoc (range_with_len x.start (y.seq - x.seq)) (positions_in (y ∷ runs) count) (position ∷ [])),
      (r.0, r.1, r.2, r.3, ih.1),
    )

-- THE FIRST n of them
pub left_runs : (runs : List PositionRun) (seq count n kept : ℕ) → ArePositionRuns seq runs count → n < count → kept ≤ length runs → ((k : ℕ) (d : PositionRun) → k < kept → (slice_index_or runs k d).seq < n)
    → ((k : ℕ) (d : PositionRun) → kept ≤ k → k < length runs → n ≤ (slice_index_or runs k d).seq) → seq ≤ n
    → (positions_in (take kept runs) n ≡ take (n - seq) (positions_in runs count)) × ArePositionRuns seq (take kept runs) n
left_runs [] seq count n kept r l m low high s = absurd (omega (arith, r, l, s))
left_runs (x ∷ runs) seq count n zero r l m low high s =
    let first = high 0 x (omega arith) (omega arith) in
    let at = r.0 in
    let none : 0 ≡ n - seq = omega (arith, first, at) in
    (ap (λ k. take k (positions_in (x ∷ runs) count)) none, omega (arith, first, at, s))
left_runs (x ∷ []) seq count n (suc zero) r l m low high s =
    let at = r.0 in let fits = r.2 in
    let first = low 0 x (omega arith) in
    let whole = range_with_len x.start (count - x.seq) in
    let same : n - x.seq ≡ n - seq = omega (arith, at) in (
      append-nil (range_with_len x.start (n - x.seq)) ∙ sym (take_range x.start (count - x.seq) (n - x.seq) (omega (arith, at, l))) ∙ (λ i. take (same i) (sym (append-nil whole) i)),
      (at, omega (arith, at, first), omega (arith, fits, l), tt, refl),
    )
left_runs (x ∷ []) seq count n (suc (suc kept)) r l m low high s = absurd (omega (arith, m))
left_runs (x ∷ y ∷ runs) seq count n (suc zero) r l m low high s =
    let at = r.0 in let fits = r.2 in
    let first = low 0 x (omega arith) in
    let next = high 1 y (omega arith) (omega arith) in
    let whole = range_with_len x.start (y.seq - x.seq) in
    let long = length-range_with_len x.start (y.seq - x.seq) in
    let same : n - x.seq ≡ n - seq = omega (arith, at) in (
      append-nil (range_with_len x.start (n - x.seq)) ∙ sym (take_range x.start (y.seq - x.seq) (n - x.seq) (omega (arith, at, next)))
          ∙ sym (take-append-le (n - x.seq) whole (positions_in (y ∷ runs) count) (omega (arith, long, next))) ∙ ap (λ k. take k (whole ++ positions_in (y ∷ runs) count)) same,
      (at, omega (arith, at, first), omega (arith, fits, next), tt, refl),
    )
left_runs (x ∷ y ∷ runs) seq count n (suc (suc kept)) r l m low high s =
    let at = r.0 in let some = r.1 in
    let next = low 1 y (omega arith) in
    let ih = left_runs (y ∷ runs) y.seq count n (suc kept) r.4 l (omega (arith, m)) (λ k d h. low (suc k) d (omega (arith, h))) (λ k d h i. high (suc k) d (omega (arith, h)) (omega (arith, i))) (omega (arith, next)) in
    let whole = range_with_len x.start (y.seq - x.seq) in
    let long = length-range_with_len x.start (y.seq - x.seq) in
    let parts : length whole + (n - y.seq) ≡ n - seq = omega (arith, long, at, some, next) in (
      ap (λ xs. whole ++ xs) ih.0 ∙ sym (take-append-add whole (positions_in (y ∷ runs) count) (n - y.seq)) ∙ ap (λ k. take k (whole ++ positions_in (y ∷ runs) count)) parts,
      (at, some, r.2, r.3, ih.1),
    )

-- what the last run tells
pub last_at : (runs : List PositionRun) (seq count place position : ℕ) (x : PositionRun) → ArePositionRuns seq runs count → length runs ≡ suc place → slice_get runs place ≡ Some x
    → (goes_on_at runs count position ≡ nat_eq (x.start + (count - x.seq)) position) × (x.seq < count)
last_at [] seq count place position x r long e = absurd (omega (arith, long))
last_at (y ∷ []) seq count zero position x r long e =
    let same : y ≡ x = cc in let at = r.0 in let some = r.1 in
    (ap (λ (z : PositionRun). nat_eq (z.start + (count - z.seq)) position) same, subst (λ (z : PositionRun). z.seq < count) same (omega (arith, at, some)))
last_at (y ∷ []) seq count (suc place) position x r long e = absurd (omega (arith, long))
last_at (y ∷ z ∷ runs) seq count zero position x r long e = absurd (omega (arith, long))
last_at (y ∷ z ∷ runs) seq count (suc place) position x r long e = last_at (z ∷ runs) z.seq count place position x r.4 (omega (arith, long)) e

-- SO MANY MORE, in the last run: it goes on with the position behind its last one
pub next_goes_on : (runs : List PositionRun) (seq count k p : ℕ) → ArePositionRuns seq runs count → seq + suc k ≡ count → slice_get (positions_in runs count) k ≡ Some p → goes_on_at runs count (p + 1) ≡ true
next_goes_on [] seq count k p r e there = let no : ⊥ = cc in absurd no
next_goes_on (x ∷ []) seq count k p r e there =
    let at = r.0 in
    let last : x.start + k ≡ p = same_Some (x.start + k) p (sym (read_range x.start (count - x.seq) [] k (omega (arith, at, e))) ∙ there) in
    eq-eqb (x.start + (count - x.seq)) (p + 1) (omega (arith, at, e, last))
next_goes_on (x ∷ y ∷ runs) seq count k p r e there =
    let at = r.0 in
    let some = r.4.1 in
    let most = positions_long runs (first_seq runs count) count r.4.4 in
    let n = y.seq - x.seq in
    let rise = r.1 in
    next_goes_on (y ∷ runs) y.seq count (k - n) p r.4 (omega (arith, at, some, most, rise, e))
    (sym (skip_range x.start n (positions_in (y ∷ runs) count) (k - n) k (omega (arith, at, some, most, rise, e))) ∙ there)

pub more_last_by : (n : ℕ) (runs : List PositionRun) (count position : ℕ) → ArePositionRuns 0 runs count → goes_on_at runs count position ≡ true → position + n ≤ 2 ^ 32
    → (positions_in runs (count + n) ≡ positions_in runs count ++ range_with_len position n) × ArePositionRuns 0 runs (count + n)
more_last_by zero runs count position r e l =
    let same : count ≡ count + 0 = omega arith in
    (ap (positions_in runs) (sym same) ∙ sym (append-nil (positions_in runs count)), subst (ArePositionRuns 0 runs) same r)
more_last_by (suc n) runs count position r e l =
    let one = more_last runs 0 count position r e (omega (arith, l)) in
    let long = positions_long runs 0 count r in
    let k = length (positions_in runs count) in
    let here : slice_get (positions_in runs (count + 1)) k ≡ Some position = ap (λ ps. slice_get ps k) one.0 ∙ pushed_there (positions_in runs count) position in
    let rest = more_last_by n runs (count + 1) (position + 1) one.1 (next_goes_on runs 0 (count + 1) k position one.1 (omega (arith, long)) here) (omega (arith, l)) in
    let same : count + 1 + n ≡ count + suc n = omega arith in (
      ap (positions_in runs) (sym same) ∙ rest.0 ∙ ap (λ ps. ps ++ range_with_len (position + 1) n) one.0 ∙ append_assoc (positions_in runs count) (position ∷ []) (range_with_len (position + 1) n),
      subst (ArePositionRuns 0 runs) same rest.1,
    )

-- where the first of them was put behind the others already
pub rest_behind : (n : ℕ) (runs : List PositionRun) (before : List ℕ) (count position : ℕ) → ArePositionRuns 0 runs (count + 1) → length before ≡ count → positions_in runs (count + 1) ≡ before ++ position ∷ [] → 0 < n → position + n ≤ 2 ^ 32
    → (positions_in runs (count + n) ≡ before ++ range_with_len position n) × ArePositionRuns 0 runs (count + n)
rest_behind zero runs before count position r long e some l = absurd (omega (arith, some))
rest_behind (suc n) runs before count position r long e some l =
    let here : slice_get (positions_in runs (count + 1)) (length before) ≡ Some position = ap (λ ps. slice_get ps (length before)) e ∙ pushed_there before position in
    let rest = more_last_by n runs (count + 1) (position + 1) r (next_goes_on runs 0 (count + 1) (length before) position r (omega (arith, long)) here) (omega (arith, l)) in
    let same : count + 1 + n ≡ count + suc n = omega arith in (
      ap (positions_in runs) (sym same) ∙ rest.0 ∙ ap (λ ps. ps ++ range_with_len (position + 1) n) e ∙ append_assoc before (position ∷ []) (range_with_len (position + 1) n),
      subst (ArePositionRuns 0 runs) same rest.1,
    )
