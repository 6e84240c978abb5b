-- Lengths in runs: where they are found, and what they are when runs grow or are cut.
use Rattle.std.proofs.Common.{◌≡◌, ℕ, zero, suc, ◌+◌, ◌-◌, ◌<◌, ◌≤◌, List, [], ◌∷◌, ◌++◌, map, length, take, replicate, slice_get, slice_index_or, Some, refl, sym, ap, subst, ◌∙◌, ◌⊎◌, inl, inr, append_assoc, append-nil, length-append, arith}
use Rattle.std.specs.List.{range_with_len}
use Rattle.std.proofs.Math.Seq.{take-append-add}
use Rattle.std.proofs.lemmas.List.{map-append, take_all, take-append-le}
use Rattle.std.proofs.lemmas.List.FromFn.{length-map-range_with_len, take-map-range_with_len}
use Rattle.std.proofs.lemmas.Option.{same_Some, slice_get-get_or}
use Rattle.ew_model.proofs.Ranges.{range_joined}
use Rattle.event_runs.proofs.RunEvents.{read_part, skip_part}
use Rattle.replica.specs.declared.length_runs.Course.{Course}
use Rattle.replica.specs.declared.length_runs.Course.TheVariants.{Rises, Falls, Stays}
use Rattle.replica.specs.declared.length_runs.LengthRun.{LengthRun}
use Rattle.replica.specs.LengthRuns.{course_length, course_lengths, CourseFits, begin_of, lengths_in, IsLengthRun, AreInRow, AreLengthRuns, LastEndsAt, AreGrown}

-- A COURSE
length-course_lengths : (course : Course) (before n : ℕ) → length (course_lengths course before n) ≡ n
length-course_lengths course before n = length-map-range_with_len (course_length course before) 1 n

fits_front : (course : Course) (before n m : ℕ) → n ≤ m → CourseFits course before m → CourseFits course before n
fits_front Rises before n m l h = omega (arith, l, h)
fits_front Falls before n m l h = omega (arith, l, h)
fits_front Stays before n m l h = tt

pub fits_both : (course : Course) (before n m : ℕ) → CourseFits course before n → CourseFits course (course_length course before n) m → CourseFits course before (n + m)
fits_both Rises before n m h k = omega (arith, h, k)
fits_both Falls before n m h k = omega (arith, h, k)
fits_both Stays before n m h k = tt

-- more operations behind some
pub length_further : (course : Course) (before n k : ℕ) → course_length course before (n + k) ≡ course_length course (course_length course before n) k
length_further Rises before n k = omega arith
length_further Falls before n k = omega arith
length_further Stays before n k = refl

map_moved : (f g : ℕ → ℕ) (a b n : ℕ) → ((k : ℕ) → f (a + k) ≡ g (b + k)) → map f (range_with_len a n) ≡ map g (range_with_len b n)
map_moved f g a b zero h = refl
map_moved f g a b (suc n) h =
    let s : a + 0 ≡ a = omega arith in
    let t : b + 0 ≡ b = omega arith in
    let first : f a ≡ g b = sym (ap f s) ∙ h 0 ∙ ap g t in
    λ i. first i ∷ map_moved f g (a + 1) (b + 1) n (λ k.
    let p : a + 1 + k ≡ a + suc k = omega arith in
    let q : b + suc k ≡ b + 1 + k = omega arith in
    ap f p ∙ h (suc k) ∙ ap g q) i

lengths_further : (course : Course) (before n m : ℕ) → course_lengths course before (n + m) ≡ course_lengths course before n ++ course_lengths course (course_length course before n) m
lengths_further course before n m =
    let f = course_length course before in
    ap (map f) (range_joined 1 n m) ∙ map-append f (range_with_len 1 n) (range_with_len (1 + n) m)
    ∙ ap (λ (ls : List ℕ). course_lengths course before n ++ ls) (map_moved f (course_length course (course_length course before n)) (1 + n) 1 m (λ k. let e : 1 + n + k ≡ n + (1 + k) = omega arith in ap f e ∙ length_further course before n (1 + k)))

-- a length that stays
pub lengths_stay : (before from n : ℕ) → map (course_length Stays before) (range_with_len from n) ≡ replicate n before
lengths_stay before from zero = refl
lengths_stay before from (suc n) = ap (λ ls. before ∷ ls) (lengths_stay before (from + 1) n)

-- RUNS IN A ROW
begins_below : (runs : List LengthRun) (end : ℕ) → AreInRow runs end → begin_of runs end ≤ end
begins_below [] end a = omega arith
begins_below (r ∷ runs) end a = let some = a.0.some in let more = begins_below runs end a.1 in omega (arith, some, more)

pub length-lengths_in : (runs : List LengthRun) (end : ℕ) → AreInRow runs end → begin_of runs end + length (lengths_in runs end) ≡ end
length-lengths_in [] end a = omega arith
length-lengths_in (r ∷ runs) end a =
    let own = course_lengths r.course r.before (begin_of runs end - r.start) in
    let some = a.0.some in
    let both = length-append own (lengths_in runs end) in
    let one = length-course_lengths r.course r.before (begin_of runs end - r.start) in
    let more = length-lengths_in runs end a.1 in omega (arith, some, both, one, more)

begins_to : (runs : List LengthRun) (end k : ℕ) (r : LengthRun) → AreInRow runs end → slice_get runs k ≡ Some r → begin_of runs end ≤ r.start
begins_to [] end k r a e = let no : ⊥ = cc in absurd no
begins_to (y ∷ runs) end zero r a e = let same = ap (λ (z : LengthRun). z.start) (same_Some y r e) in omega (arith, same)
begins_to (y ∷ runs) end (suc k) r a e = let some = a.0.some in let more = begins_to runs end k r a.1 e in omega (arith, some, more)

pub starts_rise : (runs : List LengthRun) (end i j : ℕ) (d : LengthRun) → AreInRow runs end → i ≤ j → j < length runs → (slice_index_or runs i d).start ≤ (slice_index_or runs j d).start
starts_rise [] end i j d a l m = absurd (omega (arith, m))
starts_rise (y ∷ runs) end zero zero d a l m = omega arith
starts_rise (y ∷ runs) end (suc i) zero d a l m = absurd (omega (arith, l))
starts_rise (y ∷ runs) end zero (suc j) d a l m =
    let some = a.0.some in
    let more = begins_to runs end j (slice_index_or runs j d) a.1 (slice_get-get_or runs j d (omega (arith, m))) in omega (arith, some, more)
starts_rise (y ∷ runs) end (suc i) (suc j) d a l m = starts_rise runs end i j d a.1 (omega (arith, l)) (omega (arith, m))

-- THE LENGTH AT A PLACE, by the run that has it
pub record IsReadAt (r : LengthRun) (lengths : List ℕ) (begin place : ℕ) : Type 0 where
  pub from : r.start ≤ place
  pub fits : CourseFits r.course r.before (place - r.start + 1)
  pub there : slice_get lengths (place - begin) ≡ Some (course_length r.course r.before (place - r.start + 1))

next_begins : (runs : List LengthRun) (end place : ℕ) → place < end → ((t : LengthRun) → slice_get runs 0 ≡ Some t → place < t.start) → place < begin_of runs end
next_begins [] end place l h = l
next_begins (t ∷ runs) end place l h = h t refl

pub read_at : (runs : List LengthRun) (end place k : ℕ) (r : LengthRun) → AreInRow runs end → place < end → slice_get runs k ≡ Some r → r.start ≤ place → ((t : LengthRun) → slice_get runs (suc k) ≡ Some t → place < t.start)
    → IsReadAt r (lengths_in runs end) (begin_of runs end) place
read_at [] end place k r a l e low high = let no : ⊥ = cc in absurd no
read_at (y ∷ runs) end place zero r a l e low high =
    let same = same_Some y r e in
    let up = next_begins runs end place l high in
    let at = ap (λ (z : LengthRun). z.start) same in
    let many = begin_of runs end - y.start in
    let within : place - y.start < many = omega (arith, up, at, low) in
    let next : 1 + (place - y.start) ≡ place - y.start + 1 = omega arith in
    subst (λ (z : LengthRun). IsReadAt z (lengths_in (y ∷ runs) end) y.start place) same (record {
      from = omega (arith, low, at);
      fits = fits_front y.course y.before (place - y.start + 1) many (omega (arith, within)) a.0.fits;
      there = read_part (course_length y.course y.before) 1 many (lengths_in runs end) (place - y.start) within ∙ ap (λ n. Some (course_length y.course y.before n)) next;
    })
read_at (y ∷ runs) end place (suc k) r a l e low high =
    let ih = read_at runs end place k r a.1 l e low high in
    let begin = begin_of runs end in
    let some = a.0.some in
    let below = begins_to runs end k r a.1 e in
    record {
      from = low;
      fits = ih.fits;
      there = skip_part (course_length y.course y.before) 1 (begin - y.start) (lengths_in runs end) (place - begin) (place - y.start) (omega (arith, some, below, low)) ∙ ih.there;
    }

-- some run begins at a place or before it
pub some_below : (runs : List LengthRun) (count place below : ℕ) → begin_of runs count ≡ 0 → place < count → ((d : LengthRun) → below ≤ 0 → 0 < length runs → place < (slice_index_or runs 0 d).start) → 1 ≤ below
some_below [] count place below first l h = absurd (omega (arith, first, l))
some_below (y ∷ runs) count place zero first l h = let high = h y (omega arith) (omega arith) in absurd (omega (arith, high, first))
some_below (y ∷ runs) count place (suc below) first l h = omega arith

-- THE FIRST LENGTHS ALONE
pub record AreCut (old new : List LengthRun) (count n : ℕ) : Type 0 where
  pub row : AreInRow new n
  pub lengths : lengths_in new n ≡ take (n - begin_of old count) (lengths_in old count)

-- where the runs that are left end
left_end : (runs : List LengthRun) (count n k : ℕ) → n ≤ count → ((i : ℕ) (t : LengthRun) → i < k → slice_get runs i ≡ Some t → t.start < n) → ((t : LengthRun) → slice_get runs k ≡ Some t → n ≤ t.start)
    → ((n ≤ begin_of runs count) × (begin_of (take k runs) n ≡ n)) ⊎ ((begin_of runs count ≤ n) × (begin_of (take k runs) n ≡ begin_of runs count))
left_end [] count n zero l below above = inl (l, refl)
left_end [] count n (suc k) l below above = inl (l, refl)
left_end (t ∷ runs) count n zero l below above = inl (above t refl, refl)
left_end (t ∷ runs) count n (suc k) l below above = let low = below 0 t (omega arith) refl in inr (omega (arith, low), refl)

pub cut : (runs : List LengthRun) (count n k : ℕ) → AreInRow runs count → n ≤ count → ((i : ℕ) (t : LengthRun) → i < k → slice_get runs i ≡ Some t → t.start < n) → ((t : LengthRun) → slice_get runs k ≡ Some t → n ≤ t.start) → AreCut runs (take k runs) count n
cut [] count n zero a l below above = record { row = tt; lengths = sym (take_all (n - count) [] (omega arith)) }
cut [] count n (suc k) a l below above = record { row = tt; lengths = sym (take_all (n - count) [] (omega arith)) }
cut (y ∷ runs) count n zero a l below above =
    let high = above y refl in
    let none : n - y.start ≡ 0 = omega (arith, high) in
    record { row = tt; lengths = sym (ap (λ m. take m (lengths_in (y ∷ runs) count)) none) }
cut (y ∷ runs) count n (suc k) a l below above =
    let f = course_length y.course y.before in
    let b = begin_of runs count in
    let rest = lengths_in runs count in
    let own = course_lengths y.course y.before (b - y.start) in
    let long = length-course_lengths y.course y.before (b - y.start) in
    let low = below 0 y (omega arith) refl in
    let some = a.0.some in
    let low_below = λ (i : ℕ) (t : LengthRun) (m : i < k) (e : slice_get runs i ≡ Some t). below (suc i) t (omega (arith, m)) e in
    let ih = cut runs count n k a.1 l low_below above in
    elim (left_end runs count n k l low_below above) [
      | inl w ↦
          let none : n - b ≡ 0 = omega (arith, w.0) in
          let fewer : n - y.start ≤ b - y.start = omega (arith, w.0) in
          record {
            row = (subst (IsLengthRun y) (sym w.1) (record { some = low; fits = fits_front y.course y.before (n - y.start) (b - y.start) fewer a.0.fits }), ih.row);
            lengths =
                (λ i. course_lengths y.course y.before (w.1 i - y.start) ++ (ih.lengths ∙ ap (λ m. take m rest) none) i)
                ∙ append-nil (course_lengths y.course y.before (n - y.start)) ∙ sym (take-map-range_with_len f 1 (b - y.start) (n - y.start) fewer)
                ∙ sym (take-append-le (n - y.start) own rest (omega (arith, long, fewer)));
          }
      | inr w ↦
          let all : length own + (n - b) ≡ n - y.start = omega (arith, long, some, w.0) in
          record {
            row = (subst (IsLengthRun y) (sym w.1) a.0, ih.row);
            lengths =
                (λ i. course_lengths y.course y.before (w.1 i - y.start) ++ ih.lengths i)
                ∙ sym (take-append-add own rest (n - b)) ∙ ap (λ m. take m (own ++ rest)) all;
          }
    ]

pub first_left : (runs : List LengthRun) (count n k : ℕ) → begin_of runs count ≡ 0 → n < count → ((t : LengthRun) → slice_get runs k ≡ Some t → n ≤ t.start) → begin_of (take k runs) n ≡ 0
first_left [] count n k first l above = absurd (omega (arith, first, l))
first_left (y ∷ runs) count n zero first l above = let high = above y refl in omega (arith, high, first)
first_left (y ∷ runs) count n (suc k) first l above = first

-- MORE LENGTHS: the last run goes on
run_longer : (r : LengthRun) (end : ℕ) (course : Course) (before many : ℕ) → r.start < end → r.course ≡ course → course_length course r.before (end - r.start) ≡ before
    → course_lengths r.course r.before (end + many - r.start) ≡ course_lengths r.course r.before (end - r.start) ++ course_lengths course before many
run_longer r end course before many some same ends =
    let n = end - r.start in
    let more : end + many - r.start ≡ n + many = omega (arith, some) in
    let last : course_length r.course r.before n ≡ before = ap (λ (c : Course). course_length c r.before n) same ∙ ends in
    ap (course_lengths r.course r.before) more ∙ lengths_further r.course r.before n many ∙ (λ i. course_lengths r.course r.before n ++ course_lengths (same i) (last i) many)

longer_fits : (r : LengthRun) (end : ℕ) (course : Course) (before many : ℕ) → IsLengthRun r end → r.course ≡ course → course_length course r.before (end - r.start) ≡ before → CourseFits course before many → IsLengthRun r (end + many)
longer_fits r end course before many h same ends fits =
    let n = end - r.start in
    let some = h.some in
    let more : n + many ≡ end + many - r.start = omega (arith, some) in
    let last : before ≡ course_length r.course r.before n = sym (ap (λ (c : Course). course_length c r.before n) same ∙ ends) in
    record {
      some = omega (arith, some);
      fits = subst (CourseFits r.course r.before) more (fits_both r.course r.before n many h.fits (subst (λ m. CourseFits r.course m many) last (subst (λ (c : Course). CourseFits c before many) (sym same) fits)));
    }

record RowGrown (old new : List LengthRun) (end : ℕ) (course : Course) (before many : ℕ) : Type 0 where
  pub lengths : lengths_in new (end + many) ≡ lengths_in old end ++ course_lengths course before many
  pub row : AreInRow new (end + many)
  pub begin : begin_of new (end + many) ≡ begin_of old end

last_longer : (runs : List LengthRun) (end : ℕ) (course : Course) (before many : ℕ) → AreInRow runs end → LastEndsAt runs end course before → CourseFits course before many → RowGrown runs runs end course before many
last_longer [] end course before many a last fits = absurd last
last_longer (r ∷ []) end course before many a last fits = record {
  lengths =
      append-nil (course_lengths r.course r.before (end + many - r.start)) ∙ run_longer r end course before many a.0.some last.0 last.1
      ∙ ap (λ (ls : List ℕ). ls ++ course_lengths course before many) (sym (append-nil (course_lengths r.course r.before (end - r.start))));
  row = (longer_fits r end course before many a.0 last.0 last.1 fits, tt);
  begin = refl;
}
last_longer (r ∷ s ∷ runs) end course before many a last fits =
    let ih = last_longer (s ∷ runs) end course before many a.1 last fits in
    let own = course_lengths r.course r.before (s.start - r.start) in
    record {
      lengths = ap (λ (ls : List ℕ). own ++ ls) ih.lengths ∙ sym (append_assoc own (lengths_in (s ∷ runs) end) (course_lengths course before many));
      row = (a.0, ih.row);
      begin = refl;
    }

-- a run more
one_more : (runs : List LengthRun) (end : ℕ) (course : Course) (before many : ℕ) → AreInRow runs end → 0 < many → CourseFits course before many → RowGrown runs (runs ++ (record { start = end; before = before; course = course }) ∷ []) end course before many
one_more [] end course before many a some fits =
    let all : end + many - end ≡ many = omega arith in
    record {
      lengths = append-nil (course_lengths course before (end + many - end)) ∙ ap (course_lengths course before) all;
      row = (record { some = omega (arith, some); fits = subst (CourseFits course before) (sym all) fits }, tt);
      begin = refl;
    }
one_more (r ∷ runs) end course before many a some fits =
    let ih = one_more runs end course before many a.1 some fits in
    let more = course_lengths course before many in
    record {
      lengths = (λ i. course_lengths r.course r.before (ih.begin i - r.start) ++ ih.lengths i) ∙ sym (append_assoc (course_lengths r.course r.before (begin_of runs end - r.start)) (lengths_in runs end) more);
      row = (subst (IsLengthRun r) (sym ih.begin) a.0, ih.row);
      begin = refl;
    }

pub grown_last : (runs : List LengthRun) (end : ℕ) (course : Course) (before many : ℕ) → AreLengthRuns runs end → LastEndsAt runs end course before → CourseFits course before many → AreGrown runs runs end course before many
grown_last runs end course before many a last fits =
    let g = last_longer runs end course before many a.row last fits in record { lengths = g.lengths; runs = record { first = g.begin ∙ a.first; row = g.row } }

pub grown_more : (runs : List LengthRun) (end : ℕ) (course : Course) (before many : ℕ) → AreLengthRuns runs end → 0 < many → CourseFits course before many → AreGrown runs (runs ++ (record { start = end; before = before; course = course }) ∷ []) end course before many
grown_more runs end course before many a some fits =
    let g = one_more runs end course before many a.row some fits in record { lengths = g.lengths; runs = record { first = g.begin ∙ a.first; row = g.row } }

-- THE LAST RUN
pub last_fits : (runs : List LengthRun) (end k : ℕ) (r : LengthRun) → AreInRow runs end → suc k ≡ length runs → slice_get runs k ≡ Some r → IsLengthRun r end
last_fits [] end k r a at e = let no : ⊥ = cc in absurd no
last_fits (y ∷ []) end zero r a at e = subst (λ (z : LengthRun). IsLengthRun z end) (same_Some y r e) a.0
last_fits (y ∷ []) end (suc k) r a at e = absurd (omega (arith, at))
last_fits (y ∷ s ∷ runs) end zero r a at e = absurd (omega (arith, at))
last_fits (y ∷ s ∷ runs) end (suc k) r a at e = last_fits (s ∷ runs) end k r a.1 (omega (arith, at)) e

pub last_ends : (runs : List LengthRun) (end k : ℕ) (r : LengthRun) → suc k ≡ length runs → slice_get runs k ≡ Some r → LastEndsAt runs end r.course (course_length r.course r.before (end - r.start))
last_ends [] end k r at e = let no : ⊥ = cc in absurd no
last_ends (y ∷ []) end zero r at e = subst (λ (z : LengthRun). LastEndsAt (y ∷ []) end z.course (course_length z.course z.before (end - z.start))) (same_Some y r e) (refl, refl)
last_ends (y ∷ []) end (suc k) r at e = absurd (omega (arith, at))
last_ends (y ∷ s ∷ runs) end zero r at e = absurd (omega (arith, at))
last_ends (y ∷ s ∷ runs) end (suc k) r at e = last_ends (s ∷ runs) end k r (omega (arith, at)) e
