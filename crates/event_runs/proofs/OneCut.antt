-- A history is cut into its runs in one way.
use Rattle.std.proofs.Common.{◌≡◌, ℕ, zero, suc, ◌+◌, ◌<◌, ◌≤◌, ◌⊎◌, inl, inr, ⊎_elim, List, [], ◌∷◌, ◌++◌, length, slice_get, take, drop, Some, refl, sym, ap, ◌∙◌, subst, arith, length-append}
use Rattle.std.specs.List.{flat_map}
use Rattle.std.proofs.lemmas.List.{take-append-drop, take-append-le, length-take-le}
use Rattle.std.proofs.Math.Seq.{take-append-add, take-append_seam, drop-append_seam}
use Rattle.event_runs.specs.BareEvents.{BareEvent}
use Rattle.event_runs.specs.Runs.{IsRun, AreMaximalFrom, AreRunsOf, IsRunStart}

abbrev joined : List (List BareEvent) → List BareEvent
joined runs = flat_map (λ (run : List BareEvent). run) runs

read_left : (xs ys : List BareEvent) (k : ℕ) (x : BareEvent) → slice_get xs k ≡ Some x → slice_get (xs ++ ys) k ≡ Some x
read_left [] ys k x e = let no : ⊥ = cc in absurd no
read_left (z ∷ xs) ys zero x e = e
read_left (z ∷ xs) ys (suc k) x e = read_left xs ys k x e

-- the front of a run is one
run_front : (position : ℕ) (xs ys : List BareEvent) → IsRun position (xs ++ ys) → 0 < length xs → IsRun position xs
run_front position xs ys run l = record {
  some = l;
  chain = λ k y e. run.chain k y (read_left xs ys (suc k) y e);
  steady = (run.steady.0, λ k x y d e. run.steady.1 k x y (read_left xs ys k x d) (read_left xs ys (suc k) y e));
}

first_is : (position : ℕ) (run : List BareEvent) (runs : List (List BareEvent)) → AreMaximalFrom position (run ∷ runs) → IsRun position run
first_is position run [] m = m
first_is position run (next ∷ runs) m = m.0

rest_are : (position : ℕ) (run : List BareEvent) (runs : List (List BareEvent)) → AreMaximalFrom position (run ∷ runs) → AreMaximalFrom (position + length run) runs
rest_are position run [] m = tt
rest_are position run (next ∷ runs) m = m.2

-- no run begins with a maximal one and goes on behind it
none_longer : (position : ℕ) (r s : List BareEvent) (runs : List (List BareEvent)) (rest : List BareEvent) → AreMaximalFrom position (r ∷ runs) → IsRun position s → r ++ joined runs ≡ s ++ rest → length r < length s → ⊥
none_longer position r s [] rest m run e l =
    let long = ap (length {A = BareEvent}) e in omega (arith, long, length-append r [], length-append s rest, l)
none_longer position r s (next ∷ runs) rest m run e l =
    let n = length r + 1 in
    let some = (first_is (position + length r) next runs m.2).some in
    let front : r ++ take 1 next ≡ take n s =
    ap (λ (es : List BareEvent). r ++ es) (sym (take-append-le 1 next (joined runs) (omega (arith, some)))) ∙ sym (take-append-add r (next ++ joined runs) 1) ∙ ap (λ (es : List BareEvent). take n es) e
    ∙ take-append-le n s rest (omega (arith, l)) in
    let many = length-take-le n s (omega (arith, l)) in
    m.1 (subst (IsRun position) (sym front) (run_front position (take n s) (drop n s) (subst (IsRun position) (sym (take-append-drop n s)) run) (omega (arith, many))))

pub order : (m n : ℕ) → (m < n) ⊎ ((n < m) ⊎ (m ≡ n))
order zero zero = inr (inr refl)
order zero (suc n) = inl (omega arith)
order (suc m) zero = inr (inl (omega arith))
order (suc m) (suc n) = more (order m n)
  where
    more : (m < n) ⊎ ((n < m) ⊎ (m ≡ n)) → (suc m < suc n) ⊎ ((suc n < suc m) ⊎ (suc m ≡ suc n))
    more (inl l) = inl (omega (arith, l))
    more (inr (inl l)) = inr (inl (omega (arith, l)))
    more (inr (inr e)) = inr (inr (ap suc e))

firsts_alike : (position : ℕ) (r s : List BareEvent) (runs others : List (List BareEvent)) → AreMaximalFrom position (r ∷ runs) → AreMaximalFrom position (s ∷ others) → r ++ joined runs ≡ s ++ joined others → length r ≡ length s
firsts_alike position r s runs others m n e =
    ⊎_elim (λ l. absurd (none_longer position r s runs (joined others) m (first_is position s others n) e l))
    (⊎_elim (λ l. absurd (none_longer position s r others (joined runs) n (first_is position r runs m) (sym e) l)) (λ long. long))
    (order (length r) (length s))

same_from : (position : ℕ) (runs others : List (List BareEvent)) → AreMaximalFrom position runs → AreMaximalFrom position others → joined runs ≡ joined others → runs ≡ others
same_from position [] [] m n e = refl
same_from position [] (s ∷ others) m n e =
    let some = (first_is position s others n).some in let long = ap (length {A = BareEvent}) e in absurd (omega (arith, some, long, length-append s (joined others)))
same_from position (r ∷ runs) [] m n e =
    let some = (first_is position r runs m).some in let long = ap (length {A = BareEvent}) e in absurd (omega (arith, some, long, length-append r (joined runs)))
same_from position (r ∷ runs) (s ∷ others) m n e =
    let long = firsts_alike position r s runs others m n e in
    let first : r ≡ s = sym (take-append_seam r (joined runs)) ∙ (λ i. take (long i) (e i)) ∙ take-append_seam s (joined others) in
    let rest : joined runs ≡ joined others = sym (drop-append_seam r (joined runs)) ∙ (λ i. drop (long i) (e i)) ∙ drop-append_seam s (joined others) in
    let later = same_from (position + length r) runs others (rest_are position r runs m) (subst (λ k. AreMaximalFrom (position + k) others) (sym long) (rest_are position s others n)) rest in
    λ i. first i ∷ later i

pub one_cut : (history : List BareEvent) (runs others : List (List BareEvent)) → AreRunsOf history runs → AreRunsOf history others → runs ≡ others
one_cut history runs others m n = same_from 0 runs others m.maximal n.maximal (m.whole ∙ sym n.whole)

-- and so an event's run begins at one position
one_part : (before others : List (List BareEvent)) (run other : List BareEvent) (after rest : List (List BareEvent)) (start position : ℕ) → before ++ run ∷ after ≡ others ++ other ∷ rest
    → start + length (joined before) ≤ position → position < start + length (joined before) + length run → start + length (joined others) ≤ position → position < start + length (joined others) + length other
    → length (joined before) ≡ length (joined others)
one_part [] [] run other after rest start position e l h m i = refl
one_part [] (y ∷ others) run other after rest start position e l h m i =
    let same : run ≡ y = cc in let long = ap (length {A = BareEvent}) same in
    absurd (omega (arith, long, h, m, length-append y (joined others)))
one_part (x ∷ before) [] run other after rest start position e l h m i =
    let same : x ≡ other = cc in let long = ap (length {A = BareEvent}) same in
    absurd (omega (arith, long, l, i, length-append x (joined before)))
one_part (x ∷ before) (y ∷ others) run other after rest start position e l h m i =
    let same : x ≡ y = cc in
    let tails : before ++ run ∷ after ≡ others ++ other ∷ rest = cc in
    let long = ap (length {A = BareEvent}) same in
    let one = length-append x (joined before) in let two = length-append y (joined others) in
    let ih = one_part before others run other after rest (start + length x) position tails (omega (arith, l, one)) (omega (arith, h, one)) (omega (arith, m, two, long)) (omega (arith, i, two, long)) in
    omega (arith, ih, one, two, long)

pub one_beginning : (history : List BareEvent) (position start other : ℕ) → IsRunStart history position start → IsRunStart history position other → start ≡ other
one_beginning history position start other s t =
    let same = one_cut history (s.before ++ s.run ∷ s.after) (t.before ++ t.run ∷ t.after) s.runs t.runs in
    let here = s.starts in let there = t.starts in let from = s.from in let to = s.to in let low = t.from in let high = t.to in
    let long = one_part s.before t.before s.run t.run s.after t.after 0 position same (omega (arith, here, from)) (omega (arith, here, to)) (omega (arith, there, low)) (omega (arith, there, high)) in
    omega (arith, long, here, there)
