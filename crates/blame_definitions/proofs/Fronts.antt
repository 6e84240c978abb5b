-- The longest front that fits.
use Rattle.std.proofs.Common.{◌≡◌, ℕ, zero, suc, ◌<◌, ◌≤◌, nat_le, Bool, true, false, cond, List, [], length, take, drop, refl, sym, ap, ◌∙◌, ⊎_elim, length-append, take-append-drop, arith}
use Rattle.std.proofs.lemmas.Bool.{cases_Bool, cases_eq, leb-true, leb-false, le-leb}
use Rattle.std.proofs.lemmas.List.{length-take-le, take_at}
use Rattle.unicode_width.specs.Width.{str_width}
use Rattle.blame_definitions.specs.BlameLaws.{ShownIsLongest}
use Rattle.blame_definitions.specs.Widths.{columns_of, fits, greatest, shown}

pub greatest_low : (test : ℕ → Bool) (n : ℕ) → greatest test n ≤ n
greatest_low test zero = omega arith
greatest_low test (suc n) = at (test (suc n)) (greatest_low test n)
  where
    at : (b : Bool) → greatest test n ≤ n → cond b (suc n) (greatest test n) ≤ suc n
    at true h = omega arith
    at false h = omega (arith, h)

-- it passes where 0 does,
pub greatest_passes : (test : ℕ → Bool) (n : ℕ) → test 0 ≡ true → test (greatest test n) ≡ true
greatest_passes test zero none = none
greatest_passes test (suc n) none = at (test (suc n)) refl (greatest_passes test n none)
  where
    at : (b : Bool) → test (suc n) ≡ b → test (greatest test n) ≡ true → test (cond b (suc n) (greatest test n)) ≡ true
    at true q h = q
    at false q h = h

-- and no greater one does
pub greatest_last : (test : ℕ → Bool) (n k : ℕ) → greatest test n < k → k ≤ n → test k ≡ false
greatest_last test zero k low high = absurd (omega (arith, low, high))
greatest_last test (suc n) k low high = at (test (suc n)) refl low (greatest_last test n k)
  where
    at : (b : Bool) → test (suc n) ≡ b → cond b (suc n) (greatest test n) < k → (greatest test n < k → k ≤ n → test k ≡ false) → test k ≡ false
    at true q l go = absurd (omega (arith, l, high))
    at false q l go = ⊎_elim (λ (e : k ≡ suc n). ap test e ∙ q) (λ (ne : k ≡ suc n → ⊥). go l (below ne)) (cases_eq k (suc n))
      where
        below : (k ≡ suc n → ⊥) → k ≤ n
        below ne = ⊎_elim (λ h. leb-true k n h) (λ h. absurd (ne (omega (arith, leb-false k n h, high)))) (cases_Bool (nat_le k n))

-- the empty front fits
pub none_fits : (columns : ℕ) (text : List ℕ) → fits columns text 0 ≡ true
unfolding str_width
none_fits columns text = le-leb (columns_of []) columns (omega arith)

pub shown_longest : ShownIsLongest
unfolding shown
shown_longest columns text =
    let n = length text in
    let g = greatest (fits columns text) n in
    let low : g ≤ n = greatest_low (fits columns text) n in
    record {
      rest = drop g text;
      front = sym (take-append-drop g text);
      fits = leb-true (columns_of (take g text)) columns (greatest_passes (fits columns text) n (none_fits columns text));
      longer = λ xs ys same longer.
          let long : length xs ≤ n = omega (arith, ap (length {A = ℕ}) same, length-append xs ys) in
          let here : take (length xs) text ≡ xs = ap (take (length xs)) same ∙ take_at xs ys (length xs) refl in
          let more : g < length xs = omega (arith, longer, length-take-le g text low) in
          leb-false (columns_of xs) columns (sym (ap (λ zs. nat_le (columns_of zs) columns) here) ∙ greatest_last (fits columns text) n (length xs) more long);
    }
