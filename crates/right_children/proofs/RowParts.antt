-- Rows in line, of which a part is stepped.
use borrow.Rule.Slice.PartMut.{mid_of, put_mid, same_len_mid}
use Rattle.std.proofs.Common.{◌≡◌, ⊎_elim, ℕ, zero, suc, ◌+◌, ◌-◌, ◌<◌, ◌≤◌, Bool, true, false, ◌&&◌, Option, Some, None, List, [], ◌∷◌, ◌++◌, length, map, take, drop, slice_get, slice_index, nat_le, nat_lt, unwrap_or, if◌then◌else◌, refl, sym, ap, ◌∙◌, subst, arith}
use Rattle.std.specs.BTreeMap.{get}
use Rattle.std.specs.Option.{option_or, option_map}
use Rattle.std.specs.Ordering.{nat_cmp}
use Rattle.std.specs.Vec.{with_items}
use Rattle.std.proofs.lemmas.Bool.{false≢true, and_parts, leb-true, ltb-true, ltb-false, le-leb, lt-ltb, le-ltb, cases_lt}
use Rattle.std.proofs.lemmas.List.{with_items_is, length-map}
use Rattle.std.proofs.lemmas.List.Edits.{length-between, get_or-between}
use Rattle.std.proofs.lemmas.Option.{slice_get-get_or}
use Rattle.right_children.specs.declared.rows.Rows.{Rows}
use Rattle.right_children.specs.Rows.{in_line, kept_at, row_at, stepped, MayStep, StepsEach}

-- A PART OF A LIST
module _ (f : ℕ → ℕ) where
  front_inside : (k i : ℕ) (xs : List ℕ) → i < k → slice_get (map f (take k xs) ++ drop k xs) i ≡ option_map f (slice_get xs i)
  front_inside zero i xs lt = absurd (omega (arith, lt))
  front_inside (suc k) i [] lt = refl
  front_inside (suc k) zero (x ∷ xs) lt = refl
  front_inside (suc k) (suc i) (x ∷ xs) lt = front_inside k i xs (omega (arith, lt))

  front_behind : (k i : ℕ) (xs : List ℕ) → k ≤ i → slice_get (map f (take k xs) ++ drop k xs) i ≡ slice_get xs i
  front_behind zero i xs le = refl
  front_behind (suc k) i [] le = refl
  front_behind (suc k) zero (x ∷ xs) le = absurd (omega (arith, le))
  front_behind (suc k) (suc i) (x ∷ xs) le = front_behind k i xs (omega (arith, le))

  abbrev changed : ℕ → ℕ → List ℕ → List ℕ
  changed a k xs = put_mid a k xs (map f (mid_of a k xs))

  changed_inside : (a k i : ℕ) (xs : List ℕ) → a + k ≤ length xs → a ≤ i → i < a + k → slice_get (changed a k xs) i ≡ option_map f (slice_get xs i)
  changed_inside zero k i xs fit low high = front_inside k i xs (omega (arith, high))
  changed_inside (suc a) k i [] fit low high = absurd (omega (arith, fit))
  changed_inside (suc a) k zero (x ∷ xs) fit low high = absurd (omega (arith, low))
  changed_inside (suc a) k (suc i) (x ∷ xs) fit low high = changed_inside a k i xs (omega (arith, fit)) (omega (arith, low)) (omega (arith, high))

  changed_outside : (a k i : ℕ) (xs : List ℕ) → a + k ≤ length xs → (a ≤ i → i < a + k → ⊥) → slice_get (changed a k xs) i ≡ slice_get xs i
  changed_outside zero k i xs fit none = ⊎_elim (λ (lt : i < k). absurd (none (omega arith) (omega (arith, lt)))) (λ (le : k ≤ i). front_behind k i xs le) (cases_lt i k)
  changed_outside (suc a) k i [] fit none = absurd (omega (arith, fit))
  changed_outside (suc a) k zero (x ∷ xs) fit none = refl
  changed_outside (suc a) k (suc i) (x ∷ xs) fit none = changed_outside a k i xs (omega (arith, fit)) (λ low high. none (omega (arith, low)) (omega (arith, high)))

  same_length : (a k : ℕ) (xs : List ℕ) → length (changed a k xs) ≡ length xs
  same_length a k xs = same_len_mid a k xs (map f (mid_of a k xs)) (length-map (mid_of a k xs) f)

-- THE ROWS
-- the positions from the first on that are below the second stand in line
module _ (r : Rows) (from to : ℕ) (order : from ≤ to) (low : r.first ≤ from) (fit : to - r.first ≤ length r.line.items) where
  abbrev line : List ℕ
  line = r.line.items

  abbrev place : ℕ
  place = from - r.first

  abbrev count : ℕ
  count = to - r.first - (from - r.first)

  read : (ys : List ℕ) (n : ℕ) → r.first ≤ n → in_line r.first ys n ≡ slice_get ys (n - r.first)
  read ys n le = ap (λ (b : Bool). if b then None else slice_get ys (n - r.first)) (le-ltb n r.first le)

  stands : (n : ℕ) → from ≤ n → n < to → in_line r.first line n ≡ Some (slice_index line (n - r.first))
  stands n le lt = read line n (omega (arith, le, low)) ∙ slice_get-get_or line (n - r.first) 0 (omega (arith, le, lt, low, fit))

  row_there : (n : ℕ) → from ≤ n → n < to → row_at r n ≡ slice_index line (n - r.first)
  row_there n le lt = ap (λ (o : Option ℕ). unwrap_or (option_or o (get nat_cmp r.others n)) 0) (stands n le lt)

  -- each of them may be stepped
  pub part_may : (is : Bool) → ((n : ℕ) → from ≤ n → n < to → MayStep (row_at r n) is) → (now : List ℕ) → now ≡ line
      → (i : ℕ) → i < length (mid_of place count now) → MayStep (slice_index (mid_of place count now) i) is
  part_may is may now same = subst (λ (xs : List ℕ). (i : ℕ) → i < length (mid_of place count xs) → MayStep (slice_index (mid_of place count xs) i) is) (sym same) each
    where
      each : (i : ℕ) → i < length (mid_of place count line) → MayStep (slice_index (mid_of place count line) i) is
      each i lt =
          let long = length-between line place (to - r.first) fit in
          let within : i < count = omega (arith, lt, long) in
          let n = from + i in
          let high : n < to = omega (arith, within, low, order) in
          let there : place + i ≡ n - r.first = omega (arith, low) in
          let here : slice_index (mid_of place count line) i ≡ row_at r n =
          get_or-between line place (to - r.first) i 0 (omega (arith, within)) ∙ ap (slice_index line) there ∙ sym (row_there n (omega arith) high) in
          subst (λ (m : ℕ). MayStep m is) (sym here) (may n (omega arith) high)

  module _ (is : Bool) (now : List ℕ) (same : now ≡ line) (rows : List ℕ) (steps : rows ≡ map (λ (m : ℕ). stepped m is) (mid_of place count now)) where
    abbrev f : ℕ → ℕ
    f m = stepped m is

    written : (with_items r.line (put_mid place count now rows)).items ≡ changed f place count line
    written =
        let is_now : put_mid place count now rows ≡ changed f place count line =
        ap (put_mid place count now) steps ∙ ap (λ (xs : List ℕ). changed f place count xs) same in
        with_items_is r.line (put_mid place count now rows) (ap length is_now ∙ same_length f place count line ∙ sym r.line.ok.0) ∙ is_now

    abbrev new : Rows
    new = record { first = r.first; line = with_items r.line (put_mid place count now rows); others = r.others }

    kept_new : (n : ℕ) → kept_at new n ≡ option_or (in_line r.first (changed f place count line) n) (get nat_cmp r.others n)
    kept_new n = ap (λ (xs : List ℕ). option_or (in_line r.first xs n) (get nat_cmp r.others n)) written

    fits : place + count ≤ length line
    fits = omega (arith, fit, low, order)

    inside : (n : ℕ) → from ≤ n → n < to → kept_at new n ≡ Some (stepped (row_at r n) is)
    inside n le lt =
        let i = n - r.first in
        let is_new : in_line r.first (changed f place count line) n ≡ Some (stepped (slice_index line i) is) =
        read (changed f place count line) n (omega (arith, le, low)) ∙ changed_inside f place count i line fits (omega (arith, le, low)) (omega (arith, le, lt, low))
        ∙ ap (option_map f) (slice_get-get_or line i 0 (omega (arith, le, lt, low, fit))) in
        kept_new n ∙ ap (λ (o : Option ℕ). option_or o (get nat_cmp r.others n)) is_new ∙ ap (λ (m : ℕ). Some (stepped m is)) (sym (row_there n le lt))

    outside : (n : ℕ) → (from ≤ n → n < to → ⊥) → kept_at new n ≡ kept_at r n
    outside n none = kept_new n ∙ ap (λ (o : Option ℕ). option_or o (get nat_cmp r.others n)) (at (nat_lt n r.first) refl)
      where
        at : (b : Bool) → nat_lt n r.first ≡ b → (if b then None else slice_get (changed f place count line) (n - r.first)) ≡ (if b then None else slice_get line (n - r.first))
        at true e = refl
        at false e =
            let behind = ltb-false n r.first e in
            changed_outside f place count (n - r.first) line fits (λ le lt. none (omega (arith, behind, low, le)) (omega (arith, behind, low, order, lt)))

    -- they are stepped, and no others
    pub part_stepped : StepsEach r new from to is
    part_stepped n = at (nat_le from n && nat_lt n to) refl
      where
        at : (b : Bool) → (nat_le from n && nat_lt n to) ≡ b → kept_at new n ≡ (if b then Some (stepped (row_at r n) is) else kept_at r n)
        at true e = let parts = and_parts (nat_le from n) (nat_lt n to) e in inside n (leb-true from n parts.0) (ltb-true n to parts.1)
        at false e = outside n (λ le lt. false≢true (sym e ∙ (λ i. le-leb from n le i && lt-ltb n to lt i)))
