-- A list of runs whose middle part has all labels between those of a front and a back.
use Rattle.std.proofs.Common.{◌≡◌, ℕ, zero, suc, ◌+◌, ◌<◌, ◌≤◌, ◌⊎◌, Bool, true, false, Some, ◌&&◌, cond, List, [], ◌∷◌, ◌++◌, length, filter, All, Contains, nat_eq, nat_lt, nat_le, unwrap_or, arith, refl, ap, ◌∙◌, subst, append-nil, inl, inr, slice_index_or}
use Rattle.std.proofs.lemmas.List.Elements.{All-nil, All-cons, All-weaker, All-contains, Contains-append_left, Contains-append_right, Contains-append_cases, filter-append}
use Rattle.std.proofs.lemmas.Bool.{lt-ltb, le-ltb, and_left, and_right}
use Rattle.order_tree.specs.Pairs.{RisesFrom, IsRising, lower, up_to, greater, total, first_label, next_label, counted_after, IsPlace}
use Rattle.order_tree.specs.Parts.{last_known}
use Rattle.order_tree.proofs.PairLaws.{rises_above, rises_front, rises_rest, lower_all, lower_none, up_to_all, up_to_none, greater_all, greater_none, total-append, at_some}

module _ {X : Type 0} where
  pub filter_around : (p : X → Bool) (front mid back : List X) → filter p (front ++ (mid ++ back)) ≡ filter p front ++ (filter p mid ++ filter p back)
  filter_around p front mid back = filter-append p front (mid ++ back) ∙ ap (λ (ys : List X). filter p front ++ ys) (filter-append p mid back)

module _ {R : Type 0} (front mid back : List (ℕ × R)) (label : ℕ) where
  pub held_all : (x : ℕ × R) → Contains mid x → Contains (front ++ (mid ++ back)) x
  held_all x h = Contains-append_right front (mid ++ back) x (Contains-append_left mid back x h)

  pub held_mid : (r : R) → All (λ p. p.0 < label) front → All (λ p. label < p.0) back → Contains (front ++ (mid ++ back)) (label, r) → Contains mid (label, r)
  held_mid r below above h = in_two (Contains-append_cases front (mid ++ back) (label, r) h)
    where
      in_rest : Contains mid (label, r) ⊎ Contains back (label, r) → Contains mid (label, r)
      in_rest (inl m) = m
      in_rest (inr b) = let less = All-contains (λ p. label < p.0) back (label, r) above b in absurd (omega (arith, less))

      in_two : Contains front (label, r) ⊎ Contains (mid ++ back) (label, r) → Contains mid (label, r)
      in_two (inl f) = let less = All-contains (λ p. p.0 < label) front (label, r) below f in absurd (omega (arith, less))
      in_two (inr m) = in_rest (Contains-append_cases mid back (label, r) m)

  pub up_to_around : All (λ p. p.0 < label) front → All (λ p. label < p.0) back → up_to (front ++ (mid ++ back)) label ≡ front ++ up_to mid label
  up_to_around below above =
      let f : up_to front label ≡ front = up_to_all label front (All-weaker (λ p. p.0 < label) (λ p. p.0 ≤ label) (λ p h. omega (arith, h)) front below) in
      let b : up_to back label ≡ [] = up_to_none label back above in
      filter_around (λ p. nat_le p.0 label) front mid back ∙ ap (λ (xs : List (ℕ × R)). xs ++ (up_to mid label ++ up_to back label)) f
      ∙ ap (λ (xs : List (ℕ × R)). front ++ (up_to mid label ++ xs)) b ∙ ap (λ (xs : List (ℕ × R)). front ++ xs) (append-nil (up_to mid label))

  pub lower_around : All (λ p. p.0 < label) front → All (λ p. label < p.0) back → lower (front ++ (mid ++ back)) label ≡ front ++ lower mid label
  lower_around below above =
      let f : lower front label ≡ front = lower_all label front below in
      let b : lower back label ≡ [] = lower_none label back (All-weaker (λ p. label < p.0) (λ p. label ≤ p.0) (λ p h. omega (arith, h)) back above) in
      filter_around (λ p. nat_lt p.0 label) front mid back ∙ ap (λ (xs : List (ℕ × R)). xs ++ (lower mid label ++ lower back label)) f
      ∙ ap (λ (xs : List (ℕ × R)). front ++ (lower mid label ++ xs)) b ∙ ap (λ (xs : List (ℕ × R)). front ++ xs) (append-nil (lower mid label))

  pub greater_around : All (λ p. p.0 ≤ label) front → All (λ p. label < p.0) back → greater (front ++ (mid ++ back)) label ≡ greater mid label ++ back
  greater_around below above =
      let f : greater front label ≡ [] = greater_none label front below in
      let b : greater back label ≡ back = greater_all label back above in
      filter_around (λ p. nat_lt label p.0) front mid back ∙ ap (λ (xs : List (ℕ × R)). xs ++ (greater mid label ++ greater back label)) f
      ∙ ap (λ (xs : List (ℕ × R)). greater mid label ++ xs) b

  -- the next label behind the middle is that of the back
  pub next_around : (bound : ℕ) → All (λ p. p.0 < label) front → All (λ p. label < p.0) back → next_label bound (front ++ (mid ++ back)) label ≡ next_label (unwrap_or (first_label back) bound) mid label
  next_around bound below above =
      ap (λ (xs : List (ℕ × R)). unwrap_or (first_label xs) bound) (greater_around (All-weaker (λ p. p.0 < label) (λ p. p.0 ≤ label) (λ p h. omega (arith, h)) front below) above) ∙ first_either (greater mid label) back
    where
      first_either : (xs ys : List (ℕ × R)) → unwrap_or (first_label (xs ++ ys)) bound ≡ unwrap_or (first_label xs) (unwrap_or (first_label ys) bound)
      first_either [] ys = refl
      first_either (x ∷ xs) ys = refl

  -- a run in the middle is above the front and below the back
  pub held_below : (r : R) → IsRising (front ++ (mid ++ back)) → Contains mid (label, r) → All (λ p. p.0 < label) front
  held_below r rising h = all_below 0 front rising
    where
      all_below : (low : ℕ) (xs : List (ℕ × R)) → RisesFrom low (xs ++ (mid ++ back)) → All (λ p. p.0 < label) xs
      all_below low [] rises = All-nil (λ p. p.0 < label)
      all_below low (x ∷ xs) rises =
          let above = rises_above x.0 (mid ++ back) (rises_rest x.0 xs (mid ++ back) rises.1) in
          let here : x.0 < label = All-contains (λ p. x.0 < p.0) (mid ++ back) (label, r) above (Contains-append_left mid back (label, r) h) in
          All-cons (λ p. p.0 < label) x xs here (all_below x.0 xs rises.1)

  pub held_above : (r : R) → IsRising (front ++ (mid ++ back)) → Contains mid (label, r) → All (λ p. label < p.0) back
  held_above r rising h = at h.0 0 mid (rises_rest 0 front (mid ++ back) rising) h.1 h.2
    where
      at : (k low : ℕ) (xs : List (ℕ × R)) → RisesFrom low (xs ++ back) → k < length xs → slice_index_or xs k (label, r) ≡ (label, r) → All (λ p. label < p.0) back
      at k low [] rises lt e = absurd (omega (arith, lt))
      at zero low (x ∷ xs) rises lt e =
          let same : x.0 ≡ label = ap (λ (p : ℕ × R). p.0) e in
          subst (λ (n : ℕ). All (λ p. n < p.0) back) same (rises_above x.0 back (rises_rest x.0 xs back rises.1))
      at (suc k) low (x ∷ xs) rises lt e = at k x.0 xs rises.1 (omega (arith, lt)) e

  -- a place in the middle is one in the whole
  pub place_around : (count : R → ℕ) (i place : ℕ) → IsRising (front ++ (mid ++ back)) → IsPlace count mid i label place → IsPlace count (front ++ (mid ++ back)) (total count front + i) label place
  place_around count i place rising h =
      let lows = lower_around (held_below h.run rising h.held) (held_above h.run rising h.held) in
      let sum = ap (total count) lows ∙ total-append count front (lower mid label) in
      record { run = h.run; held = held_all (label, h.run) h.held; before = omega (arith, sum, h.before); inside = h.inside }

module _ {R : Type 0} (known : R → ℕ) where
  pub known_above : (low : ℕ) (ps : List (ℕ × R)) → RisesFrom low ps → 0 < last_known known ps → low < last_known known ps
  known_above low [] rises some = absurd (omega (arith, some))
  known_above low (p ∷ ps) rises some = by_last (last_known known ps) (nat_lt 0 (known p.1)) (λ more. known_above p.0 ps rises.1 more) some
    where
      by_last : (n : ℕ) (b : Bool) → (0 < n → p.0 < n) → 0 < cond (nat_eq n 0) (cond b p.0 0) n → low < cond (nat_eq n 0) (cond b p.0 0) n
      by_last zero true later some = rises.0
      by_last zero false later some = absurd (omega (arith, some))
      by_last (suc n) b later some =
          let e = at_some (suc n) (cond b p.0 0) (omega arith) in let less = later (omega arith) in let first = rises.0 in omega (arith, e, less, first)

  -- where no known run is behind a label, none is found
  pub none_after : (low label : ℕ) (ps : List (ℕ × R)) → RisesFrom low ps → last_known known ps ≤ label → counted_after known ps label ≡ []
  none_after low label [] rises le = refl
  none_after low label (p ∷ ps) rises le =
      let here : (nat_lt label p.0 && nat_lt 0 (known p.1)) ≡ false = by_last (last_known known ps) (nat_lt 0 (known p.1)) (λ more. known_above p.0 ps rises.1 more) le in
      rw here (none_after p.0 label ps rises.1 (rest_le (last_known known ps) (cond (nat_lt 0 (known p.1)) p.0 0) le))
    where
      rest_le : (n own : ℕ) → cond (nat_eq n 0) own n ≤ label → n ≤ label
      rest_le zero own le = omega arith
      rest_le (suc n) own le = let e = at_some (suc n) own (omega arith) in omega (arith, e, le)

      by_last : (n : ℕ) (b : Bool) → (0 < n → p.0 < n) → cond (nat_eq n 0) (cond b p.0 0) n ≤ label → (nat_lt label p.0 && b) ≡ false
      by_last n false later le = and_right (nat_lt label p.0) false refl
      by_last zero true later le = and_left (nat_lt label p.0) true (le-ltb label p.0 le)
      by_last (suc n) true later le =
          let e = at_some (suc n) p.0 (omega arith) in let less = later (omega arith) in and_left (nat_lt label p.0) true (le-ltb label p.0 (omega (arith, e, less, le)))

  -- the next known run in the middle is that of the whole
  pub known_around : (front mid back : List (ℕ × R)) (label next : ℕ) → IsRising (front ++ (mid ++ back)) → last_known known front ≤ label → first_label (counted_after known mid label) ≡ Some next
      → first_label (counted_after known (front ++ (mid ++ back)) label) ≡ Some next
  known_around front mid back label next rising le found =
      let none : counted_after known front label ≡ [] = none_after 0 label front (rises_front 0 front (mid ++ back) rising) le in
      ap first_label (filter_around (λ p. nat_lt label p.0 && nat_lt 0 (known p.1)) front mid back ∙ ap (λ (xs : List (ℕ × R)). xs ++ (counted_after known mid label ++ counted_after known back label)) none)
      ∙ first_of_some (counted_after known mid label) (counted_after known back label) found
    where
      first_of_some : (xs ys : List (ℕ × R)) → first_label xs ≡ Some next → first_label (xs ++ ys) ≡ Some next
      first_of_some [] ys e = absurd (cc)
      first_of_some (x ∷ xs) ys e = e

  -- one run that is known behind the label is the next
  pub known_here : (p : ℕ × R) (label : ℕ) → label < last_known known (p ∷ []) → first_label (counted_after known (p ∷ []) label) ≡ Some p.0
  known_here p label lt = by_known (nat_lt 0 (known p.1)) lt
    where
      by_known : (b : Bool) → label < cond (nat_eq 0 0) (cond b p.0 0) 0 → first_label (cond (nat_lt label p.0 && b) (p ∷ []) []) ≡ Some p.0
      by_known true lt = let e : nat_lt label p.0 ≡ true = lt-ltb label p.0 lt in rw e refl
      by_known false lt = absurd (omega (arith, lt))
