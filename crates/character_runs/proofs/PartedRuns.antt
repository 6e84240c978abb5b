-- A list of runs, parted at one of them.
use Rattle.std.proofs.Common.{◌≡◌, ℕ, zero, suc, ◌<◌, ◌≤◌, List, [], ◌∷◌, ◌++◌, length, All, Contains, slice_index_or, arith, refl, ap, ◌∙◌, subst, append-nil}
use Rattle.order_tree.specs.Pairs.{IsRising, lower}
use Rattle.order_tree.proofs.PairLaws.{lower_none}
use Rattle.order_tree.proofs.Around.{held_below, held_above, held_mid, lower_around}
use Rattle.std.proofs.lemmas.List.Elements.{All-nil, All-cons}

module _ {R : Type 0} where
  pub record Parted (ps : List (ℕ × R)) (label : ℕ) (run : R) : Type 0 where
    pub front : List (ℕ × R)
    pub back : List (ℕ × R)
    pub is : ps ≡ front ++ (((label, run) ∷ []) ++ back)
    pub below : All (λ p. p.0 < label) front
    pub above : All (λ p. label < p.0) back

  parts_of : (ps : List (ℕ × R)) (x : ℕ × R) → Contains ps x → (front : List (ℕ × R)) × (back : List (ℕ × R)) × (ps ≡ front ++ ((x ∷ []) ++ back))
  parts_of ps x h = at ps h.0 h.1 h.2
    where
      at : (qs : List (ℕ × R)) (k : ℕ) → k < length qs → slice_index_or qs k x ≡ x → (front : List (ℕ × R)) × (back : List (ℕ × R)) × (qs ≡ front ++ ((x ∷ []) ++ back))
      at [] k lt e = absurd (omega (arith, lt))
      at (q ∷ qs) zero lt e = ([], qs, ap (λ (y : ℕ × R). y ∷ qs) e)
      at (q ∷ qs) (suc k) lt e =
          let rest = at qs k (omega (arith, lt)) e in
          (q ∷ rest.0, rest.1, ap (λ (ys : List (ℕ × R)). q ∷ ys) rest.2)

  -- where the parts are known
  abbrev pub parted_by : (ps front back : List (ℕ × R)) (label : ℕ) (run : R) → IsRising ps → ps ≡ front ++ (label, run) ∷ back → Parted ps label run
  parted_by ps front back label run rising is =
      let one : List (ℕ × R) = (label, run) ∷ [] in
      let rises : IsRising (front ++ (one ++ back)) = subst (λ (qs : List (ℕ × R)). IsRising qs) is rising in
      record {
        front = front;
        back = back;
        is = is;
        below = held_below front one back label run rises (0, omega arith, refl);
        above = held_above front one back label run rises (0, omega arith, refl);
      }

  pub parted : (ps : List (ℕ × R)) (label : ℕ) (run : R) → IsRising ps → Contains ps (label, run) → Parted ps label run
  parted ps label run rising held = let parts = parts_of ps (label, run) held in parted_by ps parts.0 parts.1 label run rising parts.2

  -- one run stands at a label
  pub same_run : (ps : List (ℕ × R)) (label : ℕ) (r q : R) → IsRising ps → Contains ps (label, r) → Contains ps (label, q) → r ≡ q
  same_run ps label r q rising hr hq =
      let p = parted ps label r rising hr in
      let here = held_mid p.front ((label, r) ∷ []) p.back label q p.below p.above (subst (λ (qs : List (ℕ × R)). Contains qs (label, q)) p.is hq) in
      at here.0 here.1 here.2
    where
      at : (k : ℕ) → k < 1 → ◌≡◌ {A = ℕ × R} (slice_index_or ((label, r) ∷ []) k (label, q)) (label, q) → r ≡ q
      at zero lt e = ap (λ (p : ℕ × R). p.1) e
      at (suc k) lt e = absurd (omega (arith, lt))

  -- the front has the lower labels
  pub lower_is : (ps : List (ℕ × R)) (label : ℕ) (run : R) (p : Parted ps label run) → lower ps label ≡ p.front
  lower_is ps label run p =
      let one : List (ℕ × R) = (label, run) ∷ [] in
      let none : lower one label ≡ [] = lower_none label one (All-cons (λ x. label ≤ x.0) (label, run) [] (omega arith) (All-nil (λ x. label ≤ x.0))) in
      ap (λ (qs : List (ℕ × R)). lower qs label) p.is ∙ lower_around p.front one p.back label p.below p.above ∙ ap (λ (qs : List (ℕ × R)). p.front ++ qs) none ∙ append-nil p.front

  pub lower_of : (ps front back : List (ℕ × R)) (label : ℕ) (run : R) → IsRising ps → ps ≡ front ++ (label, run) ∷ back → lower ps label ≡ front
  lower_of ps front back label run rising is = lower_is ps label run (parted_by ps front back label run rising is)
