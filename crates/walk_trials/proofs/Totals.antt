-- The sums of a list of runs after a call.
use Rattle.std.proofs.Common.{◌≡◌, ℕ, zero, suc, ◌+◌, ◌<◌, ◌≤◌, ◌≢◌, true, false, not, List, [], ◌∷◌, ◌++◌, length, All, Contains, Result, Ok, Err, IfOk, OnOk, OnErr, nat_eq, nat_le, nat_lt, slice_index_or, arith, refl, sym, ap, ◌∙◌, subst, append-nil, eq-eqb}
use Rattle.std.proofs.lemmas.Bool.{ne_eqb}
use Rattle.std.proofs.lemmas.List.Elements.{All-nil, All-cons, All-head, All-tail, All-weaker}
use Rattle.std.proofs.lemmas.List.Filters.{sum_by-filter_both}
use Rattle.ew_model.specs.declared.run.Run.{Ghosts}
use Rattle.order_tree.specs.Pairs.{Tree, IsRising, lower, up_to, greater, changed, inserted, total, IsCut}
use Rattle.order_tree.proofs.PairLaws.{total-append, total-cons, lower_none, greater_none}
use Rattle.order_tree.proofs.Around.{held_below, held_above, lower_around, greater_around}

other_side : (n m : ℕ) → nat_lt m n ≡ not (nat_le n m)
other_side n m = grind arith

module _ {R : Type 0} where
  -- a list parted at a run that it holds
  record Parted (ps : List (ℕ × R)) (label : ℕ) (run : R) : Type 0 where
    front : List (ℕ × R)
    back : List (ℕ × R)
    is : ps ≡ front ++ (((label, run) ∷ []) ++ back)
    below : All (λ p. p.0 < label) front
    above : All (λ p. label < p.0) back

  parts_of : (ps : List (ℕ × R)) (x : ℕ × R) → Contains ps x → (front : List (ℕ × R)) × (back : List (ℕ × R)) × (ps ≡ front ++ ((x ∷ []) ++ back))
  parts_of ps x h = at ps h.0 h.1 h.2
    where
      at : (qs : List (ℕ × R)) (k : ℕ) → k < length qs → slice_index_or qs k x ≡ x → (front : List (ℕ × R)) × (back : List (ℕ × R)) × (qs ≡ front ++ ((x ∷ []) ++ back))
      at [] k lt e = absurd (omega (arith, lt))
      at (q ∷ qs) zero lt e = ([], qs, ap (λ (y : ℕ × R). y ∷ qs) e)
      at (q ∷ qs) (suc k) lt e =
          let rest = at qs k (omega (arith, lt)) e in
          (q ∷ rest.0, rest.1, ap (λ (ys : List (ℕ × R)). q ∷ ys) rest.2)

  parted : (ps : List (ℕ × R)) (label : ℕ) (run : R) → IsRising ps → Contains ps (label, run) → Parted ps label run
  parted ps label run rising held =
      let parts = parts_of ps (label, run) held in
      let one : List (ℕ × R) = (label, run) ∷ [] in
      let rises : IsRising (parts.0 ++ (one ++ parts.1)) = subst (λ (qs : List (ℕ × R)). IsRising qs) parts.2 rising in
      record {
        front = parts.0;
        back = parts.1;
        is = parts.2;
        below = held_below parts.0 one parts.1 label run rises (0, omega arith, refl);
        above = held_above parts.0 one parts.1 label run rises (0, omega arith, refl);
      }

module _ {R : Type 0} (count : R → ℕ) where
  pub total_inserted : (ps : List (ℕ × R)) (label own : ℕ) (run : R) → total count (inserted ps label own run) ≡ total count ps + count run
  total_inserted ps label own run =
      omega (
        arith,
        total-append count (up_to ps label) ((own, run) ∷ greater ps label),
        total-cons count (own, run) (greater ps label),
        sum_by-filter_both (λ p. nat_le p.0 label) (λ p. nat_lt label p.0) (λ p. other_side p.0 label) (λ p. count p.1) ps,
      )

  total_other : (label : ℕ) (run : R) (ps : List (ℕ × R)) → All (λ p. p.0 ≢ label) ps → total count (changed ps label run) ≡ total count ps
  total_other label run [] h = refl
  total_other label run (p ∷ ps) h =
      let here : nat_eq p.0 label ≡ false = ne_eqb p.0 label (All-head (λ q. q.0 ≢ label) p ps h) in
      rw here (omega (arith, total-cons count p (changed ps label run), total-cons count p ps, total_other label run ps (All-tail (λ q. q.0 ≢ label) p ps h)))

  total_here : (label : ℕ) (old run : R) (front back : List (ℕ × R)) → All (λ p. p.0 ≢ label) front → All (λ p. p.0 ≢ label) back
      → total count (changed (front ++ (((label, old) ∷ []) ++ back)) label run) + count old ≡ total count (front ++ (((label, old) ∷ []) ++ back)) + count run
  total_here label old run [] back f b =
      let here : nat_eq label label ≡ true = eq-eqb label label refl in
      rw here (omega (arith, total-cons count (label, run) (changed back label run), total-cons count (label, old) back, total_other label run back b))
  total_here label old run (p ∷ front) back f b =
      let here : nat_eq p.0 label ≡ false = ne_eqb p.0 label (All-head (λ q. q.0 ≢ label) p front f) in
      let rest = front ++ (((label, old) ∷ []) ++ back) in
      rw here (omega (arith, total-cons count p (changed rest label run), total-cons count p rest, total_here label old run front back (All-tail (λ q. q.0 ≢ label) p front f) b))

  pub total_changed : (ps : List (ℕ × R)) (label : ℕ) (old run : R) → IsRising ps → Contains ps (label, old) → total count (changed ps label run) + count old ≡ total count ps + count run
  total_changed ps label old run rising held =
      let at = parted ps label old rising held in
      subst (λ (qs : List (ℕ × R)). total count (changed qs label run) + count old ≡ total count qs + count run) (sym at.is)
      (total_here label old run at.front at.back (All-weaker (λ p. p.0 < label) (λ p. p.0 ≢ label) (λ p lt e. omega (arith, lt, e)) at.front at.below) (All-weaker (λ p. label < p.0) (λ p. p.0 ≢ label) (λ p lt e. omega (arith, lt, e)) at.back at.above))

  total_three : (ps : List (ℕ × R)) (label : ℕ) (run : R) → IsRising ps → Contains ps (label, run) → total count ps ≡ total count (lower ps label) + (count run + total count (greater ps label))
  total_three ps label run rising held =
      let at = parted ps label run rising held in
      let one : List (ℕ × R) = (label, run) ∷ [] in
      let not_less : All (λ (p : ℕ × R). label ≤ p.0) one = All-cons (λ p. label ≤ p.0) (label, run) [] (omega arith) (All-nil (λ p. label ≤ p.0)) in
      let not_more : All (λ (p : ℕ × R). p.0 ≤ label) one = All-cons (λ p. p.0 ≤ label) (label, run) [] (omega arith) (All-nil (λ p. p.0 ≤ label)) in
      let front : lower ps label ≡ at.front = ap (λ (qs : List (ℕ × R)). lower qs label) at.is ∙ lower_around at.front one at.back label at.below at.above ∙ ap (λ (xs : List (ℕ × R)). at.front ++ xs) (lower_none label one not_less) ∙ append-nil at.front in
      let up : All (λ (p : ℕ × R). p.0 ≤ label) at.front = All-weaker (λ p. p.0 < label) (λ p. p.0 ≤ label) (λ p lt. omega (arith, lt)) at.front at.below in
      let back : greater ps label ≡ at.back = ap (λ (qs : List (ℕ × R)). greater qs label) at.is ∙ greater_around at.front one at.back label up at.above ∙ ap (λ (xs : List (ℕ × R)). xs ++ at.back) (greater_none label one not_more) in
      omega (arith, ap (total count) at.is, ap (total count) front, ap (total count) back, total-append count at.front (one ++ at.back), total-cons count (label, run) at.back)

  pub total_cut : (G : Ghosts R) (old new : List (ℕ × R)) (label at own : ℕ) → ((x y : R) → G.fits x y ≡ true → count (G.joined x y) ≡ count x + count y) → IsRising old → IsCut G old new label at own → total count new ≡ total count old
  total_cut G old new label at own joined rising cut =
      let front = lower old label in
      let back = greater old label in
      let same : count cut.run ≡ count cut.first + count cut.second = sym (ap count cut.parts.back) ∙ joined cut.first cut.second cut.parts.fits in
      omega (
        arith,
        same,
        total_three old label cut.run rising cut.held,
        ap (total count) cut.pairs,
        total-append count front ((label, cut.first) ∷ (own, cut.second) ∷ back),
        total-cons count (label, cut.first) ((own, cut.second) ∷ back),
        total-cons count (own, cut.second) back,
      )

  -- the same of a call that may leave all as it was
  pub total_cut_or_same : {E : Type 0} (G : Ghosts R) (result : Result ℕ E) (old new : Tree R) (label at : ℕ) → ((x y : R) → G.fits x y ≡ true → count (G.joined x y) ≡ count x + count y) → IsRising old.pairs
      → IfOk result (λ own. IsCut G old.pairs new.pairs label at own) → OnErr result (new ≡ old) → total count new.pairs ≡ total count old.pairs
  total_cut_or_same G (Ok own) old new label at joined rising cut same = total_cut G old.pairs new.pairs label at own joined rising cut
  total_cut_or_same G (Err e) old new label at joined rising cut same = ap (λ (t : Tree R). total count t.pairs) same

  -- the same where the label of the second part is given
  pub total_cut_under : {A E : Type 0} (G : Ghosts R) (result : Result A E) (old new : Tree R) (label at own : ℕ) → ((x y : R) → G.fits x y ≡ true → count (G.joined x y) ≡ count x + count y) → IsRising old.pairs
      → OnOk result (IsCut G old.pairs new.pairs label at own) → OnErr result (new ≡ old) → total count new.pairs ≡ total count old.pairs
  total_cut_under G (Ok a) old new label at own joined rising cut same = total_cut G old.pairs new.pairs label at own joined rising cut
  total_cut_under G (Err e) old new label at own joined rising cut same = ap (λ (t : Tree R). total count t.pairs) same
