-- What an edit of a whole tree leaves.
use Rattle.std.proofs.Common.{◌≡◌, ℕ, ◌+◌, ◌<◌, ◌≤◌, ◌^◌, List, [], ◌∷◌, ◌++◌, length, unwrap_or, All, arith, sym, ap, ◌∙◌, subst, append_assoc, append-nil, nat_le, nat_lt}
use Rattle.std.proofs.lemmas.List.Elements.{All-nil, All-cons, All-head, All-tail, All-append, All-weaker, filter-append}
use Rattle.ew_model.specs.declared.run.Run.{Ghosts}
use Rattle.order_tree.specs.declared.summary.Sums.{Sums}
use Rattle.order_tree.specs.declared.edit.Edit.{Edit}
use Rattle.order_tree.specs.declared.edit.Edit.TheVariants.{Insert, Split}
use Rattle.order_tree.specs.Pairs.{RisesFrom, IsRising, up_to, greater, first_label, next_label, total, inserted}
use Rattle.order_tree.specs.Parts.{first_or_zero}
use Rattle.order_tree.specs.Edits.{Replaces, IsEdited, StaysFit}
use Rattle.order_tree.proofs.PairLaws.{up_to_all, up_to_none, greater_all, greater_none, total-one}
use Rattle.order_tree.proofs.Around.{greater_around}
use Rattle.order_tree.proofs.InnerEdits.{replaced_total}

module _ {R : Type 0} where
  -- a run with a label of its own between two lists rises with them
  pub rises_with : (low own : ℕ) (run : R) (xs ys : List (ℕ × R)) → RisesFrom low (xs ++ ys) → low < own → All (λ p. p.0 < own) xs → (0 < length ys → own < first_or_zero ys) → RisesFrom low (xs ++ ((own, run) ∷ ys))
  rises_with low own run [] [] h lt below above = (lt, tt)
  rises_with low own run [] (y ∷ ys) h lt below above = (lt, (above (omega arith), h.1))
  rises_with low own run (x ∷ xs) ys h lt below above = (h.0, rises_with x.0 own run xs ys h.1 (All-head (λ p. p.0 < own) x xs below) (All-tail (λ p. p.0 < own) x xs below) above)

  pub rises_changed : (low label : ℕ) (r run : R) (xs ys : List (ℕ × R)) → RisesFrom low (xs ++ ((label, r) ∷ ys)) → RisesFrom low (xs ++ ((label, run) ∷ ys))
  rises_changed low label r run [] ys h = h
  rises_changed low label r run (x ∷ xs) ys h = (h.0, rises_changed x.0 label r run xs ys h.1)

  -- what is below the next label is below what stands behind
  pub below_back : (front was back : List (ℕ × R)) (label own bound : ℕ) → All (λ p. p.0 ≤ label) front → All (λ p. p.0 ≤ label) was → All (λ p. label < p.0) back → own < next_label bound (front ++ (was ++ back)) label → 0 < length back → own < first_or_zero back
  below_back front was [] label own bound f w b lt some = absurd (omega (arith, some))
  below_back front was (y ∷ ys) label own bound f w b lt some =
      let none : greater was label ≡ [] = greater_none label was w in
      let rest : greater (front ++ (was ++ (y ∷ ys))) label ≡ y ∷ ys = greater_around front was (y ∷ ys) label f b ∙ ap (λ (xs : List (ℕ × R)). xs ++ (y ∷ ys)) none in
      subst (λ (xs : List (ℕ × R)). own < unwrap_or (first_label xs) bound) rest lt

  one_up_to : (label : ℕ) (r : R) → All (λ (p : ℕ × R). p.0 ≤ label) ((label, r) ∷ [])
  one_up_to label r = All-cons (λ (p : ℕ × R). p.0 ≤ label) (label, r) [] (omega arith) (All-nil (λ p. p.0 ≤ label))

  less_own : (label own : ℕ) (xs : List (ℕ × R)) → label < own → All (λ p. p.0 ≤ label) xs → All (λ p. p.0 < own) xs
  less_own label own xs lt h = All-weaker (λ p. p.0 ≤ label) (λ p. p.0 < own) (λ p le. omega (arith, le)) xs h

  -- labels rise after an edit
  pub rising_after : (G : Ghosts R) (edit : Edit R) (bound label : ℕ) (old new : List (ℕ × R)) (own : ℕ) (lost gained : Sums) → IsRising old → IsEdited G edit bound label old new own lost gained → IsRising new
  rising_after G (Insert run) bound label old new own lost gained rising h =
      let front = h.replaces.front in
      let back = h.replaces.back in
      let old_is : old ≡ front ++ ([] ++ back) = h.replaces.old_is ∙ ap (λ (xs : List (ℕ × R)). front ++ (xs ++ back)) h.puts.0 in
      let new_is : new ≡ front ++ ((own, run) ∷ back) = h.replaces.new_is ∙ ap (λ (xs : List (ℕ × R)). front ++ (xs ++ back)) h.puts.1 in
      let next : own < next_label bound (front ++ ([] ++ back)) label = subst (λ (ps : List (ℕ × R)). own < next_label bound ps label) old_is h.between.1 in
      subst (λ (ps : List (ℕ × R)). IsRising ps) (sym new_is)
      (rises_with 0 own run front back (subst (λ (ps : List (ℕ × R)). IsRising ps) old_is rising) (omega (arith, h.between.0)) (less_own label own front h.between.0 h.replaces.below)
      (below_back front [] back label own bound h.replaces.below (All-nil (λ p. p.0 ≤ label)) h.replaces.above next))
  rising_after G (Split at given) bound label old new own lost gained rising h =
      let front = h.replaces.front in
      let back = h.replaces.back in
      let r = h.puts.0 in
      let first = h.puts.1 in
      let second = h.puts.2 in
      let old_is : old ≡ front ++ ((label, r) ∷ back) = h.replaces.old_is ∙ ap (λ (xs : List (ℕ × R)). front ++ (xs ++ back)) h.puts.3 in
      let new_is : new ≡ front ++ ((label, first) ∷ (own, second) ∷ back) = h.replaces.new_is ∙ ap (λ (xs : List (ℕ × R)). front ++ (xs ++ back)) h.puts.4 in
      let next : own < next_label bound (front ++ ((label, r) ∷ back)) label = subst (λ (ps : List (ℕ × R)). own < next_label bound ps label) old_is h.between.1 in
      let one : IsRising (front ++ ((label, first) ∷ back)) = rises_changed 0 label r first front back (subst (λ (ps : List (ℕ × R)). IsRising ps) old_is rising) in
      let there : IsRising ((front ++ ((label, first) ∷ [])) ++ back) = subst (λ (ps : List (ℕ × R)). IsRising ps) (sym (append_assoc front ((label, first) ∷ []) back)) one in
      let both = rises_with 0 own second (front ++ ((label, first) ∷ [])) back there (omega (arith, h.between.0))
      (less_own label own (front ++ ((label, first) ∷ [])) h.between.0 (All-append (λ p. p.0 ≤ label) front ((label, first) ∷ []) h.replaces.below (one_up_to label first)))
      (below_back front ((label, r) ∷ []) back label own bound h.replaces.below (one_up_to label r) h.replaces.above next) in
      subst (λ (ps : List (ℕ × R)). IsRising ps) (append_assoc front ((label, first) ∷ []) ((own, second) ∷ back) ∙ sym new_is) both

  -- INSERTION
  pub inserted_after : (G : Ghosts R) (run : R) (bound label : ℕ) (old new : List (ℕ × R)) (own : ℕ) (lost gained : Sums) → IsEdited G (Insert run) bound label old new own lost gained → new ≡ inserted old label own run
  inserted_after G run bound label old new own lost gained h =
      let front = h.replaces.front in
      let back = h.replaces.back in
      let old_is : old ≡ front ++ back = h.replaces.old_is ∙ ap (λ (xs : List (ℕ × R)). front ++ (xs ++ back)) h.puts.0 in
      let new_is : new ≡ front ++ ((own, run) ∷ back) = h.replaces.new_is ∙ ap (λ (xs : List (ℕ × R)). front ++ (xs ++ back)) h.puts.1 in
      let f : up_to old label ≡ front = ap (λ (ps : List (ℕ × R)). up_to ps label) old_is ∙ filter-append (λ p. nat_le p.0 label) front back ∙ ap (λ (xs : List (ℕ × R)). xs ++ up_to back label) (up_to_all label front h.replaces.below)
      ∙ ap (λ (xs : List (ℕ × R)). front ++ xs) (up_to_none label back h.replaces.above) ∙ append-nil front in
      let b : greater old label ≡ back = ap (λ (ps : List (ℕ × R)). greater ps label) old_is ∙ filter-append (λ p. nat_lt label p.0) front back ∙ ap (λ (xs : List (ℕ × R)). xs ++ greater back label) (greater_none label front h.replaces.below)
      ∙ greater_all label back h.replaces.above in
      new_is ∙ sym (ap (λ (xs : List (ℕ × R)). xs ++ ((own, run) ∷ greater old label)) f ∙ ap (λ (xs : List (ℕ × R)). front ++ ((own, run) ∷ xs)) b)

  insert_total : (G : Ghosts R) (count : R → ℕ) (label own : ℕ) (run : R) (old new was put : List (ℕ × R)) → Replaces label old new was put → was ≡ [] → put ≡ (own, run) ∷ [] → total count new ≡ total count old + count run
  insert_total G count label own run old new was put h none one = omega (arith, replaced_total_of, ap (total count) none, ap (total count) one, total-one count (own, run))
    where
      replaced_total_of : total count old + total count put ≡ total count new + total count was
      replaced_total_of = replaced_total G count label old new was put h

  pub insert_fits : (G : Ghosts R) (run : R) (label : ℕ) (old : List (ℕ × R)) → total G.known old + G.known run < 2 ^ 32 → total G.prepared old + G.prepared run < 2 ^ 32 → total G.effect old + G.effect run < 2 ^ 32 → StaysFit G (Insert run) label old
  insert_fits G run label old a b c = λ own was put new rep puts.
      record {
        known = omega (arith, a, insert_total G G.known label own run old new was put rep puts.0 puts.1);
        prepared = omega (arith, b, insert_total G G.prepared label own run old new was put rep puts.0 puts.1);
        effect = omega (arith, c, insert_total G G.effect label own run old new was put rep puts.0 puts.1);
      }
