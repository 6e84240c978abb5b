use Rattle.std.proofs.Common.{⊎_elim, ◌≡◌, ℕ, zero, suc, ◌+◌, ◌-◌, ◌<◌, ◌≤◌, List, [], ◌∷◌, ◌++◌, length, All, drop, slice_index_or, arith, sym, ap, ◌∙◌, subst, length-append}
use Rattle.std.proofs.lemmas.List.{get_or-drop, get_or_default, length-drop}
use Rattle.std.proofs.lemmas.Bool.{cases_lt}
use Rattle.std.proofs.lemmas.List.Elements.{All-head, All-tail}
use Rattle.order_tree.specs.Pairs.{IsRising}
use Rattle.order_tree.specs.Parts.{first_or_zero, all_pairs, AllSome}
use Rattle.order_tree.proofs.PairLaws.{All_right}
use Rattle.order_tree.proofs.PartLists.{first_front, drop_above}
use Rattle.order_tree.proofs.part.count_up_to.Goals as goal
use Rattle.order_tree.proofs.part.count_up_to.Goals.{then-first-label, else-first-label}

module _ {R T : Type 0} (pairs : T → List (ℕ × R)) where
  first_of : (qs : List (ℕ × R)) (label : ℕ) → 0 < length qs → All (λ p. label < p.0) qs → label < first_or_zero qs
  first_of [] label some above = absurd (omega (arith, some))
  first_of (q ∷ qs) label some above = All-head (λ p. label < p.0) q qs above

  -- where all pairs are above a label, each part begins above it
  begins_above : (parts : List T) (label k : ℕ) (d : T) → k < length parts → AllSome pairs parts → All (λ p. label < p.0) (all_pairs pairs parts) → label < first_or_zero (pairs (slice_index_or parts k d))
  begins_above [] label k d lt some above = absurd (omega (arith, lt))
  begins_above (x ∷ xs) label zero d lt some above =
      let own = some 0 d (omega arith) in
      let first = first_of (pairs x ++ all_pairs pairs xs) label (omega (arith, own, length-append (pairs x) (all_pairs pairs xs))) above in
      let same = first_front pairs x (all_pairs pairs xs) own in
      omega (arith, first, same)
  begins_above (x ∷ xs) label (suc k) d lt some above =
      begins_above xs label k d (omega (arith, lt)) (All-tail (λ t. 0 < length (pairs t)) x xs some) (All_right (λ p. label < p.0) (pairs x) (all_pairs pairs xs) above)

  -- the parts behind one that begins above a label do so too
  later_above : (parts : List T) (k j label : ℕ) (d : T) → k ≤ j → j < length parts → AllSome pairs parts → IsRising (all_pairs pairs parts)
      → ((e : T) → label < first_or_zero (pairs (slice_index_or parts k e))) → label < first_or_zero (pairs (slice_index_or parts j d))
  later_above parts k j label d le lt some rising above =
      let rest = drop_above pairs parts k label some rising (λ e there. above e) in
      let some_rest : AllSome pairs (drop k parts) = λ i e there. rest_has i e there in
      let within : j - k < length (drop k parts) = omega (arith, lt, le, length-drop k parts) in
      let at = begins_above (drop k parts) label (j - k) d within some_rest rest in
      subst (λ (x : T). label < first_or_zero (pairs x)) place at
    where
      place : slice_index_or (drop k parts) (j - k) d ≡ slice_index_or parts j d
      place = let same : k + (j - k) ≡ j = omega (arith, le) in get_or-drop k parts (j - k) d ∙ ap (λ (i : ℕ). slice_index_or parts i d) same

      rest_has : (i : ℕ) (e : T) → i < length (drop k parts) → 0 < length (pairs (slice_index_or (drop k parts) i e))
      rest_has i e there =
          let within : k + i < length parts = omega (arith, there, length-drop k parts) in
          subst (λ (x : T). 0 < length (pairs x)) (sym (get_or-drop k parts i e)) (some (k + i) e within)

  -- so many of the first parts are counted: the last of these begins up to the label, and the first behind them above it
  abbrev Counted : List T → ℕ → ℕ → ℕ → Type 0
  Counted parts count index label =
      (count ≤ index)
      × ((d : T) → 0 < count → first_or_zero (pairs (slice_index_or parts (count - 1) d)) ≤ label)
      × ((d : T) → count < index → label < first_or_zero (pairs (slice_index_or parts count d)))

  all_counted : (parts : List T) (count index label : ℕ) (part : T) → index < length parts → part ≡ slice_index_or parts index part → AllSome pairs parts → IsRising (all_pairs pairs parts)
      → Counted parts count index label → first_or_zero (pairs part) ≤ label → count ≡ index
  all_counted parts count index label part lt is some rising so_far low = ⊎_elim (λ less. absurd (against less)) (λ more. omega (arith, so_far.0, more)) (cases_lt count index)
    where
      against : count < index → ⊥
      against less =
          let later = later_above parts count index label part so_far.0 lt some rising (λ d. so_far.2 d less) in
          let high : label < first_or_zero (pairs part) = subst (λ (x : T). label < first_or_zero (pairs x)) (sym is) later in
          omega (arith, high, low)

  one_more : (parts : List T) (count index label : ℕ) (part : T) → index < length parts → part ≡ slice_index_or parts index part → AllSome pairs parts → IsRising (all_pairs pairs parts)
      → Counted parts count index label → first_or_zero (pairs part) ≤ label → Counted parts (count + 1) (index + 1) label
  one_more parts count index label part lt is some rising so_far low = (omega (arith, so_far.0), λ d m. last d, λ d less. absurd (omega (arith, less, all)))
    where
      all : count ≡ index
      all = all_counted parts count index label part lt is some rising so_far low

      place : count + 1 - 1 ≡ index
      place = omega (arith, all)

      last : (d : T) → first_or_zero (pairs (slice_index_or parts (count + 1 - 1) d)) ≤ label
      last d =
          let own : part ≡ slice_index_or parts index d = is ∙ get_or_default parts index part d lt in
          subst (λ (i : ℕ). first_or_zero (pairs (slice_index_or parts i d)) ≤ label) (sym place) (subst (λ (x : T). first_or_zero (pairs x) ≤ label) own low)

  none_more : (parts : List T) (count index label : ℕ) (part : T) → index < length parts → part ≡ slice_index_or parts index part
      → Counted parts count index label → label < first_or_zero (pairs part) → Counted parts count (index + 1) label
  none_more parts count index label part lt is so_far high = (omega (arith, so_far.0), so_far.1, λ d m. ⊎_elim (λ less. so_far.2 d less) (λ more. at d (omega (arith, so_far.0, more))) (cases_lt count index))
    where
      at : (d : T) → count ≡ index → label < first_or_zero (pairs (slice_index_or parts count d))
      at d same =
          let own : part ≡ slice_index_or parts index d = is ∙ get_or_default parts index part d lt in
          subst (λ (i : ℕ). label < first_or_zero (pairs (slice_index_or parts i d))) (sym same) (subst (λ (x : T). label < first_or_zero (pairs x)) own high)

pub loop-part-preserved : goal.loop-part-preserved
loop-part-preserved g c =
    let parts = c.args.parts.now in
    let pairs = g.T.Part.pairs in
    let index = c.loop-part.part-index in
    let count = c.loop-part.count in
    let part = c.part-item.result in
    elim c.if-first-label.branch [
      | then-first-label w ↦
          let low : first_or_zero (pairs part) ≤ c.args.label = omega (arith, w.if-first-label.true, c.first.ensures) in
          subst (λ (n : ℕ). Counted pairs parts n (index + 1) c.args.label) (sym w.count-is)
          (one_more pairs parts count index c.args.label part c.loop-part-test.true c.part-item.is c.requires.some c.requires.rising c.loop-part.invariant low)
      | else-first-label w ↦
          let high : c.args.label < first_or_zero (pairs part) = omega (arith, w.if-first-label.false, c.first.ensures) in
          subst (λ (n : ℕ). Counted pairs parts n (index + 1) c.args.label) (sym w.count-is)
          (none_more pairs parts count index c.args.label part c.loop-part-test.true c.part-item.is c.loop-part.invariant high)
    ]
