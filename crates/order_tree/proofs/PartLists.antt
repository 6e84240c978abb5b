-- Lists of parts, each of which stands for some runs.
use Rattle.std.proofs.Common.{nat_eq, unwrap_or, ◌≡◌, ℕ, zero, suc, ◌+◌, ◌-◌, ◌<◌, ◌≤◌, List, [], ◌∷◌, ◌++◌, length, All, take, drop, arith, slice_set, slice_index_or, refl, sym, ap, ◌∙◌, length-append, take-append-drop, append-nil, subst}
use Rattle.std.proofs.lemmas.List.{take_more, drop_more, set_split}
use Rattle.std.proofs.lemmas.Bool.{cond_both}
use Rattle.std.proofs.lemmas.List.Concat.{flat_map-append}
use Rattle.std.proofs.lemmas.List.Elements.{All-nil, All-more, All-weaker}
use Rattle.order_tree.specs.Pairs.{IsRising, first_label, total}
use Rattle.order_tree.specs.Parts.{first_or_zero, last_known, all_pairs, one_pair, AllSome}
use Rattle.order_tree.proofs.PairLaws.{rises_front, rises_rest, front_below, rest_above, total-append, last_known-append, at_none, at_some, All_right}

module _ {R : Type 0} where
  -- entries are the parts of a leaf
  pub entries_are : (ps : List (ℕ × R)) → all_pairs one_pair ps ≡ ps
  entries_are [] = refl
  entries_are (p ∷ ps) = ap (λ (qs : List (ℕ × R)). p ∷ qs) (entries_are ps)

  pub first_of_both : (xs ys : List (ℕ × R)) → 0 < length xs → first_or_zero (xs ++ ys) ≡ first_or_zero xs
  first_of_both [] ys some = absurd (omega (arith, some))
  first_of_both (x ∷ xs) ys some = refl

  pub first_there : (xs ys : List (ℕ × R)) (bound : ℕ) → 0 < length xs → unwrap_or (first_label (xs ++ ys)) bound ≡ first_or_zero xs
  first_there [] ys bound some = absurd (omega (arith, some))
  first_there (x ∷ xs) ys bound some = refl

  pub first_positive : (xs : List (ℕ × R)) → 0 < length xs → IsRising xs → 0 < first_or_zero xs
  first_positive [] some h = absurd (omega (arith, some))
  first_positive (x ∷ xs) some h = h.0

module _ {R T : Type 0} (pairs : T → List (ℕ × R)) where
  -- one part more from the front, and one part less
  pub parts_more : (parts : List T) (k : ℕ) (part : T) → k < length parts → part ≡ slice_index_or parts k part → all_pairs pairs (take (k + 1) parts) ≡ all_pairs pairs (take k parts) ++ pairs part
  parts_more parts k part lt is =
      let last : take (k + 1) parts ≡ take k parts ++ part ∷ [] = take_more parts k part lt ∙ ap (λ (x : T). take k parts ++ x ∷ []) (sym is) in
      ap (all_pairs pairs) last ∙ flat_map-append pairs (take k parts) (part ∷ []) ∙ ap (λ (xs : List (ℕ × R)). all_pairs pairs (take k parts) ++ xs) (append-nil (pairs part))

  pub parts_from : (parts : List T) (k : ℕ) (part : T) → k < length parts → part ≡ slice_index_or parts k part → all_pairs pairs (drop k parts) ≡ pairs part ++ all_pairs pairs (drop (k + 1) parts)
  parts_from parts k part lt is = ap (all_pairs pairs) (drop_more parts k part lt) ∙ ap (λ (x : T). pairs x ++ all_pairs pairs (drop (k + 1) parts)) (sym is)

  pub parts_split : (parts : List T) (k : ℕ) → all_pairs pairs parts ≡ all_pairs pairs (take k parts) ++ all_pairs pairs (drop k parts)
  parts_split parts k = ap (all_pairs pairs) (sym (take-append-drop k parts)) ∙ flat_map-append pairs (take k parts) (drop k parts)

  -- the pairs before a part, its own, and those behind it
  pub parts_at : (parts : List T) (k : ℕ) (part : T) → k < length parts → part ≡ slice_index_or parts k part → all_pairs pairs parts ≡ all_pairs pairs (take k parts) ++ (pairs part ++ all_pairs pairs (drop (k + 1) parts))
  parts_at parts k part lt is = parts_split parts k ∙ ap (λ (xs : List (ℕ × R)). all_pairs pairs (take k parts) ++ xs) (parts_from parts k part lt is)

  -- one part gave way to another
  pub parts_set : (parts : List T) (k : ℕ) (part : T) → k < length parts → all_pairs pairs (slice_set parts k part) ≡ all_pairs pairs (take k parts) ++ (pairs part ++ all_pairs pairs (drop (k + 1) parts))
  parts_set parts k part lt =
      let next : suc k ≡ k + 1 = omega arith in
      ap (all_pairs pairs) (set_split parts k part lt ∙ ap (λ (j : ℕ). take k parts ++ (part ∷ drop j parts)) next) ∙ flat_map-append pairs (take k parts) (part ∷ drop (k + 1) parts)

  -- PLACES BY LABEL
  pub first_front : (part : T) (ys : List (ℕ × R)) → 0 < length (pairs part) → first_or_zero (pairs part ++ ys) ≡ first_or_zero (pairs part)
  first_front part ys some = first_of_both (pairs part) ys some

  drop_some : (parts : List T) (k : ℕ) → 0 < length (all_pairs pairs (drop k parts)) → k < length parts
  drop_some [] zero some = some
  drop_some [] (suc k) some = absurd (omega (arith, some))
  drop_some (x ∷ xs) zero some = omega arith
  drop_some (x ∷ xs) (suc k) some = omega (arith, drop_some xs k some)

  -- the first label of the rest is that of the part at the place
  pub drop_first : (parts : List T) (k : ℕ) (d : T) → k < length parts → AllSome pairs parts → first_or_zero (all_pairs pairs (drop k parts)) ≡ first_or_zero (pairs (slice_index_or parts k d))
  drop_first parts k d lt some =
      ap first_or_zero (ap (all_pairs pairs) (drop_more parts k d lt)) ∙ first_front (slice_index_or parts k d) (all_pairs pairs (drop (k + 1) parts)) (some k d lt)

  from_any : (parts : List T) (k label : ℕ) → k < length parts → AllSome pairs parts → ((d : T) → k < length parts → label < first_or_zero (pairs (slice_index_or parts k d))) → label < first_or_zero (all_pairs pairs (drop k parts))
  from_any [] k label lt some above = absurd (omega (arith, lt))
  from_any (x ∷ xs) k label lt some above = let at = above x lt in let same = drop_first (x ∷ xs) k x lt some in omega (arith, at, same)

  rest_some : (parts : List T) (k : ℕ) → k < length parts → AllSome pairs parts → 0 < length (all_pairs pairs (drop k parts))
  rest_some [] k lt some = absurd (omega (arith, lt))
  rest_some (x ∷ xs) k lt some =
      let parts : List T = x ∷ xs in
      let own = some k x lt in
      let long = length-append (pairs (slice_index_or parts k x)) (all_pairs pairs (drop (k + 1) parts)) in
      let same = ap (λ (ys : List T). length (all_pairs pairs ys)) (drop_more parts k x lt) in
      omega (arith, own, long, same)

  -- what begins above a label is above it
  pub drop_above : (parts : List T) (k label : ℕ) → AllSome pairs parts → IsRising (all_pairs pairs parts) → ((d : T) → k < length parts → label < first_or_zero (pairs (slice_index_or parts k d)))
      → All (λ p. label < p.0) (all_pairs pairs (drop k parts))
  drop_above parts k label some rising above =
      rest_above 0 label (all_pairs pairs (drop k parts))
      (rises_rest 0 (all_pairs pairs (take k parts)) (all_pairs pairs (drop k parts)) (subst (λ (ps : List (ℕ × R)). IsRising ps) (parts_split parts k) rising))
      (λ there. above_at (drop_some parts k there))
    where
      above_at : k < length parts → label < first_or_zero (all_pairs pairs (drop k parts))
      above_at lt = from_any parts k label lt some above

  -- what stands before the last part that begins up to a label is below it
  pub take_below : (parts : List T) (k label : ℕ) → k < length parts → AllSome pairs parts → IsRising (all_pairs pairs parts) → ((d : T) → first_or_zero (pairs (slice_index_or parts k d)) ≤ label)
      → All (λ p. p.0 < label) (all_pairs pairs (take k parts))
  take_below [] k label lt some rising le = absurd (omega (arith, lt))
  take_below (x ∷ xs) k label lt some rising le =
      let parts : List T = x ∷ xs in
      let same = drop_first parts k x lt some in
      let at = le x in
      front_below 0 label (all_pairs pairs (take k parts)) (all_pairs pairs (drop k parts)) (subst (λ (ps : List (ℕ × R)). IsRising ps) (parts_split parts k) rising)
      (rest_some parts k lt some) (omega (arith, same, at))

  pub drop_one_less : (parts : List T) (label : ℕ) → All (λ p. label < p.0) (all_pairs pairs (drop 0 parts)) → All (λ p. label < p.0) (all_pairs pairs (drop (0 + 1) parts))
  drop_one_less [] label h = h
  drop_one_less (x ∷ xs) label h = All_right (λ p. label < p.0) (pairs x) (all_pairs pairs xs) h

  -- the first label of the rest, or a bound
  pub free_is : (parts : List T) (k bound : ℕ) (part : T) → k < length parts → part ≡ slice_index_or parts k part → AllSome pairs parts → unwrap_or (first_label (all_pairs pairs (drop k parts))) bound ≡ first_or_zero (pairs part)
  free_is parts k bound part lt is some =
      let own : 0 < length (pairs part) = subst (λ (t : T). 0 < length (pairs t)) (sym is) (some k part lt) in
      ap (λ (ps : List (ℕ × R)). unwrap_or (first_label ps) bound) (parts_from parts k part lt is) ∙ first_there (pairs part) (all_pairs pairs (drop (k + 1) parts)) bound own

  pub free_above : (parts : List T) (k : ℕ) (part : T) → k < length parts → part ≡ slice_index_or parts k part → AllSome pairs parts → IsRising (all_pairs pairs parts) → 0 < first_or_zero (pairs part)
  free_above parts k part lt is some rising =
      let own : 0 < length (pairs part) = subst (λ (t : T). 0 < length (pairs t)) (sym is) (some k part lt) in
      first_positive (pairs part) own
      (rises_front 0 (pairs part) (all_pairs pairs (drop (k + 1) parts))
      (rises_rest 0 (all_pairs pairs (take k parts)) (pairs part ++ all_pairs pairs (drop (k + 1) parts)) (subst (λ (ps : List (ℕ × R)). IsRising ps) (parts_at parts k part lt is) rising)))

  -- SUMS
  pub total_more : (count : R → ℕ) (parts : List T) (k : ℕ) (part : T) → k < length parts → part ≡ slice_index_or parts k part
      → total count (all_pairs pairs (take (k + 1) parts)) ≡ total count (all_pairs pairs (take k parts)) + total count (pairs part)
  total_more count parts k part lt is = ap (total count) (parts_more parts k part lt is) ∙ total-append count (all_pairs pairs (take k parts)) (pairs part)

  pub total_from : (count : R → ℕ) (parts : List T) (k : ℕ) (part : T) → k < length parts → part ≡ slice_index_or parts k part
      → total count (all_pairs pairs (drop k parts)) ≡ total count (pairs part) + total count (all_pairs pairs (drop (k + 1) parts))
  total_from count parts k part lt is = ap (total count) (parts_from parts k part lt is) ∙ total-append count (pairs part) (all_pairs pairs (drop (k + 1) parts))

  pub total_split : (count : R → ℕ) (parts : List T) (k : ℕ) → total count (all_pairs pairs parts) ≡ total count (all_pairs pairs (take k parts)) + total count (all_pairs pairs (drop k parts))
  total_split count parts k = ap (total count) (parts_split parts k) ∙ total-append count (all_pairs pairs (take k parts)) (all_pairs pairs (drop k parts))

  pub total_so_far : (count : R → ℕ) (parts : List T) (k : ℕ) (part : T) → k < length parts → part ≡ slice_index_or parts k part
      → total count (all_pairs pairs (take k parts)) + total count (pairs part) ≤ total count (all_pairs pairs parts)
  total_so_far count parts k part lt is = omega (arith, total_split count parts k, total_from count parts k part lt is)

  -- THE LAST KNOWN RUN
  pub known_from : (known : R → ℕ) (parts : List T) (rest : ℕ) (part : T) → 0 < rest → rest ≤ length parts → part ≡ slice_index_or parts (rest - 1) part
      → last_known known (all_pairs pairs (drop rest parts)) ≡ 0 → last_known known (all_pairs pairs (drop (rest - 1) parts)) ≡ last_known known (pairs part)
  known_from known parts rest part some le is none =
      let next : rest - 1 + 1 ≡ rest = omega arith in
      let none' : last_known known (all_pairs pairs (drop (rest - 1 + 1) parts)) ≡ 0 = rw next none in
      ap (last_known known) (parts_from parts (rest - 1) part (omega arith) is)
      ∙ last_known-append known (pairs part) (all_pairs pairs (drop (rest - 1 + 1) parts))
      ∙ at_none (last_known known (all_pairs pairs (drop (rest - 1 + 1) parts))) (last_known known (pairs part)) none'

  pub known_all : (known : R → ℕ) (parts : List T) (k n : ℕ) → last_known known (all_pairs pairs (drop k parts)) ≡ n → 0 < n → n ≡ last_known known (all_pairs pairs parts)
  known_all known parts k n e some =
      let back = last_known known (all_pairs pairs (drop k parts)) in
      let positive : 0 < last_known known (all_pairs pairs (drop k parts)) = omega arith in
      sym (ap (last_known known) (parts_split parts k)
      ∙ last_known-append known (all_pairs pairs (take k parts)) (all_pairs pairs (drop k parts))
      ∙ at_some (last_known known (all_pairs pairs (drop k parts))) (last_known known (all_pairs pairs (take k parts))) positive ∙ e)

  pub known_more : (known : R → ℕ) (parts : List T) (k label : ℕ) (part : T) → k < length parts → part ≡ slice_index_or parts k part → last_known known (all_pairs pairs (take k parts)) ≤ label
      → last_known known (pairs part) ≤ label → last_known known (all_pairs pairs (take (k + 1) parts)) ≤ label
  known_more known parts k label part lt is front own =
      let e = ap (last_known known) (parts_more parts k part lt is) ∙ last_known-append known (all_pairs pairs (take k parts)) (pairs part) in
      rw e (cond_both (nat_eq (last_known known (pairs part)) 0) (last_known known (all_pairs pairs (take k parts))) (last_known known (pairs part)) (λ (n : ℕ). n ≤ label) (λ z. front) (λ z. own))

module _ {R : Type 0} where
  pub entries_some : (ps : List (ℕ × R)) → AllSome one_pair ps
  entries_some ps = λ k d lt. omega arith

  -- ENTRIES OF A LEAF
  pub entries_above : (ps : List (ℕ × R)) (k label : ℕ) → IsRising ps → ((d : ℕ × R) → k < length ps → label < first_or_zero (one_pair (slice_index_or ps k d))) → All (λ p. label < p.0) (drop k ps)
  entries_above ps k label rising above =
      subst (λ (qs : List (ℕ × R)). All (λ p. label < p.0) qs) (entries_are (drop k ps))
      (drop_above one_pair ps k label (entries_some ps) (subst (λ (qs : List (ℕ × R)). IsRising qs) (sym (entries_are ps)) rising) above)

  pub entries_below : (ps : List (ℕ × R)) (k label : ℕ) → k ≤ length ps → IsRising ps → ((d : ℕ × R) → 0 < k → first_or_zero (one_pair (slice_index_or ps (k - 1) d)) ≤ label) → All (λ p. p.0 ≤ label) (take k ps)
  entries_below ps zero label le rising at = All-nil (λ p. p.0 ≤ label)
  entries_below ps (suc k) label le rising at =
      let lt : k < length ps = omega (arith, le) in
      let same : suc k - 1 ≡ k = omega arith in
      let at' : (d : ℕ × R) → first_or_zero (one_pair (slice_index_or ps k d)) ≤ label = λ d. subst (λ (j : ℕ). first_or_zero (one_pair (slice_index_or ps j d)) ≤ label) same (at d (omega arith)) in
      let front : All (λ p. p.0 < label) (take k ps) =
      subst (λ (qs : List (ℕ × R)). All (λ p. p.0 < label) qs) (entries_are (take k ps))
      (take_below one_pair ps k label lt (entries_some ps) (subst (λ (qs : List (ℕ × R)). IsRising qs) (sym (entries_are ps)) rising) at') in
      let more : suc k ≡ k + 1 = omega arith in
      subst (λ (j : ℕ). All (λ p. p.0 ≤ label) (take j ps)) (sym more) (last_too ps k label lt front at')
    where
      last_too : (ps : List (ℕ × R)) (k label : ℕ) → k < length ps → All (λ p. p.0 < label) (take k ps) → ((d : ℕ × R) → first_or_zero (one_pair (slice_index_or ps k d)) ≤ label) → All (λ p. p.0 ≤ label) (take (k + 1) ps)
      last_too [] k label lt front at = absurd (omega (arith, lt))
      last_too (x ∷ xs) k label lt front at =
          All-more (λ p. p.0 ≤ label) (x ∷ xs) k x lt (All-weaker (λ p. p.0 < label) (λ p. p.0 ≤ label) (λ p h. omega (arith, h)) (take k (x ∷ xs)) front) (at x)
