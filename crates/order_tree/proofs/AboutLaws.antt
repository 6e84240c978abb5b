-- New labels for the runs about a place.
use Rattle.std.proofs.Common.{◌≡◌, ℕ, zero, suc, ◌+◌, ◌-◌, ◌*◌, ◌^◌, ◌<◌, ◌≤◌, List, [], ◌∷◌, ◌++◌, length, map, take, drop, slice_set, slice_index_or, unwrap_or, All, Contains, arith, refl, sym, ap, ◌∙◌, subst, append-nil, append_assoc, length-append}
use Rattle.std.specs.Prelude.{sum_by}
use Rattle.std.proofs.lemmas.List.{map-append, length-map, length-drop, nil_from_length, take_all, drop_more, get_or_default, get_or-set_same}
use Rattle.std.proofs.lemmas.List.Sums.{sum_by-cons}
use Rattle.std.proofs.lemmas.List.Elements.{All-append, All-contains, Contains-append_right}
use Rattle.ew_model.specs.declared.run.Run.{Ghosts}
use Rattle.order_tree.specs.declared.about.Tried.{Tried}
use Rattle.order_tree.specs.declared.about.Tried.TheVariants.{Given, Crowded, NoMemory}
use Rattle.order_tree.specs.Pairs.{Tree, labels, runs, RisesFrom, IsRising, first_label, HasRoom, total, AreGivenIn}
use Rattle.order_tree.specs.Parts.{first_or_zero, all_pairs, sums_of}
use Rattle.order_tree.specs.Relabels.{relabelled, renamed, reached}
use Rattle.order_tree.specs.Abouts.{IsSpreadIn, IsWithin, IsIdle, IsCounting}
use Rattle.order_tree.specs.Whole.{IsWhole}
use Rattle.order_tree.proofs.PairLaws.{rises_rest, rises_weaker, rises_above, total-cons, All_right}
use Rattle.order_tree.proofs.PartLists.{parts_at, parts_set, parts_more}
use Rattle.order_tree.proofs.LeafEdits.{same_sums}
use Rattle.order_tree.proofs.Around.{held_all, next_around, held_below, held_above}
use Rattle.order_tree.proofs.SpreadLaws.{reached_is, times_more, runs-relabelled, zip-relabelled, all_below, room_label}
use Rattle.order_tree.proofs.WholeEdits.{All_front}

-- THE SAME RUNS
module _ {R : Type 0} where
  total-runs : (count : R → ℕ) (ps : List (ℕ × R)) → total count ps ≡ sum_by count (runs ps)
  total-runs count [] = refl
  total-runs count (p ∷ ps) = total-cons count p ps ∙ ap (λ (n : ℕ). count p.1 + n) (total-runs count ps) ∙ sym (sum_by-cons count p.1 (runs ps))

  pub total-same : (count : R → ℕ) (xs ys : List (ℕ × R)) → runs xs ≡ runs ys → total count xs ≡ total count ys
  total-same count xs ys e = total-runs count xs ∙ ap (sum_by count) e ∙ sym (total-runs count ys)

  -- the same runs have the same sums, and are as many
  pub sums-same : (G : Ghosts R) (xs ys : List (ℕ × R)) → runs xs ≡ runs ys → sums_of G xs ≡ sums_of G ys
  sums-same G xs ys e = same_sums G (sums_of G xs) (sums_of G ys) (total-same G.known xs ys e) (total-same G.prepared xs ys e) (total-same G.effect xs ys e)

  pub length-same : (xs ys : List (ℕ × R)) → runs xs ≡ runs ys → length xs ≡ length ys
  length-same xs ys e = sym (length-map xs (λ (p : ℕ × R). p.1)) ∙ ap length e ∙ length-map ys (λ (p : ℕ × R). p.1)

  pub runs_around : (front mid new back : List (ℕ × R)) → runs new ≡ runs mid → runs (front ++ (new ++ back)) ≡ runs (front ++ (mid ++ back))
  runs_around front mid new back e =
      three new ∙ ap (λ (rs : List R). runs front ++ (rs ++ runs back)) e ∙ sym (three mid)
    where
      three : (ps : List (ℕ × R)) → runs (front ++ (ps ++ back)) ≡ runs front ++ (runs ps ++ runs back)
      three ps = map-append (λ (p : ℕ × R). p.1) front (ps ++ back) ∙ ap (λ (rs : List R). runs front ++ rs) (map-append (λ (p : ℕ × R). p.1) ps back)

-- A PART OF A LIST
module _ {R : Type 0} (front mid back : List (ℕ × R)) where
  first_either : (xs : List (ℕ × R)) (bound : ℕ) → unwrap_or (first_label (xs ++ back)) bound ≡ unwrap_or (first_label xs) (unwrap_or (first_label back) bound)
  first_either [] bound = refl
  first_either (x ∷ xs) bound = refl

  around : (before ps part behind : List (ℕ × R)) → ps ≡ before ++ (part ++ behind) → front ++ (ps ++ back) ≡ (front ++ before) ++ (part ++ (behind ++ back))
  around before ps part behind e =
      ap (λ (xs : List (ℕ × R)). front ++ (xs ++ back)) e
      ∙ ap (λ (xs : List (ℕ × R)). front ++ xs) (append_assoc before (part ++ behind) back ∙ ap (λ (xs : List (ℕ × R)). before ++ xs) (append_assoc part behind back))
      ∙ sym (append_assoc front before (part ++ (behind ++ back)))

  -- what is spread in a part of the list is in the whole
  pub spread_around : (bound label : ℕ) (new : List (ℕ × R)) (given : List (ℕ × (ℕ × R))) → IsSpreadIn (unwrap_or (first_label back) bound) label mid new given → IsSpreadIn bound label (front ++ (mid ++ back)) (front ++ (new ++ back)) given
  spread_around bound label new given h =
      record {
        front = front ++ h.front;
        was = h.was;
        back = h.back ++ back;
        low = h.low;
        step = h.step;
        old_is = around h.front mid h.was h.back h.old_is;
        new_is = around h.front new (relabelled h.step h.low h.was) h.back h.new_is;
        given_is = h.given_is;
        held = h.held;
        first = h.first;
        wide = h.wide;
        fits = subst (λ (n : ℕ). h.low + (length h.was + 1) * h.step < n) (sym (first_either h.back bound)) h.fits;
      }

module _ {R : Type 0} where
  -- all of a list
  pub spread_all : (bound label step low : ℕ) (old new : List (ℕ × R)) (given : List (ℕ × (ℕ × R))) → new ≡ relabelled step low old → given ≡ renamed step low old → Contains (labels old) label → low + 1 ≡ first_or_zero old → 2 ≤ step
      → low + (length old + 1) * step < bound → IsSpreadIn bound label old new given
  spread_all bound label step low old new given is noted held first wide fits =
      record {
        front = [];
        was = old;
        back = [];
        low = low;
        step = step;
        old_is = sym (append-nil old);
        new_is = is ∙ sym (append-nil (relabelled step low old));
        given_is = noted;
        held = held;
        first = first;
        wide = wide;
        fits = fits;
      }

  -- so much is reached with so many steps
  pub small_reached : (step low bound : ℕ) (ps : List (ℕ × R)) → low + (length ps + 1) * step < bound → reached step low ps + step < bound
  small_reached step low bound ps lt = omega (arith, lt, reached_is step low ps, times_more (length ps) step)

-- THE SEARCH OF A LABEL AMONG WHAT IS NOTED
module _ {Y : Type 0} (gs : List (ℕ × Y)) (k label : ℕ) where
  pub rest_holds : (g : ℕ × Y) → k < length gs → g ≡ slice_index_or gs k g → (g.0 ≡ label → ⊥) → Contains (map (λ x. x.0) (drop k gs)) label → Contains (map (λ x. x.0) (drop (k + 1) gs)) label
  rest_holds g lt is other h =
      let next : drop k gs ≡ g ∷ drop (k + 1) gs = drop_more gs k g lt ∙ ap (λ (x : ℕ × Y). x ∷ drop (k + 1) gs) (sym is) in
      behind (drop (k + 1) gs) (subst (λ (xs : List (ℕ × Y)). Contains (map (λ x. x.0) xs) label) next h)
    where
      behind : (xs : List (ℕ × Y)) → Contains (g.0 ∷ map (λ x. x.0) xs) label → Contains (map (λ x. x.0) xs) label
      behind xs c = at c.0 c.1 c.2
        where
          at : (j : ℕ) → j < length (g.0 ∷ map (λ (x : ℕ × Y). x.0) xs) → slice_index_or (g.0 ∷ map (λ (x : ℕ × Y). x.0) xs) j label ≡ label → Contains (map (λ x. x.0) xs) label
          at zero less e = absurd (other e)
          at (suc j) less e = (j, omega (arith, less), e)

-- ONE OF THE BRANCHES
module _ {R : Type 0} (kids : List (Tree R)) (k : ℕ) (kid w : Tree R) (lt : k < length kids) (is : kid ≡ slice_index_or kids k kid) where
  kids_at : all_pairs (λ t. t.pairs) kids ≡ all_pairs (λ t. t.pairs) (take k kids) ++ (kid.pairs ++ all_pairs (λ t. t.pairs) (drop (k + 1) kids))
  kids_at = parts_at (λ t. t.pairs) kids k kid lt is

  pub kids_runs : runs w.pairs ≡ runs kid.pairs → runs (all_pairs (λ t. t.pairs) (slice_set kids k w)) ≡ runs (all_pairs (λ t. t.pairs) kids)
  kids_runs e = ap (λ (ps : List (ℕ × R)). runs ps) (parts_set (λ t. t.pairs) kids k w lt) ∙ runs_around (all_pairs (λ t. t.pairs) (take k kids)) kid.pairs w.pairs (all_pairs (λ t. t.pairs) (drop (k + 1) kids)) e ∙ sym (ap (λ (ps : List (ℕ × R)). runs ps) kids_at)

  pub kids_spread : (bound most label : ℕ) (given : List (ℕ × (ℕ × R))) → most ≡ unwrap_or (first_label (all_pairs (λ t. t.pairs) (drop (k + 1) kids))) bound → IsSpreadIn most label kid.pairs w.pairs given
      → IsSpreadIn bound label (all_pairs (λ t. t.pairs) kids) (all_pairs (λ t. t.pairs) (slice_set kids k w)) given
  kids_spread bound most label given free h =
      let inner : IsSpreadIn (unwrap_or (first_label (all_pairs (λ t. t.pairs) (drop (k + 1) kids))) bound) label kid.pairs w.pairs given = subst (λ (n : ℕ). IsSpreadIn n label kid.pairs w.pairs given) free h in
      let up = spread_around (all_pairs (λ t. t.pairs) (take k kids)) kid.pairs (all_pairs (λ t. t.pairs) (drop (k + 1) kids)) bound label w.pairs given inner in
      subst (λ (ps : List (ℕ × R)). IsSpreadIn bound label (all_pairs (λ t. t.pairs) kids) ps given) (sym (parts_set (λ t. t.pairs) kids k w lt))
      (subst (λ (ps : List (ℕ × R)). IsSpreadIn bound label ps (all_pairs (λ t. t.pairs) (take k kids) ++ (w.pairs ++ all_pairs (λ t. t.pairs) (drop (k + 1) kids))) given) (sym kids_at) up)

  -- one of the branches has the same pairs as before: so have all
  pub kids_same : w.pairs ≡ kid.pairs → all_pairs (λ t. t.pairs) (slice_set kids k w) ≡ all_pairs (λ t. t.pairs) kids
  kids_same e =
      parts_set (λ t. t.pairs) kids k w lt ∙ ap (λ (ps : List (ℕ × R)). all_pairs (λ (t : Tree R). t.pairs) (take k kids) ++ (ps ++ all_pairs (λ (t : Tree R). t.pairs) (drop (k + 1) kids))) e ∙ sym kids_at

  -- it has so many, and the others so many
  pub kids_counted : w ≡ kid → (count others : ℕ) (list : List (Tree R)) → list ≡ slice_set kids k w → count ≡ length kid.pairs → others + length (slice_index_or list k kid).pairs ≡ length (all_pairs (λ t. t.pairs) list) → count + others ≡ length (all_pairs (λ t. t.pairs) kids)
  kids_counted same count others list e here there =
      let back : slice_index_or list k kid ≡ w = ap (λ (ks : List (Tree R)). slice_index_or ks k kid) e ∙ get_or-set_same kids k w kid lt in
      omega (
        arith,
        here,
        there,
        ap (λ (t : Tree R). length t.pairs) back,
        ap (λ (t : Tree R). length t.pairs) same,
        ap (λ (ks : List (Tree R)). length (all_pairs (λ (t : Tree R). t.pairs) ks)) e,
        ap length (kids_same (ap (λ (t : Tree R). t.pairs) same)),
      )

-- ALL BRANCHES BUT ONE
module _ {R : Type 0} (kids : List (Tree R)) (k : ℕ) (lt : k < length kids) where
  pub others_count : (d : Tree R) → length (all_pairs (λ t. t.pairs) (take k kids)) + length (all_pairs (λ t. t.pairs) (drop (k + 1) kids)) + length (slice_index_or kids k d).pairs ≡ length (all_pairs (λ t. t.pairs) kids)
  others_count d =
      let kid : Tree R = slice_index_or kids k d in
      omega (
        arith,
        ap length (parts_at (λ (t : Tree R). t.pairs) kids k kid lt (get_or_default kids k d kid lt)),
        length-append (all_pairs (λ (t : Tree R). t.pairs) (take k kids)) (kid.pairs ++ all_pairs (λ (t : Tree R). t.pairs) (drop (k + 1) kids)),
        length-append kid.pairs (all_pairs (λ (t : Tree R). t.pairs) (drop (k + 1) kids)),
      )

  pub behind_all : take (length kids - (k + 1)) (drop (k + 1) kids) ≡ drop (k + 1) kids
  behind_all = take_all (length kids - (k + 1)) (drop (k + 1) kids) (omega (arith, length-drop (k + 1) kids))

-- THE LABEL OF A RUN
module _ {R : Type 0} where
  pub label_of : (l : ℕ) (r : R) (ps : List (ℕ × R)) → Contains ps (l, r) → Contains (labels ps) l
  label_of l r ps c = at ps c.0 c.1 c.2
    where
      at : (qs : List (ℕ × R)) (k : ℕ) → k < length qs → slice_index_or qs k (l, r) ≡ (l, r) → Contains (labels qs) l
      at [] k lt e = absurd (omega (arith, lt))
      at (q ∷ qs) zero lt e = (0, omega arith, ap (λ (p : ℕ × R). p.0) e)
      at (q ∷ qs) (suc k) lt e = let rest = at qs k (omega (arith, lt)) e in Contains-append_right (q.0 ∷ []) (labels qs) l rest

-- THE VISITS
module _ {R : Type 0} where
  pub tree_is : (t u : Tree R) → t.pairs ≡ u.pairs → t.depth ≡ u.depth → t ≡ u
  tree_is t u e f =
      let first : t ≡ record { pairs = u.pairs; depth = t.depth } = ap (λ (ps : List (ℕ × R)). let x : Tree R = record { pairs = ps; depth = t.depth } in x) e in
      let second : record { pairs = u.pairs; depth = t.depth } ≡ u = ap (λ (d : ℕ). let x : Tree R = record { pairs = u.pairs; depth = d } in x) f in
      first ∙ second

  -- all were counted, and then given new labels, or not
  pub within_spread : (t : Tree R) (before mid after : ℕ) (tried : Tried R) → mid + 1 ≤ before + 2 * length t.pairs → after ≤ mid + 2 * length t.pairs → IsIdle mid after tried → IsWithin t before after tried
  within_spread t before mid after (Given given) counted more idle = omega (arith, counted, more)
  within_spread t before mid after (Crowded count) counted more idle = omega (arith, counted, idle)
  within_spread t before mid after NoMemory counted more idle = omega (arith, counted, more)

-- A WHOLE TREE
module _ {R : Type 0} (step : ℕ) where
  rises_join : (low : ℕ) (ps back : List (ℕ × R)) → 1 ≤ step → RisesFrom 0 back → (0 < length back → reached step low ps < first_or_zero back) → RisesFrom low (relabelled step low ps ++ back)
  rises_join low [] [] some h above = tt
  rises_join low [] (y ∷ ys) some h above = (above (omega arith), h.1)
  rises_join low (p ∷ ps) back some h above = (omega arith, rises_join (low + step) ps back some h above)

  rises_swapped : (bottom low : ℕ) (front was back : List (ℕ × R)) → 1 ≤ step → RisesFrom bottom (front ++ (was ++ back)) → 0 < length was → low + 1 ≡ first_or_zero was → (0 < length back → reached step low was < first_or_zero back)
      → RisesFrom bottom (front ++ (relabelled step low was ++ back))
  rises_swapped bottom low [] [] back some h there first above = absurd (omega (arith, there))
  rises_swapped bottom low [] (p ∷ ps) back some h there first above =
      rises_weaker bottom low (relabelled step low (p ∷ ps) ++ back) (omega (arith, h.0, first)) (rises_join low (p ∷ ps) back some (rises_weaker 0 p.0 back (omega arith) (rises_rest p.0 ps back h.1)) above)
  rises_swapped bottom low (x ∷ xs) was back some h there first above = (h.0, rises_swapped x.0 low xs was back some h.1 there first above)

  -- what is noted of a run
  pub noted_run : (low label own : ℕ) (run : R) (ps : List (ℕ × R)) → Contains (renamed step low ps) (label, (own, run)) → Contains ps (label, run) × Contains (relabelled step low ps) (own, run)
  noted_run low label own run ps h = at low ps h.0 h.1 h.2
    where
      at : (low : ℕ) (qs : List (ℕ × R)) (k : ℕ) → k < length (renamed step low qs) → slice_index_or (renamed step low qs) k (label, (own, run)) ≡ (label, (own, run)) → Contains qs (label, run) × Contains (relabelled step low qs) (own, run)
      at low [] k lt e = absurd (omega (arith, lt))
      at low (q ∷ qs) zero lt e =
          ((0, omega arith, ap (λ (n : ℕ × (ℕ × R)). (n.0, n.1.1)) e), (0, omega arith, ap (λ (n : ℕ × (ℕ × R)). n.1) e))
      at low (q ∷ qs) (suc k) lt e =
          let rest = at (low + step) qs k (omega (arith, lt)) e in
          (Contains-append_right (q ∷ []) qs (label, run) rest.0, Contains-append_right ((low + step, q.1) ∷ []) (relabelled step (low + step) qs) (own, run) rest.1)

  pub labels_noted : (low : ℕ) (ps : List (ℕ × R)) → map (λ g. g.0) (renamed step low ps) ≡ labels ps
  labels_noted low [] = refl
  labels_noted low (p ∷ ps) = ap (λ (ls : List ℕ). p.0 ∷ ls) (labels_noted (low + step) ps)

module _ {R : Type 0} where
  -- there is one run at a label
  pub one_at : (low label : ℕ) (ps : List (ℕ × R)) (r s : R) → RisesFrom low ps → Contains ps (label, r) → Contains ps (label, s) → r ≡ s
  one_at low label [] r s h a b = absurd (omega (arith, a.1))
  one_at low label (p ∷ ps) r s h a b = places a.0 b.0 a.1 b.1 a.2 b.2 (λ x y. one_at p.0 label ps r s h.1 x y)
    where
      later : (t : R) → Contains ps (label, t) → p.0 < label
      later t held = All-contains (λ q. p.0 < q.0) ps (label, t) (rises_above p.0 ps h.1) held

      places : (i j : ℕ) → i < length (p ∷ ps) → j < length (p ∷ ps) → slice_index_or (p ∷ ps) i (label, r) ≡ (label, r) → slice_index_or (p ∷ ps) j (label, s) ≡ (label, s) → (Contains ps (label, r) → Contains ps (label, s) → r ≡ s) → r ≡ s
      places zero zero x y d e further = ap (λ (q : ℕ × R). q.1) (sym d ∙ e)
      places zero (suc j) x y d e further =
          let less = later s (j, omega (arith, y), e) in
          absurd (omega (arith, less, ap (λ (q : ℕ × R). q.0) d))
      places (suc i) zero x y d e further =
          let less = later r (i, omega (arith, x), d) in
          absurd (omega (arith, less, ap (λ (q : ℕ × R). q.0) e))
      places (suc i) (suc j) x y d e further = further (i, omega (arith, x), d) (j, omega (arith, y), e)

  bound_first : (bound : ℕ) (back : List (ℕ × R)) (n : ℕ) → n < unwrap_or (first_label back) bound → 0 < length back → n < first_or_zero back
  bound_first bound [] n lt some = absurd (omega (arith, some))
  bound_first bound (y ∷ ys) n lt some = lt

  first_within : (bound : ℕ) (back : List (ℕ × R)) → All (λ p. p.0 < bound) back → unwrap_or (first_label back) bound ≤ bound
  first_within bound [] h = omega arith
  first_within bound (y ∷ ys) h = omega (arith, h 0 y (omega arith))

module _ {R : Type 0} (G : Ghosts R) (n label : ℕ) (old new : Tree R) (given : List (ℕ × (ℕ × R))) (h : IsSpreadIn (2 ^ 64) label old.pairs new.pairs given) (whole : IsWhole G n old) where
  some_was : 0 < length h.was
  some_was = omega (arith, h.held.1, length-map h.was (λ (p : ℕ × R). p.0))

  old_rises : IsRising (h.front ++ (h.was ++ h.back))
  old_rises = subst (λ (ps : List (ℕ × R)). IsRising ps) h.old_is whole.rising

  old_below : All (λ p. p.0 < 2 ^ 64) (h.front ++ (h.was ++ h.back))
  old_below = subst (λ (ps : List (ℕ × R)). All (λ p. p.0 < 2 ^ 64) ps) h.old_is whole.below

  back_below : All (λ p. p.0 < 2 ^ 64) h.back
  back_below = All_right (λ p. p.0 < 2 ^ 64) h.was h.back (All_right (λ p. p.0 < 2 ^ 64) h.front (h.was ++ h.back) old_below)

  small : reached h.step h.low h.was + h.step < unwrap_or (first_label h.back) (2 ^ 64)
  small = small_reached h.step h.low (unwrap_or (first_label h.back) (2 ^ 64)) h.was h.fits

  spread_rises : IsRising (h.front ++ (relabelled h.step h.low h.was ++ h.back))
  spread_rises =
      rises_swapped h.step 0 h.low h.front h.was h.back (omega (arith, h.wide)) old_rises some_was h.first
      (bound_first (2 ^ 64) h.back (reached h.step h.low h.was) (omega (arith, small)))

  spread_below : All (λ p. p.0 < 2 ^ 64) (h.front ++ (relabelled h.step h.low h.was ++ h.back))
  spread_below =
      All-append (λ p. p.0 < 2 ^ 64) h.front (relabelled h.step h.low h.was ++ h.back) (All_front (λ p. p.0 < 2 ^ 64) h.front (h.was ++ h.back) old_below)
      (All-append (λ p. p.0 < 2 ^ 64) (relabelled h.step h.low h.was) h.back (all_below h.step h.low (2 ^ 64) h.was (omega (arith, small, first_within (2 ^ 64) h.back back_below))) back_below)

  -- its runs are the same
  pub spread_runs : runs new.pairs ≡ runs old.pairs
  spread_runs =
      ap (λ (ps : List (ℕ × R)). runs ps) h.new_is ∙ runs_around h.front h.was (relabelled h.step h.low h.was) h.back (runs-relabelled h.step h.low h.was) ∙ sym (ap (λ (ps : List (ℕ × R)). runs ps) h.old_is)

  many : length new.pairs ≡ length old.pairs
  many = length-same new.pairs old.pairs spread_runs

  -- what holds of a tree holds of it after
  pub whole_spread : new.depth ≡ old.depth → IsWhole G n new
  whole_spread deep =
      record {
        counted = whole.counted ∙ sym many;
        rising = subst (λ (ps : List (ℕ × R)). IsRising ps) (sym h.new_is) spread_rises;
        below = subst (λ (ps : List (ℕ × R)). All (λ p. p.0 < 2 ^ 64) ps) (sym h.new_is) spread_below;
        fit = record {
          known = omega (arith, whole.fit.known, total-same G.known new.pairs old.pairs spread_runs);
          prepared = omega (arith, whole.fit.prepared, total-same G.prepared new.pairs old.pairs spread_runs);
          effect = omega (arith, whole.fit.effect, total-same G.effect new.pairs old.pairs spread_runs);
        };
        bound = λ there. subst (λ (d : ℕ). 2 ^ d ≤ 2 * length new.pairs) (sym deep) (omega (arith, whole.bound (omega (arith, there, many)), many));
        flat = λ none. deep ∙ whole.flat (nil_from_length old.pairs (omega (arith, many, ap length none)));
      }

  pub spread_given : AreGivenIn old.pairs new.pairs given
  spread_given =
      record {
        front = h.front;
        was = h.was;
        is = relabelled h.step h.low h.was;
        back = h.back;
        old_is = h.old_is;
        new_is = h.new_is;
        runs_are = runs-relabelled h.step h.low h.was;
        given_is = h.given_is ∙ sym (zip-relabelled h.step h.low h.was);
      }

  -- the run that had the label is noted
  pub spread_noted : Contains (map (λ g. g.0) given) label
  spread_noted = subst (λ (ls : List ℕ). Contains ls label) (sym (ap (map (λ (g : ℕ × (ℕ × R)). g.0)) h.given_is ∙ labels_noted h.step h.low h.was)) h.held

  module _ (own : ℕ) (run : R) (held : Contains given (label, (own, run))) where
    noted : Contains h.was (label, run) × Contains (relabelled h.step h.low h.was) (own, run)
    noted = noted_run h.step h.low label own run h.was (subst (λ (gs : List (ℕ × (ℕ × R))). Contains gs (label, (own, run))) h.given_is held)

    -- it stands under its new label, behind which there is room
    pub spread_own : (r : R) → Contains old.pairs (label, r) → Contains new.pairs (own, r)
    spread_own r there =
        let here : Contains old.pairs (label, run) = subst (λ (ps : List (ℕ × R)). Contains ps (label, run)) (sym h.old_is) (held_all h.front h.was h.back label (label, run) noted.0) in
        let same : run ≡ r = one_at 0 label old.pairs run r whole.rising here there in
        let under : Contains new.pairs (own, run) = subst (λ (ps : List (ℕ × R)). Contains ps (own, run)) (sym h.new_is) (held_all h.front (relabelled h.step h.low h.was) h.back own (own, run) noted.1) in
        subst (λ (x : R). Contains new.pairs (own, x)) same under

    pub spread_room : HasRoom new.pairs own
    spread_room =
        let mid : List (ℕ × R) = relabelled h.step h.low h.was in
        let below = held_below h.front mid h.back own run spread_rises noted.1 in
        let above = held_above h.front mid h.back own run spread_rises noted.1 in
        let label_held : Contains (labels mid) own = label_of own run mid noted.1 in
        let room = room_label h.step h.low own (unwrap_or (first_label h.back) (2 ^ 64)) h.was h.wide (omega (arith, small, h.wide)) label_held in
        subst (λ (ps : List (ℕ × R)). HasRoom ps own) (sym h.new_is) (subst (λ (n : ℕ). own + 1 < n) (sym (next_around h.front mid h.back own (2 ^ 64) below above)) room)

-- COUNTED BRANCHES
module _ {R : Type 0} (kids : List (Tree R)) (k count before visits : ℕ) (h : IsCounting k kids count before visits) where
  module _ (kid : Tree R) (lt : k < length kids) (is : kid ≡ slice_index_or kids k kid) where
    pub counting_small : count + length kid.pairs ≤ length (all_pairs (λ t. t.pairs) kids)
    counting_small =
        omega (
          arith,
          h.count_is,
          ap length (parts_at (λ (t : Tree R). t.pairs) kids k kid lt is),
          length-append (all_pairs (λ (t : Tree R). t.pairs) (take k kids)) (kid.pairs ++ all_pairs (λ (t : Tree R). t.pairs) (drop (k + 1) kids)),
          length-append kid.pairs (all_pairs (λ (t : Tree R). t.pairs) (drop (k + 1) kids)),
        )

    pub counting_more : (own after : ℕ) → own ≡ length kid.pairs → length kid.pairs + 16 * visits ≤ 16 * after → after + 1 ≤ visits + 2 * length kid.pairs → IsCounting (k + 1) kids (count + own) before after
    counting_more own after same grows cost =
        let more = ap length (parts_more (λ (t : Tree R). t.pairs) kids k kid lt is) ∙ length-append (all_pairs (λ (t : Tree R). t.pairs) (take k kids)) kid.pairs in
        record { count_is = omega (arith, h.count_is, same, more); some = omega (arith, h.some, grows, same); cost = omega (arith, h.cost, cost, same) }

  pub counting_all : length kids ≤ k → count ≡ length (all_pairs (λ t. t.pairs) kids)
  counting_all all = h.count_is ∙ ap (λ (ks : List (Tree R)). length (all_pairs (λ t. t.pairs) ks)) (take_all k kids all)
