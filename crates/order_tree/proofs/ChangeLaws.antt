-- Runs of which one gave way to another.
use Rattle.std.proofs.Common.{◌≡◌, ◌≢◌, ℕ, zero, suc, ◌+◌, ◌^◌, ◌<◌, ◌≤◌, Bool, true, false, List, [], ◌∷◌, ◌++◌, length, take, drop, slice_set, slice_index_or, All, Contains, nat_eq, nat_lt, cond, if◌then◌else◌, arith, refl, sym, ap, ◌∙◌, subst, eq-eqb}
use Rattle.std.proofs.lemmas.Bool.{ne_eqb, eqb-true, cond_both, lt-ltb}
use Rattle.std.proofs.lemmas.List.{map-append, length-map, set_split}
use Rattle.std.proofs.lemmas.List.Elements.{All-nil, All-cons, All-head, All-tail, All-weaker, All-contains}
use Rattle.ew_model.specs.declared.run.Run.{Ghosts}
use Rattle.order_tree.specs.declared.summary.Sums.{Sums}
use Rattle.order_tree.specs.declared.summary.Summary.{Summary}
use Rattle.order_tree.specs.Pairs.{Tree, RisesFrom, IsRising, SumsFit, changed}
use Rattle.order_tree.specs.Parts.{first_or_zero, last_known, all_pairs, one_pair, sums_of, summary_of, IsMoved, IsKnownAfter}
use Rattle.order_tree.specs.Shape.{AllBelow}
use Rattle.order_tree.specs.Whole.{IsWhole}
use Rattle.order_tree.proofs.PairLaws.{total-one, rises_above, at_some}
use Rattle.order_tree.proofs.Around.{known_above}
use Rattle.order_tree.proofs.PartLists.{entries_are, parts_at, parts_set}
use Rattle.order_tree.proofs.InnerEdits.{total-around, fit_part}

module _ {R : Type 0} (label : ℕ) (run : R) where
  changed_other : (ps : List (ℕ × R)) → All (λ p. p.0 ≢ label) ps → changed ps label run ≡ ps
  changed_other [] h = refl
  changed_other (p ∷ ps) h =
      let here : nat_eq p.0 label ≡ false = ne_eqb p.0 label (All-head (λ q. q.0 ≢ label) p ps h) in
      rw here (ap (λ (qs : List (ℕ × R)). p ∷ qs) (changed_other ps (All-tail (λ q. q.0 ≢ label) p ps h)))

  -- what has lower or greater labels stays
  pub changed_around : (front mid back : List (ℕ × R)) → All (λ p. p.0 < label) front → All (λ p. label < p.0) back → changed (front ++ (mid ++ back)) label run ≡ front ++ (changed mid label run ++ back)
  changed_around front mid back below above =
      let put : ℕ × R → ℕ × R = λ p. if nat_eq p.0 label then (label, run) else p in
      let f : changed front label run ≡ front = changed_other front (All-weaker (λ p. p.0 < label) (λ p. p.0 ≢ label) (λ p lt e. omega (arith, lt, e)) front below) in
      let b : changed back label run ≡ back = changed_other back (All-weaker (λ p. label < p.0) (λ p. p.0 ≢ label) (λ p lt e. omega (arith, lt, e)) back above) in
      map-append put front (mid ++ back) ∙ ap (λ (xs : List (ℕ × R)). xs ++ changed (mid ++ back) label run) f
      ∙ ap (λ (xs : List (ℕ × R)). front ++ xs) (map-append put mid back ∙ ap (λ (xs : List (ℕ × R)). changed mid label run ++ xs) b)

  changed_one : (p : ℕ × R) → p.0 ≡ label → changed (p ∷ []) label run ≡ (label, run) ∷ []
  changed_one p e = let here : nat_eq p.0 label ≡ true = eq-eqb p.0 label e in rw here refl

  -- labels stay
  label_same : (p : ℕ × R) → (if nat_eq p.0 label then (label, run) else p).0 ≡ p.0
  label_same p = cond_both (nat_eq p.0 label) (label, run) p (λ (q : ℕ × R). q.0 ≡ p.0) (λ z. sym (eqb-true p.0 label z)) (λ z. refl)

  pub rises_changed : (low : ℕ) (ps : List (ℕ × R)) → RisesFrom low ps → RisesFrom low (changed ps label run)
  rises_changed low [] h = tt
  rises_changed low (p ∷ ps) h = (omega (arith, h.0, label_same p), subst (λ (n : ℕ). RisesFrom n (changed ps label run)) (sym (label_same p)) (rises_changed p.0 ps h.1))

  pub below_changed : (bound : ℕ) (ps : List (ℕ × R)) → All (λ p. p.0 < bound) ps → All (λ p. p.0 < bound) (changed ps label run)
  below_changed bound [] h = All-nil (λ p. p.0 < bound)
  below_changed bound (p ∷ ps) h =
      All-cons (λ q. q.0 < bound) (if nat_eq p.0 label then (label, run) else p) (changed ps label run) (omega (arith, All-head (λ q. q.0 < bound) p ps h, label_same p)) (below_changed bound ps (All-tail (λ q. q.0 < bound) p ps h))

  -- the first label too
  pub first_changed : (ps : List (ℕ × R)) → first_or_zero (changed ps label run) ≡ first_or_zero ps
  first_changed [] = refl
  first_changed (p ∷ ps) = label_same p

  pub length-changed : (ps : List (ℕ × R)) → length (changed ps label run) ≡ length ps
  length-changed ps = length-map ps (λ (p : ℕ × R). if nat_eq p.0 label then (label, run) else p)

  none_before : (ps : List (ℕ × R)) → changed ps label run ≡ [] → ps ≡ []
  none_before [] e = refl
  none_before (p ∷ ps) e = absurd (cc)

  -- what holds of a tree holds of it after a change
  pub whole_changed : (G : Ghosts R) (runs : ℕ) (old new : Tree R) → IsWhole G runs old → new.pairs ≡ changed old.pairs label run → new.depth ≡ old.depth → SumsFit G (changed old.pairs label run) → IsWhole G runs new
  whole_changed G runs old new h pairs depth fit =
      let long : length new.pairs ≡ length old.pairs = ap length pairs ∙ length-changed old.pairs in
      record {
        counted = h.counted ∙ sym long;
        rising = rw pairs (rises_changed 0 old.pairs h.rising);
        below = rw pairs (below_changed (2 ^ 64) old.pairs h.below);
        fit = rw pairs fit;
        bound = λ some. rw (depth, long) (h.bound (omega (arith, some, long)));
        flat = λ none. depth ∙ h.flat (none_before old.pairs (sym pairs ∙ none));
      }

-- the last label with a known character is that of a run behind the one that changed, or its own, or one before
module _ {R : Type 0} (known : R → ℕ) (label : ℕ) (run : R) where
  last_own : (n : ℕ) (b : Bool) (own : ℕ) → own ≡ label → (0 < n → label < n) → IsKnownAfter (cond (nat_eq n 0) (cond b own 0) n) label (known run) (cond (nat_eq n 0) (cond (nat_lt 0 (known run)) label 0) n)
  last_own zero true own same later = record { greater = λ lt. absurd (omega (arith, lt, same)); own = λ le some. let e : nat_lt 0 (known run) ≡ true = lt-ltb 0 (known run) some in rw e refl }
  last_own zero false own same later = record { greater = λ lt. absurd (omega (arith, lt)); own = λ le some. let e : nat_lt 0 (known run) ≡ true = lt-ltb 0 (known run) some in rw e refl }
  last_own (suc n) b own same later =
      let old = at_some (suc n) (cond b own 0) (omega arith) in
      let less : label < suc n = later (omega arith) in
      record {
        greater = λ lt. at_some (suc n) (cond (nat_lt 0 (known run)) label 0) (omega arith) ∙ sym old;
        own = λ le some. absurd (omega (arith, le, old, less));
      }

  last_other : (n m : ℕ) (b : Bool) (own : ℕ) → own < label → IsKnownAfter n label (known run) m → IsKnownAfter (cond (nat_eq n 0) (cond b own 0) n) label (known run) (cond (nat_eq m 0) (cond b own 0) m)
  last_other n m b own less h = record { greater = λ lt. stays n b lt h.greater; own = λ le some. comes (h.own (within n b le) some) }
    where
      stays : (n : ℕ) (b : Bool) → label < cond (nat_eq n 0) (cond b own 0) n → (label < n → m ≡ n) → cond (nat_eq m 0) (cond b own 0) m ≡ cond (nat_eq n 0) (cond b own 0) n
      stays zero true lt same = absurd (omega (arith, lt, less))
      stays zero false lt same = absurd (omega (arith, lt))
      stays (suc n) b lt same =
          let e = at_some (suc n) (cond b own 0) (omega arith) in
          ap (λ (k : ℕ). cond (nat_eq k 0) (cond b own 0) k) (same (omega (arith, lt, e)))

      within : (n : ℕ) (b : Bool) → cond (nat_eq n 0) (cond b own 0) n ≤ label → n ≤ label
      within zero b le = omega arith
      within (suc n) b le = let e = at_some (suc n) (cond b own 0) (omega arith) in omega (arith, le, e)

      comes : m ≡ label → cond (nat_eq m 0) (cond b own 0) m ≡ label
      comes e = at_some m (cond b own 0) (omega (arith, e, less)) ∙ e

  pub last_changed : (low : ℕ) (ps : List (ℕ × R)) (r : R) → RisesFrom low ps → Contains ps (label, r) → IsKnownAfter (last_known known ps) label (known run) (last_known known (changed ps label run))
  last_changed low ps r rises h = at h.0 low ps rises h.1 h.2
    where
      at : (k low : ℕ) (ps : List (ℕ × R)) → RisesFrom low ps → k < length ps → slice_index_or ps k (label, r) ≡ (label, r) → IsKnownAfter (last_known known ps) label (known run) (last_known known (changed ps label run))
      at k low [] rises lt e = absurd (omega (arith, lt))
      at zero low (p ∷ ps) rises lt e =
          let same : p.0 ≡ label = ap (λ (q : ℕ × R). q.0) e in
          let here : nat_eq p.0 label ≡ true = eq-eqb p.0 label same in
          let rest : changed ps label run ≡ ps = changed_other label run ps (All-weaker (λ q. p.0 < q.0) (λ q. q.0 ≢ label) (λ q less is. omega (arith, less, is, same)) ps (rises_above p.0 ps rises.1)) in
          let now : changed (p ∷ ps) label run ≡ (label, run) ∷ ps = ap (λ (b : Bool). (if b then (label, run) else p) ∷ changed ps label run) here ∙ ap (λ (qs : List (ℕ × R)). (label, run) ∷ qs) rest in
          subst (λ (qs : List (ℕ × R)). IsKnownAfter (last_known known (p ∷ ps)) label (known run) (last_known known qs)) (sym now)
          (last_own (last_known known ps) (nat_lt 0 (known p.1)) p.0 same (λ some. let more = known_above known p.0 ps rises.1 some in omega (arith, more, same)))
      at (suc k) low (p ∷ ps) rises lt e =
          let less : p.0 < label = All-contains (λ q. p.0 < q.0) ps (label, r) (rises_above p.0 ps rises.1) (k, omega (arith, lt), e) in
          let here : nat_eq p.0 label ≡ false = ne_eqb p.0 label (λ is. omega (arith, is, less)) in
          let now : changed (p ∷ ps) label run ≡ p ∷ changed ps label run = ap (λ (b : Bool). (if b then (label, run) else p) ∷ changed ps label run) here in
          subst (λ (qs : List (ℕ × R)). IsKnownAfter (last_known known (p ∷ ps)) label (known run) (last_known known qs)) (sym now)
          (last_other (last_known known ps) (last_known known (changed ps label run)) (nat_lt 0 (known p.1)) p.0 less (at k p.0 ps rises.1 (omega (arith, lt)) e))

module _ {R : Type 0} (G : Ghosts R) where
  -- the same of what is kept
  pub known_kept : (label : ℕ) (run : R) (old new : List (ℕ × R)) (r : R) (kept : Summary) (gained : ℕ) → IsRising old → Contains old (label, r) → kept ≡ summary_of G old → new ≡ changed old label run → gained ≡ G.known run
      → IsKnownAfter kept.last_known label gained (last_known G.known new)
  known_kept label run old new r kept gained rising held is put more =
      subst (λ (n : ℕ). IsKnownAfter kept.last_known label n (last_known G.known new)) (sym more)
      (subst (λ (n : ℕ). IsKnownAfter n label (G.known run) (last_known G.known new)) (sym (ap (λ (s : Summary). s.last_known) is))
      (subst (λ (ps : List (ℕ × R)). IsKnownAfter (last_known G.known old) label (G.known run) (last_known G.known ps)) (sym put) (last_changed G.known label run 0 old r rising held)))

  -- what a change moves in the middle it moves in the whole
  pub moved_around : (front mid new back : List (ℕ × R)) (lost gained : Sums) → IsMoved (sums_of G mid) lost gained (sums_of G new) → IsMoved (sums_of G (front ++ (mid ++ back))) lost gained (sums_of G (front ++ (new ++ back)))
  moved_around front mid new back lost gained h =
      record {
        less_known = omega (arith, h.less_known, total-around G G.known front mid back);
        less_prepared = omega (arith, h.less_prepared, total-around G G.prepared front mid back);
        less_effect = omega (arith, h.less_effect, total-around G G.effect front mid back);
        known = omega (arith, h.known, total-around G G.known front mid back, total-around G G.known front new back);
        prepared = omega (arith, h.prepared, total-around G G.prepared front mid back, total-around G G.prepared front new back);
        effect = omega (arith, h.effect, total-around G G.effect front mid back, total-around G G.effect front new back);
      }

  -- one run gives its sums, and the other's come
  pub moved_one : (p q : ℕ × R) (lost gained : Sums) → lost.known ≡ G.known p.1 → lost.prepared ≡ G.prepared p.1 → lost.effect ≡ G.effect p.1
      → gained.known ≡ G.known q.1 → gained.prepared ≡ G.prepared q.1 → gained.effect ≡ G.effect q.1 → IsMoved (sums_of G (p ∷ [])) lost gained (sums_of G (q ∷ []))
  moved_one p q lost gained x y z a b c =
      record {
        less_known = omega (arith, x, total-one G.known p);
        less_prepared = omega (arith, y, total-one G.prepared p);
        less_effect = omega (arith, z, total-one G.effect p);
        known = omega (arith, x, a, total-one G.known p, total-one G.known q);
        prepared = omega (arith, y, b, total-one G.prepared p, total-one G.prepared q);
        effect = omega (arith, z, c, total-one G.effect p, total-one G.effect q);
      }

-- A LEAF
module _ {R : Type 0} (G : Ghosts R) (ps : List (ℕ × R)) (k label : ℕ) (p : ℕ × R) (lt : k < length ps) (is : p ≡ slice_index_or ps k p)
    (below : All (λ q. q.0 < label) (all_pairs one_pair (take k ps))) (above : All (λ q. label < q.0) (all_pairs one_pair (drop (k + 1) ps))) where
  entries_at : ps ≡ take k ps ++ ((p ∷ []) ++ drop (k + 1) ps)
  entries_at =
      sym (entries_are ps) ∙ parts_at one_pair ps k p lt is
      ∙ ap (λ (xs : List (ℕ × R)). xs ++ ((p ∷ []) ++ all_pairs one_pair (drop (k + 1) ps))) (entries_are (take k ps))
      ∙ ap (λ (xs : List (ℕ × R)). take k ps ++ ((p ∷ []) ++ xs)) (entries_are (drop (k + 1) ps))

  entries_set : (q : ℕ × R) → slice_set ps k q ≡ take k ps ++ ((q ∷ []) ++ drop (k + 1) ps)
  entries_set q = let next : suc k ≡ k + 1 = omega arith in set_split ps k q lt ∙ ap (λ (j : ℕ). take k ps ++ (q ∷ drop j ps)) next

  pub entry_changed : (run : R) → p.0 ≡ label → slice_set ps k (label, run) ≡ changed ps label run
  entry_changed run same =
      entries_set (label, run)
      ∙ sym (ap (λ (xs : List (ℕ × R)). changed xs label run) entries_at
      ∙ changed_around label run (take k ps) (p ∷ []) (drop (k + 1) ps) (subst (λ (xs : List (ℕ × R)). All (λ q. q.0 < label) xs) (entries_are (take k ps)) below) (subst (λ (xs : List (ℕ × R)). All (λ q. label < q.0) xs) (entries_are (drop (k + 1) ps)) above)
      ∙ ap (λ (xs : List (ℕ × R)). take k ps ++ (xs ++ drop (k + 1) ps)) (changed_one label run p same))

  pub entry_moved : (q : ℕ × R) (lost gained : Sums) → IsMoved (sums_of G (p ∷ [])) lost gained (sums_of G (q ∷ [])) → IsMoved (sums_of G ps) lost gained (sums_of G (slice_set ps k q))
  entry_moved q lost gained h =
      subst (λ (xs : List (ℕ × R)). IsMoved (sums_of G ps) lost gained (sums_of G xs)) (sym (entries_set q))
      (subst (λ (xs : List (ℕ × R)). IsMoved (sums_of G xs) lost gained (sums_of G (take k ps ++ ((q ∷ []) ++ drop (k + 1) ps)))) (sym entries_at)
      (moved_around G (take k ps) (p ∷ []) (q ∷ []) (drop (k + 1) ps) lost gained h))

-- A NODE ABOVE BRANCHES
module _ {R : Type 0} (G : Ghosts R) (kids : List (Tree R)) (k label : ℕ) (kid : Tree R) (lt : k < length kids) (is : kid ≡ slice_index_or kids k kid)
    (below : All (λ p. p.0 < label) (all_pairs (λ t. t.pairs) (take k kids))) (above : All (λ p. label < p.0) (all_pairs (λ t. t.pairs) (drop (k + 1) kids))) where
  kids_at : all_pairs (λ t. t.pairs) kids ≡ all_pairs (λ t. t.pairs) (take k kids) ++ (kid.pairs ++ all_pairs (λ t. t.pairs) (drop (k + 1) kids))
  kids_at = parts_at (λ t. t.pairs) kids k kid lt is

  kids_around : (run : R) → changed (all_pairs (λ t. t.pairs) kids) label run ≡ all_pairs (λ t. t.pairs) (take k kids) ++ (changed kid.pairs label run ++ all_pairs (λ t. t.pairs) (drop (k + 1) kids))
  kids_around run = ap (λ (xs : List (ℕ × R)). changed xs label run) kids_at ∙ changed_around label run (all_pairs (λ t. t.pairs) (take k kids)) kid.pairs (all_pairs (λ t. t.pairs) (drop (k + 1) kids)) below above

  pub kid_fits : (run : R) → SumsFit G (changed (all_pairs (λ t. t.pairs) kids) label run) → SumsFit G (changed kid.pairs label run)
  kid_fits run h =
      fit_part G (all_pairs (λ t. t.pairs) (take k kids)) (changed kid.pairs label run) (all_pairs (λ t. t.pairs) (drop (k + 1) kids)) (subst (λ (xs : List (ℕ × R)). SumsFit G xs) (kids_around run) h)

  pub kid_changed : (run : R) (w : Tree R) → w.pairs ≡ changed kid.pairs label run → all_pairs (λ t. t.pairs) (slice_set kids k w) ≡ changed (all_pairs (λ t. t.pairs) kids) label run
  kid_changed run w e = parts_set (λ t. t.pairs) kids k w lt ∙ ap (λ (xs : List (ℕ × R)). all_pairs (λ t. t.pairs) (take k kids) ++ (xs ++ all_pairs (λ t. t.pairs) (drop (k + 1) kids))) e ∙ sym (kids_around run)

  pub kid_moved : (w : Tree R) (lost gained : Sums) → IsMoved (sums_of G kid.pairs) lost gained (sums_of G w.pairs) → IsMoved (sums_of G (all_pairs (λ t. t.pairs) kids)) lost gained (sums_of G (all_pairs (λ t. t.pairs) (slice_set kids k w)))
  kid_moved w lost gained h =
      subst (λ (xs : List (ℕ × R)). IsMoved (sums_of G (all_pairs (λ t. t.pairs) kids)) lost gained (sums_of G xs)) (sym (parts_set (λ t. t.pairs) kids k w lt))
      (subst (λ (xs : List (ℕ × R)). IsMoved (sums_of G xs) lost gained (sums_of G (all_pairs (λ t. t.pairs) (take k kids) ++ (w.pairs ++ all_pairs (λ t. t.pairs) (drop (k + 1) kids))))) (sym kids_at)
      (moved_around G (all_pairs (λ t. t.pairs) (take k kids)) kid.pairs w.pairs (all_pairs (λ t. t.pairs) (drop (k + 1) kids)) lost gained h))

module _ {R : Type 0} where
  -- a branch with as many runs and levels may stand in the place of one
  pub AllBelow-same : (d : ℕ) (kids : List (Tree R)) (k : ℕ) (kid w : Tree R) → AllBelow d kids → kid ≡ slice_index_or kids k kid → w.depth ≡ kid.depth → length w.pairs ≡ length kid.pairs → AllBelow d (slice_set kids k w)
  AllBelow-same d [] k kid w h is deep long = tt
  AllBelow-same d (x ∷ xs) zero kid w h is deep long =
      let deep' : w.depth ≡ x.depth = deep ∙ ap (λ (t : Tree R). t.depth) is in
      let long' : length w.pairs ≡ length x.pairs = long ∙ ap (λ (t : Tree R). length t.pairs) is in
      (rw deep' h.0, rw (deep', long') h.1, h.2)
  AllBelow-same d (x ∷ xs) (suc k) kid w h is deep long = (h.0, h.1, AllBelow-same d xs k kid w h.2 is deep long)
