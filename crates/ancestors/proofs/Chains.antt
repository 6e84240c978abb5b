-- A walk that takes a chain of events at once.
use Rattle.std.proofs.Common.{◌≡◌, ℕ, zero, suc, ◌+◌, ◌-◌, ◌<◌, ◌≤◌, ◌⊎◌, inl, inr, ⊎_elim, Bool, true, false, cond, ◌&&◌, ◌||◌, nat_eq, List, [], ◌∷◌, ◌++◌, length, reverse, refl, sym, ap, ◌∙◌, subst, arith, length-append, ne_eqb}
use Rattle.std.specs.List.{range_with_len}
use Rattle.std.proofs.Math.Bool.{or-false, and-false}
use Rattle.std.proofs.lemmas.Bool.{false_from_ne_true, eqb-true, eqb-false, or_left, or_right}
use Rattle.std.proofs.lemmas.Cmp.{nat_eq_equiv}
use Rattle.std.proofs.lemmas.List.{length-reverse, reverse-append}
use Rattle.std.proofs.lemmas.List.Folds.{list_any-append}
use Rattle.std.proofs.lemmas.List.FromFn.{length-range_with_len}
use Rattle.ew_model.specs.Graph.{is_named}
use Rattle.ew_model.specs.Positions.{parents_at, IsHistoryOfParents}
use Rattle.ew_model.proofs.PositionWalk.{taken, after_taking, turn, taken_below}
use Rattle.ew_model.proofs.PositionSides.{any_reversed}
use Rattle.frontier.specs.Chains.{IsChain}

-- RISING POSITIONS WITHOUT A GAP

-- with one more at the end
range_more : (from count last : ℕ) → from + count ≡ last → range_with_len from (suc count) ≡ range_with_len from count ++ last ∷ []
range_more from zero last e = let same : from ≡ last = omega (arith, e) in ap (λ n. n ∷ []) same
range_more from (suc count) last e = ap (λ ps. from ∷ ps) (range_more (from + 1) count last (omega (arith, e)))

-- from a position to itself
pub range_one : (first n : ℕ) → first ≡ n → range_with_len first (n + 1 - first) ≡ n ∷ []
range_one first n here = let one : n + 1 - first ≡ 1 = omega (arith, here) in ap (range_with_len first) one ∙ ap (λ (k : ℕ). k ∷ []) here

-- from a position to one above it
pub range_up : (first before n : ℕ) → n ≡ suc before → first ≤ before → range_with_len first (n + 1 - first) ≡ range_with_len first (before + 1 - first) ++ n ∷ []
range_up first before n behind order =
    let more : n + 1 - first ≡ suc (before + 1 - first) = omega (arith, behind, order) in
    ap (range_with_len first) more ∙ range_more first (before + 1 - first) n (omega (arith, behind, order))

-- a position among them
in_range : (from count p : ℕ) → from ≤ p → p < from + count → is_named nat_eq (range_with_len from count) p ≡ true
in_range from zero p low high = absurd (omega (arith, low, high))
in_range from (suc count) p low high = at (nat_eq p from) refl (λ l. in_range (from + 1) count p l (omega (arith, high)))
  where
    at : (b : Bool) → nat_eq p from ≡ b → (from + 1 ≤ p → is_named nat_eq (range_with_len (from + 1) count) p ≡ true) → is_named nat_eq (range_with_len from (suc count)) p ≡ true
    at true e later = or_left (nat_eq p from) (is_named nat_eq (range_with_len (from + 1) count) p) e
    at false e later = let ne = eqb-false p from e in or_right (nat_eq p from) (is_named nat_eq (range_with_len (from + 1) count) p) (later (omega (arith, low, ne)))

-- a position that isn't
off_range : (from count p : ℕ) → (p < from) ⊎ (from + count ≤ p) → is_named nat_eq (range_with_len from count) p ≡ false
off_range from zero p off = refl
off_range from (suc count) p (inl low) = ap (λ b. b || is_named nat_eq (range_with_len (from + 1) count) p) (ne_eqb p from (λ e. omega (arith, low, e))) ∙ off_range (from + 1) count p (inl (omega (arith, low)))
off_range from (suc count) p (inr high) = ap (λ b. b || is_named nat_eq (range_with_len (from + 1) count) p) (ne_eqb p from (λ e. omega (arith, high, e))) ∙ off_range (from + 1) count p (inr (omega (arith, high)))

-- ONE STEP DOWN A CHAIN

nothing_kept : (b : Bool) → cond b false false ≡ false
nothing_kept true = refl
nothing_kept false = refl

-- The event n has one parent, the event before it. With n taken off, that one passes where n did, and the rest of the
-- chain is still to come.
module _ (history : List (List ℕ)) (first before n : ℕ) (old new : ℕ → Bool) (behind : n ≡ suc before) (order : first ≤ before) (link : parents_at history n ≡ before ∷ [])
    (clear : (m : ℕ) → first ≤ m → m < n → old m ≡ false) (next : (m : ℕ) → new m ≡ after_taking old (parents_at history first) n m) where
  abbrev one_down : ℕ → Bool
  one_down = after_taking old (parents_at history n) n

  down_is : (m : ℕ) → one_down m ≡ (cond (nat_eq n m) false (old m) || (old n && nat_eq m before))
  down_is m = ap (λ ps. cond (nat_eq n m) false (old m) || (old n && is_named nat_eq ps m)) link ∙ ap (λ b. cond (nat_eq n m) false (old m) || (old n && b)) (or-false (nat_eq m before))

  other_down : (m : ℕ) → nat_eq m before ≡ false → one_down m ≡ cond (nat_eq n m) false (old m)
  other_down m e = down_is m ∙ ap (λ b. cond (nat_eq n m) false (old m) || (old n && b)) e ∙ ap (λ b. cond (nat_eq n m) false (old m) || b) (and-false (old n)) ∙ or-false (cond (nat_eq n m) false (old m))

  pub down_at : one_down before ≡ old n
  down_at =
      down_is before
      ∙ ap (λ b. cond (nat_eq n before) false b || (old n && nat_eq before before)) (clear before order (omega (arith, behind)))
      ∙ (λ i. nothing_kept (nat_eq n before) i || (old n && nat_eq_equiv.refl before i))
      ∙ and_true (old n)
    where
      and_true : (b : Bool) → (b && true) ≡ b
      and_true true = refl
      and_true false = refl

  pub down_clear : (m : ℕ) → first ≤ m → m < before → one_down m ≡ false
  down_clear m low high =
      other_down m (ne_eqb m before (λ e. omega (arith, high, e)))
      ∙ ap (λ b. cond (nat_eq n m) false b) (clear m low (omega (arith, high, behind)))
      ∙ nothing_kept (nat_eq n m)

  pub down_next : (m : ℕ) → new m ≡ after_taking one_down (parents_at history first) before m
  down_next m =
      next m
      ∙ (λ i. sym (kept (nat_eq before m) refl) i || (sym down_at i && is_named nat_eq (parents_at history first) m))
    where
      kept : (b : Bool) → nat_eq before m ≡ b → cond (nat_eq before m) false (one_down m) ≡ cond (nat_eq n m) false (old m)
      kept true e =
          let here = eqb-true before m e in
          ap (λ b. cond b false (one_down m)) e
          ∙ sym (ap (λ b. cond (nat_eq n m) false b) (clear m (omega (arith, order, here)) (omega (arith, behind, here))) ∙ nothing_kept (nat_eq n m))
      kept false e = ap (λ b. cond b false (one_down m)) e ∙ other_down m (nat_eq_equiv.symm m before ∙ e)

-- A WHOLE CHAIN

-- A walk comes to n, the highest pending; nothing else is pending in the chain to n from its first event on.
pub record Reached (history : List (List ℕ)) (first n : ℕ) (pending : ℕ → Bool) : Type 0 where
  pub within : n < length history
  pub chain : IsChain history first n
  pub here : pending n ≡ true
  pub above : (m : ℕ) → n < m → pending m ≡ false
  pub clear : (m : ℕ) → first ≤ m → m < n → pending m ≡ false

-- what a walk takes that comes to n: the chain from n down to its first event, and then what is pending below that
pub record Stretch (history : List (List ℕ)) (first n : ℕ) (old new : ℕ → Bool) : Type 0 where
  pub order : first ≤ n
  pub walk : taken (reverse history) old ≡ reverse (range_with_len first (n + 1 - first)) ++ taken (reverse history) new
  pub below : (m : ℕ) → new m ≡ true → m < first

stretch_by : (history : List (List ℕ)) → IsHistoryOfParents history → (first count n : ℕ) (old new : ℕ → Bool) → n ≡ first + count → Reached history first n old
    → ((m : ℕ) → new m ≡ after_taking old (parents_at history first) n m) → Stretch history first n old new
stretch_by history good first zero n old new long r next =
    let here : first ≡ n = omega (arith, long) in
    let put : (m : ℕ) → new m ≡ after_taking old (parents_at history n) n m = subst (λ (k : ℕ). (m : ℕ) → new m ≡ after_taking old (parents_at history k) n m) here next in
    record {
      order = r.chain.order;
      walk =
          turn history good n r.within old new r.above put
          ∙ ap (λ b. cond b (n ∷ taken (reverse history) new) (taken (reverse history) new)) r.here
          ∙ sym (ap (λ ps. reverse ps ++ taken (reverse history) new) (range_one first n here));
      below = λ m e. let low = taken_below history good n r.within old new r.above put m e in omega (arith, low, here);
    }
stretch_by history good first (suc count) n old new long r next =
    let before : ℕ = first + count in
    let behind : n ≡ suc before = omega (arith, long) in
    let order : first ≤ before = omega arith in
    let link : parents_at history n ≡ before ∷ [] = ap (parents_at history) behind ∙ r.chain.links before order (omega (arith, behind)) in
    let mid : ℕ → Bool = after_taking old (parents_at history n) n in
    let low : (m : ℕ) → mid m ≡ true → m < n = taken_below history good n r.within old mid r.above (λ m. refl) in
    let reached : Reached history first before mid = record {
      within = let within = r.within in omega (arith, behind, within);
      chain = record { order = order; links = λ lv from to. r.chain.links lv from (omega (arith, to, behind)) };
      here = down_at history first before n old new behind order link r.clear next ∙ r.here;
      above = λ m l. false_from_ne_true (mid m) (λ e. let less = low m e in omega (arith, less, l, behind));
      clear = down_clear history first before n old new behind order link r.clear next;
    } in
    let rest = stretch_by history good first count before mid new refl reached (down_next history first before n old new behind order link r.clear next) in
    record {
      order = r.chain.order;
      walk =
          turn history good n r.within old mid r.above (λ m. refl)
          ∙ ap (λ b. cond b (n ∷ taken (reverse history) mid) (taken (reverse history) mid)) r.here
          ∙ ap (λ ps. n ∷ ps) rest.walk
          ∙ sym (ap (λ ps. ps ++ taken (reverse history) new) (ap reverse (range_up first before n behind order) ∙ reverse-append (range_with_len first (before + 1 - first)) (n ∷ [])));
      below = rest.below;
    }

pub stretch_of : (history : List (List ℕ)) → IsHistoryOfParents history → (first n : ℕ) (old new : ℕ → Bool) → Reached history first n old
    → ((m : ℕ) → new m ≡ after_taking old (parents_at history first) n m) → Stretch history first n old new
stretch_of history good first n old new r next =
    let order = r.chain.order in
    stretch_by history good first (n - first) n old new (omega (arith, order)) r next

-- A position is taken in the chain or later.
taken_of : (history : List (List ℕ)) (first n p : ℕ) (old new : ℕ → Bool) → Stretch history first n old new
    → is_named nat_eq (taken (reverse history) old) p ≡ (is_named nat_eq (range_with_len first (n + 1 - first)) p || is_named nat_eq (taken (reverse history) new) p)
taken_of history first n p old new t =
    let chain : List ℕ = range_with_len first (n + 1 - first) in
    ap (λ ps. is_named nat_eq ps p) t.walk ∙ list_any-append (nat_eq p) (reverse chain) (taken (reverse history) new) ∙ ap (λ b. b || is_named nat_eq (taken (reverse history) new) p) (any_reversed (nat_eq p) chain)

-- one of the chain is taken
pub taken_there : (history : List (List ℕ)) → IsHistoryOfParents history → (first n p : ℕ) (pending : ℕ → Bool) → Reached history first n pending → first ≤ p → p ≤ n → is_named nat_eq (taken (reverse history) pending) p ≡ true
taken_there history good first n p pending r low high =
    let later : ℕ → Bool = after_taking pending (parents_at history first) n in
    taken_of history first n p pending later (stretch_of history good first n pending later r (λ m. refl))
    ∙ or_left (is_named nat_eq (range_with_len first (n + 1 - first)) p) (is_named nat_eq (taken (reverse history) later) p)
    (in_range first (n + 1 - first) p low (omega (arith, low, high)))

-- another one is taken later or not at all
pub taken_beside : (history : List (List ℕ)) (first n p : ℕ) (old new : ℕ → Bool) → Stretch history first n old new → (p < first) ⊎ (n < p) → is_named nat_eq (taken (reverse history) new) p ≡ is_named nat_eq (taken (reverse history) old) p
taken_beside history first n p old new t off =
    let order = t.order in
    sym (taken_of history first n p old new t
    ∙ ap (λ b. b || is_named nat_eq (taken (reverse history) new) p) (off_range first (n + 1 - first) p (⊎_elim (λ low. inl low) (λ high. inr (omega (arith, high, order))) off)))

-- there is less to take
pub stretch_lessens : (history : List (List ℕ)) (first n : ℕ) (old new : ℕ → Bool) → Stretch history first n old new → length (taken (reverse history) new) < length (taken (reverse history) old)
stretch_lessens history first n old new t =
    let chain : List ℕ = range_with_len first (n + 1 - first) in
    let e = ap length t.walk ∙ length-append (reverse chain) (taken (reverse history) new) ∙ ap (λ (k : ℕ). k + length (taken (reverse history) new)) (length-reverse chain ∙ length-range_with_len first (n + 1 - first)) in
    let order = t.order in
    omega (arith, e, order)

pub stretch_within : (history : List (List ℕ)) (first n : ℕ) (old new : ℕ → Bool) → Stretch history first n old new → n < length history → (q : ℕ) → new q ≡ true → q < length history
stretch_within history first n old new t within q e = let low = t.below q e in let order = t.order in omega (arith, low, within, order)
