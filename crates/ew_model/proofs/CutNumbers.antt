-- Numbers that pass a test, before and after one more number: what the rule for each cut says of all cuts.
use Rattle.std.proofs.Common.{◌≡◌, ℕ, zero, suc, ◌-◌, ◌<◌, ◌≤◌, Bool, true, false, cond, ◌&&◌, ◌||◌, ◌⊎◌, inl, inr, nat_le, nat_lt, List, [], ◌∷◌, ◌++◌, length, filter, refl, sym, ap, ◌∙◌, arith, append-nil, lt-ltb, le-ltb, length-append}
use Rattle.std.proofs.lemmas.Bool.{or_left, leb-true, leb-false, eq-eqb, ne_eqb}
use Rattle.std.proofs.lemmas.List.Elements.{filter-append}
use Rattle.ew_model.specs.Graph.{greatest_to, passing_to}
use Rattle.ew_model.specs.CutChange.{stays_behind, CutsChange}

module _ (was is : ℕ → Bool) (n top : ℕ) (heads : Bool) (within : top ≤ n) (start : was 0 ≡ true) (begins : is 0 ≡ true) (step : (k : ℕ) → k ≤ n → is k ≡ (was k && stays_behind top heads k)) where
  abbrev stays : ℕ → Bool
  stays k = stays_behind top heads k

  start_stays : stays 0 ≡ true
  start_stays = sym (λ i. start i && stays 0) ∙ sym (step 0 (omega arith)) ∙ begins

  one_kept : (b : Bool) (xs : List ℕ) (k : ℕ) → stays k ≡ b → cond b (filter stays xs ++ k ∷ []) (filter stays xs) ≡ filter stays (xs ++ k ∷ [])
  one_kept true xs k q = sym (filter-append stays xs (k ∷ []) ∙ ap (λ b. filter stays xs ++ cond b (k ∷ []) []) q)
  one_kept false xs k q = sym (filter-append stays xs (k ∷ []) ∙ ap (λ b. filter stays xs ++ cond b (k ∷ []) []) q ∙ append-nil (filter stays xs))

  more_kept : (c : Bool) (xs : List ℕ) (k : ℕ) → cond (c && stays k) (filter stays xs ++ k ∷ []) (filter stays xs) ≡ filter stays (cond c (xs ++ k ∷ []) xs)
  more_kept true xs k = one_kept (stays k) xs k refl
  more_kept false xs k = refl

  pub passing_kept : (m : ℕ) → m ≤ n → passing_to is m ≡ filter stays (passing_to was m)
  passing_kept zero h = sym (ap (λ b. cond b (0 ∷ []) []) start_stays)
  passing_kept (suc m) h =
      (λ i. cond (step (suc m) h i) (passing_kept m (omega (arith, h)) i ++ suc m ∷ []) (passing_kept m (omega (arith, h)) i))
      ∙ more_kept (was (suc m)) (passing_to was m) (suc m)

  pub passing_with : is (suc n) ≡ true → passing_to is (suc n) ≡ filter stays (passing_to was n) ++ suc n ∷ []
  passing_with new =
      ap (λ b. cond b (passing_to is n ++ suc n ∷ []) (passing_to is n)) new
      ∙ ap (λ cs. cs ++ suc n ∷ []) (passing_kept n (omega arith))

  and_yes : (c b : Bool) → b ≡ true → (c && b) ≡ c
  and_yes true b q = q
  and_yes false b q = refl

  and_no : (c b : Bool) → b ≡ false → (c && b) ≡ false
  and_no true b q = q
  and_no false b q = refl

  pub low_greatest : (m : ℕ) → m < top → greatest_to is m ≡ greatest_to was m
  low_greatest zero h = refl
  low_greatest (suc m) h =
      let kept : stays (suc m) ≡ true = or_left (nat_lt (suc m) top) _ (lt-ltb (suc m) top h) in
      λ i. cond ((step (suc m) (omega (arith, h, within)) ∙ and_yes (was (suc m)) (stays (suc m)) kept) i) (suc m) (low_greatest m (omega (arith, h)) i)

  -- the greatest from the last parent on
  abbrev at_top : ℕ
  at_top = cond (was top && heads) top (greatest_to was (top - 1))

  nothing_below : (b : Bool) (t : ℕ) → t ≤ 0 → 0 ≡ cond b t (greatest_to was (t - 1))
  nothing_below true t h = omega (arith, h)
  nothing_below false t h = let none : 0 ≡ t = omega (arith, h) in ap (λ k. greatest_to was (k - 1)) none

  high_at : (m : ℕ) → (top ≤ m) ⊎ (top ≡ suc m) → suc m ≤ n → (top ≤ m → greatest_to is m ≡ at_top) → greatest_to is (suc m) ≡ at_top
  high_at m (inl above) h ih =
      let stops : stays (suc m) ≡ false = λ i. le-ltb (suc m) top (omega (arith, above)) i || (ne_eqb (suc m) top (λ q. omega (arith, q, above)) i && heads) in
      ap (λ b. cond b (suc m) (greatest_to is m)) (step (suc m) h ∙ and_no (was (suc m)) (stays (suc m)) stops) ∙ ih above
  high_at m (inr at) h ih =
      let rule : stays (suc m) ≡ heads = λ i. le-ltb (suc m) top (omega (arith, at)) i || (eq-eqb (suc m) top (sym at) i && heads) in
      let under : m ≡ top - 1 = omega (arith, at) in
      ap (λ b. cond b (suc m) (greatest_to is m)) (step (suc m) h ∙ ap (λ b. was (suc m) && b) rule)
      ∙ ap (λ k. cond (was (suc m) && heads) (suc m) k) (low_greatest m (omega (arith, at)))
      ∙ (λ i. cond (was (sym at i) && heads) (sym at i) (greatest_to was (under i)))

  two_ways : (k m : ℕ) → k ≤ suc m → (k ≤ m) ⊎ (k ≡ suc m)
  two_ways k m h = at (nat_le k m) refl
    where
      at : (b : Bool) → nat_le k m ≡ b → (k ≤ m) ⊎ (k ≡ suc m)
      at true q = inl (leb-true k m q)
      at false q = inr (omega (arith, h, leb-false k m q))

  pub high_greatest : (m : ℕ) → top ≤ m → m ≤ n → greatest_to is m ≡ at_top
  high_greatest zero h k = nothing_below (was top && heads) top h
  high_greatest (suc m) h k = high_at m (two_ways top m h) k (λ q. high_greatest m q (omega (arith, k)))

-- The rule for each cut, and that the whole length is one, is all.
pub cuts_change : {E : Type 0} (is_cut : List E → ℕ → Bool) (events : List E) (e : E) (top : ℕ) (heads : Bool) → top ≤ length events → ((some : List E) → is_cut some 0 ≡ true) → ((some : List E) → is_cut some (length some) ≡ true)
    → ((k : ℕ) → k ≤ length events → is_cut (events ++ e ∷ []) k ≡ (is_cut events k && stays_behind top heads k)) → CutsChange is_cut events e top heads
cuts_change is_cut events e top heads within start end step =
    let was = is_cut events in
    let is = is_cut (events ++ e ∷ []) in
    let long : length (events ++ e ∷ []) ≡ suc (length events) = omega (arith, length-append events (e ∷ [])) in
    let new : is_cut (events ++ e ∷ []) (suc (length events)) ≡ true = ap (is_cut (events ++ e ∷ [])) (sym long) ∙ end (events ++ e ∷ []) in
    record {
      old = step;
      new = new;
      all = ap (passing_to is) long ∙ passing_with was is (length events) top heads within (start events) (start (events ++ e ∷ [])) step new;
      latest_low = low_greatest was is (length events) top heads within (start events) (start (events ++ e ∷ [])) step;
      latest_high = high_greatest was is (length events) top heads within (start events) (start (events ++ e ∷ [])) step;
    }
