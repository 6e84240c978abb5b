-- Labels that are spread evenly.
use Rattle.std.proofs.Common.{◌≡◌, ℕ, zero, suc, ◌+◌, ◌-◌, ◌*◌, ◌/◌, ◌%◌, ◌^◌, ◌<◌, ◌≤◌, ◌⊎◌, inl, inr, true, false, List, [], ◌∷◌, length, All, Contains, slice_index, slice_index_or, nat_lt, arith, refl, sym, ap, ◌∙◌, subst}
use Rattle.std.specs.Prelude.{zip}
use Rattle.std.proofs.lemmas.Bool.{lt-ltb, le-ltb}
use Rattle.std.proofs.lemmas.List.{nil_from_length}
use Rattle.std.proofs.lemmas.List.Elements.{All-nil, All-cons, All-contains}
use Rattle.std.proofs.Math.Nat.{mul-div-le, mul-le-mul_left, mod-add-div}
use Rattle.ew_model.specs.declared.run.Run.{Ghosts}
use Rattle.order_tree.specs.Pairs.{Tree, labels, runs, RisesFrom, IsRising, HasRoomBelow, HasRoom, total, AreSpread}
use Rattle.order_tree.specs.Relabels.{relabelled, renamed, reached}
use Rattle.order_tree.specs.Whole.{IsWhole}
use Rattle.order_tree.proofs.PairLaws.{rises_above, has_label}
use Rattle.order_tree.proofs.RelabelLaws.{length-relabelled, total-relabelled, reached-grows}

-- the widest step
more_times : (a b : ℕ) → a * (b + 1) ≡ a * b + a
more_times a b = grind arith

pub times_more : (a b : ℕ) → (a + 1) * b ≡ b + a * b
times_more a b = grind arith

pub step_fits : (n step : ℕ) → step ≡ (2 ^ 64 - 1) / (n + 1) → (n + 1) * step < 2 ^ 64
step_fits n step is =
    let le : (n + 1) * step ≤ 2 ^ 64 - 1 = subst (λ (s : ℕ). (n + 1) * s ≤ 2 ^ 64 - 1) (sym is) (mul-div-le (2 ^ 64 - 1) (n + 1)) in
    omega (arith, le)

pub step_widest : (n step : ℕ) → step ≡ (2 ^ 64 - 1) / (n + 1) → 2 ^ 64 ≤ (n + 1) * (step + 1)
step_widest n step is =
    let all : (2 ^ 64 - 1) % (n + 1) + (n + 1) * step ≡ 2 ^ 64 - 1 = subst (λ (s : ℕ). (2 ^ 64 - 1) % (n + 1) + (n + 1) * s ≡ 2 ^ 64 - 1) (sym is) (mod-add-div (2 ^ 64 - 1) (n + 1)) in
    let rest : (2 ^ 64 - 1) % (n + 1) < n + 1 = omega arith in
    omega (arith, all, rest, more_times (n + 1) step)

some_of : (n step : ℕ) → n < 2 ^ 32 → 2 ^ 64 ≤ (n + 1) * (step + 1) → (step + 1 ≤ 2 → (n + 1) * (step + 1) ≤ (n + 1) * 2) → 2 ≤ step
some_of n step few wide little = grind arith

pub step_some : (n step : ℕ) → n < 2 ^ 32 → 2 ^ 64 ≤ (n + 1) * (step + 1) → 2 ≤ step
step_some n step few wide = some_of n step few wide (λ le. mul-le-mul_left (n + 1) le)

module _ {R : Type 0} (step : ℕ) where
  pub reached_is : (low : ℕ) (ps : List (ℕ × R)) → reached step low ps ≡ low + length ps * step
  reached_is low [] = omega arith
  reached_is low (p ∷ ps) = let more : suc (length ps) ≡ length ps + 1 = omega arith in rw more (omega (arith, reached_is (low + step) ps, times_more (length ps) step))

  pub runs-relabelled : (low : ℕ) (ps : List (ℕ × R)) → runs (relabelled step low ps) ≡ runs ps
  runs-relabelled low [] = refl
  runs-relabelled low (p ∷ ps) = ap (λ (rs : List R). p.1 ∷ rs) (runs-relabelled (low + step) ps)

  pub zip-relabelled : (low : ℕ) (ps : List (ℕ × R)) → zip (labels ps) (relabelled step low ps) ≡ renamed step low ps
  zip-relabelled low [] = refl
  zip-relabelled low (p ∷ ps) = ap (λ (ls : List (ℕ × (ℕ × R))). (p.0, (low + step, p.1)) ∷ ls) (zip-relabelled (low + step) ps)

  each_label : (low : ℕ) (ps : List (ℕ × R)) (k : ℕ) → k < length ps → slice_index (labels (relabelled step low ps)) k ≡ low + (k + 1) * step
  each_label low [] k lt = absurd (omega (arith, lt))
  each_label low (p ∷ ps) zero lt = omega arith
  each_label low (p ∷ ps) (suc k) lt =
      let more : suc k + 1 ≡ (k + 1) + 1 = omega arith in
      rw more (omega (arith, each_label (low + step) ps k (omega (arith, lt)), times_more (k + 1) step))

  pub rises : (low : ℕ) (ps : List (ℕ × R)) → 1 ≤ step → RisesFrom low (relabelled step low ps)
  rises low [] some = tt
  rises low (p ∷ ps) some = (omega arith, rises (low + step) ps some)

  pub all_below : (low bound : ℕ) (ps : List (ℕ × R)) → reached step low ps < bound → All (λ p. p.0 < bound) (relabelled step low ps)
  all_below low bound [] lt = All-nil (λ p. p.0 < bound)
  all_below low bound (p ∷ ps) lt = All-cons (λ p. p.0 < bound) (low + step, p.1) (relabelled step (low + step) ps) (omega (arith, lt, reached-grows step (low + step) ps)) (all_below (low + step) bound ps lt)

  -- there is room below all labels
  pub room_low : (low label bound : ℕ) (ps : List (ℕ × R)) → 2 ≤ step → label ≤ low → label + 1 < bound → HasRoomBelow bound (relabelled step low ps) label
  room_low low label bound [] some le lt = lt
  room_low low label bound (p ∷ ps) some le lt =
      let here : nat_lt label (low + step) ≡ true = lt-ltb label (low + step) (omega arith) in
      rw here (omega arith)

  -- and behind each
  pub room_label : (low label bound : ℕ) (ps : List (ℕ × R)) → 2 ≤ step → reached step low ps + 1 < bound → Contains (labels (relabelled step low ps)) label → HasRoomBelow bound (relabelled step low ps) label
  room_label low label bound [] some lt h = absurd (omega (arith, h.1))
  room_label low label bound (p ∷ ps) some lt h = by_place h.0 h.1 h.2 (λ rest. room_label (low + step) label bound ps some lt rest)
    where
      later : low + step ≤ label → HasRoomBelow bound (relabelled step (low + step) ps) label → HasRoomBelow bound (relabelled step low (p ∷ ps)) label
      later le room = let here : nat_lt label (low + step) ≡ false = le-ltb label (low + step) le in rw here room

      by_place : (k : ℕ) → k < length (labels (relabelled step low (p ∷ ps))) → slice_index_or (labels (relabelled step low (p ∷ ps))) k label ≡ label
          → (Contains (labels (relabelled step (low + step) ps)) label → HasRoomBelow bound (relabelled step (low + step) ps) label) → HasRoomBelow bound (relabelled step low (p ∷ ps)) label
      by_place zero less e further = later (omega (arith, e)) (room_low (low + step) label bound ps some (omega (arith, e)) (omega (arith, e, lt, reached-grows step (low + step) ps)))
      by_place (suc k) less e further =
          let rest : Contains (labels (relabelled step (low + step) ps)) label = (k, omega (arith, less), e) in
          let held = has_label (relabelled step (low + step) ps) label rest in
          let above : low + step < label = All-contains (λ q. low + step < q.0) (relabelled step (low + step) ps) (label, held.0) (rises_above (low + step) (relabelled step (low + step) ps) (rises (low + step) ps (omega arith))) held.1 in
          later (omega (arith, above)) (further rest)

module _ {R : Type 0} (step : ℕ) (old new : List (ℕ × R)) (is : new ≡ relabelled step 0 old) (step_is : step ≡ (2 ^ 64 - 1) / (length old + 1)) (few : length old < 2 ^ 32) where
  pub step_two : 2 ≤ step
  step_two = step_some (length old) step few (step_widest (length old) step step_is)

  pub reached_small : reached step 0 old + step < 2 ^ 64
  reached_small = omega (arith, step_fits (length old) step step_is, reached_is step 0 old, times_more (length old) step)

  long : length new ≡ length old
  long = ap length is ∙ length-relabelled step 0 old

  pub spread : AreSpread new
  spread =
      record {
        step = step;
        each = λ k lt. subst (λ (ps : List (ℕ × R)). slice_index (labels ps) k ≡ (k + 1) * step) (sym is) (omega (arith, each_label step 0 old k (omega (arith, lt, long))));
        fits = subst (λ (n : ℕ). (n + 1) * step < 2 ^ 64) (sym long) (step_fits (length old) step step_is);
        widest = subst (λ (n : ℕ). 2 ^ 64 ≤ (n + 1) * (step + 1)) (sym long) (step_widest (length old) step step_is);
      }

  pub room : (label : ℕ) → (label ≡ 0) ⊎ Contains (labels new) label → HasRoom new label
  room label (inl none) = subst (λ (ps : List (ℕ × R)). HasRoom ps label) (sym is) (room_low step 0 label (2 ^ 64) old step_two (omega (arith, none)) (omega (arith, none)))
  room label (inr held) =
      let there : Contains (labels (relabelled step 0 old)) label = subst (λ (ps : List (ℕ × R)). Contains (labels ps) label) is held in
      subst (λ (ps : List (ℕ × R)). HasRoom ps label) (sym is) (room_label step 0 label (2 ^ 64) old step_two (omega (arith, reached_small, step_two)) there)

module _ {R : Type 0} (G : Ghosts R) (n step : ℕ) (old new : Tree R) (h : IsWhole G n old) (is : new.pairs ≡ relabelled step 0 old.pairs) (deep : new.depth ≡ old.depth) (some : 2 ≤ step) (small : reached step 0 old.pairs < 2 ^ 64) where
  same_length : length new.pairs ≡ length old.pairs
  same_length = ap length is ∙ length-relabelled step 0 old.pairs

  bound_still : 0 < length new.pairs → 2 ^ new.depth ≤ 2 * length new.pairs
  bound_still there = subst (λ (d : ℕ). 2 ^ d ≤ 2 * length new.pairs) (sym deep) (omega (arith, h.bound (omega (arith, there, same_length)), same_length))

  -- what holds of a tree holds of it under the new labels
  pub whole_relabelled : IsWhole G n new
  whole_relabelled =
      record {
        counted = h.counted ∙ sym same_length;
        rising = subst (λ (ps : List (ℕ × R)). IsRising ps) (sym is) (rises step 0 old.pairs (omega (arith, some)));
        below = subst (λ (ps : List (ℕ × R)). All (λ p. p.0 < 2 ^ 64) ps) (sym is) (all_below step 0 (2 ^ 64) old.pairs small);
        fit = record {
          known = omega (arith, h.fit.known, ap (total G.known) is, total-relabelled step G.known 0 old.pairs);
          prepared = omega (arith, h.fit.prepared, ap (total G.prepared) is, total-relabelled step G.prepared 0 old.pairs);
          effect = omega (arith, h.fit.effect, ap (total G.effect) is, total-relabelled step G.effect 0 old.pairs);
        };
        bound = bound_still;
        flat = λ none. deep ∙ h.flat (nil_from_length old.pairs (omega (arith, same_length, ap length none)));
      }
