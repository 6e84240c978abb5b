-- What insertions behind an event are about.
use Rattle.std.proofs.Common.{◌≡◌, ℕ, zero, suc, ◌+◌, ◌<◌, ◌≤◌, Bool, true, None, Some, List, [], ◌∷◌, ◌++◌, if◌then◌else◌, ⊎_elim, sym, ap, ◌∙◌, arith, append_assoc, append-nil}
use Rattle.std.proofs.lemmas.Bool.{ne_eqb, cases_lt}
use Rattle.ew_model.specs.declared.node.Node.TheVariants.{Event}
use Rattle.advance_retreat.specs.declared.target.Target.{Target}
use Rattle.advance_retreat.specs.Kept.{target_at, typed_target, typed_targets}
use Rattle.advance_retreat.specs.Refusals.{is_told}
use Rattle.advance_retreat.proofs.Found.{added_at}
use Rattle.advance_retreat.proofs.LooseEvents.{last_told, all_told}
use Rattle.advance_retreat.proofs.TypedRuns.{typed_more}

module _ (ts : List Target) (position : ℕ) where
  one_more : (k : ℕ) → ts ++ typed_targets position (suc k) ≡ (ts ++ typed_targets position k) ++ typed_target position k ∷ []
  one_more k = ap (λ (us : List Target). ts ++ us) (typed_more position k) ∙ sym (append_assoc ts (typed_targets position k) (typed_target position k ∷ []))

  -- of a later position they tell nothing
  pub told_past : (k : ℕ) → ((j : ℕ) → j < k → target_at ts (position + j + 1) ≡ None) → (n : ℕ) → position + k < n → target_at ts n ≡ None → target_at (ts ++ typed_targets position k) n ≡ None
  told_past zero none n past new = ap (λ (us : List Target). target_at us n) (append-nil ts) ∙ new
  told_past (suc k) none n past new =
      let fewer = λ (j : ℕ) (lt : j < k). none j (omega (arith, lt)) in
      ap (λ (us : List Target). target_at us n) (one_more k)
      ∙ added_at (ts ++ typed_targets position k) (typed_target position k) n (told_past k fewer (position + k + 1) (omega arith) (none k (omega arith)))
      ∙ ap (λ (b : Bool). if b then Some (Event (position + k + 1)) else target_at (ts ++ typed_targets position k) n) (ne_eqb (position + k + 1) n (λ same. absurd (omega (arith, same, past))))
      ∙ told_past k fewer n (omega (arith, past)) new

  -- each of their characters is told
  pub typed_told : (n k : ℕ) → k < n → is_told (ts ++ typed_targets position n) (Event (position + k + 1)) ≡ true
  typed_told zero k lt = absurd (omega (arith, lt))
  typed_told (suc n) k lt =
      ap (λ (us : List Target). is_told us (Event (position + k + 1))) (one_more n)
      ∙ ⊎_elim
      (λ (early : k < n). all_told (ts ++ typed_targets position n) (typed_target position n ∷ []) (Event (position + k + 1)) (typed_told n k early))
      (λ (late : n ≤ k).
      let is : position + n + 1 ≡ position + k + 1 = omega (arith, lt, late) in
      ap (λ (p : ℕ). is_told ((ts ++ typed_targets position n) ++ typed_target position n ∷ []) (Event p)) (sym is) ∙ last_told (ts ++ typed_targets position n) (typed_target position n))
      (cases_lt k n)
