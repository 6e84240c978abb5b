-- Which of an agent's events is the first that isn't held.
use Rattle.std.proofs.Common.{◌≡◌, ℕ, zero, suc, ◌+◌, ◌≤◌, ◌<◌, nat_lt, max, Bool, true, false, not, cond, ◌⊎◌, inl, inr, ⊎_elim, List, [], ◌∷◌, find, Option, Some, None, refl, sym, ap, ◌∙◌, subst, arith}
use Rattle.std.specs.List.{list_any}
use Rattle.std.proofs.lemmas.Bool.{le-ltb, lt-ltb, ltb-true, ltb-false}
use Rattle.ew_model.specs.declared.id.Id.{Id}
use Rattle.ew_model.specs.declared.event.Event.{Event}
use Rattle.ew_model.specs.Ids.{id_eq, is_among}
use Rattle.ew_model.specs.Ancestors.{is_held}
use Rattle.ew_model.specs.Verdicts.{IsGood}
use Rattle.ew_model.specs.Edits.{count_of}
use Rattle.ew_model.proofs.EditNumbers.{numbers_run_on}
use Rattle.undo_definitions.specs.Wanted.{ids_from}

-- an id of the agent
abbrev pub by_agent : List ℕ → ℕ → Id
by_agent agent n = record { agent = agent; seq = n }

-- the first of so many from a number on
module _ (history : List Event) (agent : List ℕ) (good : IsGood history) where
  held_by_count : (n : ℕ) → is_held history (by_agent agent n) ≡ nat_lt n (count_of history agent)
  held_by_count n = (numbers_run_on history good).held agent n

  -- all are held
  pub none_missing : (first n : ℕ) → (first + n ≤ count_of history agent) ⊎ (n ≡ 0) → find (λ x. not (is_held history x)) (ids_from agent first n) ≡ None
  none_missing first zero h = refl
  none_missing first (suc n) h =
      let low : first < count_of history agent = ⊎_elim (λ k. omega (arith, k)) (λ e. absurd (omega (arith, e))) h in
      let rest : (first + 1) + n ≤ count_of history agent = ⊎_elim (λ k. omega (arith, k)) (λ e. absurd (omega (arith, e))) h in
      ap (λ b. cond (not b) (Some (by_agent agent first)) (find (λ x. not (is_held history x)) (ids_from agent (first + 1) n))) (held_by_count first ∙ lt-ltb first (count_of history agent) low)
      ∙ none_missing (first + 1) n (inl rest)

  -- the first that isn't, which is the first of all or has the next number of the agent
  pub one_missing : (first n m : ℕ) → count_of history agent < first + n → 0 < n → m ≡ max first (count_of history agent) → find (λ x. not (is_held history x)) (ids_from agent first n) ≡ Some (by_agent agent m)
  one_missing first zero m h some is = absurd (omega (arith, some))
  one_missing first (suc n) m h some is = at (nat_lt first (count_of history agent)) refl (λ more k. one_missing (first + 1) n m (omega (arith, h)) more k)
    where
      rest : Option Id
      rest = find (λ x. not (is_held history x)) (ids_from agent (first + 1) n)

      at : (b : Bool) → nat_lt first (count_of history agent) ≡ b → (0 < n → m ≡ max (first + 1) (count_of history agent) → rest ≡ Some (by_agent agent m))
          → cond (not (is_held history (by_agent agent first))) (Some (by_agent agent first)) rest ≡ Some (by_agent agent m)
      at true q go =
          let low : first < count_of history agent = ltb-true first (count_of history agent) q in
          ap (λ b. cond (not b) (Some (by_agent agent first)) rest) (held_by_count first ∙ q) ∙ go (omega (arith, low, h)) (omega (arith, low, is))
      at false q go =
          let high : count_of history agent ≤ first = ltb-false first (count_of history agent) q in
          let same : first ≡ m = omega (arith, high, is) in
          ap (λ b. cond (not b) (Some (by_agent agent first)) rest) (held_by_count first ∙ q) ∙ ap (λ k. Some (by_agent agent k)) same
