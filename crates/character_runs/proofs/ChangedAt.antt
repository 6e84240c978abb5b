-- The runs of a list in which another run came to a label.
use Rattle.std.proofs.Common.{◌≡◌, ℕ, zero, suc, ◌⊎◌, Bool, true, false, List, [], ◌∷◌, Contains, nat_eq, if◌then◌else◌, refl, sym, ap, ◌∙◌, inl, inr, eq-eqb}
use Rattle.std.proofs.lemmas.Bool.{false≢true, ne_eqb}
use Rattle.walker_record.specs.Stretches.{Stretch}
use Rattle.order_tree.specs.Pairs.{changed}
use Rattle.character_runs.proofs.RunsAt.{At, at_held, held_at}

module _ (label : ℕ) (run : Stretch) where
  abbrev pick : ℕ × Stretch → Bool → ℕ × Stretch
  pick p b = if b then (label, run) else p

  each_at : (ps : List (ℕ × Stretch)) (k l : ℕ) (r : Stretch) → At (changed ps label run) k (l, r) → ((l ≡ label) × (r ≡ run)) ⊎ (At ps k (l, r) × (l ≡ label → ⊥))
  each_at [] k l r h = absurd h
  each_at (p ∷ ps) zero l r h = by (nat_eq p.0 label) refl h
    where
      by : (b : Bool) → nat_eq p.0 label ≡ b → pick p b ≡ (l, r) → ((l ≡ label) × (r ≡ run)) ⊎ ((p ≡ (l, r)) × (l ≡ label → ⊥))
      by true e h = inl (ap (λ (x : ℕ × Stretch). x.0) (sym h), ap (λ (x : ℕ × Stretch). x.1) (sym h))
      by false e h = inr (h, λ is. false≢true (sym e ∙ eq-eqb p.0 label (ap (λ (x : ℕ × Stretch). x.0) h ∙ is)))
  each_at (p ∷ ps) (suc k) l r h = each_at ps k l r h

  kept_at : (ps : List (ℕ × Stretch)) (k l : ℕ) (r : Stretch) → At ps k (l, r) → (l ≡ label → ⊥) → At (changed ps label run) k (l, r)
  kept_at [] k l r h other = absurd h
  kept_at (p ∷ ps) zero l r h other = ap (pick p) (ne_eqb p.0 label (λ e. other (ap (λ (x : ℕ × Stretch). x.0) (sym h) ∙ e))) ∙ h
  kept_at (p ∷ ps) (suc k) l r h other = kept_at ps k l r h other

  come_at : (ps : List (ℕ × Stretch)) (k : ℕ) (was : Stretch) → At ps k (label, was) → At (changed ps label run) k (label, run)
  come_at [] k was h = absurd h
  come_at (p ∷ ps) zero was h = ap (pick p) (eq-eqb p.0 label (ap (λ (x : ℕ × Stretch). x.0) h))
  come_at (p ∷ ps) (suc k) was h = come_at ps k was h

  -- one is the new one, or was there under another label
  pub changed_each : (ps : List (ℕ × Stretch)) (l : ℕ) (r : Stretch) → Contains (changed ps label run) (l, r) → ((l ≡ label) × (r ≡ run)) ⊎ (Contains ps (l, r) × (l ≡ label → ⊥))
  changed_each ps l r h = let at = held_at (changed ps label run) (l, r) h in by at.0 (each_at ps at.0 l r at.1)
    where
      by : (k : ℕ) → ((l ≡ label) × (r ≡ run)) ⊎ (At ps k (l, r) × (l ≡ label → ⊥)) → ((l ≡ label) × (r ≡ run)) ⊎ (Contains ps (l, r) × (l ≡ label → ⊥))
      by k (inl e) = inl e
      by k (inr o) = inr (at_held ps k (l, r) o.0, o.1)

  pub changed_kept : (ps : List (ℕ × Stretch)) (l : ℕ) (r : Stretch) → Contains ps (l, r) → (l ≡ label → ⊥) → Contains (changed ps label run) (l, r)
  changed_kept ps l r h other = let at = held_at ps (l, r) h in at_held (changed ps label run) at.0 (l, r) (kept_at ps at.0 l r at.1 other)

  pub changed_come : (ps : List (ℕ × Stretch)) (was : Stretch) → Contains ps (label, was) → Contains (changed ps label run) (label, run)
  changed_come ps was h = let at = held_at ps (label, was) h in at_held (changed ps label run) at.0 (label, run) (come_at ps at.0 was at.1)
