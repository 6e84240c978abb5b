-- Runs that come in the place of others.
use Rattle.std.proofs.Common.{◌≡◌, ℕ, zero, suc, ◌<◌, ◌⊎◌, List, [], ◌∷◌, ◌++◌, Contains, slice_index_or, arith, refl, sym, inl, inr}
use Rattle.std.proofs.lemmas.List.Elements.{Contains-append_left, Contains-append_right, Contains-append_cases}

module _ {X : Type 0} where
  pub in_one : (x y : X) → Contains (y ∷ []) x → x ≡ y
  in_one x y h = at h.0 h.1 h.2
    where
      at : (k : ℕ) → k < 1 → slice_index_or (y ∷ []) k x ≡ x → x ≡ y
      at zero lt e = sym e
      at (suc k) lt e = absurd (omega (arith, lt))

  pub in_two : (x y z : X) → Contains (y ∷ z ∷ []) x → (x ≡ y) ⊎ (x ≡ z)
  in_two x y z h = at h.0 h.1 h.2
    where
      at : (k : ℕ) → k < 2 → slice_index_or (y ∷ z ∷ []) k x ≡ x → (x ≡ y) ⊎ (x ≡ z)
      at zero lt e = inl (sym e)
      at (suc zero) lt e = inr (sym e)
      at (suc (suc k)) lt e = absurd (omega (arith, lt))

  pub is_first : (x : X) (xs : List X) → Contains (x ∷ xs) x
  is_first x xs = (0, omega arith, refl)

  pub is_second : (x y : X) (xs : List X) → Contains (y ∷ x ∷ xs) x
  is_second x y xs = (1, omega arith, refl)

  -- the first list has some things in the place of which the second has others
  pub record Moves (old new was now : List X) : Type 0 where
    pub each : (x : X) → Contains new x → Contains now x ⊎ Contains old x
    pub kept : (x : X) → Contains old x → Contains was x ⊎ Contains new x
    pub come : (x : X) → Contains now x → Contains new x

  pub moves_around : (front back was now : List X) → Moves (front ++ (was ++ back)) (front ++ (now ++ back)) was now
  moves_around front back was now = record { each = each; kept = kept; come = come }
    where
      each_rest : (x : X) → Contains now x ⊎ Contains back x → Contains now x ⊎ Contains (front ++ (was ++ back)) x
      each_rest x (inl h) = inl h
      each_rest x (inr h) = inr (Contains-append_right front (was ++ back) x (Contains-append_right was back x h))

      each_all : (x : X) → Contains front x ⊎ Contains (now ++ back) x → Contains now x ⊎ Contains (front ++ (was ++ back)) x
      each_all x (inl h) = inr (Contains-append_left front (was ++ back) x h)
      each_all x (inr h) = each_rest x (Contains-append_cases now back x h)

      each : (x : X) → Contains (front ++ (now ++ back)) x → Contains now x ⊎ Contains (front ++ (was ++ back)) x
      each x h = each_all x (Contains-append_cases front (now ++ back) x h)

      kept_rest : (x : X) → Contains was x ⊎ Contains back x → Contains was x ⊎ Contains (front ++ (now ++ back)) x
      kept_rest x (inl h) = inl h
      kept_rest x (inr h) = inr (Contains-append_right front (now ++ back) x (Contains-append_right now back x h))

      kept_all : (x : X) → Contains front x ⊎ Contains (was ++ back) x → Contains was x ⊎ Contains (front ++ (now ++ back)) x
      kept_all x (inl h) = inr (Contains-append_left front (now ++ back) x h)
      kept_all x (inr h) = kept_rest x (Contains-append_cases was back x h)

      kept : (x : X) → Contains (front ++ (was ++ back)) x → Contains was x ⊎ Contains (front ++ (now ++ back)) x
      kept x h = kept_all x (Contains-append_cases front (was ++ back) x h)

      come : (x : X) → Contains now x → Contains (front ++ (now ++ back)) x
      come x h = Contains-append_right front (now ++ back) x (Contains-append_left now back x h)
