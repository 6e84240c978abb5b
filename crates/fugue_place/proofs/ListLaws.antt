-- Elements of lists by their places.
use Rattle.std.proofs.Common.{◌≡◌, ℕ, zero, suc, ◌+◌, ◌<◌, ◌≤◌, Bool, false, ◌⊎◌, inl, inr, ⊎_elim, List, [], ◌∷◌, ◌++◌, length, take, get_or, Some, slice_get, refl, sym, ap, ◌∙◌, subst, arith}
use Rattle.std.specs.List.{list_any}
use Rattle.std.proofs.Math.Seq.{take-length}
use Rattle.std.proofs.lemmas.Bool.{false≢true, false_from_ne_true}
use Rattle.std.proofs.lemmas.List.{take_more}
use Rattle.std.proofs.lemmas.Option.{slice_get-get_or, same_Some}
use Rattle.ew_model.specs.Sets.{Among}
use Rattle.ew_model.proofs.SetLaws.{among_joined}
use Rattle.ew_model.proofs.VersionLaws.{any_from}

-- a test that no element passes is passed by none
pub none_passes : {X : Type 0} (p : X → Bool) (xs : List X) (x : X) → list_any p xs ≡ false → Among x xs → p x ≡ false
none_passes p xs x none m = false_from_ne_true (p x) (λ e. false≢true (sym none ∙ any_from p xs x m e))

-- an element stands at a place
pub place_of : {X : Type 0} (xs : List X) (x : X) → Among x xs → (k : ℕ) × (slice_get xs k ≡ Some x)
place_of [] x m = absurd m
place_of (y ∷ xs) x m = ⊎_elim (λ e. (zero, ap Some (sym e))) (λ later. let place = place_of xs x later in (suc place.0, place.1)) m

-- what stands at a place of a list with one more element
pub place_more : {X : Type 0} (xs : List X) (y : X) (k : ℕ) (x : X) → slice_get xs k ≡ Some x → slice_get (xs ++ y ∷ []) k ≡ Some x
place_more [] y k x e = let no : ⊥ = cc in absurd no
place_more (z ∷ xs) y zero x e = e
place_more (z ∷ xs) y (suc k) x e = place_more xs y k x e

pub place_new : {X : Type 0} (xs : List X) (y : X) (k : ℕ) → k ≡ length xs → slice_get (xs ++ y ∷ []) k ≡ Some y
place_new [] y zero e = refl
place_new [] y (suc k) e = absurd (omega arith)
place_new (z ∷ xs) y zero e = absurd (omega arith)
place_new (z ∷ xs) y (suc k) e = place_new xs y k (omega arith)

pub place_cases : {X : Type 0} (xs : List X) (y : X) (k : ℕ) (x : X) → slice_get (xs ++ y ∷ []) k ≡ Some x → (slice_get xs k ≡ Some x) ⊎ ((k ≡ length xs) × (y ≡ x))
place_cases [] y zero x e = inr (refl, same_Some y x e)
place_cases [] y (suc k) x e = let no : ⊥ = cc in absurd no
place_cases (z ∷ xs) y zero x e = inl e
place_cases (z ∷ xs) y (suc k) x e = ⊎_elim (λ early. inl early) (λ new. inr (ap (λ (n : ℕ). suc n) new.0, new.1)) (place_cases xs y k x e)

-- what is among the first of a list is among more of them
pub among_more : {X : Type 0} (xs : List X) (k n : ℕ) (x : X) → k ≤ n → Among x (take k xs) → Among x (take n xs)
among_more xs zero n x le m = absurd m
among_more xs (suc k) zero x le m = absurd (omega arith)
among_more [] (suc k) (suc n) x le m = absurd m
among_more (y ∷ xs) (suc k) (suc n) x le m = ⊎_elim (λ e. inl e) (λ h. inr (among_more xs k n x (omega arith) h)) m

-- all of a list are its first elements
pub among_all : {X : Type 0} (xs : List X) (x : X) → Among x xs → Among x (take (length xs) xs)
among_all xs x m = subst (Among x) (sym (take-length xs)) m

-- x is the element at the place n
module _ {X : Type 0} (xs : List X) (n : ℕ) (x : X) (within : n < length xs) (is : x ≡ get_or xs n x) where
  pub one_more : take (n + 1) xs ≡ take n xs ++ x ∷ []
  one_more = take_more xs n x within ∙ ap (λ (y : X). take n xs ++ y ∷ []) (sym is)

  pub next_at : slice_get xs n ≡ Some x
  next_at = slice_get-get_or xs n x within ∙ ap Some (sym is)

  -- what holds of each of the first n elements, and of the next, holds of each of the first n + 1
  pub early_or_next : (P : X → Type 0) → ((y : X) → Among y (take n xs) → P y) → P x → (y : X) → Among y (take (n + 1) xs) → P y
  early_or_next P early next y m =
      ⊎_elim
      (λ k. early y k)
      (λ k. ⊎_elim (λ e. subst P (sym e) next) (λ no. absurd no) k)
      (among_joined (take n xs) (x ∷ []) y (subst (Among y) one_more m))
