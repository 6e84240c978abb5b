-- Where an element stands in a list that has it, and lists without repeats.
use Rattle.std.proofs.Common.{◌≡◌, ℕ, zero, suc, ◌+◌, ◌<◌, ◌≤◌, Bool, true, false, cond, not, ◌||◌, ◌⊎◌, inl, inr, ⊎_elim, List, [], ◌∷◌, ◌++◌, length, take, Some, None, refl, sym, ap, ◌∙◌, append_assoc, append-nil, arith}
use Rattle.std.specs.Prelude.{slice_get}
use Rattle.std.specs.Cmp.{IsEquivalence}
use Rattle.std.specs.List.{list_any, position_or_len}
use Rattle.std.proofs.lemmas.Bool.{cases_Bool, or_parts, or_left, or_right, or_from, false≢true}
use Rattle.std.proofs.lemmas.List.Folds.{list_any-append}
use Rattle.ew_model.specs.Distinct.{AllNew}

pub some_is : {X : Type 0} (x y : X) → Some x ≡ Some y → x ≡ y
some_is x y e = cc

pub none_is_some : {X : Type 0} {Y : Type 0} (x : X) → None ≡ Some x → Y
none_is_some x e = absurd cc

pub or_other : (a b : Bool) → a ≡ false → (a || b) ≡ true → b ≡ true
or_other a b f h = sym (ap (λ c. c || b) f) ∙ h

-- a front of a front
pub take_first : (n m : ℕ) (xs : List ℕ) → n ≤ m → take n (take m xs) ≡ take n xs
take_first zero m xs le = refl
take_first (suc n) zero xs le = absurd (omega arith)
take_first (suc n) (suc m) [] le = refl
take_first (suc n) (suc m) (x ∷ xs) le = ap (λ t. x ∷ t) (take_first n m xs (omega arith))

-- what stands in a front stands there in the whole
pub get-take : {X : Type 0} (n : ℕ) (xs : List X) (i : ℕ) (x : X) → slice_get (take n xs) i ≡ Some x → slice_get xs i ≡ Some x
get-take zero xs i x e = none_is_some x e
get-take (suc n) [] i x e = e
get-take (suc n) (y ∷ ys) zero x e = e
get-take (suc n) (y ∷ ys) (suc i) x e = get-take n ys i x e

pub get-take_within : {X : Type 0} (n : ℕ) (xs : List X) (i : ℕ) → i < n → slice_get (take n xs) i ≡ slice_get xs i
get-take_within zero xs i lt = absurd (omega arith)
get-take_within (suc n) [] i lt = refl
get-take_within (suc n) (y ∷ ys) zero lt = refl
get-take_within (suc n) (y ∷ ys) (suc i) lt = get-take_within n ys i (omega arith)

module _ {X : Type 0} (eq : X → X → Bool) (laws : IsEquivalence eq) (exact : (x y : X) → eq x y ≡ true → x ≡ y) where
  at_first : (x y : X) (ys : List X) → eq x y ≡ true → position_or_len (eq x) (y ∷ ys) ≡ 0
  at_first x y ys h = ap (λ b. cond (not b) (1 + position_or_len (eq x) ys) 0) h

  at_later : (x y : X) (ys : List X) → eq x y ≡ false → position_or_len (eq x) (y ∷ ys) ≡ suc (position_or_len (eq x) ys)
  at_later x y ys h = ap (λ b. cond (not b) (1 + position_or_len (eq x) ys) 0) h ∙ omega arith

  -- an element that is there stands at its place
  pub found_there : (xs : List X) (x : X) → list_any (eq x) xs ≡ true → slice_get xs (position_or_len (eq x) xs) ≡ Some x
  found_there [] x h = absurd (false≢true h)
  found_there (y ∷ ys) x h =
      elim (cases_Bool (eq x y)) [
        | inl t ↦ ap (slice_get (y ∷ ys)) (at_first x y ys t) ∙ ap (λ z. Some z) (sym (exact x y t))
        | inr f ↦ ap (slice_get (y ∷ ys)) (at_later x y ys f) ∙ found_there ys x (or_other (eq x y) (list_any (eq x) ys) f h)
      ]

  -- its place stays when the list goes on
  pub place_kept : (xs ys : List X) (x : X) → list_any (eq x) xs ≡ true → position_or_len (eq x) (xs ++ ys) ≡ position_or_len (eq x) xs
  place_kept [] ys x h = absurd (false≢true h)
  place_kept (z ∷ zs) ys x h =
      elim (cases_Bool (eq x z)) [
        | inl t ↦ at_first x z (zs ++ ys) t ∙ sym (at_first x z zs t)
        | inr f ↦ at_later x z (zs ++ ys) f ∙ ap suc (place_kept zs ys x (or_other (eq x z) (list_any (eq x) zs) f h)) ∙ sym (at_later x z zs f)
      ]

  -- what stands at a place is there
  pub there_among : (xs : List X) (i : ℕ) (x : X) → slice_get xs i ≡ Some x → list_any (eq x) xs ≡ true
  there_among [] i x e = none_is_some x e
  there_among (y ∷ ys) zero x e = or_left (eq x y) (list_any (eq x) ys) (ap (eq x) (some_is y x e) ∙ laws.refl x)
  there_among (y ∷ ys) (suc i) x e = or_right (eq x y) (list_any (eq x) ys) (there_among ys i x e)

  apart_from_seen : (seen xs : List X) (i : ℕ) (x : X) → AllNew eq seen xs → slice_get xs i ≡ Some x → list_any (eq x) seen ≡ false
  apart_from_seen seen [] i x h e = none_is_some x e
  apart_from_seen seen (y ∷ ys) zero x h e = ap (λ z. list_any (eq z) seen) (sym (some_is y x e)) ∙ h.0
  apart_from_seen seen (y ∷ ys) (suc i) x h e = (or_parts _ _ (sym (list_any-append (eq x) seen (y ∷ [])) ∙ apart_from_seen (seen ++ y ∷ []) ys i x h.1 e)).0

  -- without repeats an element stands at one place
  pub place_of : (seen xs : List X) (i : ℕ) (x : X) → AllNew eq seen xs → slice_get xs i ≡ Some x → position_or_len (eq x) xs ≡ i
  place_of seen [] i x h e = none_is_some x e
  place_of seen (y ∷ ys) zero x h e = at_first x y ys (ap (eq x) (some_is y x e) ∙ laws.refl x)
  place_of seen (y ∷ ys) (suc i) x h e =
      let others = (or_parts _ _ (sym (list_any-append (eq x) seen (y ∷ [])) ∙ apart_from_seen (seen ++ y ∷ []) ys i x h.1 e)).1 in
      at_later x y ys (or_parts (eq x y) false others).0 ∙ ap suc (place_of (seen ++ y ∷ []) ys i x h.1 e)

  -- without repeats an element isn't among those before its place
  pub none_in_front : (seen xs : List X) (i : ℕ) (x : X) → AllNew eq seen xs → slice_get xs i ≡ Some x → list_any (eq x) (take i xs) ≡ false
  none_in_front seen [] i x h e = none_is_some x e
  none_in_front seen (y ∷ ys) zero x h e = refl
  none_in_front seen (y ∷ ys) (suc i) x h e =
      let others = (or_parts _ _ (sym (list_any-append (eq x) seen (y ∷ [])) ∙ apart_from_seen (seen ++ y ∷ []) ys i x h.1 e)).1 in
      or_from (eq x y) (list_any (eq x) (take i ys)) (or_parts (eq x y) false others).0 (none_in_front (seen ++ y ∷ []) ys i x h.1 e)

  -- one more, that is new
  pub one_more_new : (seen xs : List X) (y : X) → AllNew eq seen xs → list_any (eq y) (seen ++ xs) ≡ false → AllNew eq seen (xs ++ y ∷ [])
  one_more_new seen [] y h n = (ap (list_any (eq y)) (sym (append-nil seen)) ∙ n, tt)
  one_more_new seen (x ∷ xs) y h n = (h.0, one_more_new (seen ++ x ∷ []) xs y h.1 (ap (list_any (eq y)) (append_assoc seen (x ∷ []) xs) ∙ n))

  -- what stands in the used front or right behind it is used, or is the next
  pub used_or_next : (used unused : List X) (i : ℕ) (x : X) → slice_get (take (suc (length used)) (used ++ unused)) i ≡ Some x → (list_any (eq x) used ≡ true) ⊎ ((more : List X) × (unused ≡ x ∷ more))
  used_or_next [] [] i x e = none_is_some x e
  used_or_next [] (y ∷ ys) zero x e = inr (ys, ap (λ z. z ∷ ys) (some_is y x e))
  used_or_next [] (y ∷ ys) (suc i) x e = none_is_some x e
  used_or_next (u ∷ us) unused zero x e = inl (or_left (eq x u) (list_any (eq x) us) (ap (eq x) (some_is u x e) ∙ laws.refl x))
  used_or_next (u ∷ us) unused (suc i) x e =
      ⊎_elim (λ t. inl (or_right (eq x u) (list_any (eq x) us) t)) (λ n. inr n) (used_or_next us unused i x e)

  pub used_is_open : (used unused : List X) (x : X) → list_any (eq x) used ≡ true → slice_get (take (suc (length used)) (used ++ unused)) (position_or_len (eq x) (used ++ unused)) ≡ Some x
  used_is_open [] unused x h = absurd (false≢true h)
  used_is_open (u ∷ us) unused x h =
      elim (cases_Bool (eq x u)) [
        | inl t ↦ ap (slice_get (take (suc (length (u ∷ us))) (u ∷ us ++ unused))) (at_first x u (us ++ unused) t) ∙ ap (λ z. Some z) (sym (exact x u t))
        | inr f ↦ ap (slice_get (take (suc (length (u ∷ us))) (u ∷ us ++ unused))) (at_later x u (us ++ unused) f) ∙ used_is_open us unused x (or_other (eq x u) (list_any (eq x) us) f h)
      ]

  pub next_is_open : (used unused : List X) (x : X) → list_any (eq x) used ≡ false → slice_get (take (suc (length used)) (used ++ x ∷ unused)) (position_or_len (eq x) (used ++ x ∷ unused)) ≡ Some x
  next_is_open [] unused x h = ap (slice_get (x ∷ [])) (at_first x x unused (laws.refl x))
  next_is_open (u ∷ us) unused x h =
      let p = or_parts (eq x u) (list_any (eq x) us) h in
      ap (slice_get (take (suc (length (u ∷ us))) (u ∷ us ++ x ∷ unused))) (at_later x u (us ++ x ∷ unused) p.0) ∙ next_is_open us unused x p.1
