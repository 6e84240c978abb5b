-- What is read as a name is kept as one, and the place of a bad byte tells whether bytes are a name.
use Rattle.std.proofs.Common.{◌≡◌, ltb, leb, ℕ, ◌+◌, ◌-◌, ◌≤◌, ◌<◌, Bool, true, false, not, cond, ◌&&◌, List, [], ◌∷◌, ◌++◌, length, take, drop, nat_le, nat_lt, nat_eq, Option, Some, None, position, refl, sym, ap, ◌∙◌, arith, length-append, length-drop}
use Rattle.std.specs.Prelude.{replicate}
use Rattle.std.specs.List.{list_all, position_or_len, prefix_len}
use Rattle.std.proofs.lemmas.Bool.{leb-true, ltb-true, ltb-false, lt-ltb, le-leb, eqb-false, and_parts}
use Rattle.std.proofs.lemmas.List.{length-replicate, take_at, drop-replicate}
use Rattle.ew_model.specs.Padding.{IsPadded}
use Rattle.ew_model.specs.Names.{is_name, is_name_byte, begins_with_dash, bad_place}

-- a name with zeros behind it is padded
pub padded_name : (b : List ℕ) → is_name b ≡ true → length b ≤ 32 → IsPadded (length b) (b ++ drop (length b) (replicate 32 0))
padded_name b name few =
    let front : take (length b) (b ++ drop (length b) (replicate 32 0)) ≡ b = take_at b (drop (length b) (replicate 32 0)) (length b) refl in
    let rest : drop {A = ℕ} (length b) (replicate 32 0) ≡ replicate {A = ℕ} (32 - length b) 0 = drop-replicate (length b) 32 0 in
    record {
      name = rw front name;
      whole = simp (length-append, length-drop, length-replicate) (omega arith);
      within = few;
      rest = rw (front, rest) refl;
    }

-- a front that passes is the whole list, or not
prefix_whole : (p : ℕ → Bool) (xs : List ℕ) → length xs ≤ prefix_len p xs → list_all p xs ≡ true
prefix_whole p [] h = refl
prefix_whole p (x ∷ xs) h = at (p x) h (λ k. prefix_whole p xs k)
  where
    at : (b : Bool) → length (x ∷ xs) ≤ cond b (1 + prefix_len p xs) 0 → (length xs ≤ prefix_len p xs → list_all p xs ≡ true) → (b && list_all p xs) ≡ true
    at true k more = more (omega (arith, k))
    at false k more = absurd (omega (arith, k))

prefix_part : (p : ℕ → Bool) (xs : List ℕ) → prefix_len p xs < length xs → list_all p xs ≡ false
prefix_part p [] h = absurd (omega (arith, h))
prefix_part p (x ∷ xs) h = at (p x) h (λ k. prefix_part p xs k)
  where
    at : (b : Bool) → cond b (1 + prefix_len p xs) 0 < length (x ∷ xs) → (prefix_len p xs < length xs → list_all p xs ≡ false) → (b && list_all p xs) ≡ false
    at true k more = more (omega (arith, k))
    at false k more = refl

undouble : (q : ℕ → Bool) (xs : List ℕ) → list_all (λ x. not (not (q x))) xs ≡ list_all q xs
undouble q [] = refl
undouble q (x ∷ xs) = at (q x) ∙ ap (λ b. q x && b) (undouble q xs)
  where
    at : (b : Bool) → (not (not b) && list_all (λ y. not (not (q y))) xs) ≡ (b && list_all (λ y. not (not (q y))) xs)
    at true = refl
    at false = refl

-- where no byte of the list is found, all pass
none_found : (q : ℕ → Bool) (xs : List ℕ) (b : Bool) → nat_lt (position_or_len (λ x. not (q x)) xs) (length xs) ≡ b → (k : Option ℕ) → cond b (Some (position_or_len (λ x. not (q x)) xs)) None ≡ k
    → (k ≡ None → list_all q xs ≡ true) × ((i : ℕ) → k ≡ Some i → list_all q xs ≡ false)
none_found q xs true h k e =
    ((λ n. let no : ⊥ = cc in absurd no), (λ i s. sym (undouble q xs) ∙ prefix_part (λ x. not (not (q x))) xs (ltb-true (prefix_len (λ x. not (not (q x))) xs) (length xs) h)))
none_found q xs false h k e =
    let far = ltb-false (prefix_len (λ x. not (not (q x))) xs) (length xs) h in
    ((λ n. sym (undouble q xs) ∙ prefix_whole (λ x. not (not (q x))) xs (omega (arith, far))), (λ i s. let no : ⊥ = cc in absurd no))

-- the bad place tells whether some byte is bad
place_tells : (b : List ℕ) (dash : Bool) → begins_with_dash b ≡ dash → (k : Option ℕ) → cond dash (Some 0) (position (λ x. not (is_name_byte x)) b) ≡ k
    → (k ≡ None → (list_all is_name_byte b && not dash) ≡ true) × ((i : ℕ) → k ≡ Some i → (list_all is_name_byte b && not dash) ≡ false)
place_tells b true h k e = ((λ n. let no : ⊥ = cc in absurd no), (λ i s. at (list_all is_name_byte b)))
  where
    at : (c : Bool) → (c && false) ≡ false
    at true = refl
    at false = refl
place_tells b false h k e =
    let told = none_found is_name_byte b (nat_lt (position_or_len (λ x. not (is_name_byte x)) b) (length b)) refl k e in
    ((λ n. ap (λ c. c && true) (told.0 n)), (λ i s. ap (λ c. c && true) (told.1 i s)))

-- with no bad place a list of 1 to 32 bytes is a name
pub name_from : (b : List ℕ) → nat_eq (length b) 0 ≡ false → length b ≤ 32 → bad_place b ≡ None → is_name b ≡ true
name_from b filled short none =
    let not_empty = eqb-false (length b) 0 filled in
    let some = lt-ltb 0 (length b) (omega (arith, not_empty)) in
    let few = le-leb (length b) 32 short in
    let told = (place_tells b (begins_with_dash b) refl (bad_place b) refl).0 none in
    let parts = and_parts (list_all is_name_byte b) (not (begins_with_dash b)) told in
    ap (λ c. c && nat_le (length b) 32 && list_all is_name_byte b && not (begins_with_dash b)) some
    ∙ ap (λ c. true && c && list_all is_name_byte b && not (begins_with_dash b)) few
    ∙ ap (λ c. true && true && c && not (begins_with_dash b)) parts.0
    ∙ ap (λ c. true && true && true && c) parts.1

-- with a bad place it is none
pub no_name_from : (b : List ℕ) (k : ℕ) → bad_place b ≡ Some k → is_name b ≡ false
no_name_from b k some =
    split (nat_lt 0 (length b) && nat_le (length b) 32) (list_all is_name_byte b) (not (begins_with_dash b)) ((place_tells b (begins_with_dash b) refl (bad_place b) refl).1 k some)
  where
    split : (a c d : Bool) → (c && d) ≡ false → (a && c && d) ≡ false
    split true c d h = h
    split false c d h = refl

-- a name is short
pub name_short : (name : List ℕ) → is_name name ≡ true → length name ≤ 32
name_short name good =
    let few = ltb 0 (length name) && leb (length name) 32 in
    let parts = and_parts (ltb 0 (length name)) (leb (length name) 32) (and_parts few (list_all is_name_byte name) (and_parts (few && list_all is_name_byte name) (not (begins_with_dash name)) good).0).0 in
    leb-true (length name) 32 parts.1
