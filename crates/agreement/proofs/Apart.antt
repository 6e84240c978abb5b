-- Lists without repeats, and how many elements they have.
use Rattle.std.proofs.Common.{◌≡◌, suc, ◌≤◌, ◌⊎◌, inl, inr, ⊎_elim, List, [], ◌∷◌, map, length, refl, sym, ap, ◌∙◌, subst, arith}
use Rattle.std.specs.Cmp.{IsTotalOrder}
use Rattle.std.specs.declared.cmp.Ordering.{Ordering}
use Rattle.std.proofs.lemmas.Cmp.{tied_itself}
use Rattle.ew_model.specs.Sets.{Among}
use Rattle.ew_model.proofs.SetLaws.{map_among}
use Rattle.ew_model.proofs.SortingLaws.{NoTies, all_at}

-- no element is among those behind it
abbrev pub AreApart : {X : Type 0} → List X → Type 0
AreApart [] = Unit {0}
AreApart (x ∷ xs) = (Among x xs → ⊥) × AreApart xs

-- what is left of a list where one of its elements is taken out
record Others {X : Type 0} (x : X) (ys : List X) : Type 0 where
  rest : List X
  fewer : length ys ≡ suc (length rest)
  kept : (z : X) → Among z ys → (z ≡ x) ⊎ Among z rest

others : {X : Type 0} (x : X) (ys : List X) → Among x ys → Others x ys
others x [] m = absurd m
others x (y ∷ ys) m =
    ⊎_elim
    (λ e. record { rest = ys; fewer = refl; kept = λ z k. ⊎_elim (λ f. inl (f ∙ sym e)) (λ j. inr j) k })
    (λ k. let more = others x ys k in record {
      rest = y ∷ more.rest;
      fewer = ap suc more.fewer;
      kept = λ z j. ⊎_elim (λ f. inr (inl f)) (λ i. ⊎_elim (λ f. inl f) (λ h. inr (inr h)) (more.kept z i)) j;
    })
    m

-- those behind an element are among the others
behind : {X : Type 0} (x : X) (xs ys : List X) → (Among x xs → ⊥) → ((z : X) → Among z xs → Among z ys) → (o : Others x ys) → (z : X) → Among z xs → Among z o.rest
behind x xs ys h f o z m = ⊎_elim (λ e. absurd (h (subst (λ w. Among w xs) e m))) (λ k. k) (o.kept z (f z m))

-- a list that has all elements of one without repeats is no shorter
pub no_more : {X : Type 0} (xs ys : List X) → AreApart xs → ((z : X) → Among z xs → Among z ys) → length xs ≤ length ys
no_more [] ys h f = omega arith
no_more (x ∷ xs) ys h f =
    let o = others x ys (f x (inl refl)) in
    let less = no_more xs o.rest h.1 (behind x xs ys h.0 (λ z m. f z (inr m)) o) in
    let fewer = o.fewer in
    omega (arith, less, fewer)

-- and where it is no longer, it has no others
pub no_others : {X : Type 0} (xs ys : List X) → AreApart xs → ((z : X) → Among z xs → Among z ys) → length ys ≤ length xs → (z : X) → Among z ys → Among z xs
no_others [] [] h f l z m = m
no_others [] (y ∷ ys) h f l z m = absurd (omega (arith, l))
no_others (x ∷ xs) ys h f l z m =
    let o = others x ys (f x (inl refl)) in
    let fewer = o.fewer in
    ⊎_elim (λ e. inl e) (λ k. inr (no_others xs o.rest h.1 (behind x xs ys h.0 (λ w j. f w (inr j)) o) (omega (arith, l, fewer)) z k)) (o.kept z m)

-- elements that don't tie are apart
pub apart_untied : {X : Type 0} {R : X → X → Ordering} → IsTotalOrder R → (xs : List X) → NoTies R xs → AreApart xs
apart_untied o [] h = tt
apart_untied {R = R} o (x ∷ xs) h = ((λ m. all_at _ xs x h.0 m (tied_itself o x)), apart_untied o xs h.1)

-- and so are elements whose images are
pub apart_mapped : {X Y : Type 0} (f : X → Y) (xs : List X) → AreApart (map f xs) → AreApart xs
apart_mapped f [] h = tt
apart_mapped f (x ∷ xs) h = ((λ m. h.0 (map_among f xs x m)), apart_mapped f xs h.1)
