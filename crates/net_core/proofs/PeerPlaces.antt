-- The first peer of a name among others, and the test of names.
use Rattle.std.proofs.Common.{◌≡◌, ℕ, zero, suc, ◌<◌, Bool, true, false, ◌↔◌, IsTrue, List, [], ◌∷◌, length, drop, get_or, refl, sym, subst, arith}
use Rattle.std.specs.List.{find, slice_get}
use Rattle.std.proofs.lemmas.Bool.{cond-true, false_from_ne_true, false≢true}
use Rattle.ew_model.specs.Ids.{name_eq}
use Rattle.ew_model.proofs.IdLaws.{name_exact, names_equal}

-- where no earlier element passes, one that passes is the first
pub find_here : {X : Type 0} (test : X → Bool) (xs : List X) (i : ℕ) (d : X) → i < length xs → test (get_or xs i d) ≡ true → find test (drop i xs) ≡ slice_get xs i
find_here test [] i d few passes = absurd (omega arith)
find_here test (y ∷ xs) zero d few passes = cond-true _ _ _ passes
find_here test (y ∷ xs) (suc i) d few passes = find_here test xs i d (omega arith) passes

-- a test that tells whether two names are one is the test of names
pub named_test : (a b : List ℕ) (r : Bool) → (IsTrue r ↔ (a ≡ b)) → r ≡ name_eq a b
named_test a b true told = sym (subst (λ x. name_eq a x ≡ true) (told.0 refl) (names_equal.refl a))
named_test a b false told = sym (false_from_ne_true (name_eq a b) (λ same. false≢true (told.1 (name_exact a b same))))
