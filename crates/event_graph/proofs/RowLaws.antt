-- The first of rows in parts.
use Rattle.std.proofs.Common.{◌≡◌, List, [], ◌∷◌, ◌++◌, Option, Some, None, refl, sym}
use Rattle.std.specs.Option.{unwrap_or}
use Rattle.ew_model.specs.Verdicts.{Ruling, first_row}
use Rattle.ew_model.specs.Verdicts.Ruling.{Good}
use Rattle.event_graph.specs.Rows.{row_in}

pub first_row-alone : (xs : List (Option Ruling)) → first_row xs ≡ unwrap_or (row_in xs) Good
first_row-alone [] = refl
first_row-alone (None ∷ xs) = first_row-alone xs
first_row-alone (Some r ∷ xs) = refl

pub row_in-none : (xs ys : List (Option Ruling)) → None ≡ row_in xs → row_in (xs ++ ys) ≡ row_in ys
row_in-none [] ys e = refl
row_in-none (None ∷ xs) ys e = row_in-none xs ys e
row_in-none (Some r ∷ xs) ys e = let no : ⊥ = cc in absurd no

pub row_in-some : (xs ys : List (Option Ruling)) (r : Ruling) → Some r ≡ row_in xs → row_in (xs ++ ys) ≡ Some r
row_in-some [] ys r e = let no : ⊥ = cc in absurd no
row_in-some (None ∷ xs) ys r e = row_in-some xs ys r e
row_in-some (Some q ∷ xs) ys r e = sym e
