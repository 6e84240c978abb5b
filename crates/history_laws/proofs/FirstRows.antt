-- Rows of answers, of which the first that holds is given.
use Rattle.std.proofs.Common.{◌≡◌, ℕ, ◌<◌, nat_le, Bool, true, false, List, [], ◌∷◌, ◌++◌, Option, Some, None, refl, sym, arith}
use Rattle.std.specs.Bool.{then_some}
use Rattle.std.proofs.lemmas.Bool.{false≢true}
use Rattle.std.proofs.lemmas.Bool.Decides.{nat_tests}
use Rattle.ew_model.specs.Verdicts.{Ruling, first_row}

-- a row that doesn't hold
pub row_off : (rows : List (Option Ruling)) (b : Bool) (q : Ruling) (more : List (Option Ruling)) → b ≡ false → first_row (rows ++ then_some b q ∷ more) ≡ first_row (rows ++ more)
row_off rows true q more h = absurd (false≢true (sym h))
row_off [] false q more h = refl
row_off (None ∷ rows) false q more h = row_off rows false q more h
row_off (Some p ∷ rows) false q more h = refl

pub not_full : (most n : ℕ) → n < most → nat_le most n ≡ false
not_full most n h = grind (arith, nat_tests)
