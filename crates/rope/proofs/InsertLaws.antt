-- One more item in a list that is cut in two.
use Rattle.std.proofs.Common.{◌≡◌, ℕ, ◌-◌, ◌<◌, ◌≤◌, List, ◌++◌, length, take, drop, insert, arith, sym, ap, ◌∙◌, take-append-drop, length-take-le}
use Rattle.std.proofs.lemmas.List.Edits.{insert-append_left, insert-append_right}

module _ {X : Type 0} (xs : List X) (half at : ℕ) (x : X) (long : half ≤ length xs) where
  pub put_left : at ≤ half → insert (take half xs) at x ++ drop half xs ≡ insert xs at x
  put_left le =
      let n : length (take half xs) ≡ half = length-take-le half xs long in
      sym (ap (λ (ys : List X). insert ys at x) (sym (take-append-drop half xs)) ∙ insert-append_left (take half xs) (drop half xs) at x (omega (arith, n, le)))

  pub put_right : half < at → take half xs ++ insert (drop half xs) (at - half) x ≡ insert xs at x
  put_right lt =
      let n : length (take half xs) ≡ half = length-take-le half xs long in
      sym (ap (λ (ys : List X). insert ys at x) (sym (take-append-drop half xs)) ∙ insert-append_right (take half xs) (drop half xs) half at x n (omega (arith, lt)))
