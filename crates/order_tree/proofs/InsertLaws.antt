-- One more item in a list that is cut in two.
use Rattle.std.proofs.Common.{◌≡◌, ℕ, ◌-◌, ◌<◌, ◌≤◌, List, ◌++◌, length, take, drop, insert, arith, sym, ap, ◌∙◌, take-append-drop, length-take-le}
use Rattle.std.proofs.lemmas.List.Edits.{insert-append_left, insert-append_right}

module _ {X : Type 0} (xs : List X) (at : ℕ) (x : X) (long : 8 ≤ length xs) where
  pub put_left : at ≤ 8 → insert (take 8 xs) at x ++ drop 8 xs ≡ insert xs at x
  put_left le =
      let n : length (take 8 xs) ≡ 8 = length-take-le 8 xs long in
      sym (ap (λ (ys : List X). insert ys at x) (sym (take-append-drop 8 xs)) ∙ insert-append_left (take 8 xs) (drop 8 xs) at x (omega (arith, n, le)))

  pub put_right : 8 < at → take 8 xs ++ insert (drop 8 xs) (at - 8) x ≡ insert xs at x
  put_right lt =
      let n : length (take 8 xs) ≡ 8 = length-take-le 8 xs long in
      sym (ap (λ (ys : List X). insert ys at x) (sym (take-append-drop 8 xs)) ∙ insert-append_right (take 8 xs) (drop 8 xs) 8 at x n (omega (arith, lt)))
