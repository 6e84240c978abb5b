-- What a test of all numbers of a list says.
use Rattle.std.proofs.Common.{◌≡◌, ℕ, ◌<◌, nat_lt, true, List, [], ◌∷◌}
use Rattle.std.specs.List.{All, list_all}
use Rattle.std.proofs.lemmas.Bool.{ltb-true}
use Rattle.std.proofs.lemmas.List.Elements.{All-nil, All-cons}
use Rattle.std.proofs.lemmas.List.Sums.{AllPass-from_list_all}

pub all_below : (n : ℕ) (numbers : List ℕ) → list_all (λ p. nat_lt p n) numbers ≡ true → All (λ p. p < n) numbers
all_below n numbers h = λ k d inside. ltb-true _ n (AllPass-from_list_all (λ p. nat_lt p n) numbers h k d inside)

-- a list of one number
pub one_below : (n p : ℕ) → p < n → All (λ q. q < n) (p ∷ [])
one_below n p h = All-cons (λ q. q < n) p [] h (All-nil (λ q. q < n))
