-- Lists that were written one after the other.
use Rattle.std.proofs.Common.{◌≡◌, ℕ, ◌+◌, ◌<◌, List, [], ◌∷◌, ◌++◌, length, take, get_or, sym, ap, subst, ◌∙◌}
use Rattle.std.specs.List.{AllByRecursion}
use Rattle.std.proofs.lemmas.List.{take_more}
use Rattle.ew_model.proofs.BaseLaws.{joined_all}

pub all_next : {A : Type 0} (P : A → Type 0) (xs : List A) (i : ℕ) (x : A) → i < length xs → x ≡ get_or xs i x → AllByRecursion P (take i xs) → P x → AllByRecursion P (take (i + 1) xs)
all_next P xs i x lt is h k =
    subst (AllByRecursion P) (sym (take_more xs i x lt ∙ ap (λ y. take i xs ++ y ∷ []) (sym is))) (joined_all P (take i xs) x h k)
