-- Lists without repeats.
use Rattle.std.specs.Prelude.{◌≡◌, Bool, false, List, [], ◌∷◌, ◌++◌}
use Rattle.std.specs.List.{list_any}

-- none of these is among those before it, nor among the seen ones
abbrev pub AllNew : {X : Type 0} → (X → X → Bool) → List X → List X → Type 0
AllNew eq seen [] = Unit {0}
AllNew eq seen (x ∷ xs) = (list_any (eq x) seen ≡ false) × AllNew eq (seen ++ x ∷ []) xs

-- no two are equal
abbrev pub AreDistinct : {X : Type 0} → (X → X → Bool) → List X → Type 0
AreDistinct eq xs = AllNew eq [] xs
