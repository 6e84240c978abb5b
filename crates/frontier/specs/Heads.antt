-- The heads of a history with one more event.
use Rattle.std.specs.Prelude.{ℕ, ◌==◌, not, List, [], ◌∷◌, ◌++◌, filter, nat_eq}
use Rattle.ew_model.specs.Graph.{is_named}

-- the positions but for this one
abbrev pub without : ℕ → List ℕ → List ℕ
without position heads = filter (λ h. not (h == position)) heads

-- the heads with an event more: but for its parents, and the event behind
abbrev pub heads_after : List ℕ → ℕ → List ℕ → List ℕ
heads_after heads lv parents = filter (λ h. not (is_named nat_eq parents h)) heads ++ lv ∷ []
