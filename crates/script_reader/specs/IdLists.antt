-- Lists of ids as they are written.
use Rattle.std.specs.Prelude.{◌≡◌, ℕ, List, [], ◌∷◌, codes}
use Rattle.std.specs.List.{AllByRecursion, join_by}
use Rattle.ew_model.specs.declared.id.Id.{Id}
use Rattle.ew_model.specs.Scripts.{id_text}
use Rattle.ew_model.specs.Sound.{IsSoundId}

-- the bytes spell these ids, at least one, with a comma between two
abbrev pub AreIds : List ℕ → List Id → Type 0
AreIds bytes [] = ⊥
AreIds bytes (x ∷ ids) = AllByRecursion IsSoundId (x ∷ ids) × (join_by id_text (codes ",") (x ∷ ids) ≡ bytes)
