-- Versions as they are written.
use Rattle.std.specs.Prelude.{◌≡◌, ℕ, List}
use Rattle.std.specs.List.{AllByRecursion}
use Rattle.ew_model.specs.declared.id.Id.{Id}
use Rattle.ew_model.specs.Scripts.{version_text}
use Rattle.ew_model.specs.Sound.{IsSoundId}

-- the bytes are the version of these ids: `root` for none, else the ids in order with a comma between two
pub record IsVersion (bytes : List ℕ) (ids : List Id) : Type 0 where
  pub sound : AllByRecursion IsSoundId ids
  pub spelled : version_text ids ≡ bytes
