-- What is proved of the orders and of the tests of sameness.
use Rattle.std.specs.Prelude.{◌≡◌, true, ◌↔◌}
use Rattle.std.specs.Cmp.{IsTotalOrder}
use Rattle.ew_model.specs.declared.id.Id.{Id}
use Rattle.ew_model.specs.Ids.{id_cmp, id_eq}
use Rattle.ew_model.specs.Paths.{path_cmp}

-- ids are totally ordered, and the test of ids tells whether two are one
pub record IdsAreOrdered : Type 0 where
  pub total : IsTotalOrder id_cmp
  pub exact : (a b : Id) → (id_eq a b ≡ true) ↔ (a ≡ b)

-- paths are totally ordered
abbrev pub PathsAreOrdered : Type 0
PathsAreOrdered = IsTotalOrder path_cmp
