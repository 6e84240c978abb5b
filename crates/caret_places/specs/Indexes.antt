-- The indexes of carets by the events behind whose characters they stand.
use Rattle.std.specs.Prelude.{ℕ, Bool, true, false, List, map}
use Rattle.ew_model.specs.declared.id.Id.{Id}
use Rattle.ew_model.specs.declared.event.Op.{Op}
use Rattle.ew_model.specs.declared.event.Op.TheVariants.{Ins, Del, Mark}
use Rattle.ew_model.specs.declared.event.Event.{Event}
use Rattle.ew_model.specs.Ancestors.{ids_of}
use Rattle.carets.specs.declared.caret.Caret.TheVariants.{Behind}
use Rattle.carets.specs.Sides.{side}

-- the index of the caret behind the character of each event, in the history's order
abbrev pub sides_of : List Event → List ℕ
sides_of history = map (λ (x : Id). side history (Behind x)) (ids_of history)

-- the operation inserts a character
abbrev pub is_insertion : Op → Bool
is_insertion (Ins at ch) = true
is_insertion (Del at) = false
is_insertion (Mark label) = false
