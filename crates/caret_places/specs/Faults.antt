-- Why carets have no index in a history.
use Rattle.std.specs.Prelude.{Bool, true, false, List, [], ◌∷◌, Option, Some, None}
use Rattle.std.specs.Option.{option_or}
use Rattle.ew_model.specs.declared.id.Id.{Id}
use Rattle.ew_model.specs.declared.event.Event.{Event}
use Rattle.ew_model.specs.Ancestors.{is_held}
use Rattle.ew_model.specs.Entries.{Inserted}
use Rattle.carets.specs.declared.caret.Caret.{Caret}
use Rattle.carets.specs.declared.caret.Caret.TheVariants.{Root, Behind}
use Rattle.carets.specs.Sides.{all_chars, char_of}
use Rattle.caret_places.specs.declared.fault.IndexFault.{IndexFault}
use Rattle.caret_places.specs.declared.fault.IndexFault.TheVariants.{Unknown, NoCharacter}

-- by whether an event with the id is held, and by the character that it inserted
abbrev pub fault_by : Id → Bool → Option Inserted → Option IndexFault
fault_by x false char = Some (Unknown x)
fault_by x true None = Some (NoCharacter x)
fault_by x true (Some z) = None

-- why a caret has no index: no event with its id is held, or that event inserted no character
abbrev pub fault_of : List Event → Caret → Option IndexFault
fault_of history Root = None
fault_of history (Behind x) = fault_by x (is_held history x) (char_of (all_chars history) x)

-- the first of carets that has none, with the reason
abbrev pub first_fault : List Event → List Caret → Option IndexFault
first_fault history [] = None
first_fault history (c ∷ carets) = option_or (fault_of history c) (first_fault history carets)
