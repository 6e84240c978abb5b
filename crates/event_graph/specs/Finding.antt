-- Where ids stand.
use Rattle.std.specs.Prelude.{ℕ, List, flat_map, position}
use Rattle.std.specs.Option.{option_to_list}
use Rattle.ew_model.specs.declared.id.Id.{Id}
use Rattle.ew_model.specs.declared.event.Event.{Event}
use Rattle.ew_model.specs.Ids.{id_eq}
use Rattle.ew_model.specs.Ancestors.{ids_of}

-- the positions of those of the ids that are held, in the order of the ids
abbrev pub found_in : List Event → List Id → List ℕ
found_in history ids = flat_map (λ x. option_to_list (position (id_eq x) (ids_of history))) ids
