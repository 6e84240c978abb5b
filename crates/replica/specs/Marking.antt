-- The events of a mark, and what a replica may append of them.
use Rattle.std.specs.Prelude.{◌≡◌, ℕ, List, [], ◌∷◌, ◌++◌, length, replicate, Option, None, Some}
use Rattle.ew_model.specs.declared.id.Id.{Id}
use Rattle.ew_model.specs.declared.event.Op.TheVariants as op
use Rattle.ew_model.specs.declared.event.Event.{Event}
use Rattle.ew_model.specs.Ids.{id_cmp}
use Rattle.ew_model.specs.Kept.{IsKept}
use Rattle.ew_model.specs.Limits.{LimitNumbers}
use Rattle.ew_model.specs.Sorting.{sort_by}
use Rattle.ew_model.specs.Texts.{text_of}
use Rattle.event_graph.specs.Keeping.{AreAdmittedAfter}
use Rattle.replica.specs.Lengths.{lengths_after}

-- the id, if there is one
abbrev pub ids_of_one : Option Id → List Id
ids_of_one None = []
ids_of_one (Some x) = x ∷ []

-- a mark with this id and label on these parents, ascending
abbrev pub marked_event : Id → List ℕ → List Id → Event
marked_event x label ids = record { id = x; parents = sort_by id_cmp ids; op = op.Mark label }

-- the events made may be held behind the others while these wait, and the text stays as it is after each
pub record CanMark (limits : LimitNumbers) (held waiting made : List Event) : Type 0 where
  pub kept : IsKept limits (held ++ made) waiting
  pub admitted : AreAdmittedAfter held made
  pub text : text_of (held ++ made) ≡ text_of held
  pub lengths : lengths_after held made ≡ replicate (length made) (length (text_of held))
