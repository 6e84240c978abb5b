-- The text of a version: the visible characters of the entries of its events, in the order of the walk.
use Rattle.std.specs.Prelude.{ℕ, List, map}
use Rattle.ew_model.specs.declared.id.Id.{Id}
use Rattle.ew_model.specs.declared.event.Event.{Event}
use Rattle.ew_model.specs.Ids.{id_eq}
use Rattle.ew_model.specs.Ancestors.{ancestors}
use Rattle.ew_model.specs.Entries.{Inserted, visible}
use Rattle.ew_model.specs.Tree.{all_entries, entries_over, tree}

-- the visible characters of a version
unfoldable pub visible_at : List Event → List Id → List Inserted
visible_at history version = visible (entries_over id_eq 0 (tree history) (ancestors history version))

-- the text of a version
unfoldable pub text_at : List Event → List Id → List ℕ
text_at history version = map (λ x. x.ch) (visible_at history version)

-- the visible characters of a whole history
abbrev pub text_chars : List Event → List Inserted
text_chars history = visible (all_entries 0 (tree history))

-- the text of a whole history
unfoldable pub text_of : List Event → List ℕ
text_of history = map (λ x. x.ch) (text_chars history)
