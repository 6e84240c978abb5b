-- The edits of the program as the edits of the definitions.
use Rattle.replica.specs.declared.edit.Edit.{Edit}
use Rattle.replica.specs.declared.edit.Edit.TheVariants.{Insert, Delete}
use Rattle.ew_model.specs.Edits as model

-- the edit of the definitions that a value stands for
abbrev pub edit_view : Edit → model.Edit
edit_view (Insert at text) = model.Edit.Insert at text.items
edit_view (Delete at n) = model.Edit.Delete at n
