use Rattle.document.proofs.state.Document.edit.Given as goal

abbrev pub ghosts-edit_by : goal.ghosts-edit_by
ghosts-edit_by a = record { name = a.blank.name; parts = a.blank.parts }
