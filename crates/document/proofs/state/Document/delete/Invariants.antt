use Rattle.document.proofs.state.Document.delete.Given as goal

abbrev pub ghosts-delete_by : goal.ghosts-delete_by
ghosts-delete_by a = record { name = a.blank.name; parts = a.blank.parts }
