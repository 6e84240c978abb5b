use Rattle.document.proofs.state.Document.undo.Given as goal

abbrev pub ghosts-undo_by : goal.ghosts-undo_by
ghosts-undo_by a = record { name = a.blank.name; parts = a.blank.parts }
