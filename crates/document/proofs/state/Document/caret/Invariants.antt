use Rattle.document.proofs.state.Document.caret.Given as goal

abbrev pub ghosts-caret_by : goal.ghosts-caret_by
ghosts-caret_by a = record { name = a.blank.name; parts = a.blank.parts }
