use Rattle.document.proofs.state.Document.open.Given as goal

abbrev pub ghosts-loaded_by : goal.ghosts-loaded_by
ghosts-loaded_by a = record { name = a.blank.name; parts = a.blank.parts }
