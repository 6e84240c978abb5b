use Rattle.document.proofs.state.Document.text_at.Given as goal

abbrev pub ghosts-text_at_by : goal.ghosts-text_at_by
ghosts-text_at_by a = record { name = a.blank.name; parts = a.blank.parts }
