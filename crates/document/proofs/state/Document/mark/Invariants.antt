use Rattle.document.proofs.state.Document.mark.Given as goal

abbrev pub ghosts-mark_by : goal.ghosts-mark_by
ghosts-mark_by a = record { name = a.blank.name; parts = a.blank.parts }
