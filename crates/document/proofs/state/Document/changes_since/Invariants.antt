use Rattle.document.proofs.state.Document.changes_since.Given as goal

abbrev pub ghosts-changes_by : goal.ghosts-changes_by
ghosts-changes_by a = record { name = a.blank.name; parts = a.blank.parts }
