use Rattle.document.proofs.state.Document.blame.Given as goal

abbrev pub ghosts-blame_by : goal.ghosts-blame_by
ghosts-blame_by a = record { name = a.blank.name; parts = a.blank.parts }
