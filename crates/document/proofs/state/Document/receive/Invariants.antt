use Rattle.document.proofs.state.Document.receive.Given as goal

abbrev pub ghosts-answer_all_by : goal.ghosts-answer_all_by
ghosts-answer_all_by a = record { name = a.blank.name; parts = a.blank.parts }
