use Rattle.character_runs.proofs.characters.Characters.change.Given as goal

abbrev pub ghosts-change_by : goal.ghosts-change_by
ghosts-change_by a = record { name = a.blank.name; parts = a.blank.parts }
