use Rattle.character_runs.proofs.characters.Characters.type_on.Given as goal

abbrev pub ghosts-type_on_by : goal.ghosts-type_on_by
ghosts-type_on_by a = record { name = a.blank.name; parts = a.blank.parts }
