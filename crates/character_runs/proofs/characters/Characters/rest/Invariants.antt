use Rattle.character_runs.proofs.characters.Characters.rest.Given as goal

abbrev pub ghosts-rest_by : goal.ghosts-rest_by
ghosts-rest_by a = record { name = a.blank.name; parts = a.blank.parts }
