use Rattle.character_runs.proofs.characters.Characters.base.Given as goal

abbrev pub ghosts-base_by : goal.ghosts-base_by
ghosts-base_by a = record { name = a.blank.name; parts = a.blank.parts }
