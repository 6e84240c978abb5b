use Rattle.character_runs.proofs.characters.Characters.deletion_at.Given as goal

abbrev pub ghosts-deletion_by : goal.ghosts-deletion_by
ghosts-deletion_by a = record { name = a.blank.name; parts = a.blank.parts }
