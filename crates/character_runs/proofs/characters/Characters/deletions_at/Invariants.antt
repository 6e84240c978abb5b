use Rattle.character_runs.proofs.characters.Characters.deletions_at.Given as goal

abbrev pub ghosts-deletions_by : goal.ghosts-deletions_by
ghosts-deletions_by a = record { name = a.blank.name; parts = a.blank.parts }
