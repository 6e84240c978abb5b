use Rattle.character_runs.proofs.characters.Characters.delete_run.Given as goal

abbrev pub ghosts-delete_run_by : goal.ghosts-delete_run_by
ghosts-delete_run_by a = record { name = a.blank.name; parts = a.blank.parts }
