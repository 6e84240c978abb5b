use Rattle.character_runs.proofs.characters.Characters.change_run.Given as goal

abbrev pub ghosts-change_run_by : goal.ghosts-change_run_by
ghosts-change_run_by a = record { name = a.blank.name; parts = a.blank.parts }
