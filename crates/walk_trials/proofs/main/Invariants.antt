use Rattle.walk_trials.proofs.main.Given as goal

abbrev pub ghosts-carry_out_by : goal.ghosts-carry_out_by
ghosts-carry_out_by a = record { name = a.blank.name; parts = a.blank.parts }
