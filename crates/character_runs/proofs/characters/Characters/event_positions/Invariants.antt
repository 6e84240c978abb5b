use Rattle.character_runs.proofs.characters.Characters.event_positions.Given as goal

abbrev pub ghosts-event_positions_by : goal.ghosts-event_positions_by
ghosts-event_positions_by a = record { name = a.blank.name; parts = a.blank.parts }
