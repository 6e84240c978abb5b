use Rattle.character_runs.proofs.characters.Characters.slot_at.Given as goal

abbrev pub ghosts-first_slot : goal.ghosts-first_slot
ghosts-first_slot g a = record { name = a.blank.name; parts = a.blank.parts }

abbrev pub ghosts-slot_behind : goal.ghosts-slot_behind
ghosts-slot_behind g a = record { name = a.blank.name; parts = a.blank.parts }
