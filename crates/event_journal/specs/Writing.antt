-- What is written to a journal's disk.
use Rattle.std.specs.Prelude.{◌+◌, ◌⊎◌, ℕ, List, [], ◌∷◌, ◌++◌, length}
use Rattle.ew_model.specs.declared.event.Event.{Event}
use Rattle.ew_model.specs.Bytes.{four_bytes}
use Rattle.peer_definitions.specs.Spelling.{events_body}
use Rattle.event_journal.specs.Disk.{written, IsTorn}

-- the bytes with a piece behind the closed gate
abbrev pub staged : List ℕ → ℕ → List ℕ → List ℕ
staged bytes gate piece = written bytes (gate + 1) piece

-- what comes after the gate of a batch: the length of its body, the body, and a closed gate
abbrev pub after_gate : List Event → List ℕ
after_gate batch = four_bytes (length (events_body batch)) ++ events_body batch ++ 0 ∷ []

-- the bytes with a batch at the gate, which stands open, and a closed gate after it
abbrev pub with_batch : List ℕ → ℕ → List Event → List ℕ
with_batch bytes gate batch = written (staged bytes gate (after_gate batch)) gate (1 ∷ [])

-- the piece is torn, or it stands there whole and the gate is torn
abbrev pub IsTornTwice : ℕ → List ℕ → List ℕ → List ℕ → Type 0
IsTornTwice gate piece bytes c = IsTorn (gate + 1) (length piece) bytes c ⊎ IsTorn gate 1 (staged bytes gate piece) c
