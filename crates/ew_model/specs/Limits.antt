-- The limits of a replica and of a program.
use Rattle.std.specs.Prelude.{ℕ, ◌≤◌, ◌+◌, ◌*◌}

-- the most events of a history, events of a waiting list, bytes of an input, and bytes of a frame's body
pub record LimitNumbers : Type 0 where
  pub events : ℕ
  pub waiting : ℕ
  pub input : ℕ
  pub body : ℕ

-- the numbers that limits may have
pub record AreLimits (n : LimitNumbers) : Type 0 where
  pub some_events : 1 ≤ n.events
  pub few_events : n.events ≤ 16777216
  pub few_waiting : n.waiting ≤ 16777216
  pub short_input : n.input ≤ 1073741824
  pub room_for_an_event : 668 ≤ n.body
  pub short_body : n.body ≤ 1073741824

-- the limits of the program
abbrev pub program_limits : LimitNumbers
program_limits = record { events = 16777216; waiting = 65536; input = 16777216; body = 1048576 }

-- the most bytes of a file of so many events: 48, at most 33 for each agent's name, and at most 107 for each event
abbrev pub most_file_bytes : ℕ → ℕ
most_file_bytes events = 48 + 140 * events
