-- At most how often walkers are touched while a history is made: an edit walks nothing, and a gift what receiving walks.
use Rattle.std.specs.Prelude.{ℕ, zero, suc, ◌+◌, ◌/◌, ◌%◌, List, if◌then◌else◌, ◌==◌}
use Rattle.ew_model.specs.Kept.{ReplicaState}
use Rattle.ew_model.specs.Limits.{LimitNumbers}
use Rattle.ew_model.specs.Rounds.{most_touches}
use Rattle.peer_definitions.specs.Making.{Made, drawn_step, gives, made_steps, peer_at}
use Rattle.peer_definitions.specs.Making.Made.{Going, Stopped}

-- where one peer receives all the events of another
unfoldable pub gift_touches : ℕ → ℕ → List ReplicaState → ℕ
gift_touches giver taker peers =
    let p = peer_at peers taker in
    most_touches p.limits p.held p.waiting (peer_at peers giver).held

-- after the edit of a step, where it is a peer's turn to give
abbrev pub turn_touches : ℕ → Made → ℕ
turn_touches t (Stopped why) = 0
turn_touches t (Going m) = if t % 64 == 63 then gift_touches (t / 64 % 3) ((t / 64 % 3 + 1) % 3) m.peers else 0

-- of one step
abbrev pub step_touches : ℕ → Made → ℕ
step_touches t (Stopped why) = 0
step_touches t (Going m) = turn_touches t (drawn_step m)

-- of so many steps
abbrev pub steps_touches : LimitNumbers → ℕ → ℕ → ℕ
steps_touches limits seed zero = 0
steps_touches limits seed (suc t) = steps_touches limits seed t + step_touches t (made_steps limits seed t)

-- of the four gifts at the end
abbrev pub rounding_touches : List ReplicaState → ℕ
rounding_touches peers =
    gift_touches 0 1 peers + gift_touches 1 2 (gives 0 1 peers) + gift_touches 2 0 (gives 1 2 (gives 0 1 peers)) + gift_touches 0 1 (gives 2 0 (gives 1 2 (gives 0 1 peers)))

-- of the gifts at the end, unless it was stopped
abbrev pub end_touches : Made → ℕ
end_touches (Stopped why) = 0
end_touches (Going m) = rounding_touches m.peers

-- of making a history by a seed and a number of steps
unfoldable pub made_touches : LimitNumbers → ℕ → ℕ → ℕ
made_touches limits seed count = steps_touches limits seed count + end_touches (made_steps limits seed count)
