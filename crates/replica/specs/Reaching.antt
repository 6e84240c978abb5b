-- How far receiving comes in a round, and in several.
use Rattle.std.specs.Prelude.{◌≡◌, ℕ, ◌<◌, Bool, true, false, List, drop, length, Some, None}
use Rattle.ew_model.specs.declared.text_op.TextOp.{TextOp}
use Rattle.ew_model.specs.Arrival.{Desk, Answer, next_judgement, judgements, most_judgements}
use Rattle.ew_model.specs.Limits.{LimitNumbers}
use Rattle.ew_model.specs.Operations.{operations}
use Rattle.ew_model.specs.Rounds.{after_out_of_range}
use Rattle.replica.specs.Counting.{Counted}
use Rattle.replica.specs.Desks.{Counts}

-- some judgements lead from a desk to another, and were counted
pub record Reaches (limits : LimitNumbers) (from to : Desk) (before after : Counted) : Type 0 where
  pub number : ℕ
  pub answers : List Answer
  pub judged : judgements limits true number from ≡ record { desk = to; answers = answers }
  pub counted : Counts answers before after

-- Some judgements were made, and these are the operations of the events that they appended. Where there is more to do, at least
-- one was made, the last of them answered OutOfRange and none before it did; and else none is left to make.
pub record IsRound (limits : LimitNumbers) (from to : Desk) (before after : Counted) (ops : List TextOp) (more : Bool) : Type 0 where
  pub reached : Reaches limits from to before after
  pub ops_are : ops ≡ drop (length from.held) (operations to.held)
  pub fewer : more ≡ true → most_judgements to < most_judgements from
  pub next : more ≡ true → after_out_of_range limits (most_judgements from) from ≡ Some to
  pub last : more ≡ false → next_judgement limits true to ≡ None
