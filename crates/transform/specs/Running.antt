-- Where turns over events of one run lead.
use Rattle.std.specs.Prelude.{◌≡◌, ℕ, ◌+◌, ◌-◌, ◌<◌, ◌≤◌, true, false, List, length, map, take, drop, slice_get, Option}
use Rattle.ew_model.specs.declared.event.Event.{Event}
use Rattle.ew_model.specs.declared.text_op.TextOp.{TextOp}
use Rattle.ew_model.specs.Cuts.{is_critical, latest_cut}
use Rattle.ew_model.specs.Operations.{operations}
use Rattle.ew_model.specs.Positions.{parent_positions}
use Rattle.ew_model.specs.TextLaws.{own_change}
use Rattle.ew_model.specs.Verdicts.{IsGood}
use Rattle.frontier.specs.Chains.{IsChain}
use Rattle.advance_retreat.specs.Kept.{Kept}
use Rattle.operation_runs.specs.Runs.{run_ops, RunFits}
use Rattle.transform.specs.declared.apply.Turn.TheVariants as turn
use Rattle.transform.specs.declared.run.RunAt.{RunAt}
use Rattle.transform.specs.declared.run.Turns.{Turns}
use Rattle.transform.specs.declared.run.Turns.TheVariants.{To, OutOfRange}
use Rattle.transform.specs.Reaching.{Reached, TurnedAt, WalkedTo}

-- So many events from a position on are a chain: each but the first has the one before it as its only parent. These are the changes
-- of the first of them, and maybe of more behind: what each does to the text at its parents.
pub record IsRunAt (history : List Event) (position count : ℕ) (changes : List TextOp) : Type 0 where
  pub some : 0 < count
  pub within : position + count ≤ length history
  pub told : count ≤ length changes
  pub chain : IsChain (parent_positions history) position (position + count - 1)
  pub changes_are : (k : ℕ) → k < length changes → slice_get (map (λ (e : Event). own_change e.op) history) (position + k) ≡ slice_get changes k

-- no cut between so many events from a position on is critical
abbrev pub HasNoCut : List Event → ℕ → ℕ → Type 0
HasNoCut history position count = (k : ℕ) → position < k → k < position + count → is_critical history k ≡ false

-- the events of a run stand so in a history, and the indexes of their changes are numbers of 32 bits
pub record IsRunOf (history : List Event) (run : RunAt) : Type 0 where
  pub events : IsRunAt history run.position run.count (run_ops run.changes)
  pub fits : RunFits run.changes

-- each of so many events from a position on has others behind it, which all know all events up to it
abbrev pub StandAlone : List Event → ℕ → ℕ → Type 0
StandAlone history position count = (k : ℕ) → k < count → (position + k + 1 < length history) × (is_critical history (position + k + 1) ≡ true)

-- the operations of the events before a place that are asked for, which are those from a position on
abbrev pub emitted_to : List Event → ℕ → ℕ → List TextOp
emitted_to history from n = drop from (operations (take n history))

-- the place up to which turns walked
abbrev pub walked_to : Turns → ℕ
walked_to (To n) = n
walked_to (OutOfRange n len) = n

-- and up to which they judged
abbrev pub judged_to : Turns → ℕ
judged_to (To n) = n
judged_to (OutOfRange n len) = n + 1

-- Turns from a position on, where the events from a critical cut on up to there were applied, come to a later place; or to an event
-- before the end that is out of range, where all before it are good.
abbrev pub GoesTo : List Event → ℕ → ℕ → ℕ → Kept → Turns → Type 0
GoesTo history cut position end state (To n) = (position < n) × (n ≤ end) × Reached history cut n state
GoesTo history cut position end state (OutOfRange n len) = (position ≤ n) × (n < end) × IsGood (take n history) × TurnedAt history cut n state (turn.OutOfRange len)

-- The same of a walk from a place on, which forgets what is below each critical cut.
abbrev pub TurnsTo : List Event → ℕ → ℕ → ℕ → Option ℕ → Kept → Turns → Type 0
TurnsTo history from position end line state (To n) = (position < n) × (n ≤ end) × WalkedTo history from n line state
TurnsTo history from position end line state (OutOfRange n len) = (position ≤ n) × (n < end) × IsGood (take n history) × TurnedAt history (latest_cut history n) n state (turn.OutOfRange len)
