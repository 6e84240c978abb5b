-- Operations that take one step, and their events.
use Rattle.std.specs.Prelude.{ℕ, suc, ◌+◌, ◌≤◌, ◌^◌, List, [], ◌∷◌, length}
use Rattle.ew_model.specs.declared.event.Op.{Op}
use Rattle.ew_model.specs.Edits.{insertions_at, deletions_at, back_deletions_at}
use Rattle.event_runs.specs.declared.ops.RunOps.{RunOps}
use Rattle.event_runs.specs.declared.ops.RunOps.TheVariants as run
use Rattle.event_runs.specs.BareEvents.{BareEvent, bare}

-- the operations one by one
abbrev pub ops_of : RunOps → List Op
ops_of (run.Insertions at text) = insertions_at at text.now
ops_of (run.Deletions at count) = deletions_at at count
ops_of (run.BackDeletions at count) = back_deletions_at at count

-- each of the indices is a number of 32 bits, and none falls below 0
abbrev pub IndicesFit : RunOps → Type 0
IndicesFit (run.Insertions at text) = at + length text.now ≤ 2 ^ 32
IndicesFit (run.Deletions at count) = Unit {0}
IndicesFit (run.BackDeletions at count) = count ≤ suc at

-- the events of these operations in a chain: the first has the event at a position as its one parent, each further one the event
-- before it
abbrev pub chain_on : ℕ → List Op → List BareEvent
chain_on position [] = []
chain_on position (op ∷ ops) = bare op (position ∷ []) ∷ chain_on (position + 1) ops
