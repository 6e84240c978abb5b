-- What a replica keeps beside its events: their text, and how long it was after each.
use Rattle.std.specs.Prelude.{◌≡◌, ℕ, List, Option, IfSome, drop}
use Rattle.ew_model.specs.declared.event.Event.{Event}
use Rattle.ew_model.specs.declared.text_op.TextOp.{TextOp}
use Rattle.ew_model.specs.Limits.{LimitNumbers}
use Rattle.ew_model.specs.Ancestors.{heads}
use Rattle.ew_model.specs.Operations.{operations}
use Rattle.ew_model.specs.Positions.{positions_in}
use Rattle.ew_model.specs.Texts.{text_of}
use Rattle.ew_model.specs.Kept.{IsKept}
use Rattle.waiting_pool.specs.Waiting.{Waiting, events_of}
use Rattle.waiting_pool.specs.Knowing.{IsBehind}
use Rattle.replica.specs.declared.recent.Recent.{Recent}
use Rattle.replica.specs.Lengths.{prefix_lengths}

-- the positions of the heads, rising
abbrev pub head_positions : List Event → List ℕ
head_positions history = positions_in history (heads history)

-- The events may be held and these may wait, what is known of the waiting ones holds, the text is that of those held, and each
-- length is that of the text up to an event.
pub record IsUpToDate (limits : LimitNumbers) (held : List Event) (pool : Waiting) (text lengths : List ℕ) : Type 0 where
  pub kept : IsKept limits held (events_of pool)
  pub limit : pool.limit ≡ limits.waiting
  pub behind : IsBehind held pool
  pub text_is : text ≡ text_of held
  pub lengths_are : lengths ≡ prefix_lengths held

-- the operations that a text is told by, where it is, are those of the events held
abbrev pub IsToldBy : List Event → Option (List TextOp) → Type 0
IsToldBy held told = IfSome told (λ ops. ops ≡ operations held)

-- the operations kept of the latest events, where they are, are those of the events held from their number on
abbrev pub AreRecent : List Event → Option Recent → Type 0
AreRecent held recent = IfSome recent (λ r. r.ops ≡ drop r.from (operations held))
