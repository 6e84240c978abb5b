-- Deletions that are applied one after another at one index.
use Rattle.std.specs.Prelude.{◌≡◌, ℕ, zero, suc, ◌+◌, ◌<◌, nat_eq, List, [], ◌∷◌, ◌++◌, length}
use Rattle.ew_model.specs.declared.text_op.TextOp.{TextOp}
use Rattle.ew_model.specs.Entries.{visible}
use Rattle.ew_model.specs.Operations.{next_operation}
use Rattle.ew_model.specs.Places.Act.{DeleteAt}
use Rattle.ew_model.specs.Records.{next_of, prepared_entries}
use Rattle.ew_model.specs.Tree.{Applied, tree_of}
use Rattle.advance_retreat.specs.Conditions.{MayDelete}
use Rattle.advance_retreat.specs.Kept.{Kept}
use Rattle.advance_retreat.specs.Standing.{StandsFor}

-- a deletion may be applied at each of so many positions from this on
abbrev pub MayDeleteEach : List (Applied ℕ) → ℕ → ℕ → Type 0
MayDeleteEach events lv n = (k : ℕ) → k < n → MayDelete events (lv + k)

-- Over these events, with these prepared, a deletion at an index is in range, the deletion does this to the text, and the new state stands for the events with it.
pub record Deletes (new : Kept) (lv at : ℕ) (op : TextOp) (b : ℕ) (events : List (Applied ℕ)) (prepared : List ℕ) : Type 0 where
  pub within : at < length (visible (prepared_entries b events prepared))
  pub does : next_operation nat_eq b (tree_of nat_eq b events) (next_of lv (DeleteAt at) prepared) ≡ op
  pub stands : StandsFor new b (events ++ next_of lv (DeleteAt at) prepared ∷ []) (lv ∷ prepared)

-- So many deletions by the events from a position on were applied one after another, each at this index, and each did this to the text. What each did holds of whatever the state before it stands for.
abbrev pub DeletedEach : Kept → Kept → ℕ → ℕ → TextOp → ℕ → Type 0
DeletedEach old new lv at op zero = new ≡ old
DeletedEach old new lv at op (suc k) =
    (now : Kept) × DeletedEach old now lv at op k
    × ((b : ℕ) (events : List (Applied ℕ)) (prepared : List ℕ) → StandsFor now b events prepared → MayDelete events (lv + k) → Deletes new (lv + k) at op b events prepared)
