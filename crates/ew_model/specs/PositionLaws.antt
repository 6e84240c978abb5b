-- A history and its parents' positions tell the same.
use Rattle.std.specs.Prelude.{◌≡◌, ℕ, Some, List, [], ◌∷◌, ◌++◌, slice_get}
use Rattle.ew_model.specs.declared.id.Id.{Id}
use Rattle.ew_model.specs.declared.event.Event.{Event}
use Rattle.ew_model.specs.Ids.{is_among}
use Rattle.ew_model.specs.Ancestors.{ancestors, heads}
use Rattle.ew_model.specs.Ancestors.{is_reduced}
use Rattle.ew_model.specs.Verdicts.{IsGood}
use Rattle.ew_model.specs.Cuts.{is_critical, latest_cut, cuts_of}
use Rattle.ew_model.specs.Positions.{IsHistoryOfParents, known_positions, is_known_at, frontier_of, is_reduced_at, is_cut_at, latest_cut_at, cuts_at, positions_in, parent_positions}

-- The versions, the heads, the reduced ids and the cuts of a history, told by positions.
pub record AgreesByPositions (history : List Event) : Type 0 where
  pub parents : IsHistoryOfParents (parent_positions history)
  pub versions : (ids : List Id) → known_positions (parent_positions history) (positions_in history ids) ≡ positions_in history (ancestors history ids)
  pub known : (ids : List Id) (position : ℕ) (e : Event) → slice_get history position ≡ Some e
      → is_known_at (parent_positions history) (positions_in history ids) position ≡ is_among (ancestors history ids) e.id
  pub heads : frontier_of (parent_positions history) ≡ positions_in history (heads history)
  pub reduced : (ids : List Id) → is_reduced_at (parent_positions history) (positions_in history ids) ≡ is_reduced history ids
  pub cut : (k : ℕ) → is_cut_at (parent_positions history) k ≡ is_critical history k
  pub latest : (m : ℕ) → latest_cut_at (parent_positions history) m ≡ latest_cut history m
  pub cuts : cuts_at (parent_positions history) ≡ cuts_of history

abbrev pub PositionsAgree : Type 0
PositionsAgree = (history : List Event) → IsGood history → AgreesByPositions history

-- One more event adds its parents' positions, and changes no others.
abbrev pub PositionsGrow : Type 0
PositionsGrow = (history : List Event) (e : Event) → IsGood (history ++ e ∷ []) → parent_positions (history ++ e ∷ []) ≡ parent_positions history ++ positions_in history e.parents ∷ []
