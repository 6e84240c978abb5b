-- What an edit changes among the pairs of a branch. (No public contract cites this.)
use Rattle.std.specs.Prelude.{◌≡◌, ℕ, ◌<◌, ◌≤◌, Some, None, IfSome, List, [], ◌∷◌, ◌++◌, length, All, Contains}
use Rattle.ew_model.specs.declared.run.Run.{Ghosts}
use Rattle.order_tree.specs.declared.summary.Sums.{Sums}
use Rattle.order_tree.specs.declared.edit.Edit.{Edit}
use Rattle.order_tree.specs.declared.edit.Edit.TheVariants.{Insert, Split}
use Rattle.order_tree.specs.Pairs.{next_label, HasRoomBelow, ArePartsOf, SumsFit}
use Rattle.order_tree.specs.Parts.{sums_of}

module _ {R : Type 0} where
  -- what stood between a front of labels up to this one and a back of greater labels gave way to other pairs
  pub record Replaces (label : ℕ) (old new was is : List (ℕ × R)) : Type 0 where
    pub front : List (ℕ × R)
    pub back : List (ℕ × R)
    pub old_is : old ≡ front ++ (was ++ back)
    pub new_is : new ≡ front ++ (is ++ back)
    pub below : All (λ p. p.0 ≤ label) front
    pub above : All (λ p. label < p.0) back

  -- the edit at the label puts these pairs in the place of those, a new run under its own label, the one that is given where one is
  abbrev pub Puts : Ghosts R → Edit R → ℕ → ℕ → List (ℕ × R) → List (ℕ × R) → Type 0
  Puts G (Insert run) label own was is = (was ≡ []) × (is ≡ (own, run) ∷ [])
  Puts G (Split at given) label own was is =
      (r : R) × (first : R) × (second : R) × (was ≡ (label, r) ∷ []) × (is ≡ (label, first) ∷ (own, second) ∷ []) × ArePartsOf G r at first second × IfSome given (λ n. own ≡ n)

  -- there is a run at the label, where the edit is of one, and a place to cut it inside
  abbrev pub IsPlaced : Ghosts R → Edit R → ℕ → List (ℕ × R) → Type 0
  IsPlaced G (Insert run) label ps = Unit {0}
  IsPlaced G (Split at given) label ps = (r : R) × Contains ps (label, r) × (0 < at) × (at < length (G.chars r))

  -- the label of a new run is between this one and the next
  abbrev pub IsBetween : ℕ → ℕ → ℕ → List (ℕ × R) → Type 0
  IsBetween bound label own ps = (label < own) × (own < next_label bound ps label)

  -- there is a label for the new run: one is free behind this one, or the one that is given is
  abbrev pub IsFree : Edit R → ℕ → List (ℕ × R) → ℕ → Type 0
  IsFree (Insert run) bound ps label = HasRoomBelow bound ps label
  IsFree (Split at None) bound ps label = HasRoomBelow bound ps label
  IsFree (Split at (Some own)) bound ps label = IsBetween bound label own ps

  -- the edit changed the pairs so, the new run standing under its own label, and lost and gained these sums
  pub record IsEdited (G : Ghosts R) (edit : Edit R) (bound label : ℕ) (old new : List (ℕ × R)) (own : ℕ) (lost gained : Sums) : Type 0 where
    pub was : List (ℕ × R)
    pub is : List (ℕ × R)
    pub replaces : Replaces label old new was is
    pub puts : Puts G edit label own was is
    pub between : IsBetween bound label own old
    pub lost_is : lost ≡ sums_of G was
    pub gained_is : gained ≡ sums_of G is

  -- whatever the edit leaves has sums that fit
  abbrev pub StaysFit : Ghosts R → Edit R → ℕ → List (ℕ × R) → Type 0
  StaysFit G edit label old = (own : ℕ) (was is new : List (ℕ × R)) → Replaces label old new was is → Puts G edit label own was is → SumsFit G new
