-- What a part of the tree is after a change was tried on the run of a label. The run takes the change or refuses it. (No public contract cites this.)
use Rattle.std.specs.Prelude.{◌≡◌, ℕ, Option, Some, None, List, Contains}
use Rattle.ew_model.specs.declared.run.Run.{Ghosts}
use Rattle.order_tree.specs.declared.summary.Summary.{Summary}
use Rattle.order_tree.specs.declared.change.Taken.{Taken}
use Rattle.order_tree.specs.Pairs.{SumsFit, changed}
use Rattle.order_tree.specs.Parts.{first_or_zero, last_known, sums_of, summary_of, IsMoved, IsKnownAfter}

module _ {R : Type 0} where
  -- the run of the label took the change. What was made of it stands in its place, all other pairs stay, and the sums moved by what was lost and gained
  pub record HasTaken (G : Ghosts R) (makes : R → Option R → Type 0) (label : ℕ) (old new : List (ℕ × R)) (taken : Taken R) : Type 0 where
    pub before : Contains old (label, taken.altered.before)
    pub after : makes taken.altered.before (Some taken.altered.after)
    pub pairs : new ≡ changed old label taken.altered.after
    pub moved : IsMoved (sums_of G old) taken.moved.lost taken.moved.gained (sums_of G new)
    pub gained : taken.moved.gained.known ≡ G.known taken.altered.after

  -- what a change that was tried on the run of a label answers: Some of what it did where the run took it, None where the run refused it and all pairs are as before
  abbrev pub IsAnswer : Ghosts R → (R → Option R → Type 0) → ℕ → List (ℕ × R) → List (ℕ × R) → Option (Taken R) → Type 0
  IsAnswer G makes label old new None = (new ≡ old) × ((run : R) → Contains old (label, run) → makes run None)
  IsAnswer G makes label old new (Some taken) = HasTaken G makes label old new taken

  -- what a node kept of its pairs before the change, where these are its pairs now. After a refusal it is still right. Else the first label stays, the last known label and the sums went on by what the change moved, and the new sums fit
  abbrev pub WasKept : Ghosts R → ℕ → List (ℕ × R) → Summary → Option (Taken R) → Type 0
  WasKept G label new old None = old ≡ summary_of G new
  WasKept G label new old (Some taken) =
      (old.first ≡ first_or_zero new) × IsKnownAfter old.last_known label taken.moved.gained.known (last_known G.known new) × SumsFit G new × IsMoved old.sums taken.moved.lost taken.moved.gained (sums_of G new)
