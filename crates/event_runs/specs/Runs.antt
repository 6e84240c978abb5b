-- The runs of a history: neighbouring events that go on with one another.
use Rattle.std.specs.Prelude.{◌≡◌, ℕ, suc, ◌+◌, ◌<◌, ◌≤◌, List, [], ◌∷◌, ◌++◌, Some, take, length, slice_get}
use Rattle.std.specs.List.{flat_map}
use Rattle.ew_model.specs.declared.event.Op.{Op}
use Rattle.ew_model.specs.declared.event.Op.TheVariants.{Ins, Del}
use Rattle.event_runs.specs.BareEvents.{BareEvent}

-- how each operation of a run goes on with the one before it
pub data Way : Type 0 where
  Typing : Way
  Deleting : Way
  DeletingBack : Way

-- Typing, a character is inserted right behind the one before. Deleting, the index stays the same. Deleting back, it is
-- the one right before.
abbrev pub GoesOn : Way → Op → Op → Type 0
GoesOn Typing (Ins i c) (Ins j d) = j ≡ suc i
GoesOn Deleting (Del i) (Del j) = j ≡ i
GoesOn DeletingBack (Del i) (Del j) = suc j ≡ i
GoesOn way x y = ⊥

-- Some events that make one run, the first of which has this position: each but the first has exactly the event before
-- it as its parents, and all go on in one way.
pub record IsRun (position : ℕ) (events : List BareEvent) : Type 0 where
  pub some : 0 < length events
  pub chain : (k : ℕ) (y : BareEvent) → slice_get events (suc k) ≡ Some y → y.parents ≡ (position + k) ∷ []
  pub steady : (way : Way) × ((k : ℕ) (x y : BareEvent) → slice_get events k ≡ Some x → slice_get events (suc k) ≡ Some y → GoesOn way x.op y.op)

-- The runs stand one behind the other, the first of them from this position on. Each goes on as far as it can:
-- with the first event of the next it would be no run.
abbrev pub AreMaximalFrom : ℕ → List (List BareEvent) → Type 0
AreMaximalFrom position [] = Unit {0}
AreMaximalFrom position (run ∷ []) = IsRun position run
AreMaximalFrom position (run ∷ next ∷ runs) = IsRun position run × (IsRun position (run ++ take 1 next) → ⊥) × AreMaximalFrom (position + length run) (next ∷ runs)

-- the history cut into its runs, the oldest first
pub record AreRunsOf (history : List BareEvent) (runs : List (List BareEvent)) : Type 0 where
  pub whole : flat_map (λ run. run) runs ≡ history
  pub maximal : AreMaximalFrom 0 runs

-- how many runs the history has
abbrev pub IsRunCount : List BareEvent → ℕ → Type 0
IsRunCount history count = (runs : List (List BareEvent)) × AreRunsOf history runs × (length runs ≡ count)

-- the position of the first event in the run of the event at a position
pub record IsRunStart (history : List BareEvent) (position : ℕ) (start : ℕ) : Type 0 where
  pub before : List (List BareEvent)
  pub run : List BareEvent
  pub after : List (List BareEvent)
  pub runs : AreRunsOf history (before ++ run ∷ after)
  pub starts : length (flat_map (λ r. r) before) ≡ start
  pub from : start ≤ position
  pub to : position < start + length run

-- the position behind the last event in the run of the event at a position
pub record IsRunEnd (history : List BareEvent) (position : ℕ) (end : ℕ) : Type 0 where
  pub before : List (List BareEvent)
  pub run : List BareEvent
  pub after : List (List BareEvent)
  pub runs : AreRunsOf history (before ++ run ∷ after)
  pub from : length (flat_map (λ r. r) before) ≤ position
  pub to : position < end
  pub ends : length (flat_map (λ r. r) before) + length run ≡ end
