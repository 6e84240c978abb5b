-- That no acknowledged batch is ever lost, over every list of openings, appends and crashes.
use Rattle.std.specs.Prelude.{◌≡◌, ◌⊎◌, ℕ, List, [], ◌∷◌, ◌++◌}
use Rattle.ew_model.specs.declared.event.Event.{Event}
use Rattle.peer_definitions.specs.Batches.{journal_events}
use Rattle.event_journal.specs.Journal.{Holds, HoldSame, HoldsOneMoreAtMost, HoldsEvents}

-- What happens to a journal's disk: an opening, whatever it answers, and also one that a crash cuts short; an append that is answered Ok;
-- an append that isn't, since the disk failed or a crash came first; and a crash. An append that is answered Closed or OutOfMemory leaves
-- the disk as it was, and is no step.
pub data Step : Type 0 where
  Opening : Step
  Acknowledged : (batch : List Event) → Step
  Unacknowledged : (batch : List Event) → Step
  Crash : Step

-- What a step does to the bytes that a crash leaves: those before the step, and those that a crash leaves at a moment of the step. The
-- clauses `any_moment` of `Journal::open` and `Journal::append` and the clause `acknowledged` say it in these words; an append is
-- acknowledged from its answer on.
abbrev pub Leads : ℕ → Step → List ℕ → List ℕ → Type 0
Leads most Opening old new = HoldSame most old new
Leads most (Acknowledged batch) old new = (batches : List (List Event)) → Holds most batches old → Holds most (batches ++ batch ∷ []) new
Leads most (Unacknowledged batch) old new = (batches : List (List Event)) → Holds most batches old → HoldsOneMoreAtMost most batches batch new
Leads most Crash old new = new ≡ old

-- what steps, one after another, do to the bytes that a crash leaves
abbrev pub LeadTo : ℕ → List Step → List ℕ → List ℕ → Type 0
LeadTo most [] old new = new ≡ old
LeadTo most (step ∷ steps) old new = (mid : List ℕ) × Leads most step old mid × LeadTo most steps mid new

-- The batches are those of the steps' appends, in order: each acknowledged one, and of the others any.
abbrev pub AreOf : List Step → List (List Event) → Type 0
AreOf [] added = added ≡ []
AreOf (Opening ∷ steps) added = AreOf steps added
AreOf (Acknowledged batch ∷ steps) added = (later : List (List Event)) × (added ≡ batch ∷ later) × AreOf steps later
AreOf (Unacknowledged batch ∷ steps) added = AreOf steps added ⊎ ((later : List (List Event)) × (added ≡ batch ∷ later) × AreOf steps later)
AreOf (Crash ∷ steps) added = AreOf steps added

-- The bytes hold the batches from before, and then those of the steps. An opening that answers events answers those of all these batches.
pub record Lasts (most : ℕ) (steps : List Step) (batches : List (List Event)) (bytes : List ℕ) : Type 0 where
  pub added : List (List Event)
  pub are : AreOf steps added
  pub held : Holds most (batches ++ added) bytes
  pub told : (events : List Event) → HoldsEvents most events bytes → events ≡ journal_events (batches ++ added)

-- Whatever openings, appends and crashes there are, every crash leaves each batch from before and each that was acknowledged, in order.
abbrev pub NoBatchIsLost : Type 0
NoBatchIsLost = (most : ℕ) (steps : List Step) (batches : List (List Event)) (old new : List ℕ) → Holds most batches old → LeadTo most steps old new → Lasts most steps batches new
