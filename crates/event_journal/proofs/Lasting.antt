-- No acknowledged batch is lost.
use Rattle.std.proofs.Common.{◌≡◌, inl, inr, ⊎_elim, ℕ, List, [], ◌∷◌, ◌++◌, None, refl, sym, ap, subst, ◌∙◌, append_assoc, append-nil}
use Rattle.ew_model.specs.declared.event.Event.{Event}
use Rattle.peer_definitions.specs.Batches.{journal_events}
use Rattle.peer_frames.proofs.Journals.{one_journal}
use Rattle.event_journal.specs.Journal.{Holds, HoldsEvents}
use Rattle.event_journal.specs.LastingLaw.{Step, LeadTo, AreOf, Lasts}
use Rattle.event_journal.specs.LastingLaw.Step.{Opening, Acknowledged, Unacknowledged, Crash}

told_of : (most : ℕ) (batches : List (List Event)) (bytes : List ℕ) → Holds most batches bytes → (events : List Event) → HoldsEvents most events bytes → events ≡ journal_events batches
told_of most batches bytes holds events (others, held, are) = are ∙ ap journal_events (one_journal most bytes others batches None None held holds).0

-- with one batch more
one_more : (most : ℕ) (step : Step) (steps : List Step) (batches : List (List Event)) (batch : List Event) (new : List ℕ)
    → ((later : List (List Event)) → AreOf steps later → AreOf (step ∷ steps) (batch ∷ later)) → Lasts most steps (batches ++ batch ∷ []) new → Lasts most (step ∷ steps) batches new
one_more most step steps batches batch new of rest =
    let held : Holds most (batches ++ batch ∷ rest.added) new = subst (λ (l : List (List Event)). Holds most l new) (append_assoc batches (batch ∷ []) rest.added) rest.held in
    record { added = batch ∷ rest.added; are = of rest.added rest.are; held = held; told = told_of most (batches ++ batch ∷ rest.added) new held }

-- with none
no_more : (most : ℕ) (step : Step) (steps : List Step) (batches : List (List Event)) (new : List ℕ)
    → ((added : List (List Event)) → AreOf steps added → AreOf (step ∷ steps) added) → Lasts most steps batches new → Lasts most (step ∷ steps) batches new
no_more most step steps batches new of rest = record { added = rest.added; are = of rest.added rest.are; held = rest.held; told = rest.told }

pub no_batch_is_lost : (most : ℕ) (steps : List Step) (batches : List (List Event)) (old new : List ℕ) → Holds most batches old → LeadTo most steps old new → Lasts most steps batches new
no_batch_is_lost most [] batches old new holds same =
    let held : Holds most (batches ++ []) new = subst (λ (l : List (List Event)). Holds most l new) (sym (append-nil batches)) (subst (Holds most batches) (sym same) holds) in
    record { added = []; are = refl; held = held; told = told_of most (batches ++ []) new held }
no_batch_is_lost most (Opening ∷ steps) batches old new holds (mid, leads, later) =
    no_more most Opening steps batches new (λ added are. are) (no_batch_is_lost most steps batches mid new ((leads batches None).0 holds) later)
no_batch_is_lost most (Acknowledged batch ∷ steps) batches old new holds (mid, leads, later) =
    one_more most (Acknowledged batch) steps batches batch new (λ l are. (l, refl, are)) (no_batch_is_lost most steps (batches ++ batch ∷ []) mid new (leads batches holds) later)
no_batch_is_lost most (Unacknowledged batch ∷ steps) batches old new holds (mid, leads, later) =
    ⊎_elim
    (λ (without : Holds most batches mid). no_more most (Unacknowledged batch) steps batches new (λ added are. inl are) (no_batch_is_lost most steps batches mid new without later))
    (λ (with : Holds most (batches ++ batch ∷ []) mid).
    one_more most (Unacknowledged batch) steps batches batch new (λ l are. inr (l, refl, are)) (no_batch_is_lost most steps (batches ++ batch ∷ []) mid new with later))
    (leads batches holds)
no_batch_is_lost most (Crash ∷ steps) batches old new holds (mid, leads, later) =
    no_more most Crash steps batches new (λ added are. are) (no_batch_is_lost most steps batches mid new (subst (Holds most batches) (sym leads) holds) later)
