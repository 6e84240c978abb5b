-- Which cuts of a history stop being critical when an event is appended.
use Rattle.std.specs.Prelude.{ℕ, Bool, List, [], ◌∷◌, ◌++◌, take}
use Rattle.ew_model.specs.declared.id.Id.{Id}
use Rattle.ew_model.specs.declared.event.Event.{Event}
use Rattle.ew_model.specs.Ids.{id_eq}
use Rattle.ew_model.specs.Verdicts.{IsGood}
use Rattle.ew_model.specs.Cuts.{is_critical}
use Rattle.ew_model.specs.CutChange.{CutsChange, stays_behind, past_last, are_childless}

-- how many events there are up to the last that is named, it among them
abbrev pub past_last_parent : List Event → List Id → ℕ
past_last_parent history named = past_last (λ (e : Event). e.id) (λ (e : Event). e.parents) id_eq history named

-- the ids are the heads of the history, in whatever order
abbrev pub are_heads : List Event → List Id → Bool
are_heads history ids = are_childless (λ (e : Event). e.id) (λ (e : Event). e.parents) id_eq history ids

-- the rule for a cut when an event with these parents is appended
abbrev pub cut_stays : List Event → List Id → ℕ → Bool
cut_stays history parents k = stays_behind (past_last_parent history parents) (are_heads (take (past_last_parent history parents) history) parents) k

-- the critical cuts of a history with one more event
abbrev pub CutsAfter : List Event → Event → Type 0
CutsAfter history e = CutsChange is_critical history e (past_last_parent history e.parents) (are_heads (take (past_last_parent history e.parents) history) e.parents)

-- The cuts of a good history with one more event are those that stay, and its whole length.
abbrev pub CutsStep : Type 0
CutsStep = (history : List Event) (e : Event) → IsGood (history ++ e ∷ []) → CutsAfter history e
