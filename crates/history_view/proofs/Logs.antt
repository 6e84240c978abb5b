-- Listings with a line for each event, one line after another.
use Rattle.std.proofs.Common.{◌≡◌, ℕ, zero, suc, ◌+◌, List, [], ◌∷◌, ◌++◌, map, flat_map, take, Some, None, slice_get, refl, sym, ap, ◌∙◌, append_assoc, append-nil, add-one}
use Rattle.ew_model.specs.declared.id.Id.{Id}
use Rattle.ew_model.specs.declared.event.Op.{Op}
use Rattle.ew_model.specs.declared.event.Event.{Event}
use Rattle.ew_model.specs.Ancestors.{ids_of}
use Rattle.ew_model.proofs.ListPlaces.{none_is_some, some_is}
use Rattle.history_definitions.specs.Listings.{mark_line, marks_text}

next : (line : Event → List ℕ) (history : List Event) (n : ℕ) (e : Event) → slice_get history n ≡ Some e → flat_map line (take (suc n) history) ≡ flat_map line (take n history) ++ line e
next line [] n e is = none_is_some e is
next line (d ∷ history) zero e is = append-nil (line d) ∙ ap line (some_is d e is)
next line (d ∷ history) (suc n) e is = ap (λ t. line d ++ t) (next line history n e is) ∙ sym (append_assoc (line d) (flat_map line (take n history)) (line e))

-- the next event's line stands behind those of the events before it
pub line_next : (line : Event → List ℕ) (history : List Event) (n : ℕ) (e : Event) → slice_get history n ≡ Some e → flat_map line (take (n + 1) history) ≡ flat_map line (take n history) ++ line e
line_next line history n e is = ap (λ k. flat_map line (take k history)) (add-one n) ∙ next line history n e is

-- the event with the id and the operation that stand at a place
event_at : (history : List Event) (n : ℕ) (x : Id) (op : Op) → slice_get (ids_of history) n ≡ Some x → slice_get (map (λ (e : Event). e.op) history) n ≡ Some op
    → (e : Event) × (slice_get history n ≡ Some e) × (mark_line e.id e.op ≡ mark_line x op)
event_at [] n x op id does = none_is_some x id
event_at (d ∷ history) zero x op id does =
    let same_id = some_is d.id x id in
    let same_op = some_is d.op op does in
    (d, refl, (λ i. mark_line (same_id i) (same_op i)))
event_at (d ∷ history) (suc n) x op id does = event_at history n x op id does

-- the next event's line in the list of marks stands behind those of the events before it
pub mark_next : (history : List Event) (n : ℕ) (x : Id) (op : Op) → slice_get (ids_of history) n ≡ Some x → slice_get (map (λ (e : Event). e.op) history) n ≡ Some op
    → marks_text (take (n + 1) history) ≡ marks_text (take n history) ++ mark_line x op
mark_next history n x op id does =
    let found = event_at history n x op id does in
    line_next (λ e. mark_line e.id e.op) history n found.0 found.1 ∙ ap (λ t. marks_text (take n history) ++ t) found.2
