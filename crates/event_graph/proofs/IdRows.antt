-- The rows by an event's id.
use Rattle.std.proofs.Common.{◌≡◌, ℕ, Bool, true, false, List, [], ◌∷◌, ◌++◌, position, Some, None, is_some, refl, sym, ap, ◌∙◌, subst, append-nil}
use Rattle.std.specs.Prelude.{slice_get}
use Rattle.std.specs.List.{list_any}
use Rattle.std.specs.Bool.{then_some}
use Rattle.std.proofs.lemmas.Bool.{false≢true, false_from_ne_true}
use Rattle.ew_model.specs.declared.id.Id.{Id}
use Rattle.ew_model.specs.declared.event.Event.{Event}
use Rattle.ew_model.specs.Ids.{id_eq}
use Rattle.ew_model.specs.Events.{event_eq}
use Rattle.ew_model.specs.Ancestors.{ids_of, is_held, ancestors}
use Rattle.ew_model.specs.Ids.{is_among}
use Rattle.ew_model.specs.Verdicts.{id_rows}
use Rattle.ew_model.specs.Verdicts.Ruling.{Repeat, Clash}
use Rattle.ew_model.proofs.IdLaws.{is_same_id}
use Rattle.ew_model.proofs.MergeSteps.{same_event}
use Rattle.ew_model.proofs.SubgraphLaws.{one_event}
use Rattle.ew_model.proofs.EntryLaws.{LaidOut, ancestors_held}
use Rattle.ew_model.proofs.CoverLaws.{held_of}
use Rattle.ew_model.proofs.KeptLaws.{no_repeat}
use Rattle.ew_model.proofs.VersionLaws.{any_from, found_by}
use Rattle.event_graph.specs.Rows.{row_in}
use Rattle.event_graph.proofs.Places.{event_among}
use Rattle.ew_model.proofs.ListParts.{is_some-position}
use Rattle.ew_model.proofs.SameEvents.{same_events}

repeats : (a b : Bool) → a ≡ true → row_in (then_some a Repeat ∷ then_some b Clash ∷ []) ≡ Some Repeat
repeats true b h = refl
repeats false b h = absurd (false≢true h)

clashes : (a b : Bool) → a ≡ false → b ≡ true → row_in (then_some a Repeat ∷ then_some b Clash ∷ []) ≡ Some Clash
clashes true b h k = absurd (false≢true (sym h))
clashes false true h k = refl
clashes false false h k = absurd (false≢true k)

neither : (a b : Bool) → a ≡ false → b ≡ false → row_in (then_some a Repeat ∷ then_some b Clash ∷ []) ≡ None
neither true b h k = absurd (false≢true (sym h))
neither false true h k = absurd (false≢true (sym k))
neither false false h k = refl

-- an equal event is held
pub row_of_repeat : (history : List Event) (e f : Event) (place : ℕ) → slice_get history place ≡ Some f → e ≡ f → row_in (id_rows history [] e) ≡ Some Repeat
unfolding id_rows
row_of_repeat history e f place h same =
    repeats (list_any (event_eq e) (history ++ [])) (is_held (history ++ []) e.id)
    (ap (λ (l : List Event). list_any (event_eq e) l) (append-nil history)
    ∙ any_from (event_eq e) history f (event_among history place f h) (subst (λ (g : Event). event_eq e g ≡ true) same (same_event e)))

-- another event with its id is held
pub row_of_clash : (history : List Event) (e f : Event) (place : ℕ) → LaidOut [] history → slice_get history place ≡ Some f → e.id ≡ f.id → (e ≡ f → ⊥) → row_in (id_rows history [] e) ≡ Some Clash
unfolding id_rows
row_of_clash history e f place there h id other =
    let m = event_among history place f h in
    clashes (list_any (event_eq e) (history ++ [])) (is_held (history ++ []) e.id)
    (ap (λ (l : List Event). list_any (event_eq e) l) (append-nil history)
    ∙ false_from_ne_true (list_any (event_eq e) history) (λ q.
    let g = found_by (event_eq e) history q in
    let same : e ≡ g.0 = same_events e g.0 g.2 in
    let ids : f.id ≡ g.0.id = sym id ∙ ap (λ (x : Event). x.id) same in
    other (same ∙ sym (one_event [] history f g.0 there m g.1 ((is_same_id f.id g.0.id).1 ids)))))
    (ap (λ (l : List Event). is_held l e.id) (append-nil history) ∙ (ap (is_held history) id ∙ held_of history f m))

-- none with its id is held
pub row_of_unheld : (history : List Event) (e : Event) → is_held history e.id ≡ false → row_in (id_rows history [] e) ≡ None
unfolding id_rows
row_of_unheld history e new =
    neither (list_any (event_eq e) (history ++ [])) (is_held (history ++ []) e.id)
    (ap (λ (l : List Event). list_any (event_eq e) l) (append-nil history) ∙ no_repeat history e new)
    (ap (λ (l : List Event). is_held l e.id) (append-nil history) ∙ new)

pub row_of_new : (history : List Event) (e : Event) → position (id_eq e.id) (ids_of history) ≡ None → row_in (id_rows history [] e) ≡ None
row_of_new history e h = row_of_unheld history e (sym (is_some-position (id_eq e.id) (ids_of history)) ∙ ap is_some h)

-- what isn't held is no ancestor
pub not_known : (history : List Event) (named : List Id) (x : Id) → position (id_eq x) (ids_of history) ≡ None → is_among (ancestors history named) x ≡ false
not_known history named x h =
    let new : is_held history x ≡ false = sym (is_some-position (id_eq x) (ids_of history)) ∙ ap is_some h in
    false_from_ne_true (is_among (ancestors history named) x) (λ q. false≢true (sym new ∙ ancestors_held history named x q))
