-- Each event of a history has its entry over the whole history: what comes later doesn't matter.
use Rattle.std.proofs.Common.{◌≡◌, ℕ, Bool, true, false, cond, List, [], ◌∷◌, ◌++◌, filter, flat_map, Option, Some, None, refl, sym, ap, ◌∙◌, append_assoc, append-nil}
use Rattle.std.specs.List.{list_any, AllByRecursion}
use Rattle.std.proofs.lemmas.Bool.{false≢true, false_from_ne_true}
use Rattle.std.proofs.lemmas.List.Elements.{filter-append}
use Rattle.ew_model.specs.declared.id.Id.{Id}
use Rattle.ew_model.specs.declared.event.Event.{Event}
use Rattle.ew_model.specs.Ids.{id_eq, is_among}
use Rattle.ew_model.specs.Ancestors.{is_held, ancestors}
use Rattle.ew_model.specs.Entries.{Entry}
use Rattle.ew_model.specs.Tree.{Noted, act_by, all_entries, entries_over, next_entry, noted_as, tree_of, tree_on}
use Rattle.ew_model.specs.Places.{place}
use Rattle.ew_model.proofs.AncestorLaws.{NoneNamed, ancestors_before}
use Rattle.ew_model.proofs.VersionLaws.{PointsBack}
use Rattle.ew_model.proofs.GraphOrder.{AreLaidOut, AreNew, laid_point_back, new_before, new_less, laid_new, known_held}
use Rattle.ew_model.proofs.TreeLaws.{entry_after, tree_on-push}

-- Behind the events before, each event has its own id, and no parent that is itself or comes later.
abbrev pub LaidOut : List Event → List Event → Type 0
LaidOut before later = AreLaidOut (λ (e : Event). e.id) (λ (e : Event). e.parents) id_eq before later

-- none of the events is held
abbrev pub NoneHeld : List Event → List Event → Type 0
NoneHeld before events = AreNew (λ (e : Event). e.id) (λ (e : Event). e.parents) id_eq before events

pub points_back : (before later : List Event) → LaidOut before later → PointsBack later
points_back before later h = laid_point_back (λ (e : Event). e.id) (λ (e : Event). e.parents) id_eq before later h

-- what isn't held after more events wasn't held before
pub not_held_before : (before : List Event) (e : Event) (x : Id) → is_held (before ++ e ∷ []) x ≡ false → is_held before x ≡ false
not_held_before before e x h = new_before (λ (e : Event). e.id) (λ (e : Event). e.parents) id_eq before e x h

pub none_held_less : (before : List Event) (e : Event) (events : List Event) → NoneHeld (before ++ e ∷ []) events → NoneHeld before events
none_held_less before e events h = new_less (λ (e : Event). e.id) (λ (e : Event). e.parents) id_eq before e events h

pub none_held : (before later : List Event) → LaidOut before later → NoneHeld before later
none_held before later h = laid_new (λ (e : Event). e.id) (λ (e : Event). e.parents) id_eq before later h

-- ancestors are held
pub ancestors_held : (history : List Event) (named : List Id) (x : Id) → is_among (ancestors history named) x ≡ true → is_held history x ≡ true
ancestors_held history named x e = known_held (λ (e : Event). e.id) (λ (e : Event). e.parents) id_eq history named x e

not_ancestor : (history : List Event) (named : List Id) (x : Id) → is_held history x ≡ false → is_among (ancestors history named) x ≡ false
not_ancestor history named x h = false_from_ne_true (is_among (ancestors history named) x) (λ e. false≢true (sym h ∙ ancestors_held history named x e))

-- the entries that later events add
abbrev pub notes_from : ℕ → List Event → List Event → List (Noted Id)
notes_from b before [] = []
notes_from b before (e ∷ later) = noted_as e.id (entry_after b before e) ++ notes_from b (before ++ e ∷ []) later

pub tree_on-append : (b : ℕ) (before later : List Event) → tree_on b (before ++ later) ≡ tree_on b before ++ notes_from b before later
tree_on-append b before [] = ap (tree_on b) (append-nil before) ∙ sym (append-nil (tree_on b before))
tree_on-append b before (e ∷ later) =
    ap (tree_on b) (sym (append_assoc before (e ∷ []) later))
    ∙ tree_on-append b (before ++ e ∷ []) later
    ∙ ap (λ ns. ns ++ notes_from b (before ++ e ∷ []) later) (tree_on-push b before e)
    ∙ append_assoc (tree_on b before) (noted_as e.id (entry_after b before e)) (notes_from b (before ++ e ∷ []) later)

-- none are left where none passes
pub filter_none : {X : Type 0} (p : X → Bool) (xs : List X) → AllByRecursion (λ x. p x ≡ false) xs → filter p xs ≡ []
filter_none p [] h = refl
filter_none p (x ∷ xs) h = ap (λ b. cond b (x ∷ filter p xs) (filter p xs)) h.0 ∙ filter_none p xs h.1

pub all_joined : {X : Type 0} (P : X → Type 0) (xs ys : List X) → AllByRecursion P xs → AllByRecursion P ys → AllByRecursion P (xs ++ ys)
all_joined P [] ys h k = k
all_joined P (x ∷ xs) ys h k = (h.0, all_joined P xs ys h.1 k)

pub all_noted : (P : Id → Type 0) (x : Id) (o : Option Entry) → P x → AllByRecursion (λ (n : Noted Id). P n.name) (noted_as x o)
all_noted P x None h = tt
all_noted P x (Some entry) h = (h, tt)

-- the notes of events are under their ids
pub all_notes_from : (P : Id → Type 0) (b : ℕ) (before later : List Event) → AllByRecursion (λ f. P f.id) later → AllByRecursion (λ (n : Noted Id). P n.name) (notes_from b before later)
all_notes_from P b before [] h = tt
all_notes_from P b before (e ∷ later) h =
    all_joined (λ n. P n.name) (noted_as e.id (entry_after b before e)) (notes_from b (before ++ e ∷ []) later) (all_noted P e.id (entry_after b before e) h.0) (all_notes_from P b (before ++ e ∷ []) later h.1)

pub all_mapped : {X : Type 0} (P Q : X → Type 0) (xs : List X) → ((x : X) → P x → Q x) → AllByRecursion P xs → AllByRecursion Q xs
all_mapped P Q [] f h = tt
all_mapped P Q (x ∷ xs) f h = (f x h.0, all_mapped P Q xs f h.1)

-- Later events that aren't named as parents leave the event's entry as it is.
pub entry_kept : (b : ℕ) (before later : List Event) (e : Event) → NoneNamed later e.parents → NoneHeld before later → entry_after b (before ++ later) e ≡ entry_after b before e
unfolding next_entry
entry_kept b before later e named held =
    let over = ancestors before e.parents in
    let act = act_by e.id e.op in
    let among : (n : Noted Id) → Bool = λ n. list_any (id_eq n.name) over in
    let none : filter among (notes_from b before later) ≡ [] =
    filter_none among (notes_from b before later)
    (all_notes_from (λ x. is_among over x ≡ false) b before later (all_mapped (λ f. is_held before f.id ≡ false) (λ f. is_among over f.id ≡ false) later (λ f h. not_ancestor before e.parents f.id h) held)) in
    ap (λ names. place act (entries_over id_eq b (tree_on b (before ++ later)) names)) (ancestors_before before later e.parents named)
    ∙ ap (λ notes. place act (entries_over id_eq b notes over)) (tree_on-append b before later)
    ∙ ap (λ notes. place act (all_entries b notes))
    (filter-append among (tree_on b before) (notes_from b before later) ∙ ap (λ notes. filter among (tree_on b before) ++ notes) none ∙ append-nil (filter among (tree_on b before)))

-- what an event has noted in a history
abbrev pub notes_of : ℕ → List Event → Event → List (Noted Id)
notes_of b history e = noted_as e.id (entry_after b history e)

notes_from_whole : (b : ℕ) (before later : List Event) → LaidOut before later → notes_from b before later ≡ flat_map (notes_of b (before ++ later)) later
notes_from_whole b before [] h = refl
notes_from_whole b before (e ∷ later) h =
    let kept : entry_after b (before ++ e ∷ later) e ≡ entry_after b before e = entry_kept b before (e ∷ later) e h.1 (none_held before (e ∷ later) h) in
    ap (λ o. noted_as e.id o ++ notes_from b (before ++ e ∷ []) later) (sym kept)
    ∙ ap (λ notes. notes_of b (before ++ e ∷ later) e ++ notes) (notes_from_whole b (before ++ e ∷ []) later h.2 ∙ ap (λ whole. flat_map (notes_of b whole) later) (append_assoc before (e ∷ []) later))

tree_on-nil : (b : ℕ) → tree_on b [] ≡ []
unfolding tree_on tree_of
tree_on-nil b = refl

-- The tree of a history has for each event its entry over the whole history.
pub tree_on_whole : (b : ℕ) (history : List Event) → LaidOut [] history → tree_on b history ≡ flat_map (notes_of b history) history
tree_on_whole b history h =
    tree_on-append b [] history ∙ ap (λ notes. notes ++ notes_from b [] history) (tree_on-nil b) ∙ notes_from_whole b [] history h
