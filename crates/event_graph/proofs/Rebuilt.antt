-- A history is told by its ids, its operations and its parents' positions.
use Rattle.std.proofs.Common.{◌≡◌, ℕ, zero, suc, true, List, [], ◌∷◌, ◌++◌, map, filter, Some, refl, sym, ap, ◌∙◌, subst, append_assoc}
use Rattle.std.specs.Prelude.{slice_get}
use Rattle.std.specs.List.{AllByRecursion}
use Rattle.std.proofs.lemmas.Bool.{or_left}
use Rattle.ew_model.specs.declared.id.Id.{Id}
use Rattle.ew_model.specs.declared.event.Op.{Op}
use Rattle.ew_model.specs.declared.event.Event.{Event}
use Rattle.ew_model.specs.Sets.{Among}
use Rattle.ew_model.specs.Sorting.{sort_by}
use Rattle.ew_model.specs.Ids.{id_cmp, id_eq, is_among, ids_ascend}
use Rattle.ew_model.specs.Ancestors.{ids_of, is_held}
use Rattle.ew_model.specs.Positions.{positions_in, parents_at}
use Rattle.ew_model.proofs.IdLaws.{is_same_id}
use Rattle.ew_model.proofs.PathOrder.{id_total}
use Rattle.ew_model.proofs.SetLaws.{among_filter, filter_among}
use Rattle.ew_model.proofs.SortingLaws.{NoTies, all_at, ties_filter, sort_sorted, sorted_unique, sort_among, among_sort}
use Rattle.ew_model.proofs.EditHeads.{ids_apart}
use Rattle.ew_model.proofs.EntryLaws.{LaidOut}
use Rattle.ew_model.proofs.CoverLaws.{among_here}
use Rattle.ew_model.proofs.ListTests.{filter_mapped}
use Rattle.ew_model.proofs.VersionLaws.{found_by}
use Rattle.ew_model.proofs.KeptLaws.{held_joined}
use Rattle.ew_model.proofs.PositionNumbers.{numbered, positions_filtered}
use Rattle.event_runs.specs.BareEvents.{BareEvent, ops_in, parents_in}
use Rattle.event_graph.specs.Keeping.{AreAdmittedAfter, IsAdmitted, id_of, ascending_at, events_with, history_of, bare_events}
use Rattle.event_graph.proofs.Admitted.{let_in, laid, ascend_after}
use Rattle.event_graph.proofs.Ascending.{strictly}
use Rattle.event_graph.proofs.Places.{numbered_event}
use Rattle.ew_model.proofs.RecordLaws.{map_map, map_same}

pub id_there : (history : List Event) (q : ℕ) (f : Event) → slice_get history q ≡ Some f → id_of (ids_of history) q ≡ f.id
id_there [] q f h = let no : ⊥ = cc in absurd no
id_there (e ∷ history) zero f h = let one : e ≡ f = cc in ap (λ (g : Event). g.id) one
id_there (e ∷ history) (suc q) f h = id_there history q f h

ids_numbered : (n : ℕ) (events : List Event) → map (λ (z : ℕ × Event). z.1.id) (numbered n events) ≡ ids_of events
ids_numbered n [] = refl
ids_numbered n (e ∷ events) = ap (λ ids. e.id ∷ ids) (ids_numbered (suc n) events)

-- the ids at the positions of some ids are those of them that are held
pub ids_at_positions : (history : List Event) (ids : List Id) → map (id_of (ids_of history)) (positions_in history ids) ≡ filter (is_among ids) (ids_of history)
ids_at_positions history ids =
    let passes = λ (z : ℕ × Event). is_among ids z.1.id in
    let zs = filter passes (numbered 0 history) in
    ap (map (id_of (ids_of history))) (positions_filtered ids 0 history)
    ∙ map_map (λ (z : ℕ × Event). z.0) (id_of (ids_of history)) zs
    ∙ map_same (λ (z : ℕ × Event). id_of (ids_of history) z.0) (λ (z : ℕ × Event). z.1.id) zs
    (λ z m. id_there history z.0 z.1 (numbered_event history z (among_filter passes (numbered 0 history) z m).0))
    ∙ sym (filter_mapped (λ (z : ℕ × Event). z.1.id) (is_among ids) (numbered 0 history))
    ∙ ap (filter (is_among ids)) (ids_numbered 0 history)

-- no two of them tie
pub held_ties : (history : List Event) (ids : List Id) → LaidOut [] history → NoTies id_cmp (map (id_of (ids_of history)) (positions_in history ids))
held_ties history ids there = subst (NoTies id_cmp) (sym (ids_at_positions history ids)) (ties_filter id_cmp (is_among ids) (ids_of history) (ids_apart [] history there))

-- ASCENDING IDS that are held are told by their positions.
pub parents_again : (history : List Event) (ids : List Id) → LaidOut [] history → ids_ascend ids ≡ true → AllByRecursion (λ p. is_held history p ≡ true) ids → ascending_at (ids_of history) (positions_in history ids) ≡ ids
parents_again history ids there ascend held =
    let kept = filter (is_among ids) (ids_of history) in
    ap (sort_by id_cmp) (ids_at_positions history ids)
    ∙ sorted_unique id_total (sort_by id_cmp kept) ids (sort_sorted id_total kept (ties_filter id_cmp (is_among ids) (ids_of history) (ids_apart [] history there))) (strictly ids ascend)
    (λ z m. found ids z (among_filter (is_among ids) (ids_of history) z (sort_among id_total kept z m)).1)
    (λ z m. among_sort id_total kept z (filter_among (is_among ids) (ids_of history) z (found (ids_of history) z (all_at (λ p. is_held history p ≡ true) ids z held m)) (among_here ids z m)))
  where
    found : (xs : List Id) (z : Id) → is_among xs z ≡ true → Among z xs
    found xs z e = let y = found_by (id_eq z) xs e in subst (λ x. Among x xs) (sym ((is_same_id z y.0).0 y.2)) y.1

-- the parents of an admitted history's events are held
held_parents : (before later : List Event) → AreAdmittedAfter before later → AllByRecursion (λ (e : Event). AllByRecursion (λ p. is_held (before ++ later) p ≡ true) e.parents) later
held_parents before [] h = tt
held_parents before (e ∷ later) h =
    (joined e.parents (let_in before e h.0).parents, subst (λ (all : List Event). AllByRecursion (λ (f : Event). AllByRecursion (λ p. is_held all p ≡ true) f.parents) later) (append_assoc before (e ∷ []) later) (held_parents (before ++ e ∷ []) later h.1))
  where
    joined : (ps : List Id) → AllByRecursion (λ p. is_held before p ≡ true) ps → AllByRecursion (λ p. is_held (before ++ e ∷ later) p ≡ true) ps
    joined [] k = tt
    joined (p ∷ ps) k = (held_joined before (e ∷ later) p ∙ or_left (is_held before p) (is_held (e ∷ later) p) k.0, joined ps k.1)

rebuilt_from : (history later : List Event) → AllByRecursion (λ (e : Event). ascending_at (ids_of history) (positions_in history e.parents) ≡ e.parents) later
    → events_with (ids_of history) (ids_of later) (map (λ (e : Event). record { op = e.op; parents = positions_in history e.parents }) later) ≡ later
rebuilt_from history [] h = refl
rebuilt_from history (e ∷ later) h = λ i. record { id = e.id; parents = h.0 i; op = e.op } ∷ rebuilt_from history later h.1 i

-- AN ADMITTED HISTORY is told by its ids and the events without them.
pub rebuilt : (history : List Event) → IsAdmitted history → history_of (ids_of history) (bare_events history) ≡ history
rebuilt history admitted =
    rebuilt_from history history (again history (ascend_after [] history admitted) (held_parents [] history admitted))
  where
    again : (later : List Event) → AllByRecursion (λ (e : Event). ids_ascend e.parents ≡ true) later → AllByRecursion (λ (e : Event). AllByRecursion (λ p. is_held history p ≡ true) e.parents) later
        → AllByRecursion (λ (e : Event). ascending_at (ids_of history) (positions_in history e.parents) ≡ e.parents) later
    again [] a h = tt
    again (e ∷ later) a h = (parents_again history e.parents (laid history admitted) a.0 h.0, again later a.1 h.1)

-- the event at a place
pub event_here : (all ids : List Id) (events : List BareEvent) (place : ℕ) (x : Id) (op : Op) → slice_get ids place ≡ Some x → slice_get (ops_in events) place ≡ Some op
    → slice_get (events_with all ids events) place ≡ Some (record { id = x; parents = ascending_at all (parents_at (parents_in events) place); op = op })
event_here all [] events place x op h k = let no : ⊥ = cc in absurd no
event_here all (y ∷ ids) [] place x op h k = let no : ⊥ = cc in absurd no
event_here all (y ∷ ids) (b ∷ events) zero x op h k =
    let one : y ≡ x = cc in
    let same : b.op ≡ op = cc in
    λ i. Some (record { id = one i; parents = ascending_at all b.parents; op = same i })
event_here all (y ∷ ids) (b ∷ events) (suc place) x op h k = event_here all ids events place x op h k
