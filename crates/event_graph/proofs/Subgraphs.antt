-- The events of a version of an admitted history are an admitted history again, and stand at the version's positions.
use Rattle.std.proofs.Common.{◌≡◌, ℕ, zero, suc, ◌+◌, ◌<◌, ◌≤◌, Bool, true, false, not, cond, ◌||◌, ⊎_elim, nat_lt, nat_eq, List, [], ◌∷◌, ◌++◌, filter, length, find, Option, Some, option_map, refl, sym, ap, ◌∙◌, subst, arith, append-nil, append_assoc, All}
use Rattle.std.specs.Prelude.{slice_get}
use Rattle.std.specs.List.{list_any, list_all}
use Rattle.std.specs.Bool.{then_some}
use Rattle.std.specs.Option.{option_to_list}
use Rattle.std.proofs.lemmas.Bool.{false≢true, false_from_ne_true, cases_Bool, or_right}
use Rattle.std.proofs.lemmas.List.Elements.{All-from_recursion}
use Rattle.ew_model.specs.declared.id.Id.{Id}
use Rattle.ew_model.specs.declared.event.Event.{Event}
use Rattle.ew_model.specs.Sets.{Among}
use Rattle.ew_model.specs.Arrival.{is_ready}
use Rattle.ew_model.specs.Events.{event_eq}
use Rattle.ew_model.specs.Ids.{id_eq, is_among, ids_ascend}
use Rattle.ew_model.specs.Ancestors.{is_held, version_events, ancestors, is_reduced}
use Rattle.ew_model.specs.Positions.{known_positions, positions_in, parent_positions}
use Rattle.ew_model.specs.Verdicts.{first_row, id_rows, parent_rows, graph_verdict, follows_its_agent, has_number_below}
use Rattle.ew_model.specs.Verdicts.Ruling.{Repeat, Clash, SelfParent, TooManyParents, ParentsUnsorted, Unknown, NotReduced, Skipped, Good}
use Rattle.ew_model.specs.Walks.{positions_among}
use Rattle.ew_model.proofs.AncestorLaws.{among-append, version_events_before, version_events_of_last}
use Rattle.ew_model.proofs.ArrivalLaws.{no_unknown_parent}
use Rattle.ew_model.proofs.CoverLaws.{ids_alike, passes, pass_all, event_of, held_by, ids_within}
use Rattle.ew_model.proofs.EntryLaws.{ancestors_held, points_back}
use Rattle.ew_model.proofs.GraphAlike.{laid_distinct, version_filtered}
use Rattle.ew_model.proofs.KeptLaws.{no_repeat}
use Rattle.ew_model.proofs.ListParts.{length-filter-le}
use Rattle.ew_model.proofs.PlaceLaws.{same_any}
use Rattle.ew_model.proofs.PositionVersions.{known_alike}
use Rattle.ew_model.proofs.SetLaws.{joined_right}
use Rattle.ew_model.proofs.SortingLaws.{all_at, all_from}
use Rattle.ew_model.proofs.SubgraphLaws.{closed_taken, taken_within, version_laid_out}
use Rattle.ew_model.proofs.VersionLaws.{any_from, version_held, version_named, version_parent, version_within}
use Rattle.event_graph.specs.Finding.{found_in}
use Rattle.event_graph.specs.Keeping.{AreAdmittedAfter, IsAdmitted}
use Rattle.event_graph.specs.Subgraphs.{subgraph_of, events_at}
use Rattle.event_graph.proofs.Admitted.{let_in, laid, agrees, more}
use Rattle.event_graph.proofs.Found.{found_one, found_named, named_found}
use Rattle.event_graph.proofs.Places.{positions_within, slice_within}

-- an event that isn't held is no repeat
no_repeat_there : (held : List Event) (e : Event) → is_held held e.id ≡ false → list_any (event_eq e) (held ++ []) ≡ false
no_repeat_there held e new = ap (list_any (event_eq e)) (append-nil held) ∙ no_repeat held e new

not_held_there : (held : List Event) (e : Event) → is_held held e.id ≡ false → is_held (held ++ []) e.id ≡ false
not_held_there held e new = ap (λ (es : List Event). is_held es e.id) (append-nil held) ∙ new

-- an event that all let in is let in by a part that has its parents, where it is right by its ancestors there
let_in_by_part : (part whole : List Event) (e : Event) → graph_verdict whole e ≡ Good → is_held part e.id ≡ false → is_ready part e ≡ true → is_reduced part e.parents ≡ true → follows_its_agent part e ≡ true → graph_verdict part e ≡ Good
unfolding id_rows parent_rows
let_in_by_part part whole e good new ready reduced follows =
    let next = let_in whole e good in
    let repeat : list_any (event_eq e) (part ++ []) ≡ list_any (event_eq e) (whole ++ []) = no_repeat_there part e new ∙ sym (no_repeat_there whole e next.new) in
    let clash : is_held (part ++ []) e.id ≡ is_held (whole ++ []) e.id = not_held_there part e new ∙ sym (not_held_there whole e next.new) in
    let there : is_ready whole e ≡ true = pass_all (is_held whole) e.parents (λ p m. all_at (λ q. is_held whole q ≡ true) e.parents p next.parents m) in
    let unknown : find (λ p. not (is_held part p)) e.parents ≡ find (λ p. not (is_held whole p)) e.parents = no_unknown_parent part e.parents ready ∙ sym (no_unknown_parent whole e.parents there) in
    let apart : is_reduced part e.parents ≡ is_reduced whole e.parents = reduced ∙ sym next.reduced in
    let behind : follows_its_agent part e ≡ follows_its_agent whole e = follows ∙ sym next.follows in
    (λ i. first_row (then_some (repeat i) Repeat
    ∷ then_some (clash i) Clash
    ∷ then_some (is_among e.parents e.id) SelfParent
    ∷ then_some (nat_lt 16 (length e.parents)) TooManyParents
    ∷ then_some (not (ids_ascend e.parents)) ParentsUnsorted
    ∷ option_map Unknown (unknown i)
    ∷ then_some (not (apart i)) NotReduced
    ∷ then_some (not (behind i)) Skipped ∷ []))
    ∙ good

-- what isn't known of more isn't known of less
still : (same known there : Bool) → (there ≡ true → known ≡ true) → (same || not known) ≡ true → (same || not there) ≡ true
still true known there f h = refl
still false known false f h = refl
still false true true f h = h
still false false true f h = absurd (false≢true (f refl))

-- ids of which none is below another are so in a part
reduced_there : (part whole : List Event) (ids : List Id) → ((x y : Id) → is_among (ancestors part (x ∷ [])) y ≡ true → is_among (ancestors whole (x ∷ [])) y ≡ true) → is_reduced whole ids ≡ true → is_reduced part ids ≡ true
unfolding is_reduced
reduced_there part whole ids f h =
    pass_all (λ x. list_all (λ y. id_eq x y || not (is_among (ancestors part (x ∷ [])) y)) ids) ids (λ x mx.
    pass_all (λ y. id_eq x y || not (is_among (ancestors part (x ∷ [])) y)) ids (λ y my.
    still (id_eq x y) (is_among (ancestors whole (x ∷ [])) y) (is_among (ancestors part (x ∷ [])) y) (f x y)
    (passes (λ z. id_eq x z || not (is_among (ancestors whole (x ∷ [])) z)) ids y
    (passes (λ w. list_all (λ z. id_eq w z || not (is_among (ancestors whole (w ∷ [])) z)) ids) ids x h mx) my)))

number_there : (xs ys : List Id) (agent : List ℕ) (n : ℕ) → ((x : Id) → is_among xs x ≡ true → is_among ys x ≡ true) → has_number_below xs agent n ≡ true → has_number_below ys agent n ≡ true
number_there xs ys agent zero f h = refl
number_there xs ys agent (suc n) f h = f (record { agent = agent; seq = n }) h

-- the events that a version of a longer history has of those before its last event
abbrev part_below : List Event → Event → List Id → List Event
part_below history e named = version_events history (named ++ e.parents)

-- behind the version's events before it, an event may come next as it may behind all
next_in_version : (history : List Event) (e : Event) (named : List Id) → IsAdmitted history → graph_verdict history e ≡ Good → graph_verdict (part_below history e named) e ≡ Good
unfolding follows_its_agent
next_in_version history e named admitted good =
    let next = let_in history e good in
    let ids = named ++ e.parents in
    let part = part_below history e named in
    let back = points_back [] history (laid history admitted) in
    let part_back = points_back [] part (version_laid_out history ids (laid history admitted)) in
    let named_there : (x : Id) → is_among e.parents x ≡ true → is_among ids x ≡ true = λ x m. among-append named e.parents x ∙ or_right (is_among named x) (is_among e.parents x) m in
    let inside : (z : Event) → Among z (version_events history e.parents) → Among z part =
    closed_taken (λ z. Among z part) history e.parents
    (λ x m a. version_named history ids x m (named_there x.id a))
    (λ f x t m a. version_parent history ids x f back t m a) in
    let_in_by_part part history e good
    (false_from_ne_true (is_held part e.id) (λ h. false≢true (sym next.new ∙ ancestors_held history ids e.id h)))
    (pass_all (is_held part) e.parents (λ p m.
    let g = event_of history p (all_at (λ q. is_held history q ≡ true) e.parents p next.parents m) in
    held_by part p g.0 (version_named history ids g.0 g.1 (any_from (id_eq g.0.id) ids p (joined_right named e.parents p m) (ids_alike.symm g.0.id p ∙ g.2))) g.2))
    (reduced_there part history e.parents (λ x y. ids_within (version_events part (x ∷ [])) (version_events history (x ∷ [])) (version_within part history (x ∷ []) back (version_held history ids)) y) next.reduced)
    (number_there (ancestors history e.parents) (ancestors part e.parents) e.id.agent e.id.seq
    (ids_within (version_events history e.parents) (version_events part e.parents) (taken_within history part e.parents part_back inside)) next.follows)

-- each version of a history is admitted
abbrev AllAdmitted : List Event → Type 0
AllAdmitted history = (named : List Id) → IsAdmitted (version_events history named)

one_more : (history : List Event) (e : Event) → IsAdmitted history → graph_verdict history e ≡ Good → AllAdmitted history → AllAdmitted (history ++ e ∷ [])
one_more history e admitted good all named =
    ⊎_elim
    (λ there. subst IsAdmitted (sym (version_events_of_last history e named there))
    (more (part_below history e named) e (all (named ++ e.parents)) (next_in_version history e named admitted good)))
    (λ other. subst IsAdmitted (sym (version_events_before history (e ∷ []) named (other, tt))) (all named))
    (cases_Bool (is_among named e.id))

all_after : (before later : List Event) → IsAdmitted before → AreAdmittedAfter before later → AllAdmitted before → AllAdmitted (before ++ later)
all_after before [] admitted after all = subst AllAdmitted (sym (append-nil before)) all
all_after before (e ∷ later) admitted after all =
    subst AllAdmitted (append_assoc before (e ∷ []) later)
    (all_after (before ++ e ∷ []) later (more before e admitted after.0) after.1 (one_more before e admitted after.0 all))

pub version_admitted : (history : List Event) (named : List Id) → IsAdmitted history → IsAdmitted (version_events history named)
version_admitted history named admitted = all_after [] history tt admitted (λ ids. tt) named

-- the events of a version are those with its ids
pub version_is_part : (history : List Event) (named : List Id) → IsAdmitted history → version_events history named ≡ subgraph_of history named
version_is_part history named admitted =
    version_filtered (λ (e : Event). e.id) (λ (e : Event). e.parents) id_eq ids_alike history named (laid_distinct (λ (e : Event). e.id) (λ (e : Event). e.parents) id_eq [] history (laid history admitted))

-- the positions of the version of the ids that are found
pub known_found : (history : List Event) (ids : List Id) → IsAdmitted history → known_positions (parent_positions history) (found_in history ids) ≡ positions_in history (ancestors history ids)
known_found history ids admitted =
    known_alike (parent_positions history) (found_in history ids) (positions_in history ids)
    (λ p l. same_any (nat_eq p) (found_in history ids) (positions_in history ids) (record { there = found_named history ids; back = named_found history ids (laid history admitted) }))
    ∙ (agrees history admitted).versions ids

-- the events at the positions of ids are those with the ids
events_from : (history : List Event) (ids : List Id) (n : ℕ) (later : List Event) → ((i : ℕ) (e : Event) → slice_get later i ≡ Some e → slice_get history (n + i) ≡ Some e) → events_at history (positions_among ids n later) ≡ filter (λ (e : Event). is_among ids e.id) later
events_from history ids n [] h = refl
events_from history ids n (e ∷ later) h =
    at (is_among ids e.id) (events_from history ids (suc n) later (λ i f k. let same : suc n + i ≡ n + suc i = omega arith in ap (slice_get history) same ∙ h (suc i) f k))
  where
    rest : List ℕ
    rest = positions_among ids (suc n) later

    kept : List Event
    kept = filter (λ (f : Event). is_among ids f.id) later

    here : slice_get history n ≡ Some e
    here = let same : n + 0 ≡ n = omega arith in ap (slice_get history) (sym same) ∙ h 0 e refl

    at : (b : Bool) → events_at history rest ≡ kept → events_at history (cond b (n ∷ rest) rest) ≡ cond b (e ∷ kept) kept
    at true tail = ap (λ (o : Option Event). option_to_list o ++ events_at history rest) here ∙ ap (λ (es : List Event). e ∷ es) tail
    at false tail = tail

-- the positions that a version is found at: they are those of its events
pub record ArePartOf (history : List Event) (ids : List Id) (positions : List ℕ) : Type 0 where
  pub within : All (λ p. p < length history) positions
  pub events : events_at history positions ≡ subgraph_of history ids
  pub admitted : IsAdmitted (events_at history positions)
  pub few : length (events_at history positions) ≤ length history

pub part_found : (history : List Event) (ids : List Id) (positions : List ℕ) → IsAdmitted history → positions ≡ known_positions (parent_positions history) (found_in history ids) → ArePartOf history ids positions
part_found history ids positions admitted are =
    let places : positions ≡ positions_in history (ancestors history ids) = are ∙ known_found history ids admitted in
    let events : events_at history positions ≡ subgraph_of history ids =
    ap (events_at history) places ∙ events_from history (ancestors history ids) 0 history (λ i e h. let same : 0 + i ≡ i = omega arith in ap (slice_get history) same ∙ h) in
    let few = length-filter-le (λ (e : Event). is_among (ancestors history ids) e.id) history in
    record {
      within = subst (All (λ p. p < length history)) (sym places) (positions_within history (ancestors history ids));
      events = events;
      admitted = subst IsAdmitted (version_is_part history ids admitted ∙ sym events) (version_admitted history ids admitted);
      few = subst (λ (es : List Event). length es ≤ length history) (sym events) few;
    }

-- what is found is within
pub found_within : (history : List Event) (ids : List Id) → All (λ p. p < length history) (found_in history ids)
found_within history ids =
    All-from_recursion (λ p. p < length history) (found_in history ids)
    (all_from (λ p. p < length history) (found_in history ids) (λ p m. let f = found_one history ids p m in slice_within history p f.0 f.2))
