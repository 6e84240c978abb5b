-- What the versions of a history know of its first events.
use Rattle.std.proofs.Common.{◌≡◌, ℕ, suc, ◌+◌, Bool, true, false, cond, ◌||◌, ◌≤◌, List, [], ◌∷◌, ◌++◌, length, take, drop, refl, sym, ap, ◌∙◌, subst, arith, append_assoc, append-nil}
use Rattle.std.proofs.lemmas.List.{take-append-drop, take-append-le, drop-append-le, length-drop}
use Rattle.std.proofs.lemmas.Bool.{false≢true, false_from_ne_true, or_left, or_parts}
use Rattle.ew_model.specs.declared.id.Id.{Id}
use Rattle.ew_model.specs.declared.event.Event.{Event}
use Rattle.ew_model.specs.Ids.{id_eq, is_among}
use Rattle.ew_model.specs.Ancestors.{ids_of, is_held, version_events, ancestors}
use Rattle.ew_model.specs.Walks.{positions_among}
use Rattle.ew_model.specs.Positions.{known_positions, positions_in, parent_positions}
use Rattle.ew_model.specs.PositionLaws.{AgreesByPositions}
use Rattle.ew_model.specs.TouchLaws.{prepared_after, prepared_from}
use Rattle.ew_model.proofs.AncestorLaws.{NoneNamed, ancestors_before, version_events_of_last}
use Rattle.ew_model.proofs.EntryLaws.{LaidOut, NoneHeld, none_held, ancestors_held, all_mapped}
use Rattle.ew_model.proofs.ClearingLaw.{laid_rest}
use Rattle.ew_model.proofs.CoverLaws.{ids_alike}
use Rattle.ew_model.proofs.GraphOrder.{other_name}
use Rattle.transform.specs.Reaching.{prepared_since, over_since}
use Rattle.transform.proofs.WalkedEvents.{unheld_later}
use Rattle.ew_model.proofs.IndexLaw.{unheld}

-- POSITIONS OF IDS
kept-append : (b : Bool) (n : ℕ) (ps qs : List ℕ) → cond b (n ∷ (ps ++ qs)) (ps ++ qs) ≡ cond b (n ∷ ps) ps ++ qs
kept-append true n ps qs = refl
kept-append false n ps qs = refl

positions-append : (ids : List Id) (n : ℕ) (xs ys : List Event) → positions_among ids n (xs ++ ys) ≡ positions_among ids n xs ++ positions_among ids (n + length xs) ys
positions-append ids n [] ys = let same : n ≡ n + 0 = omega arith in ap (λ m. positions_among ids m ys) same
positions-append ids n (x ∷ xs) ys =
    let same : suc n + length xs ≡ n + suc (length xs) = omega arith in
    ap (λ ps. cond (is_among ids x.id) (n ∷ ps) ps) (positions-append ids (suc n) xs ys ∙ ap (λ m. positions_among ids (suc n) xs ++ positions_among ids m ys) same)
    ∙ kept-append (is_among ids x.id) n (positions_among ids (suc n) xs) (positions_among ids (n + suc (length xs)) ys)

positions_none : (ids : List Id) (n : ℕ) (events : List Event) → NoneNamed events ids → positions_among ids n events ≡ []
positions_none ids n [] h = refl
positions_none ids n (e ∷ events) h = ap (λ b. cond b (n ∷ positions_among ids (suc n) events) (positions_among ids (suc n) events)) h.0 ∙ positions_none ids (suc n) events h.1

-- events that come later and aren't named add no position
positions_front : (ids : List Id) (front later : List Event) → NoneNamed later ids → positions_in (front ++ later) ids ≡ positions_in front ids
positions_front ids front later h = positions-append ids 0 front later ∙ ap (λ ps. positions_in front ids ++ ps) (positions_none ids (0 + length front) later h) ∙ append-nil (positions_in front ids)

-- the position of the last event, where it is named
positions_last : (ids : List Id) (front : List Event) (e : Event) → is_among ids e.id ≡ true → positions_in (front ++ e ∷ []) ids ≡ positions_in front ids ++ length front ∷ []
positions_last ids front e h =
    let same : 0 + length front ≡ length front = omega arith in
    positions-append ids 0 front (e ∷ []) ∙ (λ i. positions_in front ids ++ cond (h i) (same i ∷ []) [])

-- ids that no event has
unheld_named : (events : List Event) (x : Id) → is_held events x ≡ false → NoneNamed events (x ∷ [])
unheld_named [] x h = tt
unheld_named (e ∷ events) x h = let parts = or_parts (id_eq x e.id) (is_held events x) h in (ap (λ b. b || false) (ids_alike.symm e.id x ∙ parts.0), unheld_named events x parts.1)

itself_named : (x : Id) → is_among (x ∷ []) x ≡ true
itself_named x = or_left (id_eq x x) false (ids_alike.refl x)

-- VERSIONS
-- ancestors in the front are no later events
none_known : (front later : List Event) (version : List Id) → LaidOut [] (front ++ later) → NoneNamed later (ancestors front version)
none_known front later version laid =
    all_mapped (λ (f : Event). is_held front f.id ≡ false) (λ (f : Event). is_among (ancestors front version) f.id ≡ false) later
    (λ f new. false_from_ne_true (is_among (ancestors front version) f.id) (λ known. false≢true (sym new ∙ ancestors_held front version f.id known)))
    (none_held front later (laid_rest [] front later laid))

-- What is known of a version whose ids the later events don't have.
pub known_front : (front later : List Event) (version : List Id) → LaidOut [] (front ++ later) → AgreesByPositions (front ++ later) → NoneNamed later version
    → known_positions (parent_positions (front ++ later)) (positions_in (front ++ later) version) ≡ positions_in front (ancestors front version)
known_front front later version laid agree none =
    let whole = front ++ later in
    agree.versions version ∙ ap (positions_in whole) (ancestors_before front later version none) ∙ positions_front (ancestors front version) front later (none_known front later version laid)

-- the parents of the event behind the front aren't later events
pub parents_before : (front : List Event) (e : Event) (later : List Event) → LaidOut [] (front ++ e ∷ later) → NoneNamed (e ∷ later) e.parents
parents_before front e later laid = (laid_rest [] front (e ∷ later) laid).1

pub over_known : (front : List Event) (e : Event) (later : List Event) → LaidOut [] (front ++ e ∷ later) → AgreesByPositions (front ++ e ∷ later)
    → known_positions (parent_positions (front ++ e ∷ later)) (positions_in (front ++ e ∷ later) e.parents) ≡ positions_in front (ancestors front e.parents)
over_known front e later laid agree = known_front front (e ∷ later) e.parents laid agree (parents_before front e later laid)

-- WHAT IS PREPARED
prepared_last : (before : List Event) (prepared : List Id) (front : List Event) (e : Event) → prepared_after before prepared (front ++ e ∷ []) ≡ ancestors ((before ++ front) ++ e ∷ []) (e.id ∷ [])
prepared_last before prepared [] e = ap (λ (w : List Event). ancestors (w ++ e ∷ []) (e.id ∷ [])) (sym (append-nil before))
prepared_last before prepared (f ∷ front) e = prepared_last (before ++ f ∷ []) _ front e ∙ ap (λ (w : List Event). ancestors (w ++ e ∷ []) (e.id ∷ [])) (append_assoc before (f ∷ []) front)

-- behind an event, the ids prepared are those of its version, wherever the walk began
pub prepared_ids : (front : List Event) (from : ℕ) (e : Event) → from ≤ length front → prepared_from (front ++ e ∷ []) from ≡ ancestors (front ++ e ∷ []) (e.id ∷ [])
prepared_ids front from e low =
    (λ i. prepared_after (take-append-le from front (e ∷ []) low i) (ids_of (take-append-le from front (e ∷ []) low i)) (drop-append-le from front (e ∷ []) low i))
    ∙ prepared_last (take from front) (ids_of (take from front)) (drop from front) e
    ∙ ap (λ (w : List Event). ancestors (w ++ e ∷ []) (e.id ∷ [])) (take-append-drop from front)

-- the version of the event behind the front: what it was made over, and itself
pub own_version : (front : List Event) (e : Event) → is_held front e.id ≡ false → ancestors (front ++ e ∷ []) (e.id ∷ []) ≡ ancestors front e.parents ++ e.id ∷ []
own_version front e new =
    ap ids_of (version_events_of_last front e (e.id ∷ []) (itself_named e.id))
    ∙ ids-append (version_events front (e.id ∷ e.parents)) (e ∷ [])
    ∙ ap (λ vs. ids_of vs ++ e.id ∷ []) (unheld front e.id e.parents new)
  where
    ids-append : (xs ys : List Event) → ids_of (xs ++ ys) ≡ ids_of xs ++ ids_of ys
    ids-append [] ys = refl
    ids-append (x ∷ xs) ys = ap (λ ids. x.id ∷ ids) (ids-append xs ys)

among_more : (ids : List Id) (x : Id) → is_among (ids ++ x ∷ []) x ≡ true
among_more [] x = itself_named x
among_more (y ∷ ids) x = at (id_eq x y) (among_more ids x)
  where
    at : (b : Bool) → is_among (ids ++ x ∷ []) x ≡ true → (b || is_among (ids ++ x ∷ []) x) ≡ true
    at true h = refl
    at false h = h

other_among : (ids : List Id) (x y : Id) → id_eq y x ≡ false → is_among (ids ++ x ∷ []) y ≡ is_among ids y
other_among [] x y h = ap (λ b. b || false) h
other_among (z ∷ ids) x y h = ap (λ b. id_eq y z || b) (other_among ids x y h)

positions_other : (ids : List Id) (x : Id) (n : ℕ) (events : List Event) → is_held events x ≡ false → positions_among (ids ++ x ∷ []) n events ≡ positions_among ids n events
positions_other ids x n [] h = refl
positions_other ids x n (e ∷ events) h =
    let parts = or_parts (id_eq x e.id) (is_held events x) h in
    (λ i. cond (other_among ids x e.id (ids_alike.symm e.id x ∙ parts.0) i) (n ∷ positions_other ids x (suc n) events parts.1 i) (positions_other ids x (suc n) events parts.1 i))

-- the ids prepared behind one more event: what it was made over, and its own
pub prepared_next : (front : List Event) (from : ℕ) (e : Event) → from ≤ length front → is_held front e.id ≡ false → prepared_from (front ++ e ∷ []) from ≡ ancestors front e.parents ++ e.id ∷ []
prepared_next front from e low new = prepared_ids front from e low ∙ own_version front e new

-- What is prepared from a cut on behind one more event: what it was made over, and itself.
pub prepared_more : (front : List Event) (cut : ℕ) (e : Event) → cut ≤ length front → is_held front e.id ≡ false → prepared_since (front ++ e ∷ []) cut ≡ over_since front cut e ++ length front ∷ []
prepared_more front cut e low new =
    let known = ancestors front e.parents in
    let between = drop cut front in
    let place : cut + length between ≡ length front = omega (arith, low, length-drop cut front) in
    (λ i. positions_among (prepared_next front 0 e (omega arith) new i) cut (drop-append-le cut front (e ∷ []) low i))
    ∙ positions-append (known ++ e.id ∷ []) cut between (e ∷ [])
    ∙ (λ i. positions_other known e.id cut between (unheld_later front cut e.id new) i ++ cond (among_more known e.id i) (place i ∷ []) [])

-- no later event has the id of one before it
unnamed_later : (before : List Event) (f : Event) (later : List Event) → NoneHeld (before ++ f ∷ []) later → NoneNamed later (f.id ∷ [])
unnamed_later before f later h =
    all_mapped (λ (g : Event). is_held (before ++ f ∷ []) g.id ≡ false) (λ (g : Event). is_among (f.id ∷ []) g.id ≡ false) later
    (λ g new. ap (λ b. b || false) (other_name (λ (e : Event). e.id) (λ (e : Event). e.parents) id_eq before f g.id new)) h

last_position : (front : List Event) (f : Event) (later : List Event) → is_held front f.id ≡ false → NoneNamed later (f.id ∷ []) → positions_in ((front ++ f ∷ []) ++ later) (f.id ∷ []) ≡ length front ∷ []
last_position front f later new none =
    positions_front (f.id ∷ []) (front ++ f ∷ []) later none
    ∙ positions_last (f.id ∷ []) front f (itself_named f.id)
    ∙ ap (λ ps. ps ++ length front ∷ []) (positions_none (f.id ∷ []) 0 front (unheld_named front f.id new))

-- what is known of the last event behind a front is what is prepared there
pub last_known : (front : List Event) (f : Event) (later : List Event) → LaidOut [] ((front ++ f ∷ []) ++ later) → AgreesByPositions ((front ++ f ∷ []) ++ later)
    → known_positions (parent_positions ((front ++ f ∷ []) ++ later)) (length front ∷ []) ≡ prepared_since (front ++ f ∷ []) 0
last_known front f later laid agree =
    let whole = (front ++ f ∷ []) ++ later in
    let behind : LaidOut front (f ∷ later) = laid_rest [] front (f ∷ later) (subst (LaidOut []) (append_assoc front (f ∷ []) later) laid) in
    let none : NoneNamed later (f.id ∷ []) = unnamed_later front f later (none_held (front ++ f ∷ []) later behind.2) in
    ap (known_positions (parent_positions whole)) (sym (last_position front f later behind.0 none))
    ∙ known_front (front ++ f ∷ []) later (f.id ∷ []) laid agree none
    ∙ ap (positions_in (front ++ f ∷ [])) (sym (prepared_ids front 0 f (omega arith)))
