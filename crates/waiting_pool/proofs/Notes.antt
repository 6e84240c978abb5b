-- What is known of waiting events.
use Rattle.std.proofs.Common.{◌≡◌, ℕ, zero, suc, ◌+◌, Bool, true, false, cond, not, ◌&&◌, ◌||◌, ⊎_elim, List, [], ◌∷◌, map, find, take, Option, Some, None, is_some, option_map, slice_get, count_by, refl, sym, ap, ◌∙◌, subst, arith}
use Rattle.std.specs.List.{list_all}
use Rattle.std.specs.Borrow.{Bor}
use Rattle.std.specs.Option.{option_copied, option_map_or, IfSome}
use Rattle.std.proofs.lemmas.Bool.{or_parts, or_cases, or_right, and_parts, false≢true}
use Rattle.std.proofs.lemmas.List.Sums.{sum_by-cons}
use Rattle.ew_model.specs.declared.id.Id.{Id}
use Rattle.ew_model.specs.declared.event.Event.{Event}
use Rattle.ew_model.specs.Ids.{id_eq, is_among}
use Rattle.ew_model.specs.Ancestors.{ids_of, is_held}
use Rattle.ew_model.specs.Arrival.{is_ready}
use Rattle.ew_model.specs.Kept.{AreApart}
use Rattle.ew_model.specs.Verdicts.{first_unknown}
use Rattle.ew_model.proofs.IdLaws.{is_same_id}
use Rattle.waiting_pool.specs.declared.waiter.Waiter.{Waiter}
use Rattle.waiting_pool.specs.Waiting.{Waiting, events_of, event_with, has_id, has_missing, with_missing}
use Rattle.waiting_pool.specs.Knowing.{is_missed, KeepsEvents}
use Rattle.waiting_pool.specs.Places.{same_missing}
use Rattle.waiting_pool.proofs.Entries.{same_ids}
use Rattle.waiting_pool.proofs.Order.{missing_same}

abbrev pub events_in : List Waiter → List Event
events_in waiters = map (λ (w : Waiter). w.event) waiters

-- the waiter of an id is found under one that is the same
pub found_as : (waiters : List Waiter) (x y : Id) (o : Option Waiter) → x ≡ y → find (has_id y) waiters ≡ o → find (has_id x) waiters ≡ o
found_as waiters x y o same found = ap (λ (z : Id). find (has_id z) waiters) same ∙ found

-- an event that is found is held
found_other : (p : Waiter → Bool) (waiters : List Waiter) (x : Id) (w : Waiter) → is_held (events_in waiters) x ≡ false → find p waiters ≡ Some w → id_eq x w.event.id ≡ false
found_other p [] x w h e = let no : ⊥ = cc in absurd no
found_other p (v ∷ waiters) x w h e = at (p v) e (found_other p waiters x w (or_parts (id_eq x v.event.id) (is_held (events_in waiters) x) h).1)
  where
    at : (b : Bool) → cond b (Some v) (find p waiters) ≡ Some w → (find p waiters ≡ Some w → id_eq x w.event.id ≡ false) → id_eq x w.event.id ≡ false
    at true f more = let same : v ≡ w = cc in ap (λ (u : Waiter). id_eq x u.event.id) (sym same) ∙ (or_parts (id_eq x v.event.id) (is_held (events_in waiters) x) h).0
    at false f more = more f

-- Where no two have one id, an event that is found is found by its id too.
pub found_own : (p : Waiter → Bool) (waiters : List Waiter) (w : Waiter) → AreApart (events_in waiters) → find p waiters ≡ Some w → find (has_id w.event.id) waiters ≡ Some w
found_own p [] w a e = let no : ⊥ = cc in absurd no
found_own p (v ∷ waiters) w a e = at (p v) e (found_own p waiters w a.1)
  where
    at : (b : Bool) → cond b (Some v) (find p waiters) ≡ Some w → (find p waiters ≡ Some w → find (has_id w.event.id) waiters ≡ Some w) → find (has_id w.event.id) (v ∷ waiters) ≡ Some w
    at true f more =
        let same : v ≡ w = cc in
        ap (λ b. cond b (Some v) (find (has_id w.event.id) waiters)) ((is_same_id w.event.id v.event.id).1 (ap (λ (u : Waiter). u.event.id) (sym same))) ∙ ap Some same
    at false f more =
        ap (λ b. cond b (Some v) (find (has_id w.event.id) waiters)) (same_ids.symm w.event.id v.event.id ∙ found_other p waiters v.event.id w a.0 f) ∙ more f

pub own_referred : (p : Waiter → Bool) (waiters : List Waiter) (o : Option (Bor Waiter)) → AreApart (events_in waiters) → option_copied o ≡ find p waiters → IfSome o (λ w. find (has_id w.now.event.id) waiters ≡ Some w.now)
own_referred p waiters None a e = tt
own_referred p waiters (Some w) a e = found_own p waiters w.now a (sym e)

-- The event of what is found by its id is found among the events.
pub event_found : (waiters : List Waiter) (x : Id) → option_map (λ (w : Waiter). w.event) (find (has_id x) waiters) ≡ event_with (events_in waiters) x
event_found [] x = refl
event_found (w ∷ waiters) x = at (has_id x w) (event_found waiters x)
  where
    at : (b : Bool) → option_map (λ (v : Waiter). v.event) (find (has_id x) waiters) ≡ event_with (events_in waiters) x
        → option_map (λ (v : Waiter). v.event) (cond b (Some w) (find (has_id x) waiters)) ≡ cond b (Some w.event) (event_with (events_in waiters) x)
    at true h = refl
    at false h = h

pub found_held : (waiters : List Waiter) (x : Id) → is_some (find (has_id x) waiters) ≡ is_held (events_in waiters) x
found_held [] x = refl
found_held (w ∷ waiters) x = at (has_id x w) (found_held waiters x)
  where
    at : (b : Bool) → is_some (find (has_id x) waiters) ≡ is_held (events_in waiters) x → is_some (cond b (Some w) (find (has_id x) waiters)) ≡ (b || is_held (events_in waiters) x)
    at true h = refl
    at false h = h

-- The events stay where another parent of one is missing.
pub events-with_missing : (waiters : List Waiter) (x : Id) (m : Option Id) → events_in (with_missing x m waiters) ≡ events_in waiters
events-with_missing [] x m = refl
events-with_missing (w ∷ waiters) x m = at (has_id x w) (events-with_missing waiters x m)
  where
    at : (b : Bool) → events_in (with_missing x m waiters) ≡ events_in waiters → events_in (cond b (record { event = w.event; missing = m } ∷ waiters) (w ∷ with_missing x m waiters)) ≡ w.event ∷ events_in waiters
    at true h = refl
    at false h = ap (λ es. w.event ∷ es) h

count_cons : (p : Waiter → Bool) (w : Waiter) (waiters : List Waiter) → count_by p (w ∷ waiters) ≡ cond (p w) 1 0 + count_by p waiters
count_cons p w waiters = sum_by-cons (λ (u : Waiter). cond (p u) 1 0) w waiters

-- One event less waits for the parent that the event waited for.
pub fewer-with_missing : (waiters : List Waiter) (x : Id) (m before : Option Id) (w : Waiter) → find (has_id x) waiters ≡ Some w → has_missing before w ≡ true → same_missing m before ≡ false
    → count_by (has_missing before) (with_missing x m waiters) + 1 ≡ count_by (has_missing before) waiters
fewer-with_missing [] x m before w e h k = let no : ⊥ = cc in absurd no
fewer-with_missing (v ∷ waiters) x m before w e h k = at (has_id x v) e (λ f. fewer-with_missing waiters x m before w f h k)
  where
    one : Waiter
    one = record { event = v.event; missing = m }

    at : (b : Bool) → cond b (Some v) (find (has_id x) waiters) ≡ Some w → (find (has_id x) waiters ≡ Some w → count_by (has_missing before) (with_missing x m waiters) + 1 ≡ count_by (has_missing before) waiters)
        → count_by (has_missing before) (cond b (record { event = v.event; missing = m } ∷ waiters) (v ∷ with_missing x m waiters)) + 1 ≡ count_by (has_missing before) (v ∷ waiters)
    at true f more =
        let same : v ≡ w = cc in
        let now = count_cons (has_missing before) (record { event = v.event; missing = m }) waiters ∙ ap (λ b. cond b 1 0 + count_by (has_missing before) waiters) k in
        let was = count_cons (has_missing before) v waiters ∙ ap (λ b. cond b 1 0 + count_by (has_missing before) waiters) (ap (has_missing before) same ∙ h) in
        omega (arith, now, was)
    at false f more =
        let now = count_cons (has_missing before) v (with_missing x m waiters) in
        let was = count_cons (has_missing before) v waiters in
        let rest = more f in
        omega (arith, now, was, rest)

-- What is rightly said stays right where something right is said of one.
pub missed-with_missing : (held : List Event) (waiters : List Waiter) (x : Id) (m : Option Id) (w : Waiter) → find (has_id x) waiters ≡ Some w → is_missed held (record { event = w.event; missing = m }) ≡ true
    → list_all (is_missed held) waiters ≡ true → list_all (is_missed held) (with_missing x m waiters) ≡ true
missed-with_missing held [] x m w e h k = refl
missed-with_missing held (v ∷ waiters) x m w e h k =
    let parts = and_parts (is_missed held v) (list_all (is_missed held) waiters) k in
    at (has_id x v) e parts (λ f. missed-with_missing held waiters x m w f h parts.1)
  where
    at : (b : Bool) → cond b (Some v) (find (has_id x) waiters) ≡ Some w → (is_missed held v ≡ true) × (list_all (is_missed held) waiters ≡ true) → (find (has_id x) waiters ≡ Some w → list_all (is_missed held) (with_missing x m waiters) ≡ true)
        → list_all (is_missed held) (cond b (record { event = v.event; missing = m } ∷ waiters) (v ∷ with_missing x m waiters)) ≡ true
    at true f parts more =
        let same : w ≡ v = cc in
        (λ i. (ap (λ (u : Waiter). is_missed held (record { event = u.event; missing = m })) (sym same) ∙ h) i && parts.1 i)
    at false f parts more = (λ i. parts.0 i && more f i)

-- what is found passes the test
pub find_passes : {X : Type 0} (p : X → Bool) (xs : List X) (x : X) → find p xs ≡ Some x → p x ≡ true
find_passes p [] x e = let no : ⊥ = cc in absurd no
find_passes p (y ∷ xs) x e = at (p y) refl e (find_passes p xs x)
  where
    at : (b : Bool) → p y ≡ b → cond b (Some y) (find p xs) ≡ Some x → (find p xs ≡ Some x → p x ≡ true) → p x ≡ true
    at true h f more = let same : y ≡ x = cc in ap p (sym same) ∙ h
    at false h f more = more f

pub found_among : (p : Id → Bool) (ids : List Id) (x : Id) → find p ids ≡ Some x → is_among ids x ≡ true
found_among p [] x e = let no : ⊥ = cc in absurd no
found_among p (y ∷ ids) x e = at (p y) e (found_among p ids x)
  where
    at : (b : Bool) → cond b (Some y) (find p ids) ≡ Some x → (find p ids ≡ Some x → is_among ids x ≡ true) → (id_eq x y || is_among ids x) ≡ true
    at true f more = let same : x ≡ y = cc in ap (λ b. b || is_among ids x) ((is_same_id x y).1 same)
    at false f more = or_right (id_eq x y) (is_among ids x) (more f)

-- Nothing but what is known of one event changes.
pub kept_noted : (old new : Waiting) (x : Id) (m : Option Id) → new ≡ record { limit = old.limit; seen = old.seen; waiters = with_missing x m old.waiters } → KeepsEvents old new
kept_noted old new x m e = record {
  limit = ap (λ (w : Waiting). w.limit) e;
  seen = ap (λ (w : Waiting). w.seen) e;
  events = ap events_of e ∙ events-with_missing old.waiters x m;
}

-- an event that waits for a parent is forgotten to
pub not_none : (p : Id) (w : Waiter) → has_missing (Some p) w ≡ true → has_missing None w ≡ false
not_none p w h = ap (λ m. same_missing m None) (missing_same w.missing (Some p) h)

pub not_some : (p : Id) (w : Waiter) → has_missing None w ≡ true → has_missing (Some p) w ≡ false
not_some p w h = ap (λ m. same_missing m (Some p)) (missing_same w.missing None h)

-- one fails, unless all pass
one_fails : {X : Type 0} (p : X → Bool) (xs : List X) → is_some (find (λ x. not (p x)) xs) ≡ not (list_all p xs)
one_fails p [] = refl
one_fails p (x ∷ xs) = at (p x) (one_fails p xs)
  where
    at : (b : Bool) → is_some (find (λ y. not (p y)) xs) ≡ not (list_all p xs) → is_some (cond (not b) (Some x) (find (λ y. not (p y)) xs)) ≡ not (b && list_all p xs)
    at true h = h
    at false h = refl

same_not : (b c : Bool) → not b ≡ not c → b ≡ c
same_not true true h = refl
same_not false false h = refl
same_not true false h = let no : ⊥ = cc in absurd no
same_not false true h = let no : ⊥ = cc in absurd no

pub all_told : {X : Type 0} (p : X → Bool) (xs : List X) (b : Bool) → is_some (find (λ x. not (p x)) xs) ≡ not b → b ≡ list_all p xs
all_told p xs b h = same_not b (list_all p xs) (sym h ∙ one_fails p xs)

pub all_pass : {X : Type 0} (p : X → Bool) (xs : List X) → find (λ x. not (p x)) xs ≡ None → list_all p xs ≡ true
all_pass p xs h = sym (all_told p xs true (ap is_some h))

-- An event that misses a parent isn't ready.
missing_fails : (held : List Event) (ids : List Id) (p : Id) → is_among ids p ≡ true → is_held held p ≡ false → list_all (is_held held) ids ≡ false
missing_fails held [] p a h = absurd (false≢true a)
missing_fails held (x ∷ ids) p a h =
    ⊎_elim
    (λ e. ap (λ b. b && list_all (is_held held) ids) (ap (is_held held) (sym ((is_same_id p x).0 e)) ∙ h))
    (λ e. and_false (is_held held x) (list_all (is_held held) ids) (missing_fails held ids p e h))
    (or_cases (id_eq p x) (is_among ids p) a)
  where
    and_false : (b c : Bool) → c ≡ false → (b && c) ≡ false
    and_false true c e = e
    and_false false c e = refl

not_ready : (held : List Event) (w : Waiter) (m : Option Id) → w.missing ≡ m → has_missing None w ≡ false → is_missed held w ≡ true → is_ready held w.event ≡ false
not_ready held w None e n h = absurd (false≢true (sym n ∙ ap (λ o. same_missing o None) e))
not_ready held w (Some p) e n h =
    let parts = and_parts (is_among w.event.parents p) (not (is_held held p)) (ap (λ o. option_map_or (λ q. is_among w.event.parents q && not (is_held held q)) o true) (sym e) ∙ h) in
    missing_fails held w.event.parents p parts.0 (not_true (is_held held p) parts.1)
  where
    not_true : (b : Bool) → not b ≡ true → b ≡ false
    not_true true e = absurd (false≢true e)
    not_true false e = refl

-- The earliest of which no parent is known to be missing is the earliest that is ready, if it is ready.
pub settled_by : (held : List Event) (waiters : List Waiter) (o : Option Waiter) → list_all (is_missed held) waiters ≡ true → o ≡ find (has_missing None) waiters → IfSome o (λ w. is_ready held w.event ≡ true)
    → find (is_ready held) (events_in waiters) ≡ option_map (λ (w : Waiter). w.event) (find (has_missing None) waiters)
settled_by held [] o k e h = refl
settled_by held (w ∷ waiters) o k e h = at (has_missing None w) refl e (settled_by held waiters o parts.1)
  where
    parts : (is_missed held w ≡ true) × (list_all (is_missed held) waiters ≡ true)
    parts = and_parts (is_missed held w) (list_all (is_missed held) waiters) k

    at : (b : Bool) → has_missing None w ≡ b → o ≡ cond b (Some w) (find (has_missing None) waiters)
        → (o ≡ find (has_missing None) waiters → IfSome o (λ v. is_ready held v.event ≡ true) → find (is_ready held) (events_in waiters) ≡ option_map (λ (v : Waiter). v.event) (find (has_missing None) waiters))
        → cond (is_ready held w.event) (Some w.event) (find (is_ready held) (events_in waiters)) ≡ option_map (λ (v : Waiter). v.event) (cond b (Some w) (find (has_missing None) waiters))
    at true n f more =
        let ready = subst (λ (q : Option Waiter). IfSome q (λ v. is_ready held v.event ≡ true)) f h in
        ap (λ b. cond b (Some w.event) (find (is_ready held) (events_in waiters))) ready
    at false n f more =
        ap (λ b. cond b (Some w.event) (find (is_ready held) (events_in waiters))) (not_ready held w w.missing refl n parts.0) ∙ more f h

-- One more event of those held was looked at.
held_next : (held : List Event) (k : ℕ) (x p : Id) → slice_get (ids_of held) k ≡ Some x → is_held (take (suc k) held) p ≡ (is_held (take k held) p || id_eq p x)
held_next [] k x p e = let no : ⊥ = cc in absurd no
held_next (f ∷ held) zero x p e = let same : f.id ≡ x = cc in last (id_eq p f.id) ∙ ap (id_eq p) same
  where
    last : (b : Bool) → (b || false) ≡ b
    last true = refl
    last false = refl
held_next (f ∷ held) (suc k) x p e = ap (λ b. id_eq p f.id || b) (held_next held k x p e) ∙ grouped (id_eq p f.id) (is_held (take k held) p) (id_eq p x)
  where
    grouped : (a b c : Bool) → (a || (b || c)) ≡ ((a || b) || c)
    grouped true b c = refl
    grouped false b c = refl

looked_one : (held : List Event) (k : ℕ) (x : Id) (w : Waiter) (m : Option Id) → w.missing ≡ m → slice_get (ids_of held) k ≡ Some x → has_missing (Some x) w ≡ false → is_missed (take k held) w ≡ true → is_missed (take (suc k) held) w ≡ true
looked_one held k x w None e g n h = ap (λ o. option_map_or (λ q. is_among w.event.parents q && not (is_held (take (suc k) held) q)) o true) e
looked_one held k x w (Some p) e g n h =
    ap (λ o. option_map_or (λ q. is_among w.event.parents q && not (is_held (take (suc k) held) q)) o true) e
    ∙ ap (λ b. is_among w.event.parents p && not b) (held_next held k x p g ∙ ap (λ b. is_held (take k held) p || b) other ∙ last (is_held (take k held) p))
    ∙ was
  where
    other : id_eq p x ≡ false
    other = ap (λ o. same_missing o (Some x)) (sym e) ∙ n

    was : (is_among w.event.parents p && not (is_held (take k held) p)) ≡ true
    was = ap (λ o. option_map_or (λ q. is_among w.event.parents q && not (is_held (take k held) q)) o true) (sym e) ∙ h

    last : (b : Bool) → (b || false) ≡ b
    last true = refl
    last false = refl

pub looked : (held : List Event) (k : ℕ) (x : Id) (waiters : List Waiter) → slice_get (ids_of held) k ≡ Some x → find (has_missing (Some x)) waiters ≡ None
    → list_all (is_missed (take k held)) waiters ≡ true → list_all (is_missed (take (suc k) held)) waiters ≡ true
looked held k x [] g n h = refl
looked held k x (w ∷ waiters) g n h = at (has_missing (Some x) w) refl n (looked held k x waiters g)
  where
    parts : (is_missed (take k held) w ≡ true) × (list_all (is_missed (take k held)) waiters ≡ true)
    parts = and_parts (is_missed (take k held) w) (list_all (is_missed (take k held)) waiters) h

    at : (b : Bool) → has_missing (Some x) w ≡ b → cond b (Some w) (find (has_missing (Some x)) waiters) ≡ None
        → (find (has_missing (Some x)) waiters ≡ None → list_all (is_missed (take k held)) waiters ≡ true → list_all (is_missed (take (suc k) held)) waiters ≡ true)
        → (is_missed (take (suc k) held) w && list_all (is_missed (take (suc k) held)) waiters) ≡ true
    at true e f more = let no : ⊥ = cc in absurd no
    at false e f more = λ i. looked_one held k x w w.missing refl g e parts.0 i && more f parts.1 i

-- A parent that was looked for is missed, where one was found.
pub missed_found : (held : List Event) (e : Event) (m : Option Id) → m ≡ first_unknown held e.parents → is_missed held (record { event = e; missing = m }) ≡ true
missed_found held e None h = refl
missed_found held e (Some p) h =
    λ i. found_among (λ x. not (is_held held x)) e.parents p (sym h) i && find_passes (λ x. not (is_held held x)) e.parents p (sym h) i

pub some_there : {X : Type 0} (o : Option X) → is_some o ≡ true → (x : X) × (o ≡ Some x)
some_there None h = absurd (false≢true h)
some_there (Some x) h = (x, refl)
