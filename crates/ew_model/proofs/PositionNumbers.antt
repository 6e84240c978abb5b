-- The events of a history beside their positions.
use Rattle.std.proofs.Common.{◌≡◌, ℕ, zero, suc, ◌+◌, ◌<◌, ◌≤◌, Bool, true, false, cond, ◌||◌, inl, inr, ⊎_elim, nat_eq, List, [], ◌∷◌, ◌++◌, map, filter, length, Some, refl, sym, ap, ◌∙◌, subst, arith, ne_eqb}
use Rattle.std.specs.List.{AllByRecursion}
use Rattle.std.specs.Prelude.{slice_get}
use Rattle.std.proofs.lemmas.Bool.{false≢true, false_from_ne_true, or_left}
use Rattle.std.proofs.lemmas.Cmp.{nat_eq_equiv}
use Rattle.ew_model.specs.declared.id.Id.{Id}
use Rattle.ew_model.specs.declared.event.Event.{Event}
use Rattle.ew_model.specs.Sets.{Among}
use Rattle.ew_model.specs.Ids.{id_eq, is_among}
use Rattle.ew_model.specs.Graph.{is_named}
use Rattle.ew_model.specs.Walks.{positions_among}
use Rattle.ew_model.specs.Positions.{EventAt, events_from}
use Rattle.ew_model.proofs.SortingLaws.{all_at, all_from}
use Rattle.ew_model.proofs.VersionLaws.{PointsBack}
use Rattle.ew_model.proofs.CoverLaws.{ids_alike}
use Rattle.ew_model.proofs.GraphAlike.{AreDistinct}
use Rattle.ew_model.proofs.RisingLists.{Rise, number_among}

abbrev pub numbered : ℕ → List Event → List (ℕ × Event)
numbered n [] = []
numbered n (e ∷ events) = (n, e) ∷ numbered (suc n) events

pub numbered_events : (n : ℕ) (events : List Event) → map (λ (z : ℕ × Event). z.1) (numbered n events) ≡ events
numbered_events n [] = refl
numbered_events n (e ∷ events) = ap (λ es. e ∷ es) (numbered_events (suc n) events)

-- the events by their positions, with whatever parents
pub numbered_at : (f : Event → List ℕ) (n : ℕ) (events : List Event) → events_from n (map f events) ≡ map (λ (z : ℕ × Event). record { position = z.0; parents = f z.1 }) (numbered n events)
numbered_at f n [] = refl
numbered_at f n (e ∷ events) = ap (λ (es : List EventAt). record { position = n; parents = f e } ∷ es) (numbered_at f (suc n) events)

pub numbered_low : (n : ℕ) (events : List Event) (z : ℕ × Event) → Among z (numbered n events) → n ≤ z.0
numbered_low n [] z m = absurd m
numbered_low n (e ∷ events) z m =
    ⊎_elim (λ k. let same : z.0 ≡ n = ap (λ (w : ℕ × Event). w.0) k in omega (arith, same)) (λ k. let more = numbered_low (suc n) events z k in omega (arith, more)) m

pub numbered_among : (n : ℕ) (events : List Event) (z : ℕ × Event) → Among z (numbered n events) → Among z.1 events
numbered_among n [] z m = m
numbered_among n (e ∷ events) z m = ⊎_elim (λ k. inl (ap (λ (w : ℕ × Event). w.1) k)) (λ k. inr (numbered_among (suc n) events z k)) m

-- the event at a position
pub numbered_get : (n : ℕ) (events : List Event) (i : ℕ) (e : Event) → slice_get events i ≡ Some e → Among (n + i, e) (numbered n events)
numbered_get n [] i e h = let no : ⊥ = cc in absurd no
numbered_get n (x ∷ events) zero e h =
    let here : e ≡ x = cc in
    let same : n + 0 ≡ n = omega arith in
    inl (λ j. (same j, here j))
numbered_get n (x ∷ events) (suc i) e h =
    let one : suc n + i ≡ n + suc i = omega arith in inr (subst (λ m. Among (m, e) (numbered (suc n) events)) one (numbered_get (suc n) events i e h))

-- the positions of some ids
kept_position : (b : Bool) (n : ℕ) (e : Event) (zs : List (ℕ × Event)) → cond b (n ∷ map (λ (z : ℕ × Event). z.0) zs) (map (λ (z : ℕ × Event). z.0) zs) ≡ map (λ (z : ℕ × Event). z.0) (cond b ((n, e) ∷ zs) zs)
kept_position true n e zs = refl
kept_position false n e zs = refl

pub positions_filtered : (ids : List Id) (n : ℕ) (events : List Event) → positions_among ids n events ≡ map (λ (z : ℕ × Event). z.0) (filter (λ (z : ℕ × Event). is_among ids z.1.id) (numbered n events))
positions_filtered ids n [] = refl
positions_filtered ids n (e ∷ events) =
    ap (λ ps. cond (is_among ids e.id) (n ∷ ps) ps) (positions_filtered ids (suc n) events)
    ∙ kept_position (is_among ids e.id) n e (filter (λ (z : ℕ × Event). is_among ids z.1.id) (numbered (suc n) events))

pub positions_low : (ids : List Id) (n : ℕ) (events : List Event) (p : ℕ) → Among p (positions_among ids n events) → n ≤ p
positions_low ids n [] p m = absurd m
positions_low ids n (e ∷ events) p m = at (is_among ids e.id) m (λ k. let more = positions_low ids (suc n) events p k in omega (arith, more))
  where
    at : (b : Bool) → Among p (cond b (n ∷ positions_among ids (suc n) events) (positions_among ids (suc n) events)) → (Among p (positions_among ids (suc n) events) → n ≤ p) → n ≤ p
    at true m f = ⊎_elim (λ k. omega (arith, k)) f m
    at false m f = f m

pub positions_rising : (ids : List Id) (n : ℕ) (events : List Event) → Rise (positions_among ids n events)
positions_rising ids n [] = tt
positions_rising ids n (e ∷ events) =
    at (is_among ids e.id) (all_from (λ p. n < p) (positions_among ids (suc n) events) (λ p m. let low = positions_low ids (suc n) events p m in omega (arith, low))) (positions_rising ids (suc n) events)
  where
    at : (b : Bool) → AllByRecursion (λ p. n < p) (positions_among ids (suc n) events) → Rise (positions_among ids (suc n) events) → Rise (cond b (n ∷ positions_among ids (suc n) events) (positions_among ids (suc n) events))
    at true above rest = (above, rest)
    at false above rest = rest

no_position : (ids : List Id) (n m : ℕ) (events : List Event) → m < n → is_named nat_eq (positions_among ids n events) m ≡ false
no_position ids n m events l =
    false_from_ne_true (is_named nat_eq (positions_among ids n events) m) (λ e. let low = positions_low ids n events m (number_among (positions_among ids n events) m e) in omega (arith, l, low))

-- A position is among those of some ids exactly where its event's id is among these.
pub position_named : (ids : List Id) (n : ℕ) (events : List Event) (z : ℕ × Event) → Among z (numbered n events) → is_named nat_eq (positions_among ids n events) z.0 ≡ is_among ids z.1.id
position_named ids n [] z m = absurd m
position_named ids n (e ∷ events) z m = ⊎_elim (λ k. first (is_among ids e.id) refl k) (λ k. later (is_among ids e.id) (numbered_low (suc n) events z k) (position_named ids (suc n) events z k)) m
  where
    rest : List ℕ
    rest = positions_among ids (suc n) events

    first : (b : Bool) → is_among ids e.id ≡ b → z ≡ (n, e) → is_named nat_eq (cond b (n ∷ rest) rest) z.0 ≡ is_among ids z.1.id
    first true q k =
        ap (λ (w : ℕ × Event). is_named nat_eq (n ∷ rest) w.0) k ∙ or_left (nat_eq n n) (is_named nat_eq rest n) (nat_eq_equiv.refl n) ∙ sym (ap (λ (w : ℕ × Event). is_among ids w.1.id) k ∙ q)
    first false q k = ap (λ (w : ℕ × Event). is_named nat_eq rest w.0) k ∙ no_position ids (suc n) n events (omega arith) ∙ sym (ap (λ (w : ℕ × Event). is_among ids w.1.id) k ∙ q)

    later : (b : Bool) → suc n ≤ z.0 → is_named nat_eq rest z.0 ≡ is_among ids z.1.id → is_named nat_eq (cond b (n ∷ rest) rest) z.0 ≡ is_among ids z.1.id
    later true l h = ap (λ b. b || is_named nat_eq rest z.0) (ne_eqb z.0 n (λ e. omega (arith, l, e))) ∙ h
    later false l h = h

-- Positions differ where ids do.
pub positions_alike : (n : ℕ) (events : List Event) → AreDistinct (λ (e : Event). e.id) (λ (e : Event). e.parents) id_eq events → (w z : ℕ × Event) → Among w (numbered n events) → Among z (numbered n events) → id_eq w.1.id z.1.id ≡ nat_eq w.0 z.0
positions_alike n [] h w z mw mz = absurd mw
positions_alike n (e ∷ events) h w z mw mz =
    ⊎_elim
    (λ kw. ⊎_elim
    (λ kz. (λ i. id_eq (kw i).1.id (kz i).1.id) ∙ ids_alike.refl e.id ∙ sym ((λ i. nat_eq (kw i).0 (kz i).0) ∙ nat_eq_equiv.refl n))
    (λ kz. ids_alike.symm w.1.id z.1.id ∙ apart z w kw kz ∙ nat_eq_equiv.symm z.0 w.0)
    mz)
    (λ kw. ⊎_elim
    (λ kz. apart w z kz kw)
    (λ kz. positions_alike (suc n) events h.1 w z kw kz)
    mz)
    mw
  where
    apart : (w z : ℕ × Event) → z ≡ (n, e) → Among w (numbered (suc n) events) → id_eq w.1.id z.1.id ≡ nat_eq w.0 z.0
    apart w z kz kw =
        let other : id_eq w.1.id e.id ≡ false = all_at (λ (f : Event). id_eq f.id e.id ≡ false) events w.1 h.0 (numbered_among (suc n) events w kw) in
        let far : suc n ≤ w.0 = numbered_low (suc n) events w kw in
        ap (λ (v : ℕ × Event). id_eq w.1.id v.1.id) kz ∙ other ∙ sym (ap (λ (v : ℕ × Event). nat_eq w.0 v.0) kz ∙ ne_eqb w.0 n (λ q. omega (arith, far, q)))

-- parents stand before
pub parents_lower : (n : ℕ) (events : List Event) → PointsBack events → (w z : ℕ × Event) → Among w (numbered n events) → Among z (numbered n events) → is_among w.1.parents z.1.id ≡ true → z.0 < w.0
parents_lower n [] h w z mw mz p = absurd mw
parents_lower n (e ∷ events) h w z mw mz p =
    ⊎_elim
    (λ kw.
    let there : Among z.1 (e ∷ events) = numbered_among n (e ∷ events) z mz in
    let none : is_among e.parents z.1.id ≡ false = all_at (λ (f : Event). is_among e.parents f.id ≡ false) (e ∷ events) z.1 h.0 there in
    absurd (false≢true (sym none ∙ (ap (λ (v : ℕ × Event). is_among v.1.parents z.1.id) (sym kw) ∙ p))))
    (λ kw. ⊎_elim
    (λ kz. let first : z.0 ≡ n = ap (λ (v : ℕ × Event). v.0) kz in let far = numbered_low (suc n) events w kw in omega (arith, first, far))
    (λ kz. parents_lower (suc n) events h.1 w z kw kz p)
    mz)
    mw

-- there are no more positions than ids
few_more : (x : Id) (ids : List Id) (n : ℕ) (events : List Event) → length (positions_among (x ∷ ids) n events) ≤ length (positions_among (x ∷ []) n events) + length (positions_among ids n events)
few_more x ids n [] = omega arith
few_more x ids n (e ∷ events) = at (id_eq e.id x) (is_among ids e.id) (few_more x ids (suc n) events)
  where
    at : (a b : Bool) → length (positions_among (x ∷ ids) (suc n) events) ≤ length (positions_among (x ∷ []) (suc n) events) + length (positions_among ids (suc n) events)
        → length (cond (a || b) (n ∷ positions_among (x ∷ ids) (suc n) events) (positions_among (x ∷ ids) (suc n) events))
        ≤ length (cond (a || false) (n ∷ positions_among (x ∷ []) (suc n) events) (positions_among (x ∷ []) (suc n) events)) + length (cond b (n ∷ positions_among ids (suc n) events) (positions_among ids (suc n) events))
    at true true h = omega (arith, h)
    at true false h = omega (arith, h)
    at false true h = omega (arith, h)
    at false false h = h

none_here : (x : Id) (n : ℕ) (events : List Event) → AllByRecursion (λ (f : Event). is_among (x ∷ []) f.id ≡ false) events → positions_among (x ∷ []) n events ≡ []
none_here x n [] h = refl
none_here x n (e ∷ events) h = ap (λ b. cond b (n ∷ positions_among (x ∷ []) (suc n) events) (positions_among (x ∷ []) (suc n) events)) h.0 ∙ none_here x (suc n) events h.1

one_at_most : (x : Id) (n : ℕ) (events : List Event) → AreDistinct (λ (e : Event). e.id) (λ (e : Event). e.parents) id_eq events → length (positions_among (x ∷ []) n events) ≤ 1
one_at_most x n [] h = omega arith
one_at_most x n (e ∷ events) h = at (id_eq e.id x) refl (one_at_most x (suc n) events h.1)
  where
    at : (b : Bool) → id_eq e.id x ≡ b → length (positions_among (x ∷ []) (suc n) events) ≤ 1 → length (cond (b || false) (n ∷ positions_among (x ∷ []) (suc n) events) (positions_among (x ∷ []) (suc n) events)) ≤ 1
    at true q f =
        let none : positions_among (x ∷ []) (suc n) events ≡ [] =
        none_here x (suc n) events (all_from (λ (g : Event). is_among (x ∷ []) g.id ≡ false) events (λ g m.
        ap (λ b. b || false) (ids_alike.symm g.id x ∙ (sym (ids_alike.congr e.id x g.id q) ∙ (ids_alike.symm e.id g.id ∙ all_at (λ (f : Event). id_eq f.id e.id ≡ false) events g h.0 m))))) in
        let short = ap (length {A = ℕ}) none in omega (arith, short)
    at false q f = f

pub few_positions : (ids : List Id) (n : ℕ) (events : List Event) → AreDistinct (λ (e : Event). e.id) (λ (e : Event). e.parents) id_eq events → length (positions_among ids n events) ≤ length ids
few_positions [] n events h = let none = ap (length {A = ℕ}) (nothing n events) in omega (arith, none)
  where
    nothing : (n : ℕ) (events : List Event) → positions_among [] n events ≡ []
    nothing n [] = refl
    nothing n (e ∷ events) = nothing (suc n) events
few_positions (x ∷ ids) n events h =
    let more = few_more x ids n events in
    let one = one_at_most x n events h in
    let rest = few_positions ids n events h in
    omega (arith, more, one, rest)

-- a later event that isn't named adds no position
pub positions_before : (ids : List Id) (n : ℕ) (events : List Event) (e : Event) → is_among ids e.id ≡ false → positions_among ids n (events ++ e ∷ []) ≡ positions_among ids n events
positions_before ids n [] e h = ap (λ b. cond b (n ∷ []) []) h
positions_before ids n (f ∷ events) e h = ap (λ ps. cond (is_among ids f.id) (n ∷ ps) ps) (positions_before ids (suc n) events e h)
