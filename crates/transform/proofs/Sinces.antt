-- The positions from a cut on, where versions hold all that is below it.
use Rattle.std.proofs.Common.{◌≡◌, ℕ, suc, ◌+◌, ◌<◌, ◌≤◌, true, false, not, cond, ◌||◌, inl, inr, ⊎_elim, Bool, List, [], ◌∷◌, ◌++◌, length, take, drop, refl, sym, ◌∙◌, subst, arith, eq-eqb, ne_eqb}
use Rattle.std.specs.List.{AllByRecursion}
use Rattle.std.proofs.lemmas.List.{take-append-drop, length-take-le}
use Rattle.ew_model.specs.declared.id.Id.{Id}
use Rattle.ew_model.specs.declared.event.Event.{Event}
use Rattle.ew_model.specs.Sets.{Among}
use Rattle.ew_model.specs.Ids.{is_among}
use Rattle.ew_model.specs.Records.{holds}
use Rattle.ew_model.specs.Walks.{positions_among}
use Rattle.ew_model.proofs.PositionNumbers.{positions_low, positions_rising}
use Rattle.ew_model.proofs.RisingLists.{Rise, number_among}
use Rattle.transform.specs.Moving.{alone}

alone_less : (n : ℕ) (ps qs : List ℕ) → AllByRecursion (λ k. n < k) ps → alone ps (n ∷ qs) ≡ alone ps qs
alone_less n [] qs h = refl
alone_less n (k ∷ ps) qs h =
    let other = ne_eqb k n (λ same. omega (arith, h.0, same)) in
    λ i. cond (not (other i || holds qs k)) (k ∷ alone_less n ps qs h.1 i) (alone_less n ps qs h.1 i)

-- a number that is the first of both is alone in none
alone_next : (n : ℕ) (ps qs : List ℕ) → AllByRecursion (λ k. n < k) ps → alone (n ∷ ps) (n ∷ qs) ≡ alone ps qs
alone_next n ps qs h = (λ i. cond (not (eq-eqb n n refl i || holds qs n)) (n ∷ alone ps (n ∷ qs)) (alone ps (n ∷ qs))) ∙ alone_less n ps qs h

alone_from : (ids others : List Id) (n : ℕ) (below between : List Event) → ((f : Event) → Among f below → (is_among ids f.id ≡ true) × (is_among others f.id ≡ true))
    → alone (positions_among ids n (below ++ between)) (positions_among others n (below ++ between)) ≡ alone (positions_among ids (n + length below) between) (positions_among others (n + length below) between)
alone_from ids others n [] between h = let same : n ≡ n + 0 = omega arith in λ i. alone (positions_among ids (same i) between) (positions_among others (same i) between)
alone_from ids others n (f ∷ below) between h =
    let both = h f (inl refl) in
    let ps = positions_among ids (suc n) (below ++ between) in
    let qs = positions_among others (suc n) (below ++ between) in
    let rise : Rise (n ∷ ps) = subst (λ b. Rise (cond b (n ∷ ps) ps)) both.0 (positions_rising ids n (f ∷ below ++ between)) in
    let next : suc n + length below ≡ n + suc (length below) = omega arith in
    (λ i. alone (cond (both.0 i) (n ∷ ps) ps) (cond (both.1 i) (n ∷ qs) qs))
    ∙ alone_next n ps qs rise.0
    ∙ alone_from ids others (suc n) below between (λ g m. h g (inr m))
    ∙ (λ i. alone (positions_among ids (next i) between) (positions_among others (next i) between))

-- What one of two versions has alone stands behind a cut, where both hold all below it.
pub alone_since : (ids others : List Id) (front : List Event) (cut : ℕ) → cut ≤ length front → ((f : Event) → Among f (take cut front) → (is_among ids f.id ≡ true) × (is_among others f.id ≡ true))
    → alone (positions_among ids 0 front) (positions_among others 0 front) ≡ alone (positions_among ids cut (drop cut front)) (positions_among others cut (drop cut front))
alone_since ids others front cut low h =
    let whole : front ≡ take cut front ++ drop cut front = sym (take-append-drop cut front) in
    let long : 0 + length (take cut front) ≡ cut = omega (arith, length-take-le cut front low) in
    (λ i. alone (positions_among ids 0 (whole i)) (positions_among others 0 (whole i)))
    ∙ alone_from ids others 0 (take cut front) (drop cut front) h
    ∙ (λ i. alone (positions_among ids (long i) (drop cut front)) (positions_among others (long i) (drop cut front)))

-- a position is that of one of the events
positions_high : (ids : List Id) (n : ℕ) (events : List Event) (p : ℕ) → Among p (positions_among ids n events) → p < n + length events
positions_high ids n [] p m = absurd m
positions_high ids n (e ∷ events) p m = at (is_among ids e.id) m (λ k. let high = positions_high ids (suc n) events p k in omega (arith, high))
  where
    at : (b : Bool) → Among p (cond b (n ∷ positions_among ids (suc n) events) (positions_among ids (suc n) events)) → (Among p (positions_among ids (suc n) events) → p < n + suc (length events)) → p < n + suc (length events)
    at true k more = ⊎_elim (λ same. omega (arith, same)) more k
    at false k more = more k

pub position_between : (ids : List Id) (n : ℕ) (events : List Event) (p : ℕ) → holds (positions_among ids n events) p ≡ true → (n ≤ p) × (p < n + length events)
position_between ids n events p h =
    let m = number_among (positions_among ids n events) p h in (positions_low ids n events p m, positions_high ids n events p m)
