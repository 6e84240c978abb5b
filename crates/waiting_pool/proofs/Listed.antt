-- A pool with one event more or less, or of which something else is known, is a pool.
use Rattle.std.proofs.Common.{◌≡◌, ℕ, suc, ◌+◌, ◌<◌, ◌≤◌, Bool, true, false, cond, ◌||◌, List, [], ◌∷◌, ◌++◌, map, length, Option, refl, sym, ap, ◌∙◌, subst, arith, length-append}
use Rattle.std.specs.BTreeMap.{is_at}
use Rattle.std.specs.List.{AllByRecursion}
use Rattle.std.specs.List.Sorted.{IsStrictlySortedBy}
use Rattle.std.specs.Map.{keys_of, values_of, set_value}
use Rattle.std.specs.Ordering.{nat_cmp}
use Rattle.std.proofs.lemmas.Bool.{or_parts, or_from}
use Rattle.std.proofs.lemmas.Map.{keys-set_value, length-set_value}
use Rattle.ew_model.specs.declared.id.Id.{Id}
use Rattle.ew_model.specs.declared.event.Event.{Event}
use Rattle.ew_model.specs.Ids.{id_eq}
use Rattle.ew_model.specs.Ancestors.{is_held}
use Rattle.ew_model.specs.Kept.{AreApart}
use Rattle.ew_model.proofs.KeptLaws.{apart-wait}
use Rattle.waiting_pool.specs.declared.waiter.Place.{Place}
use Rattle.waiting_pool.specs.declared.waiter.Waiter.{Waiter}
use Rattle.waiting_pool.specs.Keeping.{AreIndexed, IsPool}
use Rattle.waiting_pool.specs.Waiting.{without, without_first}
use Rattle.waiting_pool.proofs.Entries.{Entries, kept_events, is_of}

-- one event less
less_at : (b c d : Bool) → (c || d) ≡ false → (held : List Event → Bool) (events rest : List Event) (e : Event) → held events ≡ d → held (e ∷ rest) ≡ (c || held rest) → held rest ≡ false → held (cond b events (e ∷ rest)) ≡ false
less_at true c d h held events rest e one more less = one ∙ (or_parts c d h).1
less_at false c d h held events rest e one more less = more ∙ or_from c (held rest) (or_parts c d h).0 less

pub held_less : (events : List Event) (x y : Id) → is_held events y ≡ false → is_held (without events x) y ≡ false
held_less [] x y h = refl
held_less (e ∷ events) x y h =
    less_at (id_eq x e.id) (id_eq y e.id) (is_held events y) h (λ es. is_held es y) events (without events x) e refl refl (held_less events x y (or_parts (id_eq y e.id) (is_held events y) h).1)

apart_at : (b : Bool) (e : Event) (events rest : List Event) → AreApart events → is_held rest e.id ≡ false → AreApart rest → AreApart (cond b events (e ∷ rest))
apart_at true e events rest a h less = a
apart_at false e events rest a h less = (h, less)

pub apart_less : (events : List Event) (x : Id) → AreApart events → AreApart (without events x)
apart_less [] x a = tt
apart_less (e ∷ events) x a = apart_at (id_eq x e.id) e events (without events x) a.1 (held_less events x e.id a.0) (apart_less events x a.1)

-- what a map makes of a list without the first that passes
pub map-without_first : {X Y : Type 0} (f : X → Y) (p : Y → Bool) (xs : List X) → map f (without_first (λ x. p (f x)) xs) ≡ without_first p (map f xs)
map-without_first f p [] = refl
map-without_first f p (x ∷ xs) = at (p (f x)) (map-without_first f p xs)
  where
    at : (b : Bool) → map f (without_first (λ y. p (f y)) xs) ≡ without_first p (map f xs) → map f (cond b xs (x ∷ without_first (λ y. p (f y)) xs)) ≡ cond b (map f xs) (f x ∷ without_first p (map f xs))
    at true h = refl
    at false h = ap (λ ys. f x ∷ ys) h

length-without_first : {X : Type 0} (p : X → Bool) (xs : List X) → length (without_first p xs) ≤ length xs
length-without_first p [] = omega arith
length-without_first p (x ∷ xs) = at (p x) (length-without_first p xs)
  where
    at : (b : Bool) → length (without_first p xs) ≤ length xs → length (cond b xs (x ∷ without_first p xs)) ≤ suc (length xs)
    at true h = omega arith
    at false h = omega arith

-- the numbers
below_more : (entries : Entries) (n : ℕ) (w : Waiter) → AllByRecursion (λ k. k < n) (keys_of entries) → AllByRecursion (λ k. k < n + 1) (keys_of (entries ++ (n, w) ∷ []))
below_more [] n w h = (omega arith, tt)
below_more (p ∷ entries) n w h = (let less = h.0 in omega (arith, less), below_more entries n w h.1)

below_at : (b : Bool) (p : ℕ × Waiter) (entries rest : Entries) (n : ℕ) → AllByRecursion (λ k. k < n) (keys_of (p ∷ entries)) → AllByRecursion (λ k. k < n) (keys_of rest) → AllByRecursion (λ k. k < n) (keys_of (cond b entries (p ∷ rest)))
below_at true p entries rest n h less = h.1
below_at false p entries rest n h less = (h.0, less)

below_less : (q : ℕ × Waiter → Bool) (entries : Entries) (n : ℕ) → AllByRecursion (λ k. k < n) (keys_of entries) → AllByRecursion (λ k. k < n) (keys_of (without_first q entries))
below_less q [] n h = tt
below_less q (p ∷ entries) n h = below_at (q p) p entries (without_first q entries) n h (below_less q entries n h.1)

-- the events
pub kept-push : (entries : Entries) (n : ℕ) (w : Waiter) → kept_events (entries ++ (n, w) ∷ []) ≡ kept_events entries ++ w.event ∷ []
kept-push [] n w = refl
kept-push (p ∷ entries) n w = ap (λ es. p.1.event ∷ es) (kept-push entries n w)

pub kept-without : (entries : Entries) (x : Id) → kept_events (without_first (is_of x) entries) ≡ without (kept_events entries) x
kept-without entries x =
    ap (map (λ (w : Waiter). w.event)) (map-without_first (λ (e : ℕ × Waiter). e.1) (λ (w : Waiter). id_eq x w.event.id) entries)
    ∙ map-without_first (λ (w : Waiter). w.event) (λ (e : Event). id_eq x e.id) (values_of entries)

module _ (limit next : ℕ) (entries after : Entries) (number number' : Id → Option ℕ) (queued queued' : Place → Bool) (pool : IsPool limit next entries number queued) where
  pub pool_more : (w : Waiter) → is_held (kept_events entries) w.event.id ≡ false → length entries < limit → after ≡ entries ++ (next, w) ∷ [] → IsStrictlySortedBy nat_cmp (keys_of after)
      → AreIndexed after number' queued' → IsPool limit (next + 1) after number' queued'
  pool_more w new room same ordered indexed = record {
    fits = pool.fits;
    few = let long = ap (length {A = ℕ × Waiter}) same ∙ length-append entries ((next, w) ∷ []) in omega (arith, long, room);
    listed = record {
      ordered = ordered;
      below = subst (λ (es : Entries). AllByRecursion (λ k. k < next + 1) (keys_of es)) (sym same) (below_more entries next w pool.listed.below);
      apart = subst AreApart (sym (ap kept_events same ∙ kept-push entries next w)) (apart-wait (kept_events entries) w.event pool.listed.apart new);
    };
    indexed = indexed;
  }

  pub pool_less : (x : Id) → after ≡ without_first (is_of x) entries → IsStrictlySortedBy nat_cmp (keys_of after) → AreIndexed after number' queued' → IsPool limit next after number' queued'
  pool_less x same ordered indexed = record {
    fits = pool.fits;
    few = let less = length-without_first (is_of x) entries in let long = ap (length {A = ℕ × Waiter}) same in let few = pool.few in omega (arith, less, long, few);
    listed = record {
      ordered = ordered;
      below = subst (λ (es : Entries). AllByRecursion (λ k. k < next) (keys_of es)) (sym same) (below_less (is_of x) entries next pool.listed.below);
      apart = subst AreApart (sym (ap kept_events same ∙ kept-without entries x)) (apart_less (kept_events entries) x pool.listed.apart);
    };
    indexed = indexed;
  }

  pub pool_moved : (n : ℕ) (v : Waiter) → after ≡ set_value (is_at (nat_cmp n)) entries v → kept_events after ≡ kept_events entries → AreIndexed after number' queued' → IsPool limit next after number' queued'
  pool_moved n v same events indexed =
      let keys = sym (ap keys_of same ∙ keys-set_value (is_at (nat_cmp n)) entries v) in
      record {
        fits = pool.fits;
        few = let long = ap (length {A = ℕ × Waiter}) same ∙ length-set_value (is_at (nat_cmp n)) entries v in let few = pool.few in omega (arith, long, few);
        listed = record {
          ordered = subst (IsStrictlySortedBy nat_cmp) keys pool.listed.ordered;
          below = subst (AllByRecursion (λ k. k < next)) keys pool.listed.below;
          apart = subst AreApart (sym events) pool.listed.apart;
        };
        indexed = indexed;
      }
