-- The tables of a pool stay right when an event comes, goes, or waits for another parent.
use Rattle.std.proofs.Common.{◌≡◌, ℕ, ◌<◌, Bool, true, false, cond, ◌&&◌, [], ◌∷◌, ◌++◌, Option, Some, None, refl, sym, ap, ◌∙◌}
use Rattle.std.specs.BTreeMap.{is_at}
use Rattle.std.specs.Cmp.{tied_then}
use Rattle.std.specs.List.{AllByRecursion}
use Rattle.std.specs.Map.{keys_of, lookup}
use Rattle.std.specs.Option.{option_cmp, option_map_or}
use Rattle.std.specs.Ordering.{nat_cmp, is_eq}
use Rattle.ew_model.specs.declared.id.Id.{Id}
use Rattle.ew_model.specs.Ids.{id_cmp, id_eq}
use Rattle.ew_model.specs.Kept.{AreApart}
use Rattle.waiting_pool.specs.declared.waiter.Place.{Place}
use Rattle.waiting_pool.specs.declared.waiter.Waiter.{Waiter}
use Rattle.waiting_pool.specs.Keeping.{AreIndexed, number_of}
use Rattle.waiting_pool.specs.Places.{place_cmp}
use Rattle.waiting_pool.specs.Waiting.{has_missing, without_first}
use Rattle.waiting_pool.proofs.Order.{missing_same, missing_flip}
use Rattle.waiting_pool.proofs.Entries.{Entries, kept_events, is_of, absent_last, same_number, number_of-push, number_of-without}

-- a waiting event, if there is one, has this parent missing
abbrev pub has : Option Id → Option Waiter → Bool
has m o = option_map_or (λ (w : Waiter). has_missing m w) o false

more_at : (t b : Bool) (w : Waiter) (m : Option Id) (old : Option Waiter) (was now : Bool) → has_missing m w ≡ t → (b ≡ true → old ≡ None) → was ≡ has m old → now ≡ cond (t && b) true was → now ≡ has m (cond b (Some w) old)
more_at true true w m old was now h none e f = f ∙ sym h
more_at false true w m old was now h none e f = f ∙ e ∙ ap (has m) (none refl) ∙ sym h
more_at true false w m old was now h none e f = f ∙ e
more_at false false w m old was now h none e f = f ∙ e

less_at : (t b : Bool) (w : Waiter) (m : Option Id) (old : Option Waiter) (was now : Bool) → has_missing m w ≡ t → (b ≡ true → old ≡ Some w) → was ≡ has m old → now ≡ cond (t && b) false was → now ≡ has m (cond b None old)
less_at true true w m old was now h some e f = f
less_at false true w m old was now h some e f = f ∙ e ∙ ap (has m) (some refl) ∙ h
less_at true false w m old was now h some e f = f ∙ e
less_at false false w m old was now h some e f = f ∙ e

move_at : (t u b : Bool) (w v : Waiter) (m : Option Id) (old : Option Waiter) (was now : Bool) → has_missing m w ≡ t → has_missing m v ≡ u → (t ≡ true → u ≡ false) → (b ≡ true → old ≡ Some w)
    → was ≡ has m old → now ≡ cond (t && b) false (cond (u && b) true was) → now ≡ has m (cond b (Some v) old)
move_at true u true w v m old was now h k apart some e f = f ∙ sym (k ∙ apart refl)
move_at false true true w v m old was now h k apart some e f = f ∙ sym k
move_at false false true w v m old was now h k apart some e f = f ∙ e ∙ ap (has m) (some refl) ∙ h ∙ sym k
move_at true true false w v m old was now h k apart some e f = f ∙ e
move_at true false false w v m old was now h k apart some e f = f ∙ e
move_at false true false w v m old was now h k apart some e f = f ∙ e
move_at false false false w v m old was now h k apart some e f = f ∙ e

-- two places are one where the missing parents and the numbers are
parted : (m : Option Id) (n : ℕ) (q : Place) → is_at (place_cmp (record { missing = m; number = n })) q ≡ (is_eq (option_cmp id_cmp m q.missing) && is_eq (nat_cmp n q.number))
parted m n q = sym (tied_then (option_cmp id_cmp m q.missing) (nat_cmp n q.number))

module _ (entries after : Entries) (n : ℕ) (number number' : Id → Option ℕ) (queued queued' : Place → Bool) (was : AreIndexed entries number queued) where
  -- an event comes under a number above all others
  pub indexed_more : (w : Waiter) → AllByRecursion (λ k. k < n) (keys_of entries) → number_of entries w.event.id ≡ None → after ≡ entries ++ (n, w) ∷ []
      → ((k : ℕ) → lookup (is_at (nat_cmp k)) after ≡ cond (is_eq (nat_cmp n k)) (Some w) (lookup (is_at (nat_cmp k)) entries))
      → ((x : Id) → number' x ≡ cond (id_eq w.event.id x) (Some n) (number x))
      → ((q : Place) → queued' q ≡ cond (is_at (place_cmp (record { missing = w.missing; number = n })) q) true (queued q))
      → AreIndexed after number' queued'
  indexed_more w below new same found numbers places = record {
    numbers = λ x. numbers x ∙ ap (λ (o : Option ℕ). cond (id_eq w.event.id x) (Some n) o) (was.numbers x) ∙ sym (ap (λ (es : Entries). number_of es x) same ∙ number_of-push entries n w x new);
    places = λ q.
        more_at (has_missing q.missing w) (is_eq (nat_cmp n q.number)) w q.missing (lookup (is_at (nat_cmp q.number)) entries) (queued q) (queued' q) refl
        (λ e. ap (λ k. lookup (is_at (nat_cmp k)) entries) (sym (same_number n q.number e)) ∙ absent_last entries n below)
        (was.places q) (places q ∙ ap (λ b. cond b true (queued q)) (parted w.missing n q))
        ∙ ap (has q.missing) (sym (found q.number));
  }

  -- the event with the id goes
  pub indexed_less : (w : Waiter) (x : Id) → AreApart (kept_events entries) → after ≡ without_first (is_of x) entries → lookup (is_at (nat_cmp n)) entries ≡ Some w
      → ((k : ℕ) → lookup (is_at (nat_cmp k)) after ≡ cond (is_eq (nat_cmp n k)) None (lookup (is_at (nat_cmp k)) entries))
      → ((y : Id) → number' y ≡ cond (id_eq x y) None (number y))
      → ((q : Place) → queued' q ≡ cond (is_at (place_cmp (record { missing = w.missing; number = n })) q) false (queued q))
      → AreIndexed after number' queued'
  indexed_less w x apart same there found numbers places = record {
    numbers = λ y. numbers y ∙ ap (λ (o : Option ℕ). cond (id_eq x y) None o) (was.numbers y) ∙ sym (ap (λ (es : Entries). number_of es y) same ∙ number_of-without entries x y apart);
    places = λ q.
        less_at (has_missing q.missing w) (is_eq (nat_cmp n q.number)) w q.missing (lookup (is_at (nat_cmp q.number)) entries) (queued q) (queued' q) refl
        (λ e. ap (λ k. lookup (is_at (nat_cmp k)) entries) (sym (same_number n q.number e)) ∙ there)
        (was.places q) (places q ∙ ap (λ b. cond b false (queued q)) (parted w.missing n q))
        ∙ ap (has q.missing) (sym (found q.number));
  }

  -- another parent of an event is missing
  pub indexed_moved : (w v : Waiter) → has_missing v.missing w ≡ false → lookup (is_at (nat_cmp n)) entries ≡ Some w
      → ((k : ℕ) → lookup (is_at (nat_cmp k)) after ≡ cond (is_eq (nat_cmp n k)) (Some v) (lookup (is_at (nat_cmp k)) entries))
      → ((y : Id) → number_of after y ≡ number_of entries y)
      → ((y : Id) → number' y ≡ number y)
      → ((q : Place) → queued' q ≡ cond (is_at (place_cmp (record { missing = w.missing; number = n })) q) false (cond (is_at (place_cmp (record { missing = v.missing; number = n })) q) true (queued q)))
      → AreIndexed after number' queued'
  indexed_moved w v other there found same numbers places = record {
    numbers = λ y. numbers y ∙ was.numbers y ∙ sym (same y);
    places = λ q.
        move_at (has_missing q.missing w) (has_missing q.missing v) (is_eq (nat_cmp n q.number)) w v q.missing (lookup (is_at (nat_cmp q.number)) entries) (queued q) (queued' q) refl refl
        (λ e. apart q.missing e)
        (λ e. ap (λ k. lookup (is_at (nat_cmp k)) entries) (sym (same_number n q.number e)) ∙ there)
        (was.places q)
        (places q ∙ ap (λ b. cond b false (cond (is_at (place_cmp (record { missing = v.missing; number = n })) q) true (queued q))) (parted w.missing n q)
        ∙ ap (λ b. cond (has_missing q.missing w && is_eq (nat_cmp n q.number)) false (cond b true (queued q))) (parted v.missing n q))
        ∙ ap (has q.missing) (sym (found q.number));
  }
    where
      apart : (m : Option Id) → has_missing m w ≡ true → has_missing m v ≡ false
      apart m e =
          ap (λ x. is_eq (option_cmp id_cmp v.missing x)) (sym (missing_same w.missing m e))
          ∙ missing_flip v.missing w.missing ∙ other
