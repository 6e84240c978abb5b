-- The lowest number in the queue is that of the earliest event.
use Rattle.std.proofs.Common.{◌≡◌, ℕ, ◌<◌, ◌≤◌, Bool, true, false, cond, [], ◌∷◌, find, Option, Some, None, refl, sym, ap, ◌∙◌, arith}
use Rattle.std.specs.declared.cmp.Ordering.{Ordering}
use Rattle.std.specs.declared.cmp.Ordering.TheVariants.{Less, Equal, Greater}
use Rattle.std.specs.BTreeMap.{is_at}
use Rattle.std.specs.List.{AllByRecursion}
use Rattle.std.specs.List.Sorted.{IsStrictlySortedBy}
use Rattle.std.specs.Map.{keys_of, values_of, lookup}
use Rattle.std.specs.Ordering.{nat_cmp, is_eq, MatchOrdering}
use Rattle.std.proofs.lemmas.Bool.{false≢true}
use Rattle.std.proofs.lemmas.Cmp.{nat_cmp_total, tied_itself, ranked}
use Rattle.std.proofs.lemmas.Map.Keys.{sorted_head, sorted_tail}
use Rattle.ew_model.specs.declared.id.Id.{Id}
use Rattle.ew_model.specs.Sets.{Among}
use Rattle.ew_model.proofs.SortingLaws.{all_at, all_from}
use Rattle.waiting_pool.specs.declared.waiter.Place.{Place}
use Rattle.waiting_pool.specs.declared.waiter.Waiter.{Waiter}
use Rattle.waiting_pool.specs.Keeping.{is_place}
use Rattle.waiting_pool.specs.Places.{IsFirstNumber}
use Rattle.waiting_pool.specs.Waiting.{has_missing}
use Rattle.waiting_pool.proofs.Entries.{Entries, same_number, turned}
use Rattle.waiting_pool.proofs.Indexed.{has}

-- a number that is found is above those below all
found_after : (entries : Entries) (n k : ℕ) (w : Waiter) → AllByRecursion (λ y. nat_cmp k y ≡ Less) (keys_of entries) → lookup (is_at (nat_cmp n)) entries ≡ Some w → nat_cmp k n ≡ Less
found_after [] n k w h e = let no : ⊥ = cc in absurd no
found_after (p ∷ entries) n k w h e = at (is_at (nat_cmp n) p.0) refl e (found_after entries n k w h.1)
  where
    at : (b : Bool) → is_at (nat_cmp n) p.0 ≡ b → cond b (Some p.1) (lookup (is_at (nat_cmp n)) entries) ≡ Some w → (lookup (is_at (nat_cmp n)) entries ≡ Some w → nat_cmp k n ≡ Less) → nat_cmp k n ≡ Less
    at true g f more = ap (nat_cmp k) (same_number n p.0 g) ∙ h.0
    at false g f more = more f

-- each entry is found by its own number
abbrev FoundIn : Entries → ℕ × Waiter → Type 0
FoundIn entries e = lookup (is_at (nat_cmp e.0)) entries ≡ Some e.1

pub found_itself : (entries : Entries) → IsStrictlySortedBy nat_cmp (keys_of entries) → AllByRecursion (FoundIn entries) entries
found_itself [] s = tt
found_itself (p ∷ entries) s =
    let rest = found_itself entries (sorted_tail nat_cmp p.0 (keys_of entries) s) in
    let head = sorted_head nat_cmp p.0 (keys_of entries) s in (
      ap (λ r. cond (is_eq r) (Some p.1) (lookup (is_at (nat_cmp p.0)) entries)) (tied_itself nat_cmp_total p.0),
      all_from (FoundIn (p ∷ entries)) entries (λ e m.
          let found = all_at (FoundIn entries) entries e rest m in
          ap (λ b. cond b (Some p.1) (lookup (is_at (nat_cmp e.0)) entries)) (turned p.0 e.0 (found_after entries e.0 p.0 e.1 head found)) ∙ found),
    )

-- a number isn't above itself or one below
not_above : (a b : ℕ) → nat_cmp a b ≡ Less → b ≤ a → ⊥
not_above a b h le = at (nat_cmp a b) refl (ranked a b (nat_cmp a b) refl)
  where
    at : (r : Ordering) → nat_cmp a b ≡ r → MatchOrdering r (a < b) (a ≡ b) (b < a) → ⊥
    at Less e m = omega arith
    at Equal e m = cc
    at Greater e m = cc

abbrev FromOn : Option Id → ℕ → ℕ × Waiter → Type 0
FromOn m n e = has_missing m e.1 ≡ true → n ≤ e.0

lowest_first : (entries : Entries) (m : Option Id) (n : ℕ) (w : Waiter) → IsStrictlySortedBy nat_cmp (keys_of entries) → AllByRecursion (FromOn m n) entries
    → lookup (is_at (nat_cmp n)) entries ≡ Some w → has_missing m w ≡ true → Some w ≡ find (has_missing m) (values_of entries)
lowest_first [] m n w s h e t = let no : ⊥ = cc in absurd no
lowest_first (p ∷ entries) m n w s h e t =
    at (is_at (nat_cmp n) p.0) refl e (lowest_first entries m n w (sorted_tail nat_cmp p.0 (keys_of entries) s) h.1)
  where
    one : Some p.1 ≡ Some w → w ≡ p.1
    one f = cc

    next : (b : Bool) → has_missing m p.1 ≡ b → nat_cmp p.0 n ≡ Less → Some w ≡ find (has_missing m) (values_of entries) → Some w ≡ cond b (Some p.1) (find (has_missing m) (values_of entries))
    next true g less rest = absurd (not_above p.0 n less (h.0 g))
    next false g less rest = rest

    at : (b : Bool) → is_at (nat_cmp n) p.0 ≡ b → cond b (Some p.1) (lookup (is_at (nat_cmp n)) entries) ≡ Some w
        → (lookup (is_at (nat_cmp n)) entries ≡ Some w → has_missing m w ≡ true → Some w ≡ find (has_missing m) (values_of entries)) → Some w ≡ find (has_missing m) (values_of (p ∷ entries))
    at true g f more =
        let same : w ≡ p.1 = one f in
        ap Some same ∙ ap (λ b. cond b (Some p.1) (find (has_missing m) (values_of entries))) (sym (ap (has_missing m) (sym same) ∙ t))
    at false g f more =
        next (has_missing m p.1) refl (found_after entries n p.0 w (sorted_head nat_cmp p.0 (keys_of entries) s) f) (more f t)

none_first : (entries : Entries) (m : Option Id) → AllByRecursion (λ e. has_missing m e.1 ≡ false) entries → None ≡ find (has_missing m) (values_of entries)
none_first [] m h = refl
none_first (p ∷ entries) m h = none_first entries m h.1 ∙ ap (λ b. cond b (Some p.1) (find (has_missing m) (values_of entries))) (sym h.0)

module _ (entries : Entries) (queued : Place → Bool) (sorted : IsStrictlySortedBy nat_cmp (keys_of entries)) (places : (q : Place) → queued q ≡ is_place entries q) (m : Option Id) where
  -- an entry is queued by what it waits for
  queued_own : (e : ℕ × Waiter) → Among e entries → queued (record { missing = m; number = e.0 }) ≡ has_missing m e.1
  queued_own e k =
      places (record { missing = m; number = e.0 })
      ∙ ap (λ (o : Option Waiter). has m o) (all_at (FoundIn entries) entries e (found_itself entries sorted) k)

  pub first_found : (n : ℕ) → IsFirstNumber queued m n → lookup (is_at (nat_cmp n)) entries ≡ find (has_missing m) (values_of entries)
  first_found n first = at (lookup (is_at (nat_cmp n)) entries) refl (sym (places (record { missing = m; number = n })) ∙ first.there)
    where
      at : (o : Option Waiter) → lookup (is_at (nat_cmp n)) entries ≡ o → has m o ≡ true → lookup (is_at (nat_cmp n)) entries ≡ find (has_missing m) (values_of entries)
      at None e h = absurd (false≢true h)
      at (Some w) e h =
          e
          ∙ lowest_first entries m n w sorted (all_from (FromOn m n) entries (λ p k t. first.lowest p.0 (queued_own p k ∙ t))) e h

  pub none_found : ((k : ℕ) → queued (record { missing = m; number = k }) ≡ false) → None ≡ find (has_missing m) (values_of entries)
  none_found none = none_first entries m (all_from (λ e. has_missing m e.1 ≡ false) entries (λ e k. sym (queued_own e k) ∙ none e.0))
