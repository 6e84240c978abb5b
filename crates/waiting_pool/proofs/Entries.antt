-- Events kept under rising numbers: each is found by its number as by its id.
use Rattle.std.proofs.Common.{◌≡◌, ℕ, ◌<◌, Bool, true, false, cond, ◌||◌, List, [], ◌∷◌, ◌++◌, map, find, Option, Some, None, is_some, refl, sym, ap, ◌∙◌, subst, arith}
use Rattle.std.specs.declared.cmp.Ordering.{Ordering}
use Rattle.std.specs.declared.cmp.Ordering.TheVariants.{Less, Equal, Greater}
use Rattle.std.specs.BTreeMap.{is_at, insert_entry}
use Rattle.std.specs.Cmp.{IsEquivalence}
use Rattle.std.specs.List.{AllByRecursion}
use Rattle.std.specs.List.Sorted.{IsStrictlySortedBy}
use Rattle.std.specs.Map.{keys_of, values_of, lookup, remove_entry, set_value}
use Rattle.std.specs.Ordering.{nat_cmp, is_eq, ordering_reverse, match_ordering, MatchOrdering}
use Rattle.std.proofs.lemmas.Bool.{false≢true}
use Rattle.std.proofs.lemmas.Cmp.{nat_cmp_total, tied_itself, ranked, eq_by_cmp_equiv}
use Rattle.std.proofs.lemmas.Map.Keys.{sorted_head, sorted_tail}
use Rattle.std.proofs.lemmas.Map.Lookups.{exact_unsigned}
use Rattle.ew_model.specs.declared.id.Id.{Id}
use Rattle.ew_model.specs.declared.event.Event.{Event}
use Rattle.ew_model.specs.Ids.{id_eq}
use Rattle.ew_model.specs.Ancestors.{is_held}
use Rattle.ew_model.specs.Kept.{AreApart}
use Rattle.ew_model.proofs.GapLaws.{eq_from}
use Rattle.ew_model.proofs.PathOrder.{id_total}
use Rattle.ew_model.proofs.IdLaws.{is_same_id}
use Rattle.waiting_pool.specs.declared.waiter.Waiter.{Waiter}
use Rattle.waiting_pool.specs.Waiting.{has_id, without_first, with_missing}
use Rattle.waiting_pool.specs.Keeping.{number_of}

abbrev pub Entries : Type 0
Entries = List (ℕ × Waiter)

-- the events of the entries
abbrev pub kept_events : Entries → List Event
kept_events entries = map (λ (w : Waiter). w.event) (values_of entries)

-- the entry is of the event with the id
abbrev pub is_of : Id → ℕ × Waiter → Bool
is_of x e = has_id x e.1

pub same_ids : IsEquivalence id_eq
same_ids = eq_by_cmp_equiv id_total

-- a number above another
above : (a b : ℕ) → a < b → nat_cmp b a ≡ Greater
above a b h = at (nat_cmp b a) refl (ranked b a (nat_cmp b a) refl)
  where
    at : (r : Ordering) → nat_cmp b a ≡ r → MatchOrdering r (b < a) (b ≡ a) (a < b) → nat_cmp b a ≡ Greater
    at Less e m = let no : ⊥ = omega arith in absurd no
    at Equal e m = let no : ⊥ = omega arith in absurd no
    at Greater e m = e

pub turned : (a b : ℕ) → nat_cmp a b ≡ Less → is_eq (nat_cmp b a) ≡ false
turned a b h = ap is_eq (nat_cmp_total.antisymm b a ∙ ap ordering_reverse h)

pub same_number : (a b : ℕ) → is_eq (nat_cmp a b) ≡ true → a ≡ b
same_number a b h = exact_unsigned a b (eq_from (nat_cmp a b) h)

-- the entries with a number above all theirs put in
pub insert_last : (entries : Entries) (n : ℕ) (w : Waiter) → AllByRecursion (λ k. k < n) (keys_of entries) → insert_entry nat_cmp entries n w ≡ entries ++ (n, w) ∷ []
insert_last [] n w h = refl
insert_last (e ∷ entries) n w h =
    ap (λ r. match_ordering r ((n, w) ∷ e ∷ entries) ((e.0, w) ∷ entries) (e ∷ insert_entry nat_cmp entries n w)) (above e.0 n h.0)
    ∙ ap (λ es. e ∷ es) (insert_last entries n w h.1)

pub absent_last : (entries : Entries) (n : ℕ) → AllByRecursion (λ k. k < n) (keys_of entries) → lookup (is_at (nat_cmp n)) entries ≡ None
absent_last [] n h = refl
absent_last (e ∷ entries) n h =
    ap (λ r. cond (is_eq r) (Some e.1) (lookup (is_at (nat_cmp n)) entries)) (above e.0 n h.0) ∙ absent_last entries n h.1

-- the numbers of entries are those of their keys
numbered_after : (entries : Entries) (x : Id) (n k : ℕ) → AllByRecursion (λ y. nat_cmp k y ≡ Less) (keys_of entries) → number_of entries x ≡ Some n → nat_cmp k n ≡ Less
numbered_after [] x n k h e = let no : ⊥ = cc in absurd no
numbered_after (p ∷ entries) x n k h e = at (is_of x p) e (numbered_after entries x n k h.1)
  where
    at : (b : Bool) → cond b (Some p.0) (number_of entries x) ≡ Some n → (number_of entries x ≡ Some n → nat_cmp k n ≡ Less) → nat_cmp k n ≡ Less
    at true f more = let same : p.0 ≡ n = cc in ap (nat_cmp k) (sym same) ∙ h.0
    at false f more = more f

-- what stands under the number of the event with the id
pub record IsEntryOf (entries : Entries) (x : Id) (n : ℕ) : Type 0 where
  pub found : lookup (is_at (nat_cmp n)) entries ≡ find (has_id x) (values_of entries)
  pub others : remove_entry (is_at (nat_cmp n)) entries ≡ without_first (is_of x) entries
  pub noted : (w : Waiter) (m : Option Id) → find (has_id x) (values_of entries) ≡ Some w
      → values_of (set_value (is_at (nat_cmp n)) entries (record { event = w.event; missing = m })) ≡ with_missing x m (values_of entries)
  pub same : (w : Waiter) (m : Option Id) (y : Id) → find (has_id x) (values_of entries) ≡ Some w
      → number_of (set_value (is_at (nat_cmp n)) entries (record { event = w.event; missing = m })) y ≡ number_of entries y

here : (p : ℕ × Waiter) (entries : Entries) (x : Id) → is_of x p ≡ true → IsEntryOf (p ∷ entries) x p.0
here p entries x h =
    let tied = ap is_eq (tied_itself nat_cmp_total p.0) in
    let first = λ (w : Waiter) (f : find (has_id x) (values_of (p ∷ entries)) ≡ Some w). one w (ap (λ b. cond b (Some p.1) (find (has_id x) (values_of entries))) (sym h) ∙ f) in
    record {
      found = ap (λ b. cond b (Some p.1) (lookup (is_at (nat_cmp p.0)) entries)) tied ∙ ap (λ b. cond b (Some p.1) (find (has_id x) (values_of entries))) (sym h);
      others = ap (λ b. cond b entries (p ∷ remove_entry (is_at (nat_cmp p.0)) entries)) tied ∙ ap (λ b. cond b entries (p ∷ without_first (is_of x) entries)) (sym h);
      noted = λ w m f.
          let v : Waiter = record { event = w.event; missing = m } in
          ap (λ b. values_of (cond b ((p.0, v) ∷ entries) (p ∷ set_value (is_at (nat_cmp p.0)) entries v))) tied
          ∙ ap (λ (e : Event). let u : Waiter = record { event = e; missing = m } in u ∷ values_of entries) (sym (ap (λ (u : Waiter). u.event) (first w f)))
          ∙ ap (λ b. cond b (record { event = p.1.event; missing = m } ∷ values_of entries) (p.1 ∷ with_missing x m (values_of entries))) (sym h);
      same = λ w m y f.
          let v : Waiter = record { event = w.event; missing = m } in
          ap (λ b. number_of (cond b ((p.0, v) ∷ entries) (p ∷ set_value (is_at (nat_cmp p.0)) entries v)) y) tied
          ∙ ap (λ (e : Event). cond (id_eq y e.id) (Some p.0) (number_of entries y)) (sym (ap (λ (u : Waiter). u.event) (first w f)));
    }
  where
    one : (w : Waiter) → Some p.1 ≡ Some w → p.1 ≡ w
    one w e = cc

later : (p : ℕ × Waiter) (entries : Entries) (x : Id) (n : ℕ) → is_of x p ≡ false → is_at (nat_cmp n) p.0 ≡ false → IsEntryOf entries x n → IsEntryOf (p ∷ entries) x n
later p entries x n h k e =
    let next = λ (w : Waiter) (f : find (has_id x) (values_of (p ∷ entries)) ≡ Some w). ap (λ b. cond b (Some p.1) (find (has_id x) (values_of entries))) (sym h) ∙ f in
    record {
      found = ap (λ b. cond b (Some p.1) (lookup (is_at (nat_cmp n)) entries)) k ∙ e.found ∙ ap (λ b. cond b (Some p.1) (find (has_id x) (values_of entries))) (sym h);
      others =
          ap (λ b. cond b entries (p ∷ remove_entry (is_at (nat_cmp n)) entries)) k ∙ ap (λ es. p ∷ es) e.others
          ∙ ap (λ b. cond b entries (p ∷ without_first (is_of x) entries)) (sym h);
      noted = λ w m f.
          let v : Waiter = record { event = w.event; missing = m } in
          ap (λ b. values_of (cond b ((p.0, v) ∷ entries) (p ∷ set_value (is_at (nat_cmp n)) entries v))) k
          ∙ ap (λ ws. p.1 ∷ ws) (e.noted w m (next w f))
          ∙ ap (λ b. cond b (record { event = p.1.event; missing = m } ∷ values_of entries) (p.1 ∷ with_missing x m (values_of entries))) (sym h);
      same = λ w m y f.
          let v : Waiter = record { event = w.event; missing = m } in
          ap (λ b. number_of (cond b ((p.0, v) ∷ entries) (p ∷ set_value (is_at (nat_cmp n)) entries v)) y) k
          ∙ ap (λ (o : Option ℕ). cond (is_of y p) (Some p.0) o) (e.same w m y (next w f));
    }

pub entry_of : (entries : Entries) → IsStrictlySortedBy nat_cmp (keys_of entries) → (x : Id) (n : ℕ) → number_of entries x ≡ Some n → IsEntryOf entries x n
entry_of [] s x n e = let no : ⊥ = cc in absurd no
entry_of (p ∷ entries) s x n e = at (is_of x p) refl e (entry_of entries (sorted_tail nat_cmp p.0 (keys_of entries) s) x n)
  where
    at : (b : Bool) → is_of x p ≡ b → cond b (Some p.0) (number_of entries x) ≡ Some n → (number_of entries x ≡ Some n → IsEntryOf entries x n) → IsEntryOf (p ∷ entries) x n
    at true h f more = let first : p.0 ≡ n = cc in subst (IsEntryOf (p ∷ entries) x) first (here p entries x h)
    at false h f more =
        later p entries x n h (turned p.0 n (numbered_after entries x n p.0 (sorted_head nat_cmp p.0 (keys_of entries) s) f)) (more f)

-- no event has the id
pub record IsNoEntry (entries : Entries) (x : Id) : Type 0 where
  pub found : None ≡ find (has_id x) (values_of entries)
  pub others : entries ≡ without_first (is_of x) entries

pub no_entry : (entries : Entries) (x : Id) → number_of entries x ≡ None → IsNoEntry entries x
no_entry [] x e = record { found = refl; others = refl }
no_entry (p ∷ entries) x e = at (is_of x p) refl e (no_entry entries x)
  where
    at : (b : Bool) → is_of x p ≡ b → cond b (Some p.0) (number_of entries x) ≡ None → (number_of entries x ≡ None → IsNoEntry entries x) → IsNoEntry (p ∷ entries) x
    at true h f more = let no : ⊥ = cc in absurd no
    at false h f more =
        let rest = more f in
        record {
          found = rest.found ∙ ap (λ b. cond b (Some p.1) (find (has_id x) (values_of entries))) (sym h);
          others = ap (λ es. p ∷ es) rest.others ∙ ap (λ b. cond b entries (p ∷ without_first (is_of x) entries)) (sym h);
        }

-- an id has a number where an event with it waits
pub numbered_held : (entries : Entries) (x : Id) → is_some (number_of entries x) ≡ is_held (kept_events entries) x
numbered_held [] x = refl
numbered_held (p ∷ entries) x = at (is_of x p) (numbered_held entries x)
  where
    at : (b : Bool) → is_some (number_of entries x) ≡ is_held (kept_events entries) x → is_some (cond b (Some p.0) (number_of entries x)) ≡ (b || is_held (kept_events entries) x)
    at true h = refl
    at false h = h

no_number : (o : Option ℕ) → is_some o ≡ false → o ≡ None
no_number None h = refl
no_number (Some n) h = absurd (false≢true (sym h))

pub not_numbered : (entries : Entries) (x : Id) → is_held (kept_events entries) x ≡ false → number_of entries x ≡ None
not_numbered entries x h = no_number (number_of entries x) (numbered_held entries x ∙ h)

-- the numbers where one more event waits
pub number_of-push : (entries : Entries) (n : ℕ) (w : Waiter) (x : Id) → number_of entries w.event.id ≡ None → number_of (entries ++ (n, w) ∷ []) x ≡ cond (id_eq w.event.id x) (Some n) (number_of entries x)
number_of-push [] n w x none = ap (λ b. cond b (Some n) None) (same_ids.symm x w.event.id)
number_of-push (p ∷ entries) n w x none = at (is_of w.event.id p) refl none (number_of-push entries n w x)
  where
    y : Id
    y = w.event.id

    last : (c d : Bool) → id_eq y x ≡ d → is_of x p ≡ c → (d ≡ true → c ≡ false) → number_of (entries ++ (n, w) ∷ []) x ≡ cond (id_eq w.event.id x) (Some n) (number_of entries x)
        → cond c (Some p.0) (number_of (entries ++ (n, w) ∷ []) x) ≡ cond (id_eq y x) (Some n) (cond c (Some p.0) (number_of entries x))
    last true true e f apart rest = absurd (false≢true (sym (apart refl)))
    last true false e f apart rest = ap (λ b. cond b (Some n) (Some p.0)) (sym e)
    last false d e f apart rest = rest

    at : (b : Bool) → is_of w.event.id p ≡ b → cond b (Some p.0) (number_of entries w.event.id) ≡ None → (number_of entries w.event.id ≡ None → number_of (entries ++ (n, w) ∷ []) x ≡ cond (id_eq w.event.id x) (Some n) (number_of entries x))
        → number_of (p ∷ entries ++ (n, w) ∷ []) x ≡ cond (id_eq w.event.id x) (Some n) (number_of (p ∷ entries) x)
    at true h f more = let no : ⊥ = cc in absurd no
    at false h f more =
        last (is_of x p) (id_eq w.event.id x) refl refl (λ e. ap (λ z. id_eq z p.1.event.id) (sym ((is_same_id w.event.id x).0 e)) ∙ h) (more f)

-- and where one less waits
gone_at : (b : Bool) (p : ℕ × Waiter) (entries rest : Entries) (x : Id) → is_of x p ≡ b → number_of entries p.1.event.id ≡ None → number_of rest x ≡ None → number_of (cond b entries (p ∷ rest)) x ≡ None
gone_at true p entries rest x h none more = ap (number_of entries) ((is_same_id x p.1.event.id).0 h) ∙ none
gone_at false p entries rest x h none more = ap (λ c. cond c (Some p.0) (number_of rest x)) h ∙ more

number_gone : (entries : Entries) (x : Id) → AreApart (kept_events entries) → number_of (without_first (is_of x) entries) x ≡ None
number_gone [] x a = refl
number_gone (p ∷ entries) x a = gone_at (is_of x p) p entries (without_first (is_of x) entries) x refl (not_numbered entries p.1.event.id a.0) (number_gone entries x a.1)

kept_at : (b : Bool) (p : ℕ × Waiter) (entries rest : Entries) (x y : Id) → is_of x p ≡ b → id_eq x y ≡ false → number_of rest y ≡ number_of entries y → number_of (cond b entries (p ∷ rest)) y ≡ number_of (p ∷ entries) y
kept_at true p entries rest x y h apart more =
    let other : is_of y p ≡ false = ap (id_eq y) (sym ((is_same_id x p.1.event.id).0 h)) ∙ same_ids.symm y x ∙ apart in
    ap (λ c. cond c (Some p.0) (number_of entries y)) (sym other)
kept_at false p entries rest x y h apart more = ap (λ (o : Option ℕ). cond (is_of y p) (Some p.0) o) more

number_kept : (entries : Entries) (x y : Id) → id_eq x y ≡ false → number_of (without_first (is_of x) entries) y ≡ number_of entries y
number_kept [] x y h = refl
number_kept (p ∷ entries) x y h = kept_at (is_of x p) p entries (without_first (is_of x) entries) x y refl h (number_kept entries x y h)

pub number_of-without : (entries : Entries) (x y : Id) → AreApart (kept_events entries) → number_of (without_first (is_of x) entries) y ≡ cond (id_eq x y) None (number_of entries y)
number_of-without entries x y a = at (id_eq x y) refl
  where
    at : (b : Bool) → id_eq x y ≡ b → number_of (without_first (is_of x) entries) y ≡ cond b None (number_of entries y)
    at true h = ap (number_of (without_first (is_of x) entries)) (sym ((is_same_id x y).0 h)) ∙ number_gone entries x a
    at false h = number_kept entries x y h
