-- What is so of a line of calls.
use Rattle.std.proofs.Common.{◌≡◌, ◌<◌, ◌≤◌, ◌+◌, ℕ, Bool, true, false, not, cond, ◌||◌, ⊎_elim, List, [], ◌∷◌, ◌++◌, nat_eq, refl, sym, subst, ◌∙◌, arith}
use Rattle.std.specs.List.{list_any}
use Rattle.std.specs.BTreeSet.{BTreeSet, contains}
use Rattle.std.proofs.lemmas.Bool.{false≢true, false_from_ne_true, or_cases, or_parts, or_right, eq-eqb, eqb-true}
use Rattle.ew_model.specs.declared.id.Id.{Id}
use Rattle.ew_model.specs.Ids.{id_cmp, id_eq}
use Rattle.ew_model.specs.Places.{Act}
use Rattle.ew_model.specs.Places.Act.{InsertAs}
use Rattle.ew_model.specs.Sets.{Among}
use Rattle.ew_model.specs.Tree.{Applied}
use Rattle.ew_model.specs.Records.{holds, inserts_as, next_of, without, IsClosed}
use Rattle.ew_model.proofs.ListTests.{found_by}
use Rattle.ew_model.proofs.SetLaws.{among_joined}
use Rattle.ew_model.proofs.StateLaws.{holds_first}
use Rattle.advance_retreat.specs.Standing.{is_applied}
use Rattle.advance_retreat.specs.Conditions.{IsNewPosition, MayInsert, MayAdvanceTo, MayRetreatFrom}
use Rattle.walk_trials.specs.Calls.{Calls, UsesId, AreBelow, AreCalled}

later_held : (n m : ℕ) (ns : List ℕ) → holds ns m ≡ true → holds (n ∷ ns) m ≡ true
later_held n m ns h = or_right (nat_eq m n) (holds ns m) h

not_held : (n : ℕ) (ns : List ℕ) → AreBelow n ns → holds ns n ≡ false
not_held n ns low = false_from_ne_true (holds ns n) (λ h. let l = low n h in omega (arith, l))

at_most : (n m : ℕ) (ns : List ℕ) → AreBelow n ns → holds (n ∷ ns) m ≡ true → m ≤ n
at_most n m ns low h =
    ⊎_elim (λ e. let same : m ≡ n = eqb-true m n e in omega (arith, same)) (λ k. let l = low m k in omega (arith, l)) (or_cases (nat_eq m n) (holds ns m) h)

all_kept : (n : ℕ) (ns : List ℕ) → AreBelow n ns → without n ns ≡ ns
all_kept n [] low = refl
all_kept n (m ∷ ns) low =
    let under = low m (holds_first m ns) in
    let other : nat_eq m n ≡ false = false_from_ne_true (nat_eq m n) (λ e. let same : m ≡ n = eqb-true m n e in omega (arith, under, same)) in
    let rest : without n ns ≡ ns = all_kept n ns (λ k h. low k (later_held m k ns h)) in
    (λ i. cond (not (other i)) (m ∷ rest i) (rest i))

-- the last position is left out, and no other
pub last_left : (n : ℕ) (ns : List ℕ) → AreBelow n ns → without n (n ∷ ns) ≡ ns
last_left n ns low = (λ i. cond (not (eq-eqb n n refl i)) (n ∷ without n ns) (without n ns)) ∙ all_kept n ns low

module _ (events : List (Applied ℕ)) (over : (a : Applied ℕ) → Among a events → AreBelow a.name a.over) where
  -- nothing that is prepared was applied over the last event
  pub last_leaves : (n : ℕ) (ns : List ℕ) → AreBelow n ns → is_applied events n → MayRetreatFrom events (n ∷ ns) n
  last_leaves n ns low applied = (
    applied,
    record {
      inside = holds_first n ns;
      free = λ a m h. false_from_ne_true (holds a.over n) (λ k. let under = over a m n k in let most = at_most n a.name ns low h in omega (arith, under, most));
    },
  )

  earlier_held : (n m k : ℕ) (ns : List ℕ) → m ≡ n → k < m → holds (n ∷ ns) k ≡ true → holds ns k ≡ true
  earlier_held n m k ns same under h =
      ⊎_elim (λ e. let own : k ≡ n = eqb-true k n e in let no : ⊥ = omega (arith, same, under, own) in absurd no) (λ j. j) (or_cases (nat_eq k n) (holds ns k) h)

  -- it may come back once it was taken out
  pub last_returns : (n : ℕ) (ns : List ℕ) → AreBelow n ns → is_applied events n → IsClosed events (n ∷ ns) → MayAdvanceTo events ns n
  last_returns n ns low applied closed = (
    applied,
    record {
      outside = not_held n ns low;
      over = λ a m e k h. earlier_held n a.name k ns e (over a m k h) (closed a m (subst (λ (x : ℕ). holds (n ∷ ns) x ≡ true) (sym e) (holds_first n ns)) k h);
    },
  )

-- the next position is new
pub next_is_new : (events : List (Applied ℕ)) (next : ℕ) → ((a : Applied ℕ) → Among a events → a.name < next) → IsNewPosition events next
next_is_new events next earlier =
    false_from_ne_true (list_any (λ (c : Applied ℕ). nat_eq c.name next) events) (λ h.
    let a = found_by (λ (c : Applied ℕ). nat_eq c.name next) events h in
    let under = earlier a.0 a.1 in
    let same : a.0.name ≡ next = eqb-true a.0.name next a.2 in
    omega (arith, under, same))

pub may_insert : (events : List (Applied ℕ)) (c : Calls) (x : Id) → AreCalled events c → contains id_cmp c.ids x ≡ false → MayInsert events c.next x
may_insert events c x called free = record { position = next_is_new events c.next called.earlier; id = called.ids x free }

none_pushed : {X : Type 0} (p : X → Bool) (xs : List X) (x : X) → list_any p xs ≡ false → p x ≡ false → list_any p (xs ++ x ∷ []) ≡ false
none_pushed p [] x e f = λ i. f i || false
none_pushed p (y ∷ ys) x e f = let parts = or_parts (p y) (list_any p ys) e in (λ i. parts.0 i || none_pushed p ys x parts.1 f i)

-- what is so after an event was applied, by what its act does to the ids
module _ (events : List (Applied ℕ)) (c : Calls) (called : AreCalled events c) (part : (n : ℕ) → holds c.prepared n ≡ true → is_applied events n) where
  below_next : AreBelow c.next c.prepared
  below_next m h =
      let a = found_by (λ (z : Applied ℕ). nat_eq z.name m) events (part m h) in
      let under = called.earlier a.0 a.1 in
      let same : a.0.name ≡ m = eqb-true a.0.name m a.2 in
      omega (arith, under, same)

  module _ (act : Act) where
    abbrev new : Applied ℕ
    new = next_of c.next act c.prepared

    one_of : (P : Applied ℕ → Type 0) → ((a : Applied ℕ) → Among a events → P a) → P new → (a : Applied ℕ) → Among a (events ++ new ∷ []) → P a
    one_of P old own a m = ⊎_elim (λ k. old a k) (λ k. ⊎_elim (λ e. subst P (sym e) own) (λ no. absurd no) k) (among_joined events (new ∷ []) a m)

    pub after_apply : (ids : BTreeSet Id) → ((x : Id) → contains id_cmp ids x ≡ false → (contains id_cmp c.ids x ≡ false) × (inserts_as x act ≡ false))
        → AreCalled (events ++ new ∷ []) (record { next = c.next + 1; ids = ids; prepared = c.next ∷ c.prepared; out = [] })
    after_apply ids used = record {
      earlier = one_of (λ a. a.name < c.next + 1) (λ a m. let under = called.earlier a m in omega (arith, under)) (omega arith);
      over = one_of (λ a. AreBelow a.name a.over) called.over below_next;
      ids = λ x h. let free = used x h in none_pushed (λ (a : Applied ℕ). inserts_as x a.act) events new (called.ids x free.0) free.1;
      prepared = (below_next, called.prepared);
      out = tt;
    }

-- no other id was taken into use
pub used_by : (old after : Calls) (id : Id) (at ch : ℕ) → UsesId old after id → (x : Id) → contains id_cmp after.ids x ≡ false → (contains id_cmp old.ids x ≡ false) × (inserts_as x (InsertAs id at ch) ≡ false)
used_by old after id at ch uses x free = by (id_eq id x) (contains id_cmp old.ids x) refl (sym (uses.is x) ∙ free)
  where
    by : (b o : Bool) → id_eq id x ≡ b → cond b true o ≡ false → (o ≡ false) × (id_eq id x ≡ false)
    by true o is e = absurd (false≢true (sym e))
    by false o is e = (e, is)

-- what is so after the last event was taken out, and after it came back
pub after_retreat : (events : List (Applied ℕ)) (next : ℕ) (ids : BTreeSet Id) (n : ℕ) (ns out : List ℕ) → AreCalled events (record { next = next; ids = ids; prepared = n ∷ ns; out = out })
    → is_applied events n → IsClosed events (n ∷ ns) → AreCalled events (record { next = next; ids = ids; prepared = ns; out = n ∷ out })
after_retreat events next ids n ns out called applied closed = record {
  earlier = called.earlier;
  over = called.over;
  ids = called.ids;
  prepared = called.prepared.1;
  out = (record { may = last_returns events called.over n ns called.prepared.0 applied closed; above = called.prepared.0 }, called.out);
}

pub after_advance : (events : List (Applied ℕ)) (next : ℕ) (ids : BTreeSet Id) (n : ℕ) (ns out : List ℕ) → AreCalled events (record { next = next; ids = ids; prepared = ns; out = n ∷ out })
    → AreCalled events (record { next = next; ids = ids; prepared = n ∷ ns; out = out })
after_advance events next ids n ns out called = record {
  earlier = called.earlier;
  over = called.over;
  ids = called.ids;
  prepared = (called.out.0.above, called.prepared);
  out = called.out.1;
}
