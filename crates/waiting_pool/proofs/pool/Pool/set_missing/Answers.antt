use Rattle.std.proofs.Common.{◌≡◌, ◌∙◌, ℕ, true, false, cond, List, map, find, Option, Some, sym, ap, subst, nat_cmp, refl}
use Rattle.std.specs.BTreeMap.{get, is_at}
use Rattle.std.specs.BTreeSet.{contains}
use Rattle.std.specs.Cmp.{eq_by_cmp_equiv}
use Rattle.std.specs.Map.{lookup, values_of, set_value}
use Rattle.std.specs.Option.{IfSome, IsSome, IsSomeAnd}
use Rattle.std.proofs.lemmas.Cmp.{nat_cmp_total}
use Rattle.std.proofs.lemmas.Map.{lookup-set_value}
use Rattle.ew_model.specs.Ids.{id_cmp}
use Rattle.waiting_pool.specs.declared.waiter.Place.{Place}
use Rattle.waiting_pool.specs.declared.waiter.Waiter.{Waiter}
use Rattle.waiting_pool.specs.Keeping.{number_of}
use Rattle.waiting_pool.specs.Places.{place_cmp}
use Rattle.waiting_pool.specs.Waiting.{Waiting, has_id, has_missing, with_missing}
use Rattle.waiting_pool.proofs.Entries.{Entries, IsEntryOf, entry_of, no_entry}
use Rattle.waiting_pool.proofs.Indexed.{indexed_moved}
use Rattle.waiting_pool.proofs.Listed.{pool_moved}
use Rattle.waiting_pool.proofs.Notes.{events-with_missing}
use Rattle.waiting_pool.proofs.TableChanges.{some_and}
use Rattle.waiting_pool.proofs.pool.Pool.set_missing.Goals as goal
use Rattle.waiting_pool.proofs.pool.Pool.set_missing.Goals.{In-Some, In_ok-requeue-in-Some}

own_asked : (c : In-Some) → (w : Waiter) × (find (has_id c.args.id.now) (values_of c.self.inside.waiters.entries) ≡ Some w) × (has_missing c.args.missing.now w ≡ false)
own_asked c =
    some_and (find (has_id c.args.id.now) (values_of c.self.inside.waiters.entries)) (λ (w : Waiter). has_missing c.args.missing.now w ≡ false)
    (subst (λ (v : Waiting). IsSomeAnd (find (has_id c.args.id.now) v.waiters) (λ w. has_missing c.args.missing.now w ≡ false)) (sym c.self.view_is) c.requires)

entry_asked : (c : In-Some) → IsEntryOf c.self.inside.waiters.entries c.args.id.now c.in-Some.number
entry_asked c =
    entry_of c.self.inside.waiters.entries c.self.invariant.listed.ordered c.args.id.now c.in-Some.number
    (sym (c.self.invariant.indexed.numbers c.args.id.now) ∙ sym (c.in-Some.ensures ∙ c.get.ensures.value))

there_asked : (c : In-Some) → lookup (is_at (nat_cmp c.in-Some.number)) c.self.inside.waiters.entries ≡ Some (own_asked c).0
there_asked c = (entry_asked c).found ∙ (own_asked c).1

pub requeue-requires : goal.requeue-requires
requeue-requires c = record { there = subst IsSome (sym (there_asked (goal.at.requeue-requires c).In-Some)) refl }

-- the same after the call
own : (c : In_ok-requeue-in-Some) → (w : Waiter) × (find (has_id c.args.id.now) (values_of c.self.inside.waiters.entries) ≡ Some w) × (has_missing c.args.missing.now w ≡ false)
own c =
    some_and (find (has_id c.args.id.now) (values_of c.self.inside.waiters.entries)) (λ (w : Waiter). has_missing c.args.missing.now w ≡ false)
    (subst (λ (v : Waiting). IsSomeAnd (find (has_id c.args.id.now) v.waiters) (λ w. has_missing c.args.missing.now w ≡ false)) (sym c.self.view_is) c.requires)

entry : (c : In_ok-requeue-in-Some) → IsEntryOf c.self.inside.waiters.entries c.args.id.now c.in-Some.number
entry c =
    entry_of c.self.inside.waiters.entries c.self.invariant.listed.ordered c.args.id.now c.in-Some.number
    (sym (c.self.invariant.indexed.numbers c.args.id.now) ∙ sym (c.in-Some.ensures ∙ c.get.ensures.value))

there : (c : In_ok-requeue-in-Some) → lookup (is_at (nat_cmp c.in-Some.number)) c.self.inside.waiters.entries ≡ Some (own c).0
there c = (entry c).found ∙ (own c).1

abbrev noted : (c : In_ok-requeue-in-Some) → Waiter
noted c = record { event = (own c).0.event; missing = c.args.missing.now }

-- the entries and the queue after the change
changed : (c : In_ok-requeue-in-Some) → c.requeue.new.waiters.entries ≡ set_value (is_at (nat_cmp c.in-Some.number)) c.self.inside.waiters.entries (noted c)
changed c =
    subst (λ (o : Option Waiter). IfSome o (λ w. c.requeue.new.waiters.entries ≡ set_value (is_at (nat_cmp c.in-Some.number)) c.self.inside.waiters.entries (record { event = w.event; missing = c.args.missing.now })))
    (there c) c.in_ok-requeue-in-Some.ensures.waiters

moved : (c : In_ok-requeue-in-Some) (q : Place) → contains place_cmp c.requeue.new.queue q
    ≡ cond (is_at (place_cmp (record { missing = (own c).0.missing; number = c.in-Some.number })) q) false
    (cond (is_at (place_cmp (record { missing = c.args.missing.now; number = c.in-Some.number })) q) true (contains place_cmp c.self.inside.queue q))
moved c =
    subst (λ (o : Option Waiter). IfSome o (λ w. (q : Place) → contains place_cmp c.requeue.new.queue q
    ≡ cond (is_at (place_cmp (record { missing = w.missing; number = c.in-Some.number })) q) false
    (cond (is_at (place_cmp (record { missing = c.args.missing.now; number = c.in-Some.number })) q) true (contains place_cmp c.self.inside.queue q))))
    (there c) c.in_ok-requeue-in-Some.ensures.queue

waiters : (c : In_ok-requeue-in-Some) → values_of c.requeue.new.waiters.entries ≡ with_missing c.args.id.now c.args.missing.now (values_of c.self.inside.waiters.entries)
waiters c = ap values_of (changed c) ∙ (entry c).noted (own c).0 c.args.missing.now (own c).1

found : (c : In_ok-requeue-in-Some) (k : ℕ) → lookup (is_at (nat_cmp k)) c.requeue.new.waiters.entries
    ≡ cond (is_at (nat_cmp c.in-Some.number) k) (Some (noted c)) (lookup (is_at (nat_cmp k)) c.self.inside.waiters.entries)
found c k =
    let laws = eq_by_cmp_equiv nat_cmp_total in
    ap (lookup (is_at (nat_cmp k))) (changed c)
    ∙ lookup-set_value laws (is_at (nat_cmp c.in-Some.number)) (λ x y h. laws.congr c.in-Some.number x y h) k (noted c) c.self.inside.waiters.entries
    (subst IsSome (sym (there c)) refl)

pub invariant_of-self-in-Some : goal.invariant_of-self-in-Some
invariant_of-self-in-Some c =
    let w = (own c).0 in
    pool_moved c.self.inside.limit c.self.inside.next c.self.inside.waiters.entries c.requeue.new.waiters.entries (get id_cmp c.self.inside.numbers) (get id_cmp c.self.inside.numbers)
    (contains place_cmp c.self.inside.queue) (contains place_cmp c.requeue.new.queue) c.self.invariant c.in-Some.number (noted c) (changed c)
    (ap (λ (ws : List Waiter). map (λ (v : Waiter). v.event) ws) (waiters c) ∙ events-with_missing (values_of c.self.inside.waiters.entries) c.args.id.now c.args.missing.now)
    (indexed_moved c.self.inside.waiters.entries c.requeue.new.waiters.entries c.in-Some.number (get id_cmp c.self.inside.numbers) (get id_cmp c.self.inside.numbers)
    (contains place_cmp c.self.inside.queue) (contains place_cmp c.requeue.new.queue) c.self.invariant.indexed w (noted c) (own c).2 (there c) (found c)
    (λ y. ap (λ (es : Entries). number_of es y) (changed c) ∙ (entry c).same w c.args.missing.now y (own c).1)
    (λ y. refl) (moved c))

pub returns-in_ok-requeue-in-Some-clause-ok : goal.returns-in_ok-requeue-in-Some-clause-ok
returns-in_ok-requeue-in-Some-clause-ok c =
    ap (λ (ws : List Waiter). let v : Waiting = record { limit = c.self.inside.limit; seen = c.self.inside.seen; waiters = ws } in v) (waiters c)
    ∙ ap (λ (v : Waiting). let u : Waiting = record { limit = v.limit; seen = v.seen; waiters = with_missing c.args.id.now c.args.missing.now v.waiters } in u) c.self.view_is

pub returns-in-None-clause-ok : goal.returns-in-None-clause-ok
returns-in-None-clause-ok c =
    let none = no_entry c.self.inside.waiters.entries c.args.id.now (sym (c.self.invariant.indexed.numbers c.args.id.now) ∙ sym (c.in-None.ensures ∙ c.get.ensures.value)) in
    let found = none.found ∙ ap (λ (v : Waiting). find (has_id c.args.id.now) v.waiters) c.self.view_is in
    absurd (subst (λ (o : Option Waiter). IsSomeAnd o (λ w. has_missing c.args.missing.now w ≡ false)) (sym found) c.requires)
