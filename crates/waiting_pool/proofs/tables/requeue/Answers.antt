use Rattle.std.proofs.Common.{◌≡◌, Bool, true, false, cond, Option, ap, ◌∙◌, subst}
use Rattle.std.specs.BTreeMap.{is_at}
use Rattle.std.specs.BTreeSet.{contains}
use Rattle.std.specs.Option.{IfSome}
use Rattle.ew_model.specs.declared.id.Id.{Id}
use Rattle.waiting_pool.specs.declared.waiter.Place.{Place}
use Rattle.waiting_pool.specs.declared.waiter.Waiter.{Waiter}
use Rattle.waiting_pool.specs.Places.{place_cmp}
use Rattle.waiting_pool.proofs.tables.requeue.Goals as goal

pub returns-in-Some-clause-queue : goal.returns-in-Some-clause-queue
returns-in-Some-clause-queue c =
    let put = λ (q : Place) (p : Place). cond (is_at (place_cmp p) q) true (contains place_cmp c.args.queue.now q) in
    let taken = λ (q : Place) (p : Place) (b : Bool). cond (is_at (place_cmp p) q) false b in
    let after = λ (w : Waiter) (q : Place). taken q (record { missing = w.missing; number = c.args.number }) (put q (record { missing = c.args.missing.now; number = c.args.number })) in
    let before = c.new-in-Some.ensures ∙ ap (λ (m : Option Id). let p : Place = record { missing = m; number = c.args.number } in p) c.note-before.ensures.before in
    subst (λ (o : Option Waiter). IfSome o (λ w. (q : Place) → contains place_cmp c.remove.new.self q ≡ after w q)) c.in-Some.ensures.value (λ q.
    c.remove.ensures.updates.0 q
    ∙ ap (λ p. taken q p (contains place_cmp c.insert.new.self q)) before
    ∙ ap (taken q (record { missing = c.in-Some.waiter.now.missing; number = c.args.number })) (c.in_ok-insert.ensures.updates.0 q ∙ ap (put q) c.new.ensures))
