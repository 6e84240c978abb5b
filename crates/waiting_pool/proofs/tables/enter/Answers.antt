use Rattle.std.proofs.Common.{◌≡◌, ◌∙◌, true, false, cond, Option, Some, None, sym, ap, subst}
use Rattle.std.specs.BTreeMap.{get, is_at}
use Rattle.std.specs.BTreeSet.{contains}
use Rattle.std.specs.Option.{option_map_or}
use Rattle.std.specs.Result.{is_err}
use Rattle.ew_model.specs.declared.id.Id.{Id}
use Rattle.ew_model.specs.Ids.{id_cmp, id_eq}
use Rattle.waiting_pool.specs.declared.waiter.Place.{Place}
use Rattle.waiting_pool.specs.declared.waiter.Waiter.{Waiter}
use Rattle.waiting_pool.specs.Keeping.{AreIndexed}
use Rattle.waiting_pool.specs.Places.{place_cmp}
use Rattle.waiting_pool.specs.Waiting.{has_missing}
use Rattle.waiting_pool.proofs.Entries.{Entries, insert_last, absent_last}
use Rattle.waiting_pool.proofs.Indexed.{indexed_more}
use Rattle.waiting_pool.proofs.TableChanges.{on_ok, put_back, place_put_back}
use Rattle.waiting_pool.proofs.tables.enter.Goals as goal
use Rattle.waiting_pool.proofs.tables.enter.Goals.{After-insert}

succeeded : (c : After-insert) → is_err c.enlist.result ≡ false
succeeded c = sym c.is_err.ensures.value ∙ c.if-is_err.false

place : (c : After-insert) → Place
place c = record { missing = c.args.waiter.missing; number = c.args.number }

new_numbers : (c : After-insert) (x : Id) → get id_cmp c.enlist.new.numbers x ≡ cond (id_eq c.args.waiter.event.id x) (Some c.args.number) (get id_cmp c.args.numbers.now x)
new_numbers c x =
    on_ok c.enlist.result _ c.enlist.ensures.numbers (succeeded c) x
    ∙ ap (λ (id : Id). cond (id_eq id x) (Some c.place-place.result.number) (get id_cmp c.args.numbers.now x)) c.id-id.ensures
    ∙ ap (λ (p : Place). cond (id_eq c.args.waiter.event.id x) (Some p.number) (get id_cmp c.args.numbers.now x)) c.place-place.ensures

new_queue : (c : After-insert) (q : Place) → contains place_cmp c.enlist.new.queue q ≡ cond (is_at (place_cmp (record { missing = c.args.waiter.missing; number = c.args.number })) q) true (contains place_cmp c.args.queue.now q)
new_queue c q =
    on_ok c.enlist.result _ c.enlist.ensures.queue (succeeded c) q
    ∙ ap (λ (p : Place). cond (is_at (place_cmp p) q) true (contains place_cmp c.args.queue.now q)) c.place-place.ensures

pub returns-in-Ok-clause-ok : goal.returns-in-Ok-clause-ok
returns-in-Ok-clause-ok c = c.in-Ok.ensures.entries ∙ insert_last c.args.waiters.now.entries c.args.number c.args.waiter c.requires.listed.below

pub returns-in-Ok-clause-indexed : goal.returns-in-Ok-clause-indexed
returns-in-Ok-clause-indexed c =
    let d = (goal.at.returns-in-Ok-clause-indexed c).After-insert in
    indexed_more c.args.waiters.now.entries c.insert.new.self.entries c.args.number (get id_cmp c.args.numbers.now) (get id_cmp c.enlist.new.numbers) (contains place_cmp c.args.queue.now)
    (contains place_cmp c.enlist.new.queue) c.requires.indexed c.args.waiter c.requires.listed.below c.requires.new
    (c.in-Ok.ensures.entries ∙ insert_last c.args.waiters.now.entries c.args.number c.args.waiter c.requires.listed.below)
    (λ k. c.in-Ok.ensures.updates.0 k) (new_numbers d) (new_queue d)

pub returns-clause-indexed : goal.returns-clause-indexed
returns-clause-indexed c =
    let d = (goal.at.returns-clause-indexed c).After-insert in
    let was = c.requires.indexed in
    let p : Place = record { missing = c.args.waiter.missing; number = c.args.number } in
    let free = was.places p ∙ ap (λ (o : Option Waiter). option_map_or (λ (w : Waiter). has_missing p.missing w) o false) (absent_last c.args.waiters.now.entries c.args.number c.requires.listed.below) in
    subst (λ (es : Entries). AreIndexed es (get id_cmp c.strike.new.numbers) (contains place_cmp c.strike.new.queue)) (sym c.in-Err.ensures.err) (record {
      numbers = λ x.
          put_back c.args.waiter.event.id x c.args.number (get id_cmp c.args.numbers.now) (get id_cmp c.enlist.new.numbers x) (get id_cmp c.strike.new.numbers x)
          (was.numbers c.args.waiter.event.id ∙ c.requires.new) (new_numbers d x)
          (c.strike.ensures.numbers x ∙ ap (λ (id : Id). cond (id_eq id x) None (get id_cmp c.enlist.new.numbers x)) c.id-id.ensures)
          ∙ was.numbers x;
      places = λ q.
          place_put_back p q (contains place_cmp c.args.queue.now) (contains place_cmp c.enlist.new.queue q) (contains place_cmp c.strike.new.queue q) free (new_queue d q)
          (c.strike.ensures.queue q ∙ ap (λ (r : Place). cond (is_at (place_cmp r) q) false (contains place_cmp c.enlist.new.queue q)) c.place-place.ensures)
          ∙ was.places q;
    })
