use Rattle.std.proofs.Common.{false, subst, ◌≡◌}
use Rattle.std.specs.BTreeMap.Range.{IsLeBy}
use Rattle.std.specs.BTreeSet.{contains}
use Rattle.waiting_pool.specs.declared.waiter.Place.{Place}
use Rattle.waiting_pool.specs.Places.{place_cmp, IsLeastFrom}
use Rattle.waiting_pool.proofs.Order.{first_under, none_under, none_queued}
use Rattle.waiting_pool.proofs.tables.first_number.Goals as goal
use Rattle.waiting_pool.proofs.tables.first_number.Goals.{After-number_under}

least : (c : After-number_under) → IsLeastFrom (contains place_cmp c.args.queue.now) (record { missing = c.args.missing.now; number = 0 }) c.in-Some.place
least c = subst (λ (from : Place). IsLeastFrom (contains place_cmp c.args.queue.now) from c.in-Some.place) c.new.ensures c.in-Some.ensures.some

pub returns-in-Some-clause-first : goal.returns-in-Some-clause-first
returns-in-Some-clause-first c =
    first_under (contains place_cmp c.args.queue.now) c.args.missing.now c.in-Some.place c.number_under.result (least c) c.number_under.ensures

pub returns-in-Some-clause-none : goal.returns-in-Some-clause-none
returns-in-Some-clause-none c =
    none_under (contains place_cmp c.args.queue.now) c.args.missing.now c.in-Some.place c.number_under.result (least c) c.number_under.ensures

pub returns-in-None-clause-none : goal.returns-in-None-clause-none
returns-in-None-clause-none c =
    none_queued (contains place_cmp c.args.queue.now) c.args.missing.now
    (subst (λ (from : Place). (q : Place) → IsLeBy place_cmp from q → contains place_cmp c.args.queue.now q ≡ false) c.new.ensures c.in-None.ensures.none)
