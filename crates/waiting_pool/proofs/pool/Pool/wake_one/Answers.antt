use Rattle.std.proofs.Common.{◌≡◌, ◌∙◌, ◌+◌, true, false, Option, Some, None, refl, sym, ap, subst, count_by}
use Rattle.std.specs.List.{list_all}
use Rattle.std.specs.Option.{IsSomeAnd}
use Rattle.waiting_pool.specs.declared.waiter.Waiter.{Waiter}
use Rattle.waiting_pool.specs.Knowing.{is_missed}
use Rattle.waiting_pool.specs.Waiting.{Waiting, has_missing}
use Rattle.waiting_pool.proofs.Notes.{found_as, kept_noted, find_passes, not_none, missed-with_missing, fewer-with_missing}
use Rattle.waiting_pool.proofs.pool.Pool.wake_one.Goals as goal
use Rattle.waiting_pool.proofs.pool.Pool.wake_one.Goals.{After-id-id}

passes : (c : After-id-id) → has_missing (Some c.args.parent.now) c.in-Some.waiter.now ≡ true
passes c = find_passes (has_missing (Some c.args.parent.now)) c.args.self.now.waiters c.in-Some.waiter.now (sym c.in-Some.ensures.first)

pub set_missing-requires : goal.set_missing-requires
set_missing-requires c =
    let d = (goal.at.set_missing-requires c).After-id-id in
    subst (λ (o : Option Waiter). IsSomeAnd o (λ w. has_missing None w ≡ false)) (sym (found_as d.args.self.now.waiters d.id-id.result d.in-Some.waiter.now.event.id (Some d.in-Some.waiter.now) d.id-id.ensures d.in-Some.ensures.own)) (not_none c.args.parent.now c.in-Some.waiter.now (passes d))

pub returns-clause-kept : goal.returns-clause-kept
returns-clause-kept c = kept_noted c.args.self.now c.set_missing.new.self c.id-id.result None c.in_ok-set_missing.ensures.ok

pub returns-clause-missed : goal.returns-clause-missed
returns-clause-missed c =
    let d = (goal.at.returns-clause-missed c).After-id-id in
    λ held h.
    ap (λ (v : Waiting). list_all (is_missed held) v.waiters) c.in_ok-set_missing.ensures.ok
    ∙ missed-with_missing held c.args.self.now.waiters c.id-id.result None c.in-Some.waiter.now (found_as d.args.self.now.waiters d.id-id.result d.in-Some.waiter.now.event.id (Some d.in-Some.waiter.now) d.id-id.ensures d.in-Some.ensures.own) refl h

pub returns-clause-fewer : goal.returns-clause-fewer
returns-clause-fewer c =
    let d = (goal.at.returns-clause-fewer c).After-id-id in
    ap (λ (v : Waiting). count_by (has_missing (Some c.args.parent.now)) v.waiters + 1) c.in_ok-set_missing.ensures.ok
    ∙ fewer-with_missing c.args.self.now.waiters c.id-id.result None (Some c.args.parent.now) c.in-Some.waiter.now (found_as d.args.self.now.waiters d.id-id.result d.in-Some.waiter.now.event.id (Some d.in-Some.waiter.now) d.id-id.ensures d.in-Some.ensures.own) (passes d) refl
