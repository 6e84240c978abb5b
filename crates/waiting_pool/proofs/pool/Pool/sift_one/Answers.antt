use Rattle.std.proofs.Common.{◌≡◌, ◌∙◌, ◌+◌, true, false, not, Option, Some, None, sym, ap, subst, count_by}
use Rattle.std.specs.List.{list_all}
use Rattle.std.specs.Option.{IsSomeAnd}
use Rattle.ew_model.specs.declared.id.Id.{Id}
use Rattle.ew_model.specs.Ancestors.{is_held}
use Rattle.ew_model.specs.Verdicts.{first_unknown}
use Rattle.waiting_pool.specs.declared.waiter.Waiter.{Waiter}
use Rattle.waiting_pool.specs.Knowing.{is_missed}
use Rattle.waiting_pool.specs.Places.{same_missing}
use Rattle.waiting_pool.specs.Waiting.{Waiting, has_missing}
use Rattle.waiting_pool.proofs.Notes.{found_as, kept_noted, find_passes, not_some, missed-with_missing, fewer-with_missing, missed_found, settled_by, all_pass, some_there}
use Rattle.waiting_pool.proofs.pool.Pool.sift_one.Goals as goal
use Rattle.waiting_pool.proofs.pool.Pool.sift_one.Goals.{After-id-id}
use Rattle.ew_model.proofs.ListParts.{none_from_is_some}

passes : (c : After-id-id) → has_missing None c.in-Some.waiter.now ≡ true
passes c = find_passes (has_missing None) c.args.self.now.waiters c.in-Some.waiter.now (sym c.in-Some.ensures.first)

missing : (c : After-id-id) → (p : Id) × (c.has-missing.result ≡ Some p)
missing c = some_there c.has-missing.result (c.is_none.ensures ∙ ap not c.if-is_none.false)

pub returns-in-None-clause-settled : goal.returns-in-None-clause-settled
returns-in-None-clause-settled c = λ _. settled_by c.args.graph.now c.args.self.now.waiters None c.requires c.in-None.ensures.first tt

pub returns-then-is_none-clause-settled : goal.returns-then-is_none-clause-settled
returns-then-is_none-clause-settled c =
    let none = none_from_is_some c.has-missing.result (c.is_none.ensures ∙ ap not c.if-is_none.true) in
    λ _. settled_by c.args.graph.now c.args.self.now.waiters (Some c.in-Some.waiter.now) c.requires c.in-Some.ensures.first
    (all_pass (is_held c.args.graph.now) c.in-Some.waiter.now.event.parents (ap (first_unknown c.args.graph.now) (sym c.as_slice.ensures) ∙ sym c.has-missing.ensures ∙ none))

pub set_missing-requires : goal.set_missing-requires
set_missing-requires c =
    let d = (goal.at.set_missing-requires c).After-id-id in
    subst (λ (o : Option Waiter). IsSomeAnd o (λ w. has_missing c.has-missing.result w ≡ false)) (sym (found_as d.args.self.now.waiters d.id-id.result d.in-Some.waiter.now.event.id (Some d.in-Some.waiter.now) d.id-id.ensures d.in-Some.ensures.own))
    (subst (λ (o : Option Id). has_missing o c.in-Some.waiter.now ≡ false) (sym (missing d).1) (not_some (missing d).0 c.in-Some.waiter.now (passes d)))

pub returns-clause-kept : goal.returns-clause-kept
returns-clause-kept c = kept_noted c.args.self.now c.set_missing.new.self c.id-id.result c.has-missing.result c.in_ok-set_missing.ensures.ok

pub returns-clause-missed : goal.returns-clause-missed
returns-clause-missed c =
    let d = (goal.at.returns-clause-missed c).After-id-id in
    ap (λ (v : Waiting). list_all (is_missed c.args.graph.now) v.waiters) c.in_ok-set_missing.ensures.ok
    ∙ missed-with_missing c.args.graph.now c.args.self.now.waiters c.id-id.result c.has-missing.result c.in-Some.waiter.now (found_as d.args.self.now.waiters d.id-id.result d.in-Some.waiter.now.event.id (Some d.in-Some.waiter.now) d.id-id.ensures d.in-Some.ensures.own)
    (missed_found c.args.graph.now c.in-Some.waiter.now.event c.has-missing.result (c.has-missing.ensures ∙ ap (first_unknown c.args.graph.now) c.as_slice.ensures)) c.requires

pub returns-clause-fewer : goal.returns-clause-fewer
returns-clause-fewer c =
    let d = (goal.at.returns-clause-fewer c).After-id-id in
    ap (λ (v : Waiting). count_by (has_missing None) v.waiters + 1) c.in_ok-set_missing.ensures.ok
    ∙ fewer-with_missing c.args.self.now.waiters c.id-id.result c.has-missing.result None c.in-Some.waiter.now (found_as d.args.self.now.waiters d.id-id.result d.in-Some.waiter.now.event.id (Some d.in-Some.waiter.now) d.id-id.ensures d.in-Some.ensures.own) (passes d) (ap (λ (o : Option Id). same_missing o None) (missing d).1)
