use Rattle.std.proofs.Common.{◌≡◌, ◌∙◌, find, ap, subst}
use Rattle.std.specs.BTreeSet.{contains}
use Rattle.std.specs.Option.{option_copied}
use Rattle.ew_model.specs.Kept.{AreApart}
use Rattle.waiting_pool.specs.Places.{place_cmp}
use Rattle.waiting_pool.specs.Waiting.{Waiting, has_missing}
use Rattle.waiting_pool.proofs.First.{first_found, none_found}
use Rattle.waiting_pool.proofs.Notes.{events_in, own_referred}
use Rattle.waiting_pool.proofs.pool.Pool.first_with.Goals as goal
use Rattle.waiting_pool.proofs.pool.Pool.first_with.Goals.{After-get}

pub returns-in_err-number-clause-first : goal.returns-in_err-number-clause-first
returns-in_err-number-clause-first c =
    let kept = c.self.invariant in
    ap option_copied c.from_residual.ensures
    ∙ none_found c.self.inside.waiters.entries (contains place_cmp c.self.inside.queue) kept.listed.ordered kept.indexed.places c.args.missing.now c.in_err-number.ensures.none
    ∙ ap (λ (w : Waiting). find (has_missing c.args.missing.now) w.waiters) c.self.view_is

first : (c : After-get) → option_copied c.get.result ≡ find (has_missing c.args.missing.now) c.args.self.now.waiters
first c =
    let kept = c.self.invariant in
    c.get.ensures.value
    ∙ first_found c.self.inside.waiters.entries (contains place_cmp c.self.inside.queue) kept.listed.ordered kept.indexed.places c.args.missing.now c.in_ok-number.number c.in_ok-number.ensures.first
    ∙ ap (λ (w : Waiting). find (has_missing c.args.missing.now) w.waiters) c.self.view_is

pub returns-clause-first : goal.returns-clause-first
returns-clause-first c = first c

pub returns-clause-own : goal.returns-clause-own
returns-clause-own c =
    own_referred (has_missing c.args.missing.now) c.args.self.now.waiters c.get.result
    (subst (λ (w : Waiting). AreApart (events_in w.waiters)) c.self.view_is c.self.invariant.listed.apart) (first c)
