use Rattle.std.proofs.Common.{◌∙◌, sym, ap, cond, false}
use Rattle.std.specs.BTreeMap.{get, is_at}
use Rattle.std.specs.BTreeSet.{contains}
use Rattle.ew_model.specs.Ids.{id_cmp}
use Rattle.waiting_pool.specs.declared.waiter.Place.{Place}
use Rattle.waiting_pool.specs.Places.{place_cmp}
use Rattle.waiting_pool.proofs.Entries.{IsEntryOf, IsNoEntry, entry_of, no_entry}
use Rattle.waiting_pool.proofs.Indexed.{indexed_less}
use Rattle.waiting_pool.proofs.tables.leave.Goals as goal
use Rattle.waiting_pool.proofs.tables.leave.Goals.{After-from_residual, After-remove}

missing : (c : After-from_residual) → IsNoEntry c.args.waiters.now.entries c.args.id.now
missing c = no_entry c.args.waiters.now.entries c.args.id.now (sym (c.requires.indexed.numbers c.args.id.now) ∙ sym c.in_err-number.ensures.value)

entry : (c : After-remove) → IsEntryOf c.args.waiters.now.entries c.args.id.now c.in_ok-number.field-0.now
entry c =
    entry_of c.args.waiters.now.entries c.requires.listed.ordered c.args.id.now c.in_ok-number.field-0.now
    (sym (c.requires.indexed.numbers c.args.id.now) ∙ sym c.in_ok-number.ensures.value)

pub returns-in_err-number-clause-value : goal.returns-in_err-number-clause-value
returns-in_err-number-clause-value c = c.from_residual.ensures ∙ (missing c).found

pub returns-in_err-number-clause-others : goal.returns-in_err-number-clause-others
returns-in_err-number-clause-others c = (missing c).others

pub returns-in_err-waiter-clause-value : goal.returns-in_err-waiter-clause-value
returns-in_err-waiter-clause-value c =
    let d = (goal.at.returns-in_err-waiter-clause-value c).After-remove in
    c.from_residual-in_err-waiter.ensures ∙ c.in_err-waiter.ensures.value ∙ (entry d).found

pub returns-in_err-waiter-clause-others : goal.returns-in_err-waiter-clause-others
returns-in_err-waiter-clause-others c =
    let d = (goal.at.returns-in_err-waiter-clause-others c).After-remove in
    c.remove.ensures.entries ∙ (entry d).others

pub returns-clause-value : goal.returns-clause-value
returns-clause-value c =
    let d = (goal.at.returns-clause-value c).After-remove in
    c.in_ok-waiter.ensures.value ∙ (entry d).found

pub returns-clause-others : goal.returns-clause-others
returns-clause-others c =
    let d = (goal.at.returns-clause-others c).After-remove in
    c.remove.ensures.entries ∙ (entry d).others

pub returns-clause-indexed : goal.returns-clause-indexed
returns-clause-indexed c =
    let d = (goal.at.returns-clause-indexed c).After-remove in
    indexed_less c.args.waiters.now.entries c.remove.new.self.entries c.in_ok-number.field-0.now (get id_cmp c.args.numbers.now) (get id_cmp c.strike.new.numbers)
    (contains place_cmp c.args.queue.now) (contains place_cmp c.strike.new.queue) c.requires.indexed c.in_ok-waiter.waiter c.args.id.now c.requires.listed.apart
    (c.remove.ensures.entries ∙ (entry d).others)
    (sym c.in_ok-waiter.ensures.value)
    (λ k. c.remove.ensures.updates.0 k) c.strike.ensures.numbers
    (λ q. c.strike.ensures.queue q ∙ ap (λ (p : Place). cond (is_at (place_cmp p) q) false (contains place_cmp c.args.queue.now q)) c.place-place.ensures)
