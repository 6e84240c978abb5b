use Rattle.std.proofs.Common.{◌∙◌, find, sym, ap}
use Rattle.std.specs.Option.{option_copied}
use Rattle.waiting_pool.specs.Waiting.{Waiting, has_id}
use Rattle.waiting_pool.proofs.Entries.{entry_of, no_entry}
use Rattle.waiting_pool.proofs.pool.Pool.waiter.Goals as goal

pub returns-in_err-number : goal.returns-in_err-number
returns-in_err-number c =
    ap option_copied c.from_residual.ensures
    ∙ (no_entry c.self.inside.waiters.entries c.args.id.now (sym (c.self.invariant.indexed.numbers c.args.id.now) ∙ sym c.in_err-number.ensures.value)).found
    ∙ ap (λ (w : Waiting). find (has_id c.args.id.now) w.waiters) c.self.view_is

pub returns : goal.returns
returns c =
    c.get-2.ensures.value
    ∙ (entry_of c.self.inside.waiters.entries c.self.invariant.listed.ordered c.args.id.now c.in_ok-number.number.now (sym (c.self.invariant.indexed.numbers c.args.id.now) ∙ sym c.in_ok-number.ensures.value)).found
    ∙ ap (λ (w : Waiting). find (has_id c.args.id.now) w.waiters) c.self.view_is
