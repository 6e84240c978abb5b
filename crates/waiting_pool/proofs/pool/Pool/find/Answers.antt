use Rattle.std.proofs.Common.{◌∙◌, is_some, option_map, ap}
use Rattle.waiting_pool.specs.declared.waiter.Waiter.{Waiter}
use Rattle.waiting_pool.proofs.Notes.{event_found, found_held}
use Rattle.waiting_pool.proofs.pool.Pool.find.Goals as goal

pub returns-in-Some-clause-event : goal.returns-in-Some-clause-event
returns-in-Some-clause-event c = ap (option_map (λ (w : Waiter). w.event)) c.in-Some.ensures ∙ event_found c.args.self.now.waiters c.args.id.now

pub returns-in-Some-clause-waits : goal.returns-in-Some-clause-waits
returns-in-Some-clause-waits c = ap is_some c.in-Some.ensures ∙ found_held c.args.self.now.waiters c.args.id.now

pub returns-in-None-clause-event : goal.returns-in-None-clause-event
returns-in-None-clause-event c = ap (option_map (λ (w : Waiter). w.event)) c.in-None.ensures ∙ event_found c.args.self.now.waiters c.args.id.now

pub returns-in-None-clause-waits : goal.returns-in-None-clause-waits
returns-in-None-clause-waits c = ap is_some c.in-None.ensures ∙ found_held c.args.self.now.waiters c.args.id.now
