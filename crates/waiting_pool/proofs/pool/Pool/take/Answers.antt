use Rattle.std.proofs.Common.{◌∙◌, option_map, ap}
use Rattle.waiting_pool.specs.declared.waiter.Waiter.{Waiter}
use Rattle.waiting_pool.specs.Waiting.{events_of}
use Rattle.waiting_pool.proofs.Behind.{events-taken_out}
use Rattle.waiting_pool.proofs.Notes.{event_found}
use Rattle.waiting_pool.proofs.pool.Pool.take.Goals as goal

pub returns-in-Some-clause-value : goal.returns-in-Some-clause-value
returns-in-Some-clause-value c = ap (option_map (λ (w : Waiter). w.event)) c.in-Some.ensures.value ∙ event_found c.args.self.now.waiters c.args.id.now

pub returns-in-Some-clause-events : goal.returns-in-Some-clause-events
returns-in-Some-clause-events c = ap events_of c.take_waiter.ensures.others ∙ events-taken_out c.args.self.now c.args.id.now

pub returns-in-None-clause-value : goal.returns-in-None-clause-value
returns-in-None-clause-value c = ap (option_map (λ (w : Waiter). w.event)) c.in-None.ensures.value ∙ event_found c.args.self.now.waiters c.args.id.now

pub returns-in-None-clause-events : goal.returns-in-None-clause-events
returns-in-None-clause-events c = ap events_of c.take_waiter.ensures.others ∙ events-taken_out c.args.self.now c.args.id.now
