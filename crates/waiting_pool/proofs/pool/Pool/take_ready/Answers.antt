use Rattle.std.proofs.Common.{◌≡◌, ◌∙◌, find, Some, option_map, sym, ap, subst}
use Rattle.ew_model.specs.Arrival.{is_ready, without_ready}
use Rattle.ew_model.specs.Kept.{AreApart}
use Rattle.waiting_pool.specs.declared.waiter.Waiter.{Waiter}
use Rattle.waiting_pool.specs.Knowing.{IsBehind}
use Rattle.waiting_pool.specs.Waiting.{Waiting, events_of, event_with, without}
use Rattle.waiting_pool.proofs.Behind.{behind_taken}
use Rattle.waiting_pool.proofs.Notes.{event_found}
use Rattle.waiting_pool.proofs.Ready.{none_ready, ready_taken}
use Rattle.waiting_pool.proofs.pool.Pool.take_ready.Goals as goal
use Rattle.waiting_pool.proofs.pool.Pool.take_ready.Goals.{After-take}

pub returns-in-None-clause-others : goal.returns-in-None-clause-others
returns-in-None-clause-others c =
    let none = ap (find (is_ready c.args.graph.now)) (sym c.settle.ensures.events) ∙ c.in_ok-settle.ensures.settled ∙ ap (option_map (λ (w : Waiter). w.event)) (sym c.in-None.ensures.first) in
    c.settle.ensures.events ∙ sym (none_ready c.args.graph.now (events_of c.args.self.now) none)

-- the earliest of which no parent is missing is the earliest that is ready
found : (c : After-take) → find (is_ready c.args.graph.now) (events_of c.settle.new.self) ≡ Some c.in-Some.waiter.now.event
found c = c.in_ok-settle.ensures.settled ∙ ap (option_map (λ (w : Waiter). w.event)) (sym c.in-Some.ensures.first)

pub returns-clause-event : goal.returns-clause-event
returns-clause-event c =
    let d = (goal.at.returns-clause-event c).After-take in
    c.take.ensures.value ∙ ap (event_with (events_of c.settle.new.self)) c.id-id.ensures
    ∙ sym (event_found c.settle.new.self.waiters c.in-Some.waiter.now.event.id) ∙ ap (option_map (λ (w : Waiter). w.event)) c.in-Some.ensures.own
    ∙ sym (found d) ∙ ap (find (is_ready c.args.graph.now)) c.settle.ensures.events

pub returns-clause-others : goal.returns-clause-others
returns-clause-others c =
    let d = (goal.at.returns-clause-others c).After-take in
    let apart = subst (λ (v : Waiting). AreApart (events_of v)) c.self.view_is c.self.invariant.listed.apart in
    c.take.ensures.events ∙ ap (without (events_of c.settle.new.self)) c.id-id.ensures
    ∙ ready_taken c.args.graph.now (events_of c.settle.new.self) c.in-Some.waiter.now.event (subst AreApart (sym c.settle.ensures.events) apart) (found d)
    ∙ ap (without_ready c.args.graph.now) c.settle.ensures.events

pub returns-clause-behind : goal.returns-clause-behind
returns-clause-behind c =
    subst (λ (w : Waiting). IsBehind c.args.graph.now w) (sym c.take.ensures.others)
    (behind_taken c.args.graph.now c.settle.new.self c.id-id.result c.settle.ensures.behind)
