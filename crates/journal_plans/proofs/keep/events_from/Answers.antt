use Rattle.std.proofs.Common.{◌≡◌, ◌≤◌, ◌-◌, length, drop, [], ◌∷◌, ◌++◌, sym, ap, subst, ◌∙◌, arith}
use Rattle.std.specs.List.{AllByRecursion}
use Rattle.std.proofs.lemmas.List.{length-drop, take_all}
use Rattle.ew_model.specs.declared.event.Event.{Event}
use Rattle.peer_exchange.proofs.Lengths.{all_drop}
use Rattle.net_core.proofs.Deliveries.{few_parents}
use Rattle.net_core.proofs.Pieces.{piece_next}
use Rattle.journal_plans.proofs.keep.events_from.Goals as goal

pub loop-position-preserved : goal.loop-position-preserved
loop-position-preserved c =
    let held = c.args.replica.now.held in
    let e = c.in_ok-event_at.field-0 in
    c.in_ok-push.ensures.items ∙ ap (λ es. es ++ e ∷ []) c.loop-position.invariant ∙ sym (piece_next held c.args.from c.loop-position.position e (omega (arith, c.loop-position.auto.position))
    (rw c.graph.ensures.graph at c.in_ok-event_at.ensures))

pub returns-clause-events : goal.returns-clause-events
returns-clause-events c =
    let held = c.args.replica.now.held in
    c.loop-position.invariant ∙ take_all (c.loop-position.position - c.args.from) (drop c.args.from held) (omega (arith, length-drop c.args.from held))

pub returns-clause-parents : goal.returns-clause-parents
returns-clause-parents c =
    let held = c.args.replica.now.held in
    let few = λ (e : Event). length e.parents ≤ 16 in
    let events : c.loop-position.events.items ≡ drop c.args.from held =
    c.loop-position.invariant ∙ take_all (c.loop-position.position - c.args.from) (drop c.args.from held) (omega (arith, length-drop c.args.from held)) in
    subst (AllByRecursion few) (sym events) (all_drop few c.args.from held (few_parents held c.limits-limits.ensures.kept.orderly.good))
