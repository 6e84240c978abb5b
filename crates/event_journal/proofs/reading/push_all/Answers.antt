use Rattle.std.proofs.Common.{◌++◌, length, sym, ap, ◌∙◌, append-nil, arith}
use Rattle.std.specs.Vec.Iter.{into_iter_items}
use Rattle.ew_model.proofs.ListParts.{none_left, one_moved}
use Rattle.event_journal.proofs.reading.push_all.Goals as goal

pub loop-event-preserved : goal.loop-event-preserved
loop-event-preserved c =
    let rest = into_iter_items c.loop-event.event-iterator in
    let more = into_iter_items c.next.new.self in
    let steps = c.in-Some.ensures.steps in
    record {
      items = ap (λ es. es ++ more) c.in_ok-push.ensures.items ∙ one_moved c.loop-event.events.items rest more _ c.in-Some.event steps.0 c.loop-event.invariant.items;
      many = omega (arith, steps.1, ap length steps.0, c.loop-event.invariant.many);
    }

pub returns : goal.returns
returns c =
    let none = none_left (into_iter_items c.loop-event.event-iterator) (sym c.loop-event.invariant.many ∙ c.in-None.ensures.steps.0) in
    sym (append-nil c.loop-event.events.items) ∙ ap (λ es. c.loop-event.events.items ++ es) (sym none) ∙ c.loop-event.invariant.items
