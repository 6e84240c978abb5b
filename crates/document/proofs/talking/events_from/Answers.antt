use Rattle.std.proofs.Common.{◌≡◌, ◌∙◌, ◌+◌, ◌∷◌, [], ◌++◌, drop, take, sym, ap, arith}
use Rattle.std.proofs.lemmas.List.{drop-append-le, length-take, take_more}
use Rattle.std.proofs.lemmas.Option.{get_or_from_slice_get, slice_get_within}
use Rattle.ew_model.specs.declared.event.Event.{Event}
use Rattle.document.proofs.talking.events_from.Goals as goal

pub loop-position-preserved : goal.loop-position-preserved
loop-position-preserved c =
    let now = c.args.graph.now in
    let place = c.loop-position.position in
    let e = c.in_ok-event_near.field-0 in
    let within = slice_get_within now place e c.in_ok-event_near.ensures in
    let more : take (place + 1) now ≡ take place now ++ e ∷ [] =
    take_more now place e within ∙ ap (λ (x : Event). take place now ++ x ∷ []) (get_or_from_slice_get now place e e c.in_ok-event_near.ensures) in
    c.in_ok-push.ensures.items ∙ ap (λ es. es ++ e ∷ []) c.loop-position.invariant
    ∙ sym (ap (drop c.args.from) more ∙ drop-append-le c.args.from (take place now) (e ∷ []) (omega (arith, within, length-take place now, c.loop-position.near-position)))
