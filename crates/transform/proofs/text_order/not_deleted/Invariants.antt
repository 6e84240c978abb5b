use Rattle.std.proofs.Common.{◌≡◌, not, filter, take, get_or, true}
use Rattle.transform.proofs.text_order.not_deleted.Given as goal

abbrev pub invariant-loop-position : goal.invariant-loop-position
invariant-loop-position l = l.shown.items ≡ filter (λ p. not (get_or l.deleted p true)) (take l.position-index l.order)
