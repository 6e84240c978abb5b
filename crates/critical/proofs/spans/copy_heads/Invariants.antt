use Rattle.std.proofs.Common.{◌≡◌, map, take}
use Rattle.critical.proofs.spans.copy_heads.Given as goal

abbrev pub invariant-loop-list : goal.invariant-loop-list
invariant-loop-list l = map (λ h. h.items) l.copy.items ≡ map (λ h. h.items) (take l.list-index l.heads)
