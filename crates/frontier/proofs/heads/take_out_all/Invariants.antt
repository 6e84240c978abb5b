use Rattle.std.proofs.Common.{◌≡◌, not, filter, take, nat_eq}
use Rattle.ew_model.specs.Graph.{is_named}
use Rattle.frontier.proofs.heads.take_out_all.Given as goal

abbrev pub invariant-loop-position : goal.invariant-loop-position
invariant-loop-position l =
    (l.heads.items ≡ filter (λ h. not (is_named nat_eq (take l.position-index l.positions) h)) l.initial.heads.items) × (l.heads.capacity ≡ l.initial.heads.capacity)
