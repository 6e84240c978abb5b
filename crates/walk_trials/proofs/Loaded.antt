-- What a replica of events says of them.
use Rattle.std.proofs.Common.{◌≡◌, List, Ok, ap}
use Rattle.ew_model.specs.declared.event.Event.{Event}
use Rattle.ew_model.specs.Limits.{LimitNumbers}
use Rattle.ew_model.specs.Verdicts.{IsGood}
use Rattle.ew_model.proofs.FirstBadLaws.{good_has_no_bad}
use Rattle.replica.specs.Answers.{Loads}
use Rattle.ew_model.specs.Kept.{ReplicaState}

pub loaded_good : (events : List Event) (limits : LimitNumbers) (r : ReplicaState) → Loads events limits (Ok r) → IsGood events
loaded_good events limits r h = (good_has_no_bad events).1 h.0

pub loaded_held : (events : List Event) (limits : LimitNumbers) (r : ReplicaState) → Loads events limits (Ok r) → r.held ≡ events
loaded_held events limits r h = ap (λ (s : ReplicaState). s.held) h.1
