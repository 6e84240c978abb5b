use Rattle.std.proofs.Common.{◌∙◌, ap, option_map, sym}
use Rattle.ew_model.proofs.FirstBadLaws.{good_has_no_bad}
use Rattle.ew_model.proofs.ListParts.{none_from_is_some}
use Rattle.transform.specs.Walking.{bad_at}
use Rattle.walk_trials.proofs.walk_rows.replayed.Goals as goal

-- where the walk doesn't stop each event is good
pub replay-requires : goal.replay-requires
replay-requires g c =
    let none = none_from_is_some c.in_ok-walk.walk.stopped (sym c.is_some.ensures ∙ c.if-is_some.false) in
    (good_has_no_bad c.args.graph.now).1 (sym c.in_ok-walk.ensures ∙ ap (option_map bad_at) none)
