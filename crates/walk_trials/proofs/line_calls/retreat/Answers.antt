use Rattle.walk_trials.proofs.LineCalls.{retreated}
use Rattle.walk_trials.proofs.line_calls.retreat.Goals as goal

pub returns : goal.returns
returns g c =
    let last = c.in_ok-position.ensures in
    retreated c.args.state.now c.args.calls.now c.take_out.new.self c.in_ok-position.position c.requires last.last c.retreat.new.self last.out c.in_ok-retreat.ensures.ok
