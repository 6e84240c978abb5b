use Rattle.walk_trials.proofs.LineCalls.{advanced}
use Rattle.walk_trials.proofs.line_calls.advance.Goals as goal

pub returns : goal.returns
returns g c =
    let last = c.in_ok-position.ensures in
    advanced c.args.state.now c.args.calls.now c.bring_back.new.self c.in_ok-position.position c.requires last.last c.advance.new.self last.prepared c.in_ok-advance.ensures.ok
