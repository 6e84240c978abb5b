use Rattle.std.proofs.Common.{[], arith, subst, sym}
use Rattle.ew_model.proofs.CutLaws.{start_critical}
use Rattle.advance_retreat.specs.Standing.{StandsFor}
use Rattle.transform.proofs.Replays.{all_operations, all_touches}
use Rattle.transform.proofs.Steps.{base_is_none, no_event_is_good}
use Rattle.transform.proofs.replaying.replay_runs.Goals as goal

pub walk_runs-requires-clause-cut : goal.walk_runs-requires-clause-cut
walk_runs-requires-clause-cut g c = start_critical c.args.graph.now

-- there is no event below the first, and no text
pub walk_runs-requires-clause-good : goal.walk_runs-requires-clause-good
walk_runs-requires-clause-good g c = no_event_is_good

pub walk_runs-requires-clause-base : goal.walk_runs-requires-clause-base
walk_runs-requires-clause-base g c = subst (λ b. StandsFor c.in_ok-state.state b [] []) (sym (base_is_none c.args.graph.now)) c.in_ok-state.ensures.stands

pub returns-clause-ops : goal.returns-clause-ops
returns-clause-ops g c = all_operations c.args.graph.now c.in_ok-walked.walked.stopped c.requires c.in_ok-walked.ensures.stopped c.in_ok-walked.walked.ops c.in_ok-walked.ensures.ops

pub returns-clause-touches : goal.returns-clause-touches
returns-clause-touches g c = omega (arith, c.in_ok-walked.ensures.touches, all_touches c.args.graph.now c.in_ok-walked.walked.stopped c.requires c.in_ok-walked.ensures.stopped)
