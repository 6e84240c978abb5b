use Rattle.replica.proofs.RoundCuts.{base_is, has_length}
use Rattle.replica.proofs.walks.walk_anew.Goals as goal

pub length_below-requires : goal.length_below-requires
length_below-requires g c = let begins = c.requires.begins in has_length begins.0 c.args.graph.now c.args.lengths.now c.args.cut begins.1 begins.2

pub walk_runs-requires-clause-cut : goal.walk_runs-requires-clause-cut
walk_runs-requires-clause-cut g c = c.requires.begins.1.critical

pub walk_runs-requires-clause-good : goal.walk_runs-requires-clause-good
walk_runs-requires-clause-good g c = c.requires.begins.1.good

pub walk_runs-requires-clause-base : goal.walk_runs-requires-clause-base
walk_runs-requires-clause-base g c =
    let begins = c.requires.begins in
    rw (← base_is begins.0 c.args.graph.now c.args.cut c.length_below.result begins.1 (c.length_below.ensures begins.0 begins.2)) c.in_ok-state.ensures.stands
