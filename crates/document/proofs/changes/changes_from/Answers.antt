use Rattle.std.proofs.Common.{arith}
use Rattle.document.proofs.LaterTexts.{all_judged, cut_base, cut_critical, cut_good, cut_low, cut_touches, later_fit, later_operations, later_text}
use Rattle.document.proofs.changes.changes_from.Goals as goal

pub length_at-base-requires : goal.length_at-base-requires
length_at-base-requires g c = omega (arith, c.requires, cut_low c.args.replica.now.held c.graph-graph.result.now c.args.count c.latest_cut-cut.result c.graph-graph.ensures.graph c.latest_cut-cut.ensures)

pub walk-requires-clause-cut : goal.walk-requires-clause-cut
walk-requires-clause-cut g c = cut_critical c.args.replica.now.held c.graph-graph.result.now c.args.count c.latest_cut-cut.result c.graph-graph.ensures.graph c.latest_cut-cut.ensures

pub walk-requires-clause-emit : goal.walk-requires-clause-emit
walk-requires-clause-emit g c = cut_low c.args.replica.now.held c.graph-graph.result.now c.args.count c.latest_cut-cut.result c.graph-graph.ensures.graph c.latest_cut-cut.ensures

pub walk-requires-clause-good : goal.walk-requires-clause-good
walk-requires-clause-good g c =
    cut_good c.args.replica.now.held c.graph-graph.result.now c.args.count c.latest_cut-cut.result c.graph-graph.ensures.graph c.latest_cut-cut.ensures c.graph-graph.ensures.kept.orderly.good

pub walk-requires-clause-base : goal.walk-requires-clause-base
walk-requires-clause-base g c =
    rw (← cut_base c.args.replica.now.held c.graph-graph.result.now c.args.count c.latest_cut-cut.result c.graph-graph.ensures.graph c.latest_cut-cut.ensures c.length_at-base.result c.length_at-base.ensures)
    c.in_ok-state.ensures.stands

pub returns-clause-changes : goal.returns-clause-changes
returns-clause-changes g c =
    later_operations c.args.replica.now.held c.graph-graph.result.now c.in_ok-walked.walked.stopped c.graph-graph.ensures.graph c.graph-graph.ensures.kept.orderly.good c.in_ok-walked.ensures.stopped
    c.args.count c.in_ok-walked.walked.ops.items c.in_ok-walked.ensures.ops

pub returns-clause-fit : goal.returns-clause-fit
returns-clause-fit g c =
    later_fit c.args.replica.now.held c.args.count c.in_ok-walked.walked.ops.items c.graph-graph.ensures.kept.orderly.good
    (later_operations c.args.replica.now.held c.graph-graph.result.now c.in_ok-walked.walked.stopped c.graph-graph.ensures.graph c.graph-graph.ensures.kept.orderly.good c.in_ok-walked.ensures.stopped
    c.args.count c.in_ok-walked.walked.ops.items c.in_ok-walked.ensures.ops)

pub returns-clause-text : goal.returns-clause-text
returns-clause-text g c =
    later_text c.args.replica.now.held c.args.count c.in_ok-walked.walked.ops.items c.graph-graph.ensures.kept.orderly.good
    (later_operations c.args.replica.now.held c.graph-graph.result.now c.in_ok-walked.walked.stopped c.graph-graph.ensures.graph c.graph-graph.ensures.kept.orderly.good c.in_ok-walked.ensures.stopped
    c.args.count c.in_ok-walked.walked.ops.items c.in_ok-walked.ensures.ops)

pub returns-clause-touches : goal.returns-clause-touches
returns-clause-touches g c = omega (
  arith,
  c.in_ok-walked.ensures.touches,
  all_judged c.args.replica.now.held c.graph-graph.result.now c.in_ok-walked.walked.stopped c.graph-graph.ensures.graph c.graph-graph.ensures.kept.orderly.good c.in_ok-walked.ensures.stopped c.latest_cut-cut.result,
  cut_touches c.args.replica.now.held c.graph-graph.result.now c.args.count c.latest_cut-cut.result c.graph-graph.ensures.graph c.latest_cut-cut.ensures,
)

pub returns-clause-most : goal.returns-clause-most
returns-clause-most g c = omega (
  arith,
  c.walk.ensures.most,
  cut_touches c.args.replica.now.held c.graph-graph.result.now c.args.count c.latest_cut-cut.result c.graph-graph.ensures.graph c.latest_cut-cut.ensures,
)
