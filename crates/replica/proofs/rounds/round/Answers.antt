use Rattle.std.proofs.Common.{◌++◌, refl}
use Rattle.ew_model.specs.Operations.{changed_by_all}
use Rattle.replica.proofs.Beginnings.{same_kept}
use Rattle.replica.proofs.Fronts.{hold_stands}
use Rattle.replica.proofs.KeptWalks.{same_walks}
use Rattle.replica.proofs.RoundTexts.{may_keep}
use Rattle.replica.specs.Lengths.{lengths_through}
use Rattle.replica.proofs.rounds.round.Goals as goal

pub write_runs-requires-clause-fit : goal.write_runs-requires-clause-fit
write_runs-requires-clause-fit g c =
    let a = c.args in
    let r = c.in_ok-desk.ensures in
    let found = c.in_ok-desk.field-0 in
    (may_keep a.intake.limits.now a.graph.now c.reach.new.graph a.intake.pool.now found.desk.pool a.text.now.characters a.lengths.now found.walked.ops found.walked.ops c.requires.kept r.front r.orderly r.desk.few c.len-waiting.ensures.few r.desk.limit r.desk.behind c.events-most.ensures.range.few_events refl r.round.ops_are).fit

pub write_runs-requires-clause-short : goal.write_runs-requires-clause-short
write_runs-requires-clause-short g c =
    let a = c.args in
    let r = c.in_ok-desk.ensures in
    let found = c.in_ok-desk.field-0 in
    (may_keep a.intake.limits.now a.graph.now c.reach.new.graph a.intake.pool.now found.desk.pool a.text.now.characters a.lengths.now found.walked.ops found.walked.ops c.requires.kept r.front r.orderly r.desk.few c.len-waiting.ensures.few r.desk.limit r.desk.behind c.events-most.ensures.range.few_events refl r.round.ops_are).short

pub drop_tail-requires : goal.drop_tail-requires
drop_tail-requires g c = hold_stands c.in_ok-desk.field-0.hold c.args.graph.now c.reach.new.graph c.in_ok-desk.ensures.hold c.in_ok-desk.ensures.front

pub keep-requires : goal.keep-requires
keep-requires g c = hold_stands c.in_ok-desk.field-0.hold c.args.graph.now c.reach.new.graph c.in_ok-desk.ensures.hold c.in_ok-desk.ensures.front

pub returns-clause-kept : goal.returns-clause-kept
returns-clause-kept g c =
    let a = c.args in
    let r = c.in_ok-desk.ensures in
    let found = c.in_ok-desk.field-0 in
    let graph = c.reach.new.graph in
    let ops = found.walked.ops in
    let w = c.in_default.ensures in
    same_kept a.intake.limits.now graph c.keep.new.self found.desk.pool found.desk.pool (changed_by_all ops a.text.now.characters) c.write_runs.new.text.characters (a.lengths.now ++ lengths_through a.text.now.characters ops) c.write_runs.new.lengths c.keep.ensures refl w.text w.lengths
    (may_keep a.intake.limits.now a.graph.now graph a.intake.pool.now found.desk.pool a.text.now.characters a.lengths.now ops found.walked.ops c.requires.kept r.front r.orderly r.desk.few c.len-waiting.ensures.few r.desk.limit r.desk.behind c.events-most.ensures.range.few_events refl r.round.ops_are).after

pub returns-clause-walks : goal.returns-clause-walks
returns-clause-walks g c = same_walks c.reach.new.graph c.keep.new.self c.reach.new.walks c.keep.ensures c.in_ok-desk.ensures.walks
