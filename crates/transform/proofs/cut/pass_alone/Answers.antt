use Rattle.std.proofs.Common.{take, arith}
use Rattle.operation_runs.specs.Runs.{run_ops}
use Rattle.transform.proofs.Lines.{base_low}
use Rattle.transform.proofs.Passing.{passes_first, emitted_by_run}
use Rattle.transform.proofs.cut.pass_alone.Goals as goal

pub passed_of-passed-requires-clause-room : goal.passed_of-passed-requires-clause-room
passed_of-passed-requires-clause-room g c =
    let low = base_low c.args.graph.now c.args.position c.requires.behind.good in
    omega (arith, low, c.requires.long, c.requires.within, c.count-count.ensures.count)

pub emit_run-requires-clause-within : goal.emit_run-requires-clause-within
emit_run-requires-clause-within g c = omega (arith, c.passed_of-passed.ensures.most, c.requires.told)

pub returns-clause-line : goal.returns-clause-line
returns-clause-line g c = λ from state low some.
    let passed = c.passed_of-passed in
    (passes_first c.args.graph.now c.count-count.ensures.admitted c.args.position c.args.count passed.result.count c.args.len passed.result.len (run_ops c.args.run) passed.ensures.most c.requires.told c.requires.behind c.requires.long c.requires.changes c.requires.alone passed.ensures.fit).line from state low (omega (arith, some))

pub returns-clause-emitted : goal.returns-clause-emitted
returns-clause-emitted g c =
    let passed = c.passed_of-passed in
    let ops = (passes_first c.args.graph.now c.count-count.ensures.admitted c.args.position c.args.count passed.result.count c.args.len passed.result.len (run_ops c.args.run) passed.ensures.most c.requires.told c.requires.behind c.requires.long c.requires.changes c.requires.alone passed.ensures.fit).ops in
    emitted_by_run c.args.graph.now c.args.position passed.result.count c.args.emit_from c.args.ops.now c.emit_run.new.ops (take passed.result.count (run_ops c.args.run)) (omega (arith, c.requires.within)) ops c.requires.emitted c.in_ok-emit_run.ensures
