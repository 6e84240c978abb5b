use Rattle.std.proofs.Common.{arith}
use Rattle.std.proofs.lemmas.Result.{on_ok_weaker}
use Rattle.event_file.specs.Runs.{ops_as}
use Rattle.file_words.specs.FileRuns.{ops_in}
use Rattle.file_words.proofs.FileRuns.{ops_long}
use Rattle.stored_histories.proofs.Giving.{few_admitted}
use Rattle.stored_histories.proofs.Runs.{rest_given}
use Rattle.stored_histories.proofs.give.give_run.Goals as goal

pub give_ops-requires-clause-room : goal.give_ops-requires-clause-room
give_ops-requires-clause-room c =
    let has = c.requires.given.1 in
    let few = few_admitted _ c.requires.given.0 c.args.given.now c.args.reader.now c.args.given.now.limits.events has.3 in
    let records = c.in-Some.ensures.all.records in
    let long = ops_long (ops_as c.in-Some.ops) in
    omega (arith, few, records, long)

pub returns-in-Some-clause-given : goal.returns-in-Some-clause-given
returns-in-Some-clause-given c =
    on_ok_weaker c.give_ops.result
    (λ were found has.
    rest_given (ops_in (ops_as c.in-Some.ops)) found c.args.given.now c.give_ops.new.given c.args.reader.now c.go_on_run.new.self c.args.given.now.limits.events has c.in-Some.ensures.all were)
    c.give_ops.ensures.given
