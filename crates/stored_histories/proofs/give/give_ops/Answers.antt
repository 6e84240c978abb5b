use Rattle.std.proofs.Common.{◌+◌, ◌≤◌, length, arith, ap, subst}
use Rattle.ew_model.proofs.EditTexts.{insertions_long, deletions_long, back_long}
use Rattle.event_file.specs.declared.run_ops.RunOps.{RunOps}
use Rattle.event_file.specs.OpenRuns.{CanGoOn}
use Rattle.event_file.specs.Runs.{numbers_in, ops_as}
use Rattle.file_words.specs.FileRuns.{ops_count}
use Rattle.stored_histories.proofs.give.give_ops.Goals as goal

pub go_on_run-requires-clause-room : goal.go_on_run-requires-clause-room
go_on_run-requires-clause-room c =
    let room : length c.args.given.now.admitted + length (numbers_in c.in-Insertions.text.now) ≤ c.args.given.now.limits.events =
    subst (λ (ops : RunOps). length c.args.given.now.admitted + ops_count (ops_as ops) ≤ c.args.given.now.limits.events) c.in-Insertions.is c.requires.room in
    let long = insertions_long c.in-Insertions.at c.as_slice.result.now in
    let same = ap length c.as_slice.ensures.value in
    let read = ap length (c.in_ok-read_characters-in-Insertions).ensures in
    omega (arith, room, long, same, read)

pub go_on_run-requires-in-Deletions-clause-room : goal.go_on_run-requires-in-Deletions-clause-room
go_on_run-requires-in-Deletions-clause-room c =
    let room : length c.args.given.now.admitted + c.in-Deletions.count ≤ c.args.given.now.limits.events =
    subst (λ (ops : RunOps). length c.args.given.now.admitted + ops_count (ops_as ops) ≤ c.args.given.now.limits.events) c.in-Deletions.is c.requires.room in
    let long = deletions_long c.in-Deletions.at c.in-Deletions.count in
    omega (arith, room, long)

pub go_on_run-requires-in-BackDeletions-clause-fit : goal.go_on_run-requires-in-BackDeletions-clause-fit
go_on_run-requires-in-BackDeletions-clause-fit c = subst (λ (ops : RunOps). CanGoOn (ops_as ops)) c.in-BackDeletions.is c.requires.sound

pub go_on_run-requires-in-BackDeletions-clause-room : goal.go_on_run-requires-in-BackDeletions-clause-room
go_on_run-requires-in-BackDeletions-clause-room c =
    let room : length c.args.given.now.admitted + c.in-BackDeletions.count ≤ c.args.given.now.limits.events =
    subst (λ (ops : RunOps). length c.args.given.now.admitted + ops_count (ops_as ops) ≤ c.args.given.now.limits.events) c.in-BackDeletions.is c.requires.room in
    let long = back_long c.in-BackDeletions.at c.in-BackDeletions.count in
    omega (arith, room, long)
