use Rattle.std.proofs.Common.{subst}
use Rattle.ew_model.specs.Limits.{most_file_bytes}
use Rattle.command_table.specs.Loads.{File}
use Rattle.command_table.specs.Possible.{KeepsTo}
use Rattle.opened_files.specs.Reads.{IsLoadedAs}
use Rattle.opened_files.specs.declared.open.FileEvents.{FileEvents}
use Rattle.opened_files.specs.declared.open.Found.{Found}
use Rattle.opened_files.proofs.Opening.{versioned_given, versioned_told}
use Rattle.opened_files.proofs.open.open_versioned.Goals as goal

pub returns-in_ok-judge_versioned-in-Open-clause-told : goal.returns-in_ok-judge_versioned-in-Open-clause-told
returns-in_ok-judge_versioned-in-Open-clause-told g c =
    let made = c.in_ok-judge_versioned-in-Open in
    versioned_told c.args.name.now c.args.limits.now (g.H.Shelf.seen c.args.shelf.now).files c.in-Open.file (rw c.in-Open.is at c.in_ok-file.ensures.told) made.field-0 made.ensures.told made.ensures.version

pub returns-in_ok-judge_versioned-in-Open-clause-some : goal.returns-in_ok-judge_versioned-in-Open-clause-some
returns-in_ok-judge_versioned-in-Open-clause-some g c =
    let name = c.args.name.now in
    let limits = c.args.limits.now in
    let made = c.in_ok-judge_versioned-in-Open in
    let some = subst (λ (f : Found FileEvents). (file : File) × IsLoadedAs name limits file f × KeepsTo (most_file_bytes limits.events) file) c.in-Open.is c.in_ok-file.ensures.some in
    (some.0, versioned_given name limits some.0 c.in-Open.file some.1 made.field-0 made.ensures.told made.ensures.version, some.2)
