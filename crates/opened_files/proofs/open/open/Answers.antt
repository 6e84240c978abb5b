use Rattle.std.proofs.Common.{subst}
use Rattle.ew_model.specs.Limits.{most_file_bytes}
use Rattle.command_table.specs.Loads.{File}
use Rattle.command_table.specs.Possible.{KeepsTo}
use Rattle.opened_files.specs.Reads.{IsLoadedAs}
use Rattle.opened_files.specs.Views.{opened_view}
use Rattle.opened_files.specs.declared.open.FileEvents.{FileEvents}
use Rattle.opened_files.specs.declared.open.Found.{Found}
use Rattle.opened_files.proofs.Opening.{opened_given}
use Rattle.opened_files.proofs.open.open.Goals as goal

pub returns-in_ok-judge-in-Open-clause-some : goal.returns-in_ok-judge-in-Open-clause-some
returns-in_ok-judge-in-Open-clause-some g c =
    let name = c.args.name.now in
    let limits = c.args.limits.now in
    let some = subst (λ (f : Found FileEvents). (file : File) × IsLoadedAs name limits file f × KeepsTo (most_file_bytes limits.events) file) c.in-Open.is c.in_ok-file.ensures.some in
    (some.0, opened_given name limits some.0 c.in-Open.file some.1 (opened_view c.in_ok-judge-in-Open.field-0) c.in_ok-judge-in-Open.ensures.told, some.2)
