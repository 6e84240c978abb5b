use Rattle.std.proofs.Common.{subst}
use Rattle.command_table.specs.Loads.{whole}
use Rattle.command_table.specs.Possible.{KeepsTo}
use Rattle.opened_files.specs.Reads.{IsReadAs}
use Rattle.opened_files.proofs.Opening.{loaded_whole}
use Rattle.opened_files.proofs.open.load_events.Goals as goal

pub returns-in_ok-read-in-Whole-clause-some : goal.returns-in_ok-read-in-Whole-clause-some
returns-in_ok-read-in-Whole-clause-some g c =
    let limits = c.args.limits.now in (
      whole c.in-Whole.bytes.items,
      loaded_whole c.args.name.now limits c.in-Whole.bytes.items c.in_ok-read-in-Whole.field-0
          (subst (λ bytes. IsReadAs c.args.name.now limits bytes c.in_ok-read-in-Whole.field-0) c.deref.ensures.value c.in_ok-read-in-Whole.ensures),
      subst (λ most. KeepsTo most (whole c.in-Whole.bytes.items)) c.most_bytes-most.ensures.value (rw c.in-Whole.is at c.in_ok-load_whole.ensures.short),
    )
