use Rattle.std.proofs.Common.{sym, ap, ◌∙◌}
use Rattle.std.specs.Ordering.{is_lt}
use Rattle.event_file.proofs.Indexes.{above_last}
use Rattle.event_file.proofs.progress.is_above.Goals as goal

pub returns-in-Some : goal.returns-in-Some
returns-in-Some c = c.is_lt.ensures ∙ ap is_lt c.cmp.ensures ∙ sym (above_last c.args.parents.now c.args.id.now c.in-Some.last.now c.requires (sym c.in-Some.ensures.value))
