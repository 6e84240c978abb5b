use Rattle.std.proofs.Common.{sym, ap, ◌∙◌}
use Rattle.std.specs.Ordering.{is_lt}
use Rattle.peer_frames.proofs.Ascending.{above_last}
use Rattle.peer_frames.proofs.reading.is_above.Goals as goal

pub returns-in-Some : goal.returns-in-Some
returns-in-Some c = c.is_lt.ensures ∙ ap is_lt (c.cmp.ensures) ∙ sym (above_last c.args.before.now c.args.agent.now c.in-Some.field-0.now c.requires (sym c.in-Some.ensures.value))
