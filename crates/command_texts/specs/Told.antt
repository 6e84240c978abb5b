-- What is told of received events.
use Rattle.std.specs.Prelude.{ℕ, List, length}
use Rattle.replica.specs.declared.took.Took.{Took}
use Rattle.command_table.specs.Text.{received_text}

-- how many events were appended, wait, were there before and were refused, and the cut
abbrev pub took_text : Took → List ℕ
took_text took = received_text took.accepted took.waiting took.repeats (length took.refused.items) took.cut
