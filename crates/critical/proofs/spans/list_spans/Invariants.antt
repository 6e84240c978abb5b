use Rattle.std.proofs.Common.{◌≡◌, ◌++◌, take}
use Rattle.critical.specs.Spans.{cuts_in}
use Rattle.critical.proofs.spans.list_spans.Given as goal

abbrev pub invariant-loop-span : goal.invariant-loop-span
invariant-loop-span l = l.numbers.items ≡ l.initial.numbers.items ++ cuts_in (take l.span-index l.spans)
