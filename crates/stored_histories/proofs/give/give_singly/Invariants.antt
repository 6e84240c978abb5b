use Rattle.std.proofs.Common.{◌≡◌, ◌≤◌}
use Rattle.file_words.specs.FileFaults.{FileFinding}
use Rattle.stored_histories.specs.Giving.{HasGivenLast}
use Rattle.stored_histories.proofs.give.give_singly.Given as goal

abbrev pub invariant-loop-op : goal.invariant-loop-op
invariant-loop-op l = record {
  limits : l.given.limits ≡ l.initial.given.limits;
  fewer : l.reader.records ≤ l.initial.reader.records;
  given : (found : FileFinding) → HasGivenLast found l.initial.given l.initial.reader l.initial.given.limits.events → HasGivenLast found l.given l.reader l.initial.given.limits.events;
}

abbrev pub decreases-loop-op : goal.decreases-loop-op
decreases-loop-op l = l.reader.records
