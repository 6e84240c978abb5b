use Rattle.std.proofs.Common.{◌≡◌, ◌++◌, true, length}
use Rattle.std.specs.List.{AllByRecursion}
use Rattle.file_words.specs.FileFaults.{is_scalar}
use Rattle.event_file.specs.Runs.{numbers_in}
use Rattle.stored_histories.proofs.give.read_characters.Given as goal

abbrev pub invariant-loop-left : goal.invariant-loop-left
invariant-loop-left l = record {
  so_far : numbers_in l.fn.text ≡ l.room.items ++ numbers_in l.left;
  scalars : AllByRecursion (λ ch. is_scalar ch ≡ true) (numbers_in l.left);
}

abbrev pub decreases-loop-left : goal.decreases-loop-left
decreases-loop-left l = length l.left
