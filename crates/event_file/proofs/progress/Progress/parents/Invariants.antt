use Rattle.std.proofs.Common.{◌≡◌, [], true, ◌-◌}
use Rattle.ew_model.specs.Ids.{ids_ascend}
use Rattle.ew_model.specs.Ancestors.{ids_of}
use Rattle.file_words.specs.FileFaults.{read_parents}
use Rattle.event_file.proofs.progress.Progress.parents.Given as goal

abbrev pub invariant-loop : goal.invariant-loop
invariant-loop l = record {
  so_far : read_parents (ids_of l.self.events) l.parents.items (l.count - l.counter) l.input.left.now ≡ read_parents (ids_of l.self.events) [] l.count l.initial.input.left.now;
  ascend : ids_ascend l.parents.items ≡ true;
}
