use Rattle.std.proofs.Common.{◌≡◌, ℕ, List, [], ◌-◌}
use Rattle.std.specs.List.{list_any}
use Rattle.std.specs.BTreeSet.{contains}
use Rattle.std.specs.Cmp.Lexicographic.{slice_cmp}
use Rattle.std.specs.Ordering.{nat_cmp}
use Rattle.ew_model.specs.Ids.{name_eq}
use Rattle.ew_model.specs.Distinct.{AreDistinct}
use Rattle.file_words.specs.FileFaults.{read_names}
use Rattle.event_file.proofs.names.read_names.Given as goal

abbrev pub invariant-loop : goal.invariant-loop
invariant-loop l = record {
  so_far : read_names l.names.items (l.count - l.counter) l.input.left.now ≡ read_names [] l.count l.initial.input.left.now;
  distinct : AreDistinct name_eq l.names.items;
  seen : (x : List ℕ) → contains (slice_cmp nat_cmp) l.seen x ≡ list_any (name_eq x) l.names.items;
}
