-- Reading parents one after the other.
use Rattle.std.proofs.Common.{◌≡◌, ℕ, zero, suc, ◌+◌, ◌-◌, ◌<◌, ◌≤◌, true, List, [], ◌∷◌, ◌++◌, Result, Ok, refl}
use Rattle.std.specs.Prelude.{slice_get}
use Rattle.ew_model.specs.declared.id.Id.{Id}
use Rattle.ew_model.specs.Ids.{ids_ascend}
use Rattle.file_words.specs.FileFaults as model
use Rattle.file_words.specs.FileFaults.{Reader, number, field, only, go_on, read_parents}
use Rattle.file_words.specs.FileFaults.RecordFault.{ParentPosition, ParentOrder}
use Rattle.file_words.proofs.FileFields.{tested_ok}
use Rattle.event_file.specs.declared.fault.Stop.{Stop}
use Rattle.event_file.specs.Reading.{Stops}
use Rattle.event_file.proofs.Loops.{goes_on, ends, is_done}

abbrev pub one_parent : List Id → List Id → Reader Id
one_parent ids parents = field (field number (slice_get ids) ParentPosition) (only (λ x. ids_ascend (parents ++ x ∷ []))) ParentOrder

parents_step : (ids parents : List Id) (n : ℕ) (bytes : List ℕ) → read_parents ids parents (suc n) bytes ≡ go_on (one_parent ids parents bytes) (λ x. read_parents ids (parents ++ x ∷ []) n)
unfolding read_parents
parents_step ids parents n bytes = refl

parents_last : (ids parents : List Id) (bytes : List ℕ) → read_parents ids parents zero bytes ≡ Ok (parents, bytes)
unfolding read_parents
parents_last ids parents bytes = refl

pub parents_go_on : (ids parents : List Id) (count i : ℕ) (bytes left : List ℕ) (x : Id) (whole : Result (List Id × List ℕ) model.Stop) → i < count → one_parent ids parents bytes ≡ Ok (x, left)
    → read_parents ids parents (count - i) bytes ≡ whole → read_parents ids (parents ++ x ∷ []) (count - (i + 1)) left ≡ whole
parents_go_on ids = goes_on (read_parents ids) (one_parent ids) (parents_step ids) (parents_last ids)

pub parents_end : (ids : List Id) (stop : Stop) (parents : List Id) (count i : ℕ) (bytes : List ℕ) (whole : Result (List Id × List ℕ) model.Stop) → i < count → Stops stop (one_parent ids parents bytes)
    → read_parents ids parents (count - i) bytes ≡ whole → Stops stop whole
parents_end ids = ends (read_parents ids) (one_parent ids) (parents_step ids) (parents_last ids)

pub parents_done : (ids parents : List Id) (count i : ℕ) (bytes : List ℕ) (whole : Result (List Id × List ℕ) model.Stop) → count ≤ i → read_parents ids parents (count - i) bytes ≡ whole → whole ≡ Ok (parents, bytes)
parents_done ids = is_done (read_parents ids) (one_parent ids) (parents_step ids) (parents_last ids)

-- a parent that was read is above those before it
pub parent_ascends : (ids parents : List Id) (bytes left : List ℕ) (x : Id) → one_parent ids parents bytes ≡ Ok (x, left) → ids_ascend (parents ++ x ∷ []) ≡ true
parent_ascends ids parents bytes left x e = (tested_ok (field number (slice_get ids) ParentPosition) (λ y. ids_ascend (parents ++ y ∷ [])) ParentOrder bytes (x, left) e).1
