-- Which counts of faults moved in a run.
use Rattle.std.proofs.Common.{◌≡◌, ◌≤◌, ℕ, arith}
use Rattle.ew_outside.specs.Counts.{Rose, IsQuiet}
use Rattle.command_table.specs.Seen.{Seen, Object, shelf, disk, source, sink, faults_of}

-- no count of a fault moved
pub record Calm (old new : Seen) : Type 0 where
  pub shelf_same : new.shelf.faults ≡ old.shelf.faults
  pub disk_same : new.disk.faults ≡ old.disk.faults
  pub source_same : new.input.faults ≡ old.input.faults
  pub sink_same : new.out.faults ≡ old.out.faults

-- one object's count rose, and no other
pub record Struck (object : Object) (old new : Seen) : Type 0 where
  pub rose : Rose (faults_of object old) (faults_of object new)
  pub later : (other : Object) → faults_of other old ≤ faults_of other new
  pub others : (other : Object) → (other ≡ object → ⊥) → faults_of other new ≡ faults_of other old

pub calm_object : (old new : Seen) → Calm old new → (object : Object) → faults_of object new ≡ faults_of object old
calm_object old new calm shelf = calm.shelf_same
calm_object old new calm disk = calm.disk_same
calm_object old new calm source = calm.source_same
calm_object old new calm sink = calm.sink_same

-- a count that is quiet hasn't risen
pub quiet_not_rose : (m n : ℕ) → IsQuiet m n → Rose m n → ⊥
quiet_not_rose m n quiet rose = omega (arith, quiet.0, quiet.1, rose)
