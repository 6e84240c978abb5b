-- Lengths of a text, in runs.
use Rattle.std.specs.Prelude.{◌≡◌, ℕ, ◌+◌, ◌-◌, ◌<◌, ◌≤◌, ◌^◌, List, [], ◌∷◌, ◌++◌, map}
use Rattle.std.specs.List.{range_with_len}
use Rattle.ew_model.specs.declared.text_op.TextOp.{TextOp}
use Rattle.ew_model.specs.declared.text_op.TextOp.TheVariants.{Ins, Del, Nothing}
use Rattle.replica.specs.declared.length_runs.Course.{Course}
use Rattle.replica.specs.declared.length_runs.Course.TheVariants.{Rises, Falls, Stays}
use Rattle.replica.specs.declared.length_runs.LengthRun.{LengthRun}

-- how long a text is after so many operations, by its length before them
abbrev pub course_length : Course → ℕ → ℕ → ℕ
course_length Rises before n = before + n
course_length Falls before n = before - n
course_length Stays before n = before

-- how long it is after each of so many operations
abbrev pub course_lengths : Course → ℕ → ℕ → List ℕ
course_lengths course before n = map (course_length course before) (range_with_len 1 n)

-- where the length rises it stays below 2^32, and where it falls it doesn't fall below 0
abbrev pub CourseFits : Course → ℕ → ℕ → Type 0
CourseFits Rises before n = before + n < 2 ^ 32
CourseFits Falls before n = n ≤ before
CourseFits Stays before n = Unit {0}

-- the course that the length of a text takes with an operation
abbrev pub course_of : TextOp → Course
course_of (Ins at ch) = Rises
course_of (Del at) = Falls
course_of Nothing = Stays

-- it takes this course with each of the operations
abbrev pub AllTake : Course → List TextOp → Type 0
AllTake course [] = Unit {0}
AllTake course (op ∷ ops) = (course_of op ≡ course) × AllTake course ops

-- where the lengths of runs begin, by where they end
abbrev pub begin_of : List LengthRun → ℕ → ℕ
begin_of [] end = end
begin_of (r ∷ runs) end = r.start

-- the lengths of runs, by where they end
abbrev pub lengths_in : List LengthRun → ℕ → List ℕ
lengths_in [] end = []
lengths_in (r ∷ runs) end = course_lengths r.course r.before (begin_of runs end - r.start) ++ lengths_in runs end

-- a run that ends here has lengths, and all are numbers of 32 bits
pub record IsLengthRun (r : LengthRun) (end : ℕ) : Type 0 where
  pub some : r.start < end
  pub fits : CourseFits r.course r.before (end - r.start)

-- each of the runs ends where the next one begins, and the last one here
abbrev pub AreInRow : List LengthRun → ℕ → Type 0
AreInRow [] end = Unit {0}
AreInRow (r ∷ runs) end = IsLengthRun r (begin_of runs end) × AreInRow runs end

-- the runs begin with the first length, follow one another without a gap, and have so many lengths in all
pub record AreLengthRuns (runs : List LengthRun) (count : ℕ) : Type 0 where
  pub first : begin_of runs count ≡ 0
  pub row : AreInRow runs count

-- the last of the runs takes this course, and ends at this length
abbrev pub LastEndsAt : List LengthRun → ℕ → Course → ℕ → Type 0
LastEndsAt [] end course length = ⊥
LastEndsAt (r ∷ []) end course length = (r.course ≡ course) × (course_length course r.before (end - r.start) ≡ length)
LastEndsAt (r ∷ s ∷ runs) end course length = LastEndsAt (s ∷ runs) end course length

-- the runs have so many lengths more behind their own, on this course
pub record AreGrown (old new : List LengthRun) (end : ℕ) (course : Course) (before many : ℕ) : Type 0 where
  pub lengths : lengths_in new (end + many) ≡ lengths_in old end ++ course_lengths course before many
  pub runs : AreLengthRuns new (end + many)
