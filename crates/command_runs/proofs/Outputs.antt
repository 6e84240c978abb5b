-- Lemmas on outputs that are written whole.
use Rattle.std.proofs.Common.{ℕ, List, Option, Result, Ok, Err, arith}
use Rattle.ew_outside.specs.Outputs.{Takes}
use Rattle.ew_outside.proofs.Outputs.{front_of_all}
use Rattle.ew_outside.specs.Outputs.{Tells}
use Rattle.ew_outside.specs.Counts.{Counts}

-- what writing a text tells
pub tells : {T E : Type 0} (a b : Option (List ℕ)) (m n : ℕ) (text : List ℕ) (r : Result T E) → Takes a b text r → Counts m n r → Tells a b m n text
tells a b m n text (Ok _) bytes count = record {
  later = omega arith;
  front = front_of_all a b text bytes;
  whole = λ _. bytes;
}
tells a b m n text (Err _) bytes count = record {
  later = count.0;
  front = bytes;
  whole = λ quiet. absurd (omega (arith, quiet.0, quiet.1, count.1));
}
