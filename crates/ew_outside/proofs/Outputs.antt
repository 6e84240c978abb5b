-- Lemmas on outputs that are written whole.
use Rattle.std.proofs.Common.{◌≡◌, ℕ, ◌+◌, ◌-◌, List, ◌++◌, length, take, drop, sym, subst, Option, Result, Ok, Err, take_all, arith}
use Rattle.std.proofs.lemmas.List.{take_rest}
use Rattle.std.proofs.Math.Seq.{take-add, take-append-add}
use Rattle.std.specs.Io.KnownBytes.{Appends}
use Rattle.std.proofs.KnownBytes.{Appends-trans}
use Rattle.ew_outside.specs.Outputs.{Takes}
use Rattle.ew_outside.specs.Outputs.{GrowsByFront}

-- a front was taken, and then a front of the rest
pub Appends-take : (a b c : Option (List ℕ)) (done n : ℕ) (bytes : List ℕ) → Appends a b (take done bytes) → Appends b c (take n (take (length bytes - done) (drop done bytes)))
    → Appends a c (take (done + n) bytes)
Appends-take a b c done n bytes first second =
    let rest = subst (λ l. Appends b c (take n l)) (take_rest bytes done) second in
    subst (Appends a c) (sym (take-add done n bytes)) (Appends-trans a b c (take done bytes) (take n (drop done bytes)) first rest)

-- all was taken, and nothing more
pub Takes-all : {T E : Type 0} (a b c : Option (List ℕ)) (bytes : List ℕ) (r : Result T E) → Appends a b bytes → c ≡ b → Takes a c bytes r
Takes-all a b c bytes (Ok _) all same = subst (λ x. Appends a x bytes) (sym same) all
Takes-all a b c bytes (Err _) all same =
    (length bytes, subst (Appends a c) (sym (take_all (length bytes) bytes (omega arith))) (subst (λ x. Appends a x bytes) (sym same) all))

-- a front is all of it
pub front_of_all : (a b : Option (List ℕ)) (bytes : List ℕ) → Appends a b bytes → GrowsByFront a b bytes
front_of_all a b bytes all = (length bytes, subst (Appends a b) (sym (take_all (length bytes) bytes (omega arith))) all)

-- all of one piece, and a front of the next
pub then_front : (a b c : Option (List ℕ)) (first second : List ℕ) → Appends a b first → GrowsByFront b c second → GrowsByFront a c (first ++ second)
then_front a b c first second all (n, front) = (length first + n, subst (Appends a c) (sym (take-append-add first second n)) (Appends-trans a b c first (take n second) all front))
