-- Numbers that are answered where a test holds.
use Rattle.std.proofs.Common.{ℕ, Bool, true, false, Option, Some, None, refl}
use Rattle.std.specs.Bool.{then_some}
use Rattle.std.specs.Prelude.{IfSome, IfNone, IsTrue}
use Rattle.std.proofs.lemmas.Bool.{false≢true}

-- what is known where the test holds
pub some_where : (b : Bool) (n : ℕ) (P : ℕ → Type 0) → (IsTrue b → P n) → IfSome (then_some b n) P
some_where true n P h = h refl
some_where false n P h = tt

-- and where it doesn't
pub none_where : (b : Bool) (n : ℕ) (P : Type 0) → (P → IsTrue b) → IfNone (then_some b n) (P → ⊥)
none_where true n P h = tt
none_where false n P h = λ p. false≢true (h p)

-- what follows for a number that is answered
pub some_so : (o : Option ℕ) (P Q : ℕ → Type 0) → ((n : ℕ) → P n → Q n) → IfSome o P → IfSome o Q
some_so None P Q h p = tt
some_so (Some n) P Q h p = h n p

-- and where none is
pub none_so : (o : Option ℕ) (P Q : Type 0) → (Q → P) → IfNone o (P → ⊥) → IfNone o (Q → ⊥)
none_so None P Q h p = λ q. p (h q)
none_so (Some n) P Q h p = tt
