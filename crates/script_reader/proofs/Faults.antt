-- What a fault says of the bytes.
use Rattle.std.proofs.Common.{◌≡◌, ℕ, List, Result, Err, IsOkUnless, refl, sym, subst}
use Rattle.ew_model.specs.Scripts.{Numbered, LinesMean, IsFirstUnreadable, lines_of}
use Rattle.ew_model.proofs.LineLaws.{all_readable}
use Rattle.script_reader.specs.declared.script.ScriptFault.{ScriptFault}
use Rattle.script_reader.specs.declared.script.ScriptFault.TheVariants.{BadLine, OutOfMemory}

-- bytes whose lines mean something are refused for want of memory alone
pub memory_alone : {A T : Type 0} (Means : List ℕ → A → Type 0) (bytes : List ℕ) (r : Result T ScriptFault) (fault : ScriptFault) → r ≡ Err fault
    → ((k : ℕ) → fault ≡ BadLine k → IsFirstUnreadable Means 1 (lines_of bytes) k) → (items : List (Numbered A)) → LinesMean Means 1 (lines_of bytes) items → IsOkUnless r OutOfMemory
memory_alone Means bytes r (BadLine k) e bad items mean = absurd (all_readable Means 1 (lines_of bytes) items k mean (bad k refl))
memory_alone Means bytes r OutOfMemory e bad items mean = subst (λ x. IsOkUnless x OutOfMemory) (sym e) refl
