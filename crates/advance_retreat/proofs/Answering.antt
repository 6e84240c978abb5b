-- What an answer tells.
use Rattle.std.proofs.Common.{◌≡◌, ℕ, List, Some, option_map, slice_get, Result, Ok, Err, sym, ap, ◌∙◌, subst}
use Rattle.ew_model.specs.declared.text_op.TextOp.{TextOp}
use Rattle.advance_retreat.specs.declared.fault.ApplyFault.{ApplyFault}
use Rattle.advance_retreat.specs.declared.fault.ApplyFault.TheVariants.{OutOfRange, OutOfMemory}

-- what is read at a place
pub read_at : {X Y : Type 0} (f : X → Y) (xs : List X) (k : ℕ) (x : X) (y : Y) → slice_get xs k ≡ Some x → option_map f (slice_get xs k) ≡ Some y → y ≡ f x
read_at f xs k x y e h = same (sym h ∙ ap (option_map f) e)
  where
    same : Some y ≡ Some (f x) → y ≡ f x
    same k = cc

same_length : (m n : ℕ) → ◌≡◌ {A = Result TextOp ApplyFault} (Err (OutOfRange m)) (Err (OutOfRange n)) → m ≡ n
same_length m n e = cc

-- out of range is answered exactly with the length, where the index is past it
pub refused : (m len : ℕ) → m ≡ len → (P : ℕ → Type 0) → P len → (n : ℕ) → ((◌≡◌ {A = Result TextOp ApplyFault} (Err (OutOfRange m)) (Err (OutOfRange n)) → (n ≡ len) × P n) × ((n ≡ len) × P n → ◌≡◌ {A = Result TextOp ApplyFault} (Err (OutOfRange m)) (Err (OutOfRange n))))
refused m len is P past n = (
  λ e. let own : n ≡ len = sym (same_length m n e) ∙ is in (own, subst P (sym own) past),
  λ h. ap (λ k. Err (OutOfRange k)) (is ∙ sym h.0),
)

not_so : (n : ℕ) → ◌≡◌ {A = Result TextOp ApplyFault} (Err OutOfMemory) (Err (OutOfRange n)) → ⊥
not_so n e = cc

nor_so : (op : TextOp) (n : ℕ) → ◌≡◌ {A = Result TextOp ApplyFault} (Ok op) (Err (OutOfRange n)) → ⊥
nor_so op n e = cc

pub not_refused : (answer : Result TextOp ApplyFault) → answer ≡ Err OutOfMemory → (n len : ℕ) (Past : Type 0) → (n ≡ len → Past → ⊥) → (answer ≡ Err (OutOfRange n) → (n ≡ len) × Past) × ((n ≡ len) × Past → answer ≡ Err (OutOfRange n))
not_refused answer is n len Past never = (λ e. absurd (not_so n (sym is ∙ e)), λ h. absurd (never h.0 h.1))

pub answered : (op : TextOp) (n len : ℕ) (Past : Type 0) → (n ≡ len → Past → ⊥)
    → (◌≡◌ {A = Result TextOp ApplyFault} (Ok op) (Err (OutOfRange n)) → (n ≡ len) × Past) × ((n ≡ len) × Past → ◌≡◌ {A = Result TextOp ApplyFault} (Ok op) (Err (OutOfRange n)))
answered op n len Past never = (λ e. absurd (nor_so op n e), λ h. absurd (never h.0 h.1))
