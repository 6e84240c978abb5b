-- An operation, by the change of a text that it asks for.
use Rattle.std.proofs.Common.{◌≡◌, ℕ, List, refl}
use Rattle.ew_model.specs.declared.event.Op.{Op}
use Rattle.ew_model.specs.declared.event.Op.TheVariants.{Ins, Del, Mark}
use Rattle.ew_model.specs.declared.text_op.TextOp.TheVariants as change
use Rattle.ew_model.specs.TextLaws.{own_change}

pub asks_insertion : (op : Op) (at ch : ℕ) → own_change op ≡ change.Ins at ch → op ≡ Ins at ch
asks_insertion (Ins to c) at ch is = cc
asks_insertion (Del to) at ch is = cc
asks_insertion (Mark label) at ch is = cc

pub asks_deletion : (op : Op) (at : ℕ) → own_change op ≡ change.Del at → op ≡ Del at
asks_deletion (Ins to c) at is = cc
asks_deletion (Del to) at is = cc
asks_deletion (Mark label) at is = cc

pub asks_nothing : (op : Op) → own_change op ≡ change.Nothing → (label : List ℕ) × (op ≡ Mark label)
asks_nothing (Ins to c) is = let no : ⊥ = cc in absurd no
asks_nothing (Del to) is = let no : ⊥ = cc in absurd no
asks_nothing (Mark label) is = (label, refl)
