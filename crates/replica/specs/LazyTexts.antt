-- A text that is made when it is asked for. (No public contract cites this.)
use Rattle.std.specs.Prelude.{◌≡◌, ⊤, ℕ, Bool, true, false, if◌then◌else◌, List, [], ◌++◌, length, Option, None, Some}
use Rattle.ew_model.specs.declared.text_op.TextOp.{TextOp}
use Rattle.ew_model.specs.Operations.{changed_by_all}
use Rattle.ew_model.specs.TextLaws.{AllFit}
use Rattle.rope.specs.Lengths.{AllStayShort}
use Rattle.replica.specs.declared.lazy_text.Form.{Form}
use Rattle.replica.specs.declared.lazy_text.Form.TheVariants.{Made, Told}

-- a text, the operations that it was told by, as long as nothing else came behind them, and whether it is made
pub record ToldText : Type 0 where
  pub characters : List ℕ
  pub told : Option (List TextOp)
  pub made : Bool

-- the characters, or those that the operations and what came behind them leave of none
abbrev pub characters_of : Form → List ℕ
characters_of (Made rope) = rope.chars
characters_of (Told ops more len grown) = changed_by_all (ops ++ more.items) []

-- the operations that it was told by
abbrev pub told_of : Form → Option (List TextOp)
told_of (Made rope) = None
told_of (Told ops more len grown) = if grown then None else Some ops

-- whether the text is made
abbrev pub is_made : Form → Bool
is_made (Made rope) = true
is_made (Told ops more len grown) = false

-- the operations, and then what came behind them, may be done to the empty text, and leave so many characters
abbrev pub IsTellable : Form → Type 0
IsTellable (Made rope) = ⊤
IsTellable (Told ops more len grown) = AllFit [] (ops ++ more.items) × AllStayShort [] (ops ++ more.items) × (len ≡ length (changed_by_all (ops ++ more.items) []))
