-- What is proved of texts: histories with the same events agree, an index means what the author saw, and operations make
-- the text.
use Rattle.std.specs.Prelude.{◌≡◌, ℕ, ◌<◌, ◌≤◌, List, [], ◌∷◌, ◌++◌, length}
use Rattle.ew_model.specs.declared.id.Id.{Id}
use Rattle.ew_model.specs.declared.event.Op.{Op}
use Rattle.ew_model.specs.declared.event.Op.TheVariants as op
use Rattle.ew_model.specs.declared.event.Event.{Event}
use Rattle.ew_model.specs.declared.text_op.TextOp.{TextOp}
use Rattle.ew_model.specs.declared.text_op.TextOp.TheVariants.{Ins, Del, Nothing}
use Rattle.ew_model.specs.Sets.{SameElements}
use Rattle.ew_model.specs.Ancestors.{version_events, heads}
use Rattle.ew_model.specs.Tree.{tree}
use Rattle.ew_model.specs.Texts.{text_at, text_of}
use Rattle.ew_model.specs.Verdicts.{IsGood}
use Rattle.ew_model.specs.Operations.{operations, changed_by, changed_by_all}

-- an event's operation, as a change of the text at its parents
abbrev pub own_change : Op → TextOp
own_change (op.Ins at ch) = Ins at ch
own_change (op.Del at) = Del at
own_change (op.Mark label) = Nothing

-- An index is meant in the text at the event's parents: the text of the version that ends with the event is that text
-- with the event's own change.
abbrev pub EventsMeanTheirIndex : Type 0
EventsMeanTheirIndex = (history : List Event) (e : Event) → IsGood (history ++ e ∷ [])
    → text_at (history ++ e ∷ []) (e.id ∷ []) ≡ changed_by (own_change e.op) (text_at history e.parents)

-- good histories with the same events have the same entries, and the same text at every version
pub record AgreeOnTexts (xs ys : List Event) : Type 0 where
  pub entries : SameElements (tree xs) (tree ys)
  pub versions : (version : List Id) → text_at xs version ≡ text_at ys version
  pub whole : text_of xs ≡ text_of ys

abbrev pub EqualSetsAgree : Type 0
EqualSetsAgree = (xs ys : List Event) → IsGood xs → IsGood ys → SameElements xs ys → AgreeOnTexts xs ys

-- the text of a good history is what its operations make of the empty text
abbrev pub OperationsMakeText : Type 0
OperationsMakeText = (history : List Event) → IsGood history → text_of history ≡ changed_by_all (operations history) []

-- the operation may be done to a text of this length
abbrev pub Fits : ℕ → TextOp → Type 0
Fits len (Ins at ch) = at ≤ len
Fits len (Del at) = at < len
Fits len Nothing = Unit {0}

-- each of the operations may be done to the text that those before it leave
abbrev pub AllFit : List ℕ → List TextOp → Type 0
AllFit text [] = Unit {0}
AllFit text (x ∷ ops) = Fits (length text) x × AllFit (changed_by x text) ops

-- each operation of a good history is in range where it is done
abbrev pub OperationsFit : Type 0
OperationsFit = (history : List Event) → IsGood history → AllFit [] (operations history)

-- the version of the heads is the whole history
abbrev pub HeadsHoldAll : Type 0
HeadsHoldAll = (history : List Event) → IsGood history
    → (version_events history (heads history) ≡ history) × (text_at history (heads history) ≡ text_of history)
