-- Nodes with labels.
use Rattle.std.specs.Prelude.{◌≡◌, ℕ, Option, Some, None, IsSome, true, if◌then◌else◌}
use Rattle.ew_model.specs.declared.node.Node.{Node}
use Rattle.fugue_place.specs.Attachments.{node_eq}
use Rattle.character_runs.specs.Kept.{kept_label, label_by, is_up_to}
use Rattle.character_runs.specs.declared.labels.Labels.{Labels}

-- the label of a node
abbrev pub label_of : Labels → Node → Option ℕ
label_of t = label_by t.late (kept_label t.kept)

-- the label is that of the last node up to this one
pub record IsLast (t : Labels) (v : Node) (label : ℕ) : Type 0 where
  pub node : Node
  pub before : is_up_to node v ≡ true
  pub has : label_of t node ≡ Some label
  pub last : (w : Node) → is_up_to w v ≡ true → IsSome (label_of t w) → is_up_to w node ≡ true

-- the label of each node after one of them got this one, or was left without one, whatever it had had
abbrev pub Sets : Labels → Labels → Node → Option ℕ → Type 0
Sets old new v label = (w : Node) → label_of new w ≡ (if node_eq v w then label else label_of old w)

-- the label of each node after the first of these two was left without one, whether it had one or not, and the second got this one, whatever the first had had
abbrev pub GoesOver : Labels → Labels → Node → Node → ℕ → Type 0
GoesOver old new from to label = (w : Node) → label_of new w ≡ (if node_eq from w then None else (if node_eq to w then Some label else label_of old w))
