-- Nodes with labels in two maps.
use Rattle.std.specs.Prelude.{◌≡◌, ℕ, Option, Some, None, IsSome, nat_le, Bool, true, false, if◌then◌else◌}
use Rattle.ew_model.specs.declared.node.Node.{Node}
use Rattle.ew_model.specs.declared.node.Node.TheVariants.{Root, Base, Event}
use Rattle.fugue_place.specs.Attachments.{node_eq}
use Rattle.predecessor_map.specs.Maps.{label_at}
use Rattle.character_runs.specs.declared.kept.Kept.{Kept}
use Rattle.character_runs.specs.declared.kept.Tag.{Tag}

-- the label that the maps have for a node
abbrev pub kept_label : Kept → Node → Option ℕ
kept_label t Root = None
kept_label t (Base i) = label_at t.base i
kept_label t (Event i) = label_at t.events i

-- the node of the same kind with this number
abbrev pub numbered : Node → ℕ → Node
numbered Root n = Root
numbered (Base i) n = Base n
numbered (Event i) n = Event n

-- the first node is one of those up to the second: both of the base or both of events
abbrev pub is_up_to : Node → Node → Bool
is_up_to Root v = false
is_up_to (Base i) Root = false
is_up_to (Base i) (Base j) = nat_le i j
is_up_to (Base i) (Event j) = false
is_up_to (Event i) Root = false
is_up_to (Event i) (Base j) = false
is_up_to (Event i) (Event j) = nat_le i j

-- the node with its label is the last that has one up to this one
pub record IsLastOf (has : Node → Option ℕ) (v : Node) (tag : Tag) : Type 0 where
  pub before : is_up_to tag.node v ≡ true
  pub here : has tag.node ≡ Some tag.label
  pub last : (w : Node) → is_up_to w v ≡ true → IsSome (has w) → is_up_to w tag.node ≡ true

-- the last node up to this one that has a label, with that, or none where no such node has one
abbrev pub AreLastOf : (Node → Option ℕ) → Node → Option Tag → Type 0
AreLastOf has v None = (w : Node) → is_up_to w v ≡ true → has w ≡ None
AreLastOf has v (Some tag) = IsLastOf has v tag

-- whether the node is the tagged one
abbrev pub is_tagged : Option Tag → Node → Bool
is_tagged None v = false
is_tagged (Some tag) v = node_eq tag.node v

-- the label of a node: its tag's, where it has that, or else the one that it has without it
abbrev pub label_by : Option Tag → (Node → Option ℕ) → Node → Option ℕ
label_by None has v = has v
label_by (Some tag) has v = if node_eq tag.node v then Some tag.label else has v

-- the label in the maps of each node after one of them got this one, or was left without one
abbrev pub Keeps : Kept → Kept → Node → Option ℕ → Type 0
Keeps old new v label = (w : Node) → kept_label new w ≡ (if node_eq v w then label else kept_label old w)
