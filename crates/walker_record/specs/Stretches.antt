-- Runs of nodes, as records keep them.
use Rattle.std.specs.Prelude.{ℕ, zero, suc, ◌+◌, ◌-◌, ◌≤◌, ◌^◌, nat_eq, nat_lt, Bool, true, false, not, ◌&&◌, if◌then◌else◌, List, [], ◌∷◌}
use Rattle.ew_model.specs.declared.node.Node.{Node}
use Rattle.ew_model.specs.declared.node.Node.TheVariants.{Root, Base, Event}
use Rattle.ew_model.specs.Runs.{NodeState}

-- nodes that follow one another from this one on, alike in their states
pub record Stretch : Type 0 where
  pub from : Node
  pub len : ℕ
  pub prepared : ℕ
  pub effect : Bool

-- the node so many places on, among the base characters or among the events
abbrev pub node_on : Node → ℕ → Node
node_on Root n = Root
node_on (Base i) n = Base (i + n)
node_on (Event i) n = Event (i + n)

-- the other node is that one, both of the base or both of events
abbrev pub is_node_on : Node → ℕ → Node → Bool
is_node_on Root n other = false
is_node_on (Base i) n Root = false
is_node_on (Base i) n (Base j) = nat_eq j (i + n)
is_node_on (Base i) n (Event j) = false
is_node_on (Event i) n Root = false
is_node_on (Event i) n (Base j) = false
is_node_on (Event i) n (Event j) = nat_eq j (i + n)

-- the node is a base character or an event's, and so many nodes from it on have numbers below 2 ^ 32
abbrev pub HasNumbers : Node → ℕ → Type 0
HasNumbers Root n = ⊥
HasNumbers (Base i) n = i + n ≤ 2 ^ 32
HasNumbers (Event i) n = i + n ≤ 2 ^ 32

-- so many characters from the node on, all in these states
abbrev pub states_from : Node → ℕ → ℕ → Bool → List NodeState
states_from node zero prepared effect = []
states_from node (suc n) prepared effect = record { node = node; prepared = prepared; effect = effect } ∷ states_from (node_on node 1) n prepared effect

-- the characters of a stretch
abbrev pub chars_of : Stretch → List NodeState
chars_of s = states_from s.from s.len s.prepared s.effect

-- how many of them are inserted in what is prepared, how many of those aren't deleted there, and how many are in the text
abbrev pub known_of : Stretch → ℕ
known_of s = if nat_lt 0 s.prepared then s.len else 0

abbrev pub prepared_of : Stretch → ℕ
prepared_of s = if nat_eq s.prepared 1 then s.len else 0

abbrev pub effect_of : Stretch → ℕ
effect_of s = if s.effect then s.len else 0

abbrev pub same_bool : Bool → Bool → Bool
same_bool true b = b
same_bool false b = not b

-- the second goes on where the first ends, in the same states
abbrev pub is_continued : Stretch → Stretch → Bool
is_continued s t = nat_eq s.prepared t.prepared && same_bool s.effect t.effect && is_node_on s.from s.len t.from

-- the stretch of both
abbrev pub joined_of : Stretch → Stretch → Stretch
joined_of s t = record { from = s.from; len = s.len + t.len; prepared = s.prepared; effect = s.effect }

-- a stretch cut behind so many characters: these, and the others
abbrev pub first_part : Stretch → ℕ → Stretch
first_part s at = record { from = s.from; len = at; prepared = s.prepared; effect = s.effect }

abbrev pub second_part : Stretch → ℕ → Stretch
second_part s at = record { from = node_on s.from at; len = s.len - at; prepared = s.prepared; effect = s.effect }
