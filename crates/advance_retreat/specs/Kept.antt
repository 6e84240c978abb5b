-- What a state keeps: a record for each character, in order, and which character each event is about: a mark is about none, and the root stands in its place.
use Rattle.std.specs.Prelude.{◌≡◌, ℕ, zero, suc, ◌+◌, ◌<◌, ◌≤◌, nat_eq, List, [], ◌∷◌, ◌++◌, map, find, Option, Some, option_map}
use Rattle.std.specs.List.{range_with_len}
use Rattle.ew_model.specs.declared.node.Node.{Node}
use Rattle.ew_model.specs.declared.node.Node.TheVariants.{Root, Event}
use Rattle.walker_record.specs.Stretches.{Stretch, node_on}
use Rattle.fugue_place.specs.declared.child.Attached.{Attached}
use Rattle.character_runs.specs.declared.change.Change.TheVariants.{Strike}
use Rattle.character_runs.specs.declared.change.Positions.{Positions}
use Rattle.character_runs.specs.States.{changed_at}
use Rattle.advance_retreat.specs.declared.target.Target.{Target}

-- the number of base characters, the records, the children of the tree's nodes, the characters that events are about, and
-- how many applies were refused for want of memory
pub record Kept : Type 0 where
  pub base : ℕ
  pub records : List Stretch
  pub attached : List Attached
  pub targets : List Target
  pub lost : ℕ

-- the same but for the number of refused applies
abbrev pub with_lost : Kept → ℕ → Kept
with_lost s n = record { base = s.base; records = s.records; attached = s.attached; targets = s.targets; lost = n }

-- the character that the event at a position is about
abbrev pub target_at : List Target → ℕ → Option Node
target_at targets n = option_map (λ (t : Target). t.node) (find (λ (t : Target). nat_eq t.lv n) targets)

-- a search finds what the list tells
abbrev pub AreFound : List Target → (ℕ → Option Node) → Type 0
AreFound targets node_at = (n : ℕ) → node_at n ≡ target_at targets n

-- each event that a search finds is at one of these positions
abbrev pub AreWithin : Positions → (ℕ → Option Node) → Type 0
AreWithin at node_at = (n : ℕ) (v : Node) → node_at n ≡ Some v → (at.from ≤ n) × (n < at.to)

-- the same but that the event at this position, the latest, is a mark
abbrev pub with_mark : Kept → ℕ → Kept
with_mark s lv = record {
  base = s.base;
  records = s.records;
  attached = s.attached;
  targets = s.targets ++ record { lv = lv; node = Root } ∷ [];
  lost = s.lost;
}

-- the same but that the event at this position, the latest, deletes the character
abbrev pub with_deletion : Kept → ℕ → Node → Kept
with_deletion s lv v = record {
  base = s.base;
  records = map (changed_at v Strike) s.records;
  attached = s.attached;
  targets = s.targets ++ record { lv = lv; node = v } ∷ [];
  lost = s.lost;
}

-- the same but that so many events from this position on, the latest, delete characters: the first the node's, each further one that of the next node
abbrev pub with_deletions : Kept → ℕ → Node → ℕ → Kept
with_deletions s lv v zero = s
with_deletions s lv v (suc n) = with_deletion (with_deletions s lv v n) (lv + n) (node_on v n)

-- what the event so many places behind a position is about: the character of the node so many places on
abbrev pub deletion_target : ℕ → Node → ℕ → Target
deletion_target lv v k = record { lv = lv + k; node = node_on v k }

-- what each of so many events from the position on is about: the characters of the nodes from this one on
abbrev pub deletion_targets : ℕ → Node → ℕ → List Target
deletion_targets lv v n = map (deletion_target lv v) (range_with_len 0 n)

-- what the event so many places and one more behind a position is about: the character that it inserted
abbrev pub typed_target : ℕ → ℕ → Target
typed_target position k = record { lv = position + k + 1; node = Event (position + k + 1) }

-- what each of so many events right behind the position is about
abbrev pub typed_targets : ℕ → ℕ → List Target
typed_targets position n = map (typed_target position) (range_with_len 0 n)
