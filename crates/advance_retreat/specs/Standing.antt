-- What a state stands for: a base, the events applied over it since, each with what was prepared then, and what is prepared now.
use Rattle.std.specs.Prelude.{◌≡◌, ℕ, ◌≤◌, ◌^◌, nat_eq, true, if◌then◌else◌, List, [], ◌∷◌, map, length}
use Rattle.std.specs.List.{list_any}
use Rattle.ew_model.specs.declared.id.Id.{Id}
use Rattle.ew_model.specs.declared.node.Node.{Node}
use Rattle.ew_model.specs.declared.node.Node.TheVariants.{Root, Base, Event}
use Rattle.ew_model.specs.Sets.{Among}
use Rattle.ew_model.specs.Entries.{Inserted, Entry, visible}
use Rattle.ew_model.specs.Entries.Entry.{Insertion, Deletion, Mark}
use Rattle.ew_model.specs.Tree.{Applied, Noted, tree_of}
use Rattle.ew_model.specs.Records.{Record, IsRun, IsClosed, holds, inserts, walker_records, applied_entries}
use Rattle.walker_record.specs.Stretches.{Stretch}
use Rattle.fugue_place.specs.declared.child.Attached.{Attached}
use Rattle.fugue_place.specs.Attachments.{is_attached, path_of, AreAttached}
use Rattle.fugue_place.specs.Subtrees.{HasBase}
use Rattle.advance_retreat.specs.declared.target.Target.{Target}
use Rattle.advance_retreat.specs.Kept.{Kept}
use Rattle.character_runs.specs.States.{single}

-- no base, history or text has more
abbrev pub most : ℕ
most = 2 ^ 24

-- the node of the event that inserts under the id
abbrev pub event_of : List (Noted ℕ) → Id → Node
event_of [] x = Root
event_of (n ∷ notes) x = if inserts x n.entry then Event n.name else event_of notes x

-- the node with the id: a base character's has no agent
abbrev pub base_or : List ℕ → ℕ → Node → Node
base_or [] n v = Base n
base_or (c ∷ cs) n v = v

abbrev pub node_of : List (Noted ℕ) → Id → Node
node_of notes x = base_or x.agent x.seq (event_of notes x)

-- a character's record, as it is kept
abbrev pub kept_record : List (Noted ℕ) → Record → Stretch
kept_record notes r = single (node_of notes r.node.id) r.prepared r.effect

-- the node of the character that an entry is about; a mark is about none, and the root stands in its place
abbrev pub about : List (Noted ℕ) → Entry → Node
about notes (Insertion y) = node_of notes y.id
about notes (Deletion target) = node_of notes target
about notes Mark = Root

abbrev pub kept_target : List (Noted ℕ) → Noted ℕ → Target
kept_target notes n = record { lv = n.name; node = about notes n.entry }

-- the event's position is one of these events'
abbrev pub is_applied : List (Applied ℕ) → ℕ → Type 0
is_applied events n = list_any (λ (c : Applied ℕ). nat_eq c.name n) events ≡ true

-- The nodes of the tree's events are the attached ones, at their paths, and none hangs on a further base character.
pub record AreChildren (b : ℕ) (notes : List (Noted ℕ)) (attached : List Attached) : Type 0 where
  pub sound : AreAttached [] attached
  pub paths : (n : Noted ℕ) (y : Inserted) → Among n notes → n.entry ≡ Insertion y → path_of attached (Event n.name) ≡ y.path
  pub there : (n : Noted ℕ) (y : Inserted) → Among n notes → n.entry ≡ Insertion y → is_attached attached (Event n.name) ≡ true
  pub only : (a : Attached) → Among a attached → (n : Noted ℕ) × Among n notes × (a.node ≡ Event n.name) × (inserts a.id n.entry ≡ true)
  pub enough : HasBase attached b

-- What is kept stands for a base of b characters, the events applied over it, and what is prepared, which is a part of them.
-- Each of the events was in range.
pub record StandsFor (s : Kept) (b : ℕ) (events : List (Applied ℕ)) (prepared : List ℕ) : Type 0 where
  pub run : IsRun [] events
  pub closed : IsClosed events prepared
  pub part : (n : ℕ) → holds prepared n ≡ true → is_applied events n
  pub placed : map (λ (n : Noted ℕ). n.name) (tree_of nat_eq b events) ≡ map (λ (c : Applied ℕ). c.name) events
  pub base : s.base ≡ b
  pub records : s.records ≡ map (kept_record (tree_of nat_eq b events)) (walker_records b events prepared)
  pub children : AreChildren b (tree_of nat_eq b events) s.attached
  pub targets : s.targets ≡ map (kept_target (tree_of nat_eq b events)) (tree_of nat_eq b events)
  pub short_base : b ≤ most
  pub short_history : length events ≤ most
  pub short_text : length (visible (applied_entries b events)) ≤ most
