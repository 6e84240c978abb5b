-- Where the characters of events stand that were applied over no base, and which of them were deleted by which.
use Rattle.std.specs.Prelude.{◌≡◌, ℕ, nat_eq, if◌then◌else◌, List, map, Option, Some, None}
use Rattle.ew_model.specs.declared.id.Id.{Id}
use Rattle.ew_model.specs.declared.node.Node.{Node}
use Rattle.ew_model.specs.declared.node.Node.TheVariants.{Root, Base, Event}
use Rattle.ew_model.specs.Sets.{Among}
use Rattle.ew_model.specs.Entries.{Inserted, order}
use Rattle.ew_model.specs.Entries.Entry.{Deletion}
use Rattle.ew_model.specs.Tree.{Noted, all_entries}
use Rattle.advance_retreat.specs.Standing.{node_of}

-- the positions are those of the inserted characters, deleted ones too, in the order of the tree
abbrev pub AreInOrder : List (Noted ℕ) → List ℕ → Type 0
AreInOrder notes positions = map Event positions ≡ map (λ (z : Inserted). node_of notes z.id) (order (all_entries 0 notes))

-- the event at the first position deletes the character that the event at the second inserts
pub record DeletesOf (notes : List (Noted ℕ)) (lv n : ℕ) : Type 0 where
  pub note : Noted ℕ
  pub there : Among note notes
  pub named : note.name ≡ lv
  pub target : Id
  pub deletes : note.entry ≡ Deletion target
  pub inserts : node_of notes target ≡ Event n

-- no event at the position deletes a character
abbrev pub IsNoDeletion : List (Noted ℕ) → ℕ → Type 0
IsNoDeletion notes lv = (note : Noted ℕ) → Among note notes → note.name ≡ lv → (target : Id) → note.entry ≡ Deletion target → ⊥

-- the event whose character it is, where that is another than the one at the position
abbrev pub other_event : ℕ → Option Node → Option ℕ
other_event lv None = None
other_event lv (Some Root) = None
other_event lv (Some (Base i)) = None
other_event lv (Some (Event n)) = if nat_eq n lv then None else Some n
