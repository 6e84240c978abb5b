-- How the character of a new child comes in among the others.
use Rattle.std.specs.Prelude.{◌≡◌, ℕ, ◌<◌, ◌≤◌, ◌^◌, true, false, List, ◌∷◌, ◌++◌, length, take, insert}
use Rattle.std.specs.List.{list_any}
use Rattle.ew_model.specs.declared.node.Node.TheVariants.{Event}
use Rattle.walker_record.specs.Stretches.{Stretch}
use Rattle.fugue_place.specs.declared.child.Attached.{Attached}
use Rattle.fugue_place.specs.Attachments.{is_there, is_attached, has_id}
use Rattle.character_runs.specs.declared.runs.child.Child.{Child}
use Rattle.character_runs.specs.States.{is_of, shown_in}

-- its run, of so many characters
abbrev pub run_of : Child → ℕ → Stretch
run_of child n = record { from = Event child.position; len = n; prepared = 1; effect = true }

-- the child, as it is attached
abbrev pub attached_by : Child → Attached
attached_by child = record { parent = child.slot.parent; side = child.slot.side; id = child.id; node = Event child.position }

-- It may be attached behind these children, and its character come in among these.
pub record IsNewChild (rs : List Stretch) (attached : List Attached) (child : Child) : Type 0 where
  pub parent : is_there attached child.slot.parent ≡ true
  pub unused : has_id attached child.id ≡ false
  pub unattached : is_attached attached (Event child.position) ≡ false
  pub unrecorded : list_any (is_of (Event child.position)) rs ≡ false
  pub room : length rs < 2 ^ 25

-- its character came to the place, behind so many characters of the text
pub record EntersAt (old new : List Stretch) (child : Child) (index n : ℕ) : Type 0 where
  pub within : index ≤ length old
  pub before : n ≡ shown_in (take index old)
  pub after : new ≡ insert old index (run_of child 1)

-- right behind the run of the label stands one without characters
pub record HasPlaceBehind (ps : List (ℕ × Stretch)) (label own : ℕ) : Type 0 where
  pub front : List (ℕ × Stretch)
  pub back : List (ℕ × Stretch)
  pub run : Stretch
  pub empty : Stretch
  pub is : ps ≡ front ++ (label, run) ∷ (own, empty) ∷ back
  pub some : 0 < run.len
  pub none : empty.len ≡ 0
