-- What a line reads and may store: its files in the order of their loads, how much of them is asked for, how much of the input is taken, and
-- whether the journal is opened.
use Rattle.std.specs.Prelude.{◌≡◌, ◌≤◌, ⊤, ℕ, Bool, true, false, List, [], ◌∷◌, take, drop, not, ◌&&◌, Option, None, Some, if◌then◌else◌}
use Rattle.ew_model.specs.Limits.{LimitNumbers, most_file_bytes}
use Rattle.ew_outside.specs.Files.{Files}
use Rattle.ew_outside.specs.Counts.{next}
use Rattle.ew_outside.specs.Seen.{SourceSeen}
use Rattle.command_table.specs.Table.{Text, Line, does, serves, watches, exports, create, edit, show, merge, upgrade, undo, make, net, Opened, opened, refused, open_file}

-- what a line reads, and whether it may store
pub record Shape : Type 0 where
  -- the files that it names, in the order of their loads
  pub files : List Text
  -- status 3 says that one of these files is missing, and not that it is there
  pub needs : Bool
  -- the input is read
  pub input : Bool
  -- something may be stored, and it is the first of these files
  pub stores : Bool
  -- the journal is opened
  pub journal : Bool

-- the shape of a line, which may not be taken
abbrev pub shape_of : Option Line → Shape
shape_of (Some (does (create file))) = record { files = file ∷ []; needs = false; input = false; stores = true; journal = false }
shape_of (Some (does (edit file agent))) = record { files = file ∷ []; needs = true; input = true; stores = true; journal = false }
shape_of (Some (does (show listing file))) = record { files = file ∷ []; needs = true; input = false; stores = false; journal = false }
shape_of (Some (does (merge file other))) = record { files = file ∷ other ∷ []; needs = true; input = false; stores = true; journal = false }
shape_of (Some (does (upgrade file))) = record { files = file ∷ []; needs = true; input = false; stores = true; journal = false }
shape_of (Some (does (undo file agent first count))) = record { files = file ∷ []; needs = true; input = false; stores = true; journal = false }
shape_of (Some (does (make seed count))) = record { files = []; needs = false; input = false; stores = false; journal = false }
shape_of (Some (does net)) = record { files = []; needs = false; input = true; stores = false; journal = false }
shape_of (Some (serves file)) = record { files = file ∷ []; needs = true; input = true; stores = true; journal = false }
shape_of (Some (watches agent)) = record { files = []; needs = false; input = true; stores = false; journal = true }
shape_of (Some (exports file)) = record { files = file ∷ []; needs = false; input = false; stores = true; journal = true }
shape_of None = record { files = []; needs = false; input = false; stores = false; journal = false }

-- the line reads the input
abbrev pub reads_input : Option Line → Bool
reads_input l = (shape_of l).input

-- the line has files that have to be there
abbrev pub needs_file : Option Line → Bool
needs_file l = (shape_of l).needs

-- the line opens the journal
abbrev pub uses_journal : Option Line → Bool
uses_journal l = (shape_of l).journal

-- a run of the line may store something
abbrev pub may_store : Option Line → Bool
may_store l = (shape_of l).stores

-- the line is to make its file, which isn't there
abbrev pub makes_file : Option Line → Bool
makes_file l = may_store l && not (needs_file l)

-- the most bytes that a load may ask for: those of the greatest file where the line needs its files; and none of a file that is to be made
abbrev pub most_asked : Option Line → LimitNumbers → ℕ
most_asked l limits = if needs_file l then most_file_bytes limits.events else 0

-- a count where a file is open, and another where it is refused
abbrev pub if_open : Opened → ℕ → ℕ → ℕ
if_open (opened events) more count = more
if_open (refused why) more count = count

-- the count after loads of these files up to the first that is refused
abbrev pub loads_up_to_refused : List Text → LimitNumbers → Files → ℕ → ℕ
loads_up_to_refused [] limits files count = count
loads_up_to_refused (name ∷ []) limits files count = next count
loads_up_to_refused (name ∷ other ∷ names) limits files count =
    if_open (open_file name limits files) (loads_up_to_refused (other ∷ names) limits files (next count)) (next count)

-- The count of loads is as after one load of each of these files up to the first that is refused. Nothing is said of two files where the
-- shelf isn't known.
abbrev pub CountsLoads : List Text → LimitNumbers → Option Files → ℕ → ℕ → Type 0
CountsLoads [] limits files before now = now ≡ before
CountsLoads (name ∷ []) limits files before now = now ≡ next before
CountsLoads (name ∷ other ∷ names) limits (Some files) before now = now ≡ loads_up_to_refused (name ∷ other ∷ names) limits files before
CountsLoads (name ∷ other ∷ names) limits None before now = ⊤

-- the count after one load of each
abbrev pub loads_of_all : List Text → ℕ → ℕ
loads_of_all [] count = count
loads_of_all (name ∷ names) count = loads_of_all names (next count)

-- as many loads as a front of these files has were made
abbrev pub LoadsFront : List Text → ℕ → ℕ → Type 0
LoadsFront names before now = (n : ℕ) × (now ≡ loads_of_all (take n names) before)

-- no more bytes than these were taken from the front of an input that is known
abbrev pub TakesAtMost : ℕ → Option (List ℕ) → Option (List ℕ) → Type 0
TakesAtMost most (Some input) new = (n : ℕ) × (n ≤ most) × (new ≡ Some (drop n input))
TakesAtMost most None new = ⊤

-- the input is as before, and so are its counts
abbrev pub LeavesInput : SourceSeen → SourceSeen → Type 0
LeavesInput old new = new ≡ old

-- it holds where a file is refused
abbrev pub IfRefused : Opened → Type 0 → Type 0
IfRefused (opened events) holds = ⊤
IfRefused (refused why) holds = holds

-- it holds where the first of these files is refused
abbrev pub IfFirstRefused : List Text → LimitNumbers → Files → Type 0 → Type 0
IfFirstRefused [] limits files holds = ⊤
IfFirstRefused (name ∷ names) limits files holds = IfRefused (open_file name limits files) holds

-- it holds of a line that needs its files, where the first is refused
abbrev pub IfFileRefused : Shape → LimitNumbers → Files → Type 0 → Type 0
IfFileRefused shape limits files holds = shape.needs ≡ true → IfFirstRefused shape.files limits files holds
