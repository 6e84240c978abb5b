-- What is kept of the runs of a history: words of the view, of what always holds of it, and of private contracts. (No public
-- contract cites this.)
use Rattle.std.specs.Prelude.{◌≡◌, ◌⊎◌, ℕ, zero, suc, ◌+◌, ◌-◌, ◌<◌, ◌≤◌, ◌^◌, Bool, true, false, List, [], ◌∷◌, ◌++◌, Some, map, get_or, length, slice_get, take, vec_len, vec_capacity, Vec}
use Rattle.std.specs.Global.{Global}
use Rattle.std.specs.List.{range_with_len, find}
use Rattle.std.specs.Option.{option_map_or}
use Rattle.ew_model.specs.declared.event.Op.{Op}
use Rattle.ew_model.specs.declared.event.Op.TheVariants.{Ins, Del, Mark}
use Rattle.ew_model.specs.Positions.{IsHistoryOfParents}
use Rattle.event_runs.specs.declared.runs.Run.{Run}
use Rattle.event_runs.specs.declared.runs.RunKind.{RunKind}
use Rattle.event_runs.specs.declared.runs.RunKind.TheVariants.{Insertions, Deletions, BackDeletions, Marks}
use Rattle.event_runs.specs.declared.runs.Sort.{Sort}
use Rattle.event_runs.specs.declared.runs.Sort.TheVariants as sort
use Rattle.event_runs.specs.BareEvents.{BareEvent, bare, parents_in}

-- what the runs speak of: the characters that are inserted, and the labels of the marks, each in the order of the events
pub record Told : Type 0 where
  pub chars : List ℕ
  pub labels : List (List ℕ)

-- the operation so many places behind the first one, which has this index, or is the mark with the label of this number; the
-- characters are those from a place on
abbrev pub op_in : RunKind → ℕ → ℕ → Told → ℕ → Op
op_in Insertions at place told k = Ins (at + k) (get_or told.chars (place + k) 0)
op_in Deletions at place told k = Del at
op_in BackDeletions at place told k = Del (at - k)
op_in Marks at place told k = Mark (get_or told.labels at [])

-- the parents of the event so many places behind the first one
abbrev pub parents_behind : List ℕ → ℕ → ℕ → List ℕ
parents_behind first start zero = first
parents_behind first start (suc k) = (start + k) ∷ []

-- the event of a run so many places behind the first one, whose parents are given
abbrev pub event_in : Told → Run → List ℕ → ℕ → BareEvent
event_in told r first k = bare (op_in r.kind r.at r.chars_before told k) (parents_behind first r.start k)

-- the events of a run
abbrev pub run_events : Told → Run → List ℕ → List BareEvent
run_events told r first = map (event_in told r first) (range_with_len 0 (suc r.more))

-- the events of the runs, the parents of each one's first event being given
abbrev pub events_in : Told → List Run → List (List ℕ) → List BareEvent
events_in told [] lists = []
events_in told (r ∷ runs) [] = []
events_in told (r ∷ runs) (first ∷ lists) = run_events told r first ++ events_in told runs lists

-- what the events of a run of the kind do
abbrev pub sort_of : RunKind → Sort
sort_of Insertions = sort.Inserting
sort_of Deletions = sort.Deleting
sort_of BackDeletions = sort.Deleting
sort_of Marks = sort.Marking

-- how many characters so many events of the kind insert
abbrev pub chars_of : RunKind → ℕ → ℕ
chars_of Insertions long = long
chars_of Deletions long = 0
chars_of BackDeletions long = 0
chars_of Marks long = 0

-- the characters that an operation inserts
abbrev pub op_chars : Op → List ℕ
op_chars (Ins at ch) = ch ∷ []
op_chars (Del at) = []
op_chars (Mark label) = []

-- the label of a mark
abbrev pub op_labels : Op → List (List ℕ)
op_labels (Ins at ch) = []
op_labels (Del at) = []
op_labels (Mark label) = label ∷ []

-- the lists have room for the operation's character or label, if it has one
abbrev pub HasRoom : Op → Vec ℕ Global → Vec (List ℕ) Global → Type 0
HasRoom (Ins at ch) chars labels = vec_len chars < vec_capacity chars
HasRoom (Del at) chars labels = Unit {0}
HasRoom (Mark label) chars labels = vec_len labels < vec_capacity labels

-- the run of one event, so many characters being inserted before it, and so many marks standing there
abbrev pub run_of_one : ℕ → Op → ℕ → ℕ → Run
run_of_one start (Ins at ch) place labels = record { start = start; more = 0; kind = Insertions; at = at; chars_before = place }
run_of_one start (Del at) place labels = record { start = start; more = 0; kind = Deletions; at = at; chars_before = place }
run_of_one start (Mark label) place labels = record { start = start; more = 0; kind = Marks; at = labels; chars_before = place }

-- the kind that a run of one event could be of as well
abbrev pub other_kind : RunKind → RunKind
other_kind Insertions = Insertions
other_kind Deletions = BackDeletions
other_kind BackDeletions = Deletions
other_kind Marks = Marks

-- the index of the operation behind a first one and so many more, where all are of the kind; nothing goes on from a mark
abbrev pub IsNext : RunKind → ℕ → ℕ → ℕ → Type 0
IsNext Insertions at more next = next ≡ suc (at + more)
IsNext Deletions at more next = next ≡ at
IsNext BackDeletions at more next = suc (next + more) ≡ at
IsNext Marks at more next = ⊥

-- the run is of this kind once it has the first event of another one behind its own
pub record JoinsAs (r s : Run) (kind : RunKind) : Type 0 where
  pub alike : sort_of r.kind ≡ sort_of s.kind
  pub one_way : (kind ≡ r.kind) ⊎ ((r.more ≡ 0) × (kind ≡ other_kind r.kind))
  pub next : IsNext kind r.at r.more s.at

-- the event behind the last one of a run has only that as its parent
abbrev pub behind : Run → List ℕ
behind r = (r.start + r.more) ∷ []

-- the last of the runs is of this kind once it has the event of another one, with these parents, behind its own
pub record LastJoinsAs (runs : List Run) (s : Run) (parents : List ℕ) (kind : RunKind) : Type 0 where
  pub place : ℕ
  pub run : Run
  pub last : length runs ≡ suc place
  pub there : slice_get runs place ≡ Some run
  pub only : parents ≡ behind run
  pub joins : JoinsAs run s kind

-- the run with one event more, of this kind
abbrev pub longer : Run → RunKind → Run
longer r kind = record { start = r.start; more = r.more + 1; kind = kind; at = r.at; chars_before = r.chars_before }

-- the run's events below a position
abbrev pub shorter : Run → ℕ → Run
shorter r end = record { start = r.start; more = end - r.start - 1; kind = r.kind; at = r.at; chars_before = r.chars_before }

-- how many characters there are up to a run's end
abbrev pub chars_to_end : Run → ℕ
chars_to_end r = r.chars_before + chars_of r.kind (suc r.more)

-- the first of the runs can't go on from a run before it
abbrev pub IsApart : Run → List Run → List (List ℕ) → Type 0
IsApart r [] lists = Unit {0}
IsApart r (s ∷ runs) [] = Unit {0}
IsApart r (s ∷ runs) (first ∷ lists) = first ≡ behind r → (kind : RunKind) → JoinsAs r s kind → ⊥

-- the indices of a run's operations are numbers of 32 bits; a mark is a run of its own
abbrev pub Fits : RunKind → ℕ → ℕ → Type 0
Fits Insertions at more = at + more < 2 ^ 32
Fits Deletions at more = Unit {0}
Fits BackDeletions at more = more ≤ at
Fits Marks at more = more ≡ 0

-- The runs stand one behind the other, the first of them from a position on, up to a position, and so do the characters
-- that they insert. Each has parents, and none goes on from the one before it.
abbrev pub AreRuns : ℕ → ℕ → List Run → List (List ℕ) → ℕ → ℕ → Type 0
AreRuns start place [] [] end chars = (start ≡ end) × (place ≡ chars)
AreRuns start place [] (first ∷ lists) end chars = ⊥
AreRuns start place (r ∷ runs) [] end chars = ⊥
AreRuns start place (r ∷ runs) (first ∷ lists) end chars =
    (r.start ≡ start) × (r.chars_before ≡ place) × Fits r.kind r.at r.more × IsApart r runs lists × AreRuns (start + suc r.more) (place + chars_of r.kind (suc r.more)) runs lists end chars

-- how many labels a run of the kind has
abbrev pub labels_of : RunKind → ℕ
labels_of Insertions = 0
labels_of Deletions = 0
labels_of BackDeletions = 0
labels_of Marks = 1

-- a mark has the label of this number
abbrev pub IsLabel : RunKind → ℕ → ℕ → Type 0
IsLabel Insertions at n = Unit {0}
IsLabel Deletions at n = Unit {0}
IsLabel BackDeletions at n = Unit {0}
IsLabel Marks at n = at ≡ n

-- the marks among the runs have the labels in order, from this number up to that
abbrev pub AreLabelled : ℕ → List Run → ℕ → Type 0
AreLabelled n [] end = n ≡ end
AreLabelled n (r ∷ runs) end = IsLabel r.kind r.at n × AreLabelled (n + labels_of r.kind) runs end

-- the number of a mark's label is one of so many
abbrev pub HasLabel : RunKind → ℕ → ℕ → Type 0
HasLabel Insertions at count = Unit {0}
HasLabel Deletions at count = Unit {0}
HasLabel BackDeletions at count = Unit {0}
HasLabel Marks at count = at < count

-- the kind is that of a mark
abbrev pub is_mark : RunKind → Bool
is_mark Insertions = false
is_mark Deletions = false
is_mark BackDeletions = false
is_mark Marks = true

-- the number of the first mark's label, or else of the one behind the last
abbrev pub first_label : List Run → ℕ → ℕ
first_label runs all = option_map_or (λ r. r.at) (find (λ r. is_mark r.kind) runs) all

-- the runs, their first events' parents, their characters and labels are those of a history of so many events
pub record AreKept (runs : List Run) (lists : List (List ℕ)) (told : Told) (count : ℕ) : Type 0 where
  pub in_line : AreRuns 0 0 runs lists count (length told.chars)
  pub labelled : AreLabelled 0 runs (length told.labels)
  pub history : IsHistoryOfParents (parents_in (events_in told runs lists))

-- the run at a place has the event at a position
pub record IsHeldAt (runs : List Run) (place : ℕ) (position : ℕ) : Type 0 where
  pub run : Run
  pub there : slice_get runs place ≡ Some run
  pub from : run.start ≤ position
  pub to : position ≤ run.start + run.more

-- characters and labels with more behind them
abbrev pub with_more : Told → List ℕ → List (List ℕ) → Told
with_more told chars labels = record { chars = told.chars ++ chars; labels = told.labels ++ labels }

-- the runs have the event of one more run behind their own, whatever its characters and labels
pub record GrowBy (runs new : List Run) (lists more : List (List ℕ)) (one : Run) (parents : List ℕ) : Type 0 where
  pub events : (told : Told) (c : List ℕ) (l : List (List ℕ)) → length told.chars ≡ one.chars_before → AreLabelled 0 runs (length told.labels)
      → events_in (with_more told c l) new more ≡ events_in told runs lists ++ event_in (with_more told c l) one parents 0 ∷ []
  pub labelled : (n : ℕ) → AreLabelled 0 runs n → IsLabel one.kind one.at n → AreLabelled 0 new (n + labels_of one.kind)
  pub in_line : AreRuns 0 0 new more (one.start + 1) (chars_to_end one)

-- the runs have their events below a position left, and this many characters
pub record AreCutAt (runs new : List Run) (lists : List (List ℕ)) (chars end left : ℕ) : Type 0 where
  pub events : (told : Told) → events_in told new (take (length new) lists) ≡ take end (events_in told runs lists)
  pub in_line : AreRuns 0 0 new (take (length new) lists) end left
  pub within : left ≤ chars
