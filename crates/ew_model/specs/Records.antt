-- The records of a walker: all characters in order, each with its prepared number and its effect, by what was applied
-- (Eg-walker, EuroSys 2025, section 3.3: the prepare and the effect version).
use Rattle.std.specs.Prelude.{◌≡◌, ℕ, zero, suc, nat_eq, nat_lt, Bool, true, false, not, List, [], ◌∷◌, ◌++◌, map, filter, length, if◌then◌else◌, Some, ◌≤◌, ◌&&◌, Option, None, option_map, find, slice_get}
use Rattle.std.specs.List.{list_any}
use Rattle.std.specs.declared.cmp.Ordering.{Ordering}
use Rattle.ew_model.specs.declared.id.Id.{Id}
use Rattle.ew_model.specs.Ids.{id_eq}
use Rattle.ew_model.specs.Sets.{Among}
use Rattle.ew_model.specs.Sorting.{put_in_order}
use Rattle.ew_model.specs.declared.text_op.TextOp.{TextOp}
use Rattle.ew_model.specs.declared.text_op.TextOp.TheVariants.{Ins, Del, Nothing}
use Rattle.ew_model.specs.Operations.{next_operation}
use Rattle.ew_model.specs.Siblings.{StandsBehind, StandsAhead}
use Rattle.ew_model.specs.Entries.{Inserted, inserted_cmp, Entry, deletes, is_deleted, order, visible}
use Rattle.ew_model.specs.Places.{Act, path_before}
use Rattle.ew_model.specs.Tree.{Applied, Noted, all_entries, entries_over, next_entry, tree_of, based}
use Rattle.ew_model.specs.Paths.{Step, path_lt, is_right_child}
use Rattle.ew_model.specs.Entries.Entry.{Insertion, Deletion, Mark}
use Rattle.ew_model.specs.Places.Act.{InsertAs, DeleteAt, MarkAs}

-- the names hold this one
abbrev pub holds : List ℕ → ℕ → Bool
holds names n = list_any (nat_eq n) names

-- the act inserts a character under this id
abbrev pub inserts_as : Id → Act → Bool
inserts_as x (InsertAs y at ch) = id_eq y x
inserts_as x (DeleteAt at) = false
inserts_as x MarkAs = false

-- the id is no base name, and none of the events inserts under it
pub record IsNewId (events : List (Applied ℕ)) (x : Id) : Type 0 where
  pub unused : list_any (λ (c : Applied ℕ). inserts_as x c.act) events ≡ false
  pub agent : x.agent ≡ [] → ⊥

-- the id of an insertion is new; a deletion and a mark have none
abbrev pub IsNewAct : List (Applied ℕ) → Act → Type 0
IsNewAct events (InsertAs x at ch) = IsNewId events x
IsNewAct events (DeleteAt at) = Unit {0}
IsNewAct events MarkAs = Unit {0}

-- The names hold, with an event's name, those of all that it was applied over.
abbrev pub IsClosed : List (Applied ℕ) → List ℕ → Type 0
IsClosed events names = (c : Applied ℕ) → Among c events → holds names c.name ≡ true → (n : ℕ) → holds c.over n ≡ true → holds names n ≡ true

-- A walker that applied the events may apply this one: its name and id are new, and what is prepared is closed.
pub record MayApply (events : List (Applied ℕ)) (a : Applied ℕ) : Type 0 where
  pub name : list_any (λ (c : Applied ℕ). nat_eq c.name a.name) events ≡ false
  pub act : IsNewAct events a.act
  pub over : IsClosed events a.over

-- the later events may be applied, one after another
abbrev pub IsRun : List (Applied ℕ) → List (Applied ℕ) → Type 0
IsRun before [] = Unit {0}
IsRun before (a ∷ later) = MayApply before a × IsRun (before ++ a ∷ []) later

-- the entry inserts a character under this id
abbrev pub inserts : Id → Entry → Bool
inserts x (Insertion y) = id_eq y.id x
inserts x (Deletion target) = false
inserts x Mark = false

abbrev pub is_inserted : List Entry → Id → Bool
is_inserted entries x = list_any (inserts x) entries

-- how many deletions among the entries target the id
abbrev pub deletions_of : List Entry → Id → ℕ
deletions_of entries x = length (filter (deletes x) entries)

-- 0 where the character isn't inserted, else 1 and one for each deletion
abbrev pub prepared_in : List Entry → Id → ℕ
prepared_in entries x = if is_inserted entries x then suc (deletions_of entries x) else 0

-- a character with its prepared number, and whether it is visible in the text
pub record Record : Type 0 where
  pub node : Inserted
  pub prepared : ℕ
  pub effect : Bool

-- by all entries and those prepared
abbrev pub record_in : List Entry → List Entry → Inserted → Record
record_in all prepared z = record { node = z; prepared = prepared_in prepared z.id; effect = not (is_deleted all z.id) }

abbrev pub records : List Entry → List Entry → List Record
records all prepared = map (record_in all prepared) (order all)

-- all entries of a walker over b base characters, and those of the prepared events
abbrev pub applied_entries : ℕ → List (Applied ℕ) → List Entry
applied_entries b events = all_entries b (tree_of nat_eq b events)

abbrev pub prepared_entries : ℕ → List (Applied ℕ) → List ℕ → List Entry
prepared_entries b events prepared = entries_over nat_eq b (tree_of nat_eq b events) prepared

-- the records of a walker
abbrev pub walker_records : ℕ → List (Applied ℕ) → List ℕ → List Record
walker_records b events prepared = records (applied_entries b events) (prepared_entries b events prepared)

-- The records from 1 on are all characters prepared, those with 1 the visible ones of them, and those with effect the text.
pub record RecordsSay (b : ℕ) (events : List (Applied ℕ)) (prepared : List ℕ) : Type 0 where
  pub known_nodes : map (λ (r : Record). r.node) (filter (λ (r : Record). nat_lt 0 r.prepared) (walker_records b events prepared)) ≡ order (prepared_entries b events prepared)
  pub visible_nodes : map (λ (r : Record). r.node) (filter (λ (r : Record). nat_eq r.prepared 1) (walker_records b events prepared)) ≡ visible (prepared_entries b events prepared)
  pub effect_nodes : map (λ (r : Record). r.node) (filter (λ (r : Record). r.effect) (walker_records b events prepared)) ≡ visible (applied_entries b events)

abbrev pub RecordsTell : Type 0
RecordsTell = (b : ℕ) (events : List (Applied ℕ)) (prepared : List ℕ) → IsRun [] events → RecordsSay b events prepared

-- the entry is about the character with this id
abbrev pub is_about : Entry → Id → Bool
is_about (Insertion y) x = id_eq y.id x
is_about (Deletion target) x = id_eq target x
is_about Mark x = false

-- a record after an event that left the entry came into what is prepared, and after it was taken out
abbrev pub raised : Entry → Record → Record
raised e r = record { node = r.node; prepared = if is_about e r.node.id then suc r.prepared else r.prepared; effect = r.effect }

abbrev pub one_less : ℕ → ℕ
one_less zero = zero
one_less (suc n) = n

abbrev pub lowered : Entry → Record → Record
lowered e r = record { node = r.node; prepared = if is_about e r.node.id then one_less r.prepared else r.prepared; effect = r.effect }

-- an event that isn't prepared may be: all that it was applied over is
pub record MayAdvance (events : List (Applied ℕ)) (prepared : List ℕ) (name : ℕ) : Type 0 where
  pub outside : holds prepared name ≡ false
  pub over : (c : Applied ℕ) → Among c events → c.name ≡ name → (n : ℕ) → holds c.over n ≡ true → holds prepared n ≡ true

-- a prepared event may be taken out: nothing prepared was applied over it
pub record MayRetreat (events : List (Applied ℕ)) (prepared : List ℕ) (name : ℕ) : Type 0 where
  pub inside : holds prepared name ≡ true
  pub free : (c : Applied ℕ) → Among c events → holds prepared c.name ≡ true → holds c.over name ≡ false

-- the names without this one
abbrev pub without : ℕ → List ℕ → List ℕ
without name names = filter (λ n. not (nat_eq n name)) names

-- an advance raises the number of the character that the entry is about, and a retreat lowers it
abbrev pub AdvancesTell : Type 0
AdvancesTell =
    (b : ℕ) (events : List (Applied ℕ)) (prepared : List ℕ) (n : Noted ℕ) → IsRun [] events → IsClosed events prepared → Among n (tree_of nat_eq b events) → MayAdvance events prepared n.name
    → (walker_records b events (n.name ∷ prepared) ≡ map (raised n.entry) (walker_records b events prepared)) × IsClosed events (n.name ∷ prepared)

abbrev pub RetreatsTell : Type 0
RetreatsTell =
    (b : ℕ) (events : List (Applied ℕ)) (prepared : List ℕ) (n : Noted ℕ) → IsRun [] events → IsClosed events prepared → Among n (tree_of nat_eq b events) → MayRetreat events prepared n.name
    → (walker_records b events (without n.name prepared) ≡ map (lowered n.entry) (walker_records b events prepared)) × IsClosed events (without n.name prepared)

-- the record of a character just inserted, and a record after a deletion was applied
abbrev pub fresh : Inserted → Record
fresh y = record { node = y; prepared = 1; effect = true }

abbrev pub struck : Id → Record → Record
struck x r = record { node = r.node; prepared = if id_eq x r.node.id then suc r.prepared else r.prepared; effect = if id_eq x r.node.id then false else r.effect }

-- the next event of a walker
abbrev pub next_of : ℕ → Act → List ℕ → Applied ℕ
next_of name act prepared = record { name = name; act = act; over = prepared }

-- the new record's place among the others
abbrev pub record_cmp : Record → Record → Ordering
record_cmp r s = inserted_cmp r.node s.node

-- what an apply makes of the records, by the entry that the event leaves
abbrev pub AppliedRecords : Entry → List Record → List Record → Type 0
AppliedRecords (Insertion y) before after =
    (after ≡ put_in_order record_cmp (fresh y) before)
    × ((rs qs : List Record) (r : Record) → before ≡ rs ++ r ∷ qs → StandsBehind (map (λ (r : Record). r.node) before) y.path r.node.path → after ≡ rs ++ r ∷ fresh y ∷ qs)
    × ((rs qs : List Record) (r : Record) → before ≡ rs ++ r ∷ qs → StandsAhead (map (λ (r : Record). r.node) before) y.path r.node.path → after ≡ rs ++ fresh y ∷ r ∷ qs)
AppliedRecords (Deletion target) before after = after ≡ map (struck target) before
AppliedRecords Mark before after = after ≡ before

abbrev pub AppliesTell : Type 0
AppliesTell =
    (b : ℕ) (events : List (Applied ℕ)) (prepared : List ℕ) (name : ℕ) (act : Act) (e : Entry) → IsRun [] events → MayApply events (next_of name act prepared)
    → next_entry nat_eq b (tree_of nat_eq b events) (next_of name act prepared) ≡ Some e
    → AppliedRecords e (walker_records b events prepared) (walker_records b (events ++ next_of name act prepared ∷ []) (name ∷ prepared))

-- and what is prepared stays closed
abbrev pub AppliesKeep : Type 0
AppliesKeep =
    (events : List (Applied ℕ)) (prepared : List ℕ) (name : ℕ) (act : Act) → IsRun [] events → MayApply events (next_of name act prepared)
    → IsRun [] (events ++ next_of name act prepared ∷ []) × IsClosed (events ++ next_of name act prepared ∷ []) (name ∷ prepared)

-- where all is prepared, what is prepared is the text
abbrev pub AllPreparedIsAll : Type 0
AllPreparedIsAll =
    (b : ℕ) (events : List (Applied ℕ)) (prepared : List ℕ) → IsRun [] events → ((c : Applied ℕ) → Among c events → holds prepared c.name ≡ true)
    → prepared_entries b events prepared ≡ applied_entries b events

-- how many of the records have effect
abbrev pub effects_in : List Record → ℕ
effects_in rs = length (filter (λ (r : Record). r.effect) rs)

-- What the entry does to the text, by a record r of the records: the new one's neighbour, or the target's.
abbrev pub OperationReads : Entry → List Record → List Record → Record → List Record → TextOp → Type 0
OperationReads (Insertion y) before rs r qs op =
    (StandsBehind (map (λ (r : Record). r.node) before) y.path r.node.path → op ≡ Ins (effects_in (rs ++ r ∷ [])) y.ch)
    × (StandsAhead (map (λ (r : Record). r.node) before) y.path r.node.path → op ≡ Ins (effects_in rs) y.ch)
OperationReads (Deletion target) before rs r qs op = r.node.id ≡ target → op ≡ (if r.effect then Del (effects_in rs) else Nothing)
OperationReads Mark before rs r qs op = op ≡ Nothing

-- an apply's operation is at the number of records with effect before the place
abbrev pub OperationsRead : Type 0
OperationsRead =
    (b : ℕ) (events : List (Applied ℕ)) (prepared : List ℕ) (name : ℕ) (act : Act) (e : Entry) → IsRun [] events → MayApply events (next_of name act prepared)
    → next_entry nat_eq b (tree_of nat_eq b events) (next_of name act prepared) ≡ Some e
    → (rs : List Record) (r : Record) (qs : List Record) → walker_records b events prepared ≡ rs ++ r ∷ qs
    → OperationReads e (walker_records b events prepared) rs r qs (next_operation nat_eq b (tree_of nat_eq b events) (next_of name act prepared))

-- A base character is prepared always, an event's where the event is; and so are the records from 1 on.
pub record IsPreparedBy (b : ℕ) (events : List (Applied ℕ)) (prepared : List ℕ) : Type 0 where
  pub base : (z : Inserted) → Among (Insertion z) (based b) → nat_lt 0 (prepared_in (prepared_entries b events prepared) z.id) ≡ true
  pub event : (n : Noted ℕ) (z : Inserted) → Among n (tree_of nat_eq b events) → n.entry ≡ Insertion z → nat_lt 0 (prepared_in (prepared_entries b events prepared) z.id) ≡ holds prepared n.name

abbrev pub NamesPrepare : Type 0
NamesPrepare = (b : ℕ) (events : List (Applied ℕ)) (prepared : List ℕ) → IsRun [] events → IsPreparedBy b events prepared

-- a character that is inserted and not deleted in what is prepared, and one that is inserted
abbrev pub is_one : Record → Bool
is_one r = nat_eq r.prepared 1

abbrev pub is_known : Record → Bool
is_known r = nat_lt 0 r.prepared

abbrev pub ones_in : List Record → ℕ
ones_in rs = length (filter is_one rs)

-- the character of the first known record
abbrev pub first_known : List Record → Option Inserted
first_known rs = option_map (λ (r : Record). r.node) (find is_known rs)

-- What an apply looks up in what is prepared, read off the records: the character at an index, the one before an index, the
-- next one behind a character or behind the root, whether a place has a right child, and which index is out of range.
pub record PlacesRead (b : ℕ) (events : List (Applied ℕ)) (prepared : List ℕ) : Type 0 where
  pub at : (rs : List Record) (r : Record) (qs : List Record) → walker_records b events prepared ≡ rs ++ r ∷ qs → is_one r ≡ true → slice_get (visible (prepared_entries b events prepared)) (ones_in rs) ≡ Some r.node
  pub before : (rs : List Record) (r : Record) (qs : List Record) → walker_records b events prepared ≡ rs ++ r ∷ qs → is_one r ≡ true → path_before (visible (prepared_entries b events prepared)) (suc (ones_in rs)) ≡ Some r.node.path
  pub next : (rs : List Record) (r : Record) (qs : List Record) → walker_records b events prepared ≡ rs ++ r ∷ qs → find (λ (y : Inserted). path_lt r.node.path y.path) (order (prepared_entries b events prepared)) ≡ first_known qs
  pub next_of_root : find (λ (y : Inserted). path_lt [] y.path) (order (prepared_entries b events prepared)) ≡ first_known (walker_records b events prepared)
  pub right_child : (p : List Step) → list_any (λ (y : Inserted). is_right_child p y.path) (order (prepared_entries b events prepared)) ≡ list_any (λ (r : Record). is_known r && is_right_child p r.node.path) (walker_records b events prepared)
  pub none_at : (i : ℕ) → ones_in (walker_records b events prepared) ≤ i → slice_get (visible (prepared_entries b events prepared)) i ≡ None
  pub none_before : (i : ℕ) → ones_in (walker_records b events prepared) ≤ i → path_before (visible (prepared_entries b events prepared)) (suc i) ≡ None

abbrev pub RecordsPlace : Type 0
RecordsPlace = (b : ℕ) (events : List (Applied ℕ)) (prepared : List ℕ) → IsRun [] events → PlacesRead b events prepared

-- Where the new character stands right behind the root, its record is the first, and its operation is at 0.
abbrev pub AppliesFirst : Type 0
AppliesFirst =
    (b : ℕ) (events : List (Applied ℕ)) (prepared : List ℕ) (name : ℕ) (act : Act) (y : Inserted) → IsRun [] events → MayApply events (next_of name act prepared)
    → next_entry nat_eq b (tree_of nat_eq b events) (next_of name act prepared) ≡ Some (Insertion y)
    → StandsBehind (map (λ (r : Record). r.node) (walker_records b events prepared)) y.path []
    → (walker_records b (events ++ next_of name act prepared ∷ []) (name ∷ prepared) ≡ fresh y ∷ walker_records b events prepared)
    × (next_operation nat_eq b (tree_of nat_eq b events) (next_of name act prepared) ≡ Ins 0 y.ch)
