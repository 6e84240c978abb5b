-- What bytes are where version 1 is the only one: the file of some events, or the first fault, in the order of reading.
use Rattle.std.specs.Prelude.{ℕ, zero, suc, ◌-◌, Bool, not, ◌&&◌, ◌||◌, List, [], ◌∷◌, ◌++◌, length, take, drop, Option, Some, None, Result, Ok, Err, if◌then◌else◌, nat_le, nat_lt, nat_eq, ◌==◌, slice_get, slice_index, codes}
use Rattle.std.specs.Int.{w32, from_le_bytes}
use Rattle.std.specs.Cmp.Lexicographic.{pointwise}
use Rattle.std.specs.List.{list_any}
use Rattle.sha2.specs.Sha256.{sha256}
use Rattle.ew_model.specs.declared.id.Id.{Id}
use Rattle.ew_model.specs.declared.event.Op.{Op}
use Rattle.ew_model.specs.declared.event.Op.TheVariants.{Ins, Del, Mark}
use Rattle.ew_model.specs.declared.event.Event.{Event}
use Rattle.ew_model.specs.Ids.{ids_ascend, name_eq}
use Rattle.ew_model.specs.Ancestors.{ids_of, is_held}
use Rattle.ew_model.specs.Names.{is_name}
use Rattle.ew_model.specs.Writable.{agents_of}

-- what may be wrong with a field
pub data RecordFault : Type 0 where
  Cut : RecordFault
  NameBad : RecordFault
  NameTwice : RecordFault
  AgentNumber : RecordFault
  IdTwice : RecordFault
  ParentCount : RecordFault
  ParentPosition : RecordFault
  ParentOrder : RecordFault
  KindBad : RecordFault
  RunJoin : RecordFault
  RunLength : RecordFault
  Scalar : RecordFault
  Trailing : RecordFault
  UnusedAgent : RecordFault

-- why reading ends early: a field's fault, with the number of bytes from that field's first one to the digest, or a number
-- of events above the limit
pub data Stop : Type 0 where
  BadField : (left : ℕ) (kind : RecordFault) → Stop
  OverLimit : (count : ℕ) → Stop

-- A reader takes a value off the front of bytes.
abbrev pub Reader : Type 0 → Type 0
Reader A = List ℕ → Result (A × List ℕ) Stop

abbrev pub done : {A : Type 0} → A → Reader A
done x bytes = Ok (x, bytes)

abbrev pub stops : {A : Type 0} → Stop → Reader A
stops why bytes = Err why

abbrev pub go_on : {A B : Type 0} → Result (A × List ℕ) Stop → (A → Reader B) → Result (B × List ℕ) Stop
go_on (Ok found) next = next found.0 found.1
go_on (Err why) next = Err why

-- one reader, and then the next
infixl 10 ◌>>=◌
abbrev pub ◌>>=◌ : {A B : Type 0} → Reader A → (A → Reader B) → Reader B
(read >>= next) bytes = go_on (read bytes) next

-- that many bytes
abbrev pub front : ℕ → Reader (List ℕ)
front n bytes = if nat_lt (length bytes) n then Err (BadField (length bytes) Cut) else Ok (take n bytes, drop n bytes)

abbrev pub byte : Reader ℕ
byte [] = Err (BadField 0 Cut)
byte (b ∷ left) = Ok (b, left)

abbrev pub number : Reader ℕ
number = do
  digits ← front 4
  done (from_le_bytes w32 digits)

abbrev pub meant : {A : Type 0} → Option A → Stop → Reader A
meant (Some x) why = done x
meant None why = stops why

-- a field stands for what its value means; where that is nothing, the field has this fault
abbrev pub field : {A B : Type 0} → Reader A → (A → Option B) → RecordFault → Reader B
field read meaning kind bytes = go_on (read bytes) (λ x. meant (meaning x) (BadField (length bytes) kind))

-- a value that passes a test means itself
abbrev pub only : {A : Type 0} → (A → Bool) → A → Option A
only test x = if test x then Some x else None

abbrev pub fault_at : {A : Type 0} → ℕ → Result A Stop → Result A Stop
fault_at left (Ok x) = Ok x
fault_at left (Err (BadField _ kind)) = Err (BadField left kind)
fault_at left (Err (OverLimit count)) = Err (OverLimit count)

-- what is read is one field: its faults stand at its first byte
abbrev pub one_field : {A : Type 0} → Reader A → Reader A
one_field read bytes = fault_at (length bytes) (read bytes)

-- a name: its length in a byte, and its bytes
unfoldable pub read_name : Reader (List ℕ)
read_name = one_field (do
  n ← field byte (only (λ n. nat_lt 0 n && nat_le n 32)) NameBad
  field (front n) (only is_name) NameBad)

-- so many names behind these, all different
unfoldable pub read_names : List (List ℕ) → ℕ → Reader (List (List ℕ))
read_names names zero = done names
read_names names (suc n) = do
  name ← field read_name (only (λ x. not (list_any (name_eq x) names))) NameTwice
  read_names (names ++ name ∷ []) n

-- so many parents behind these, ascending, each told by the place of its id
unfoldable pub read_parents : List Id → List Id → ℕ → Reader (List Id)
read_parents ids parents zero = done parents
read_parents ids parents (suc n) = do
  parent ← field (field number (slice_get ids) ParentPosition) (only (λ x. ids_ascend (parents ++ x ∷ []))) ParentOrder
  read_parents ids (parents ++ parent ∷ []) n

-- at most 0x10FFFF, and not from 0xD800 to 0xDFFF
abbrev pub is_scalar : ℕ → Bool
is_scalar c = nat_lt c 0xD800 || (nat_le 0xE000 c && nat_lt c 0x110000)

-- a mark by its label
abbrev pub read_mark : Reader Op
read_mark = do
  label ← read_name
  done (Mark label)

-- the kind, the index, and the character of an insertion; or the label of a mark
unfoldable pub read_op : Reader Op
read_op = do
  kind ← field byte (only (λ kind. nat_lt kind 3)) KindBad
  if kind == 2 then read_mark else do
    at ← number
    if kind == 1 then done (Del at) else do
      ch ← field number (only is_scalar) Scalar
      done (Ins at ch)

-- the agents that a record may have: those with a record before it, and the next
abbrev pub open_agents : List (List ℕ) → List Event → List (List ℕ)
open_agents agents before = take (suc (length (agents_of before))) agents

unfoldable pub read_record : List (List ℕ) → List Event → Reader Event
read_record agents before = do
  agent ← field number (slice_get (open_agents agents before)) AgentNumber
  id ← field number (λ seq. only (λ x. not (is_held before x)) (record { agent = agent; seq = seq })) IdTwice
  count ← field byte (only (λ n. nat_le n 16)) ParentCount
  parents ← read_parents (ids_of before) [] count
  op ← read_op
  done (record { id = id; parents = parents; op = op })

-- so many records behind these
unfoldable pub read_records : List (List ℕ) → List Event → ℕ → Reader (List Event)
read_records agents before zero = done before
read_records agents before (suc n) = do
  e ← read_record agents before
  read_records agents (before ++ e ∷ []) n

-- nothing is left, and each agent has a record
unfoldable pub read_end : List (List ℕ) → List Event → Reader (List Event)
read_end agents events [] = if length (agents_of events) == length agents then Ok (events, []) else Err (BadField 0 UnusedAgent)
read_end agents events (b ∷ left) = Err (BadField (suc (length left)) Trailing)

-- at most so many events, between the version and the digest
unfoldable pub read_events : ℕ → Reader (List Event)
read_events most = do
  agents ← number >>= read_names []
  count ← number
  if nat_lt most count then stops (OverLimit count) else do
    events ← read_records agents [] count
    read_end agents events

pub data FileFinding : Type 0 where
  IsFile : (events : List Event) → FileFinding
  Short : (len : ℕ) → FileFinding
  BadMagic : FileFinding
  BadVersion : (version : ℕ) → FileFinding
  BadDigest : (stored found : List ℕ) → FileFinding
  BadRecord : (offset : ℕ) (kind : RecordFault) → FileFinding
  TooMany : (count : ℕ) → FileFinding

-- of this many bytes before the digest
abbrev pub finding_of : ℕ → Result (List Event × List ℕ) Stop → FileFinding
finding_of len (Ok found) = IsFile found.0
finding_of len (Err (BadField left kind)) = BadRecord (len - left) kind
finding_of len (Err (OverLimit count)) = TooMany count

-- the digest is that of the bytes before it, and these say which events
unfoldable pub content_finding : ℕ → List ℕ → List ℕ → FileFinding
content_finding most content digest =
    if pointwise nat_eq digest (sha256 content)
    then finding_of (length content) (read_events most (drop 8 content))
    else BadDigest digest (sha256 content)

-- the events of which the bytes are the file of version 1, or the first fault; another version is one
unfoldable pub file_finding : ℕ → List ℕ → FileFinding
file_finding most bytes =
    let end = length bytes - 32 in
    if nat_lt (length bytes) 48 then Short (length bytes)
    else if not (pointwise nat_eq (take 7 bytes) (codes "EGWFILE")) then BadMagic
    else if not (slice_index bytes 7 == 1) then BadVersion (slice_index bytes 7)
    else content_finding most (take end bytes) (drop end bytes)
