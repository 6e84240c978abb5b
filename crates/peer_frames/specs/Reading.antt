-- What is read of a body, one field after another: the words of the contracts inside this crate. Nothing public cites this file;
-- what it reads is proved to be what `Spelling` writes.
use Rattle.std.specs.Prelude.{◌≡◌, ℕ, zero, suc, ◌+◌, ◌&&◌, Bool, List, [], ◌∷◌, ◌++◌, map, take, drop, nat_lt, Option, Some, None, Result, Ok, Err, if◌then◌else◌}
use Rattle.std.specs.Result.{result_ok}
use Rattle.ew_model.specs.declared.id.Id.{Id}
use Rattle.ew_model.specs.declared.event.Op.{Op}
use Rattle.ew_model.specs.declared.event.Event.{Event}
use Rattle.file_words.specs.FileFaults.{byte, number, read_name, read_op}
use Rattle.peer_frames.specs.declared.fault.FrameFault.{FrameFault}
use Rattle.peer_frames.specs.declared.fault.FrameFault.TheVariants.{TooLong, BadKind, BadBody, OutOfMemory}
use Rattle.peer_frames.specs.declared.kind.Kind.{Kind}
use Rattle.peer_frames.specs.declared.kind.Kind.TheVariants as kinds
use Rattle.peer_frames.specs.declared.head.BodyPlace.{BodyPlace}
use Rattle.peer_definitions.specs.declared.frame.Frame.{Frame}
use Rattle.peer_definitions.specs.declared.frame.Frame.TheVariants.{Have, Events, Done, Took, Clash, Bye}
use Rattle.peer_definitions.specs.Spelling.{AgentCount, names_ascend}
use Rattle.peer_definitions.specs.Cutting.{Head}
use Rattle.peer_definitions.specs.Cutting.Head.{Incomplete, NoKind, OverLimit, Complete}

-- A reader takes a value off the front of bytes, or there is none.
abbrev pub Reader : Type 0 → Type 0
Reader A = List ℕ → Option (A × List ℕ)

abbrev pub done : {A : Type 0} → A → Reader A
done x bytes = Some (x, bytes)

abbrev pub nothing : {A : Type 0} → Reader A
nothing bytes = None

abbrev pub go_on : {A B : Type 0} → Option (A × List ℕ) → (A → Reader B) → Option (B × List ℕ)
go_on (Some found) next = next found.0 found.1
go_on None next = None

-- one reader, and then the next
infixl 10 ◌>>=◌
abbrev pub ◌>>=◌ : {A B : Type 0} → Reader A → (A → Reader B) → Reader B
(read >>= next) bytes = go_on (read bytes) next

abbrev pub one_byte : Reader ℕ
one_byte bytes = result_ok (byte bytes)

abbrev pub one_number : Reader ℕ
one_number bytes = result_ok (number bytes)

abbrev pub one_name : Reader (List ℕ)
one_name bytes = result_ok (read_name bytes)

abbrev pub one_operation : Reader Op
one_operation bytes = result_ok (read_op bytes)

unfoldable pub one_id : Reader Id
one_id = do
  agent ← one_name
  seq ← one_number
  done (record { agent = agent; seq = seq })

-- so many ids behind these
unfoldable pub read_ids : List Id → ℕ → Reader (List Id)
read_ids ids zero = done ids
read_ids ids (suc n) = do
  x ← one_id
  read_ids (ids ++ x ∷ []) n

unfoldable pub one_event : Reader Event
one_event = do
  id ← one_id
  count ← one_byte
  parents ← read_ids [] count
  op ← one_operation
  done (record { id = id; parents = parents; op = op })

-- so many events behind these
unfoldable pub read_events : List Event → ℕ → Reader (List Event)
read_events events zero = done events
read_events events (suc n) = do
  e ← one_event
  read_events (events ++ e ∷ []) n

-- the count isn't 0, and with it the names still ascend
abbrev pub may_follow : List AgentCount → AgentCount → Bool
may_follow counts c = nat_lt 0 c.1 && names_ascend (map (λ (d : AgentCount). d.0) counts ++ c.0 ∷ [])

-- a count behind these
unfoldable pub one_count : List AgentCount → Reader AgentCount
one_count counts = do
  agent ← one_name
  count ← one_number
  if may_follow counts (agent, count) then done (agent, count) else nothing

-- so many counts behind these
unfoldable pub read_counts : List AgentCount → ℕ → Reader (List AgentCount)
read_counts counts zero = done counts
read_counts counts (suc n) = do
  c ← one_count counts
  read_counts (counts ++ c ∷ []) n

unfoldable pub all_counts : Reader (List AgentCount)
all_counts = one_number >>= read_counts []

unfoldable pub all_events : Reader (List Event)
all_events = one_number >>= read_events []

unfoldable pub all_taken : Reader Frame
all_taken = do
  accepted ← one_number
  waiting ← one_number
  repeats ← one_number
  refused ← one_number
  done (Took accepted waiting repeats refused)

-- the first byte of a frame of this kind
abbrev pub kind_byte : Kind → ℕ
kind_byte kinds.Have = 1
kind_byte kinds.Events = 2
kind_byte kinds.Done = 3
kind_byte kinds.Took = 4
kind_byte kinds.Clash = 5
kind_byte kinds.Bye = 6

-- what a body of this kind begins with
unfoldable pub content : Kind → Reader Frame
content kinds.Have = all_counts >>= λ counts. done (Have counts)
content kinds.Events = all_events >>= λ events. done (Events events)
content kinds.Done = done Done
content kinds.Took = all_taken
content kinds.Clash = one_id >>= λ x. done (Clash x)
content kinds.Bye = done Bye

-- nothing is left
abbrev pub all_of : {A : Type 0} → Option (A × List ℕ) → Option A
all_of None = None
all_of (Some (x, [])) = Some x
all_of (Some (x, b ∷ left)) = None

-- the frame of this kind with this body
unfoldable pub frame_in : Kind → List ℕ → Option Frame
frame_in kind body = all_of (content kind body)

-- the fault says that nothing was read; want of memory says nothing
abbrev pub Stops : {Y : Type 0} → FrameFault → Option Y → Type 0
Stops BadBody read = read ≡ None
Stops OutOfMemory read = Unit {0}
Stops (TooLong length) read = ⊥
Stops (BadKind kind) read = ⊥

-- what a reader gives, as it is seen, is what is read
abbrev pub Gives : {X Y : Type 0} → (X → Y) → Result X FrameFault → Option Y → Type 0
Gives view (Ok x) read = read ≡ Some (view x)
Gives view (Err fault) read = Stops fault read

-- what the kind and the length tell, in the words of the cutting
abbrev pub IsHead : List ℕ → Result (Option BodyPlace) FrameFault → Head → Type 0
IsHead bytes (Ok None) head = head ≡ Incomplete
IsHead bytes (Ok (Some p)) head = head ≡ Complete (kind_byte p.kind) (take p.len (drop 5 bytes)) (drop (5 + p.len) bytes)
IsHead bytes (Err (BadKind kind)) head = head ≡ NoKind kind
IsHead bytes (Err (TooLong length)) head = head ≡ OverLimit length
IsHead bytes (Err BadBody) head = ⊥
IsHead bytes (Err OutOfMemory) head = ⊥
