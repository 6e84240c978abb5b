-- The bytes of a frame, of which each frame has one spelling.
use Rattle.std.specs.Prelude.{◌≡◌, ℕ, ◌<◌, ◌≤◌, ◌^◌, Bool, true, ◌&&◌, List, [], ◌∷◌, ◌++◌, length, map, flat_map}
use Rattle.std.specs.List.{AllByRecursion}
use Rattle.std.specs.Ordering.{is_lt, nat_cmp}
use Rattle.std.specs.Cmp.Lexicographic.{slice_cmp}
use Rattle.ew_model.specs.declared.id.Id.{Id}
use Rattle.ew_model.specs.declared.event.Event.{Event}
use Rattle.ew_model.specs.Bytes.{four_bytes, name_bytes, op_bytes}
use Rattle.ew_model.specs.Names.{is_name}
use Rattle.ew_model.specs.Sound.{IsSoundId, AreSound}
use Rattle.peer_definitions.specs.declared.frame.Frame.{Frame}
use Rattle.peer_definitions.specs.declared.frame.Frame.TheVariants.{Have, Events, Done, Took, Clash, Bye}

-- an agent's name, and how many of its events are had
abbrev pub AgentCount : Type 0
AgentCount = List ℕ × ℕ

-- an id: the name, and the sequence number
abbrev pub id_bytes : Id → List ℕ
id_bytes x = name_bytes x.agent ++ four_bytes x.seq

-- an event: its id, the number of parents in a byte, the parents in their order, and the operation
abbrev pub event_bytes : Event → List ℕ
event_bytes e = id_bytes e.id ++ length e.parents ∷ flat_map id_bytes e.parents ++ op_bytes e.op

-- a name, and its count
abbrev pub count_bytes : AgentCount → List ℕ
count_bytes c = name_bytes c.0 ++ four_bytes c.1

-- how many counts there are, and each of them
abbrev pub counts_body : List AgentCount → List ℕ
counts_body counts = four_bytes (length counts) ++ flat_map count_bytes counts

-- how many events there are, and each of them
abbrev pub events_body : List Event → List ℕ
events_body events = four_bytes (length events) ++ flat_map event_bytes events

-- the byte that tells what a frame is
abbrev pub kind_of : Frame → ℕ
kind_of (Have counts) = 1
kind_of (Events events) = 2
kind_of Done = 3
kind_of (Took accepted waiting repeats refused) = 4
kind_of (Clash id) = 5
kind_of Bye = 6

-- what comes after a frame's kind and length
abbrev pub body_of : Frame → List ℕ
body_of (Have counts) = counts_body counts
body_of (Events events) = events_body events
body_of Done = []
body_of (Took accepted waiting repeats refused) = four_bytes accepted ++ four_bytes waiting ++ four_bytes repeats ++ four_bytes refused
body_of (Clash id) = id_bytes id
body_of Bye = []

-- a frame: its kind, the length of its body, and the body
unfoldable pub frame_bytes : Frame → List ℕ
frame_bytes f = kind_of f ∷ four_bytes (length (body_of f)) ++ body_of f

-- each name is lower than the next
abbrev pub names_ascend : List (List ℕ) → Bool
names_ascend [] = true
names_ascend (x ∷ []) = true
names_ascend (x ∷ y ∷ names) = is_lt (slice_cmp nat_cmp x y) && names_ascend (y ∷ names)

-- the content can be spelled: the names ascend and no count is 0, and the number of each event's parents goes into a byte
abbrev pub CanBeSpelled : Frame → Type 0
CanBeSpelled (Have counts) = (names_ascend (map (λ (c : AgentCount). c.0) counts) ≡ true) × AllByRecursion (λ (c : AgentCount). 0 < c.1) counts
CanBeSpelled (Events events) = AllByRecursion (λ (e : Event). length e.parents ≤ 255) events
CanBeSpelled Done = Unit {0}
CanBeSpelled (Took accepted waiting repeats refused) = Unit {0}
CanBeSpelled (Clash id) = Unit {0}
CanBeSpelled Bye = Unit {0}

-- the frame has a spelling
pub record HasSpelling (f : Frame) : Type 0 where
  pub content : CanBeSpelled f
  pub body : length (body_of f) < 2 ^ 32

-- a name, and a number of 32 bits
pub record IsSoundCount (c : AgentCount) : Type 0 where
  pub agent : is_name c.0 ≡ true
  pub count : c.1 < 2 ^ 32

-- a frame that the type can hold: names, numbers and characters in their ranges
abbrev pub IsSoundFrame : Frame → Type 0
IsSoundFrame (Have counts) = AllByRecursion IsSoundCount counts
IsSoundFrame (Events events) = AreSound events
IsSoundFrame Done = Unit {0}
IsSoundFrame (Took accepted waiting repeats refused) = (accepted < 2 ^ 32) × (waiting < 2 ^ 32) × (repeats < 2 ^ 32) × (refused < 2 ^ 32)
IsSoundFrame (Clash id) = IsSoundId id
IsSoundFrame Bye = Unit {0}

-- the body is that of this frame, which is of this kind and has a spelling
pub record IsBody (byte : ℕ) (body : List ℕ) (f : Frame) : Type 0 where
  pub sound : IsSoundFrame f
  pub spelled : HasSpelling f
  pub kind : kind_of f ≡ byte
  pub bytes : body_of f ≡ body
