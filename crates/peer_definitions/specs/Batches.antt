-- A journal of events: batches, one after another, and a gate before each.
use Rattle.std.specs.Prelude.{◌≡◌, ◌<◌, ◌≤◌, ◌^◌, ℕ, List, [], ◌∷◌, ◌++◌, length, flat_map, Option, None, Some}
use Rattle.std.specs.List.{AllByRecursion}
use Rattle.ew_model.specs.declared.event.Event.{Event}
use Rattle.ew_model.specs.Bytes.{four_bytes}
use Rattle.ew_model.specs.Sound.{AreSound}
use Rattle.peer_definitions.specs.Spelling.{events_body}

-- the bytes are the body of an Events frame, of these events
pub record IsEventsBody (bytes : List ℕ) (events : List Event) : Type 0 where
  pub sound : AreSound events
  pub few : length events < 2 ^ 32
  pub parents : AllByRecursion (λ (e : Event). length e.parents ≤ 255) events
  pub spelled : events_body events ≡ bytes

-- the events can be a batch where a body has at most so many bytes: there is an event, and the body isn't longer
pub record IsBatch (most : ℕ) (events : List Event) : Type 0 where
  pub some : 1 ≤ length events
  pub body : IsEventsBody (events_body events) events
  pub short : length (events_body events) ≤ most
  pub told : length (events_body events) < 2 ^ 32

-- a batch: the byte 1, which is its open gate, the length of the body in four bytes, and the body
abbrev pub batch_bytes : List Event → List ℕ
batch_bytes events = 1 ∷ four_bytes (length (events_body events)) ++ events_body events

-- the bytes of batches, one after another
abbrev pub journal_bytes : List (List Event) → List ℕ
journal_bytes batches = flat_map batch_bytes batches

-- the events of batches, in order
abbrev pub journal_events : List (List Event) → List Event
journal_events batches = flat_map (λ (b : List Event). b) batches

-- the bytes begin with these batches, and at least one more byte comes after them
pub record BeginWith (most : ℕ) (bytes : List ℕ) (batches : List (List Event)) (rest : List ℕ) : Type 0 where
  pub each : AllByRecursion (IsBatch most) batches
  pub parts : bytes ≡ journal_bytes batches ++ rest
  pub more : 1 ≤ length rest

-- the bytes begin with a closed gate, which is any byte but 1
abbrev pub IsClosed : List ℕ → Type 0
IsClosed bytes = (gate : ℕ) × (rest : List ℕ) × (bytes ≡ gate ∷ rest) × (gate ≡ 1 → ⊥)

-- the bytes begin with an open gate, and with no batch that a byte comes after
pub record IsBroken (most : ℕ) (bytes : List ℕ) : Type 0 where
  pub opened : (rest : List ℕ) × (bytes ≡ 1 ∷ rest)
  pub none : (batch : List Event) (rest : List ℕ) → BeginWith most bytes (batch ∷ []) rest → ⊥

-- what ends the batches at this place: a closed gate, or a bad place
abbrev pub EndsAt : ℕ → ℕ → List ℕ → Option ℕ → Type 0
EndsAt most place bytes None = IsClosed bytes
EndsAt most place bytes (Some bad) = (bad ≡ place) × IsBroken most bytes

-- A journal's bytes hold these batches, and then comes a bad place or none. Fewer than 2 bytes hold no batch, and have no bad place.
pub record AreBatches (most : ℕ) (bytes : List ℕ) (batches : List (List Event)) (bad : Option ℕ) : Type 0 where
  pub short : length bytes < 2 → (batches ≡ []) × (bad ≡ None)
  pub long : 2 ≤ length bytes → (rest : List ℕ) × BeginWith most bytes batches rest × EndsAt most (length (journal_bytes batches)) rest bad
