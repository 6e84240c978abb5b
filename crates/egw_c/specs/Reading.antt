-- What is read out of a document, and why nothing is.
use Rattle.std.specs.Prelude.{◌≡◌, ◌⊎◌, ⊤, ℕ, ◌<◌, ◌≤◌, not, List, [], Option, Some, None, length, encode_utf8_all}
use Rattle.std.specs.List.{position_or_len}
use Rattle.ew_model.specs.declared.id.Id.{Id}
use Rattle.ew_model.specs.declared.event.Event.{Event}
use Rattle.ew_model.specs.Ancestors.{is_held}
use Rattle.ew_model.specs.Scripts.{version_text}
use Rattle.ew_model.specs.Texts.{text_at, text_of}
use Rattle.blame_definitions.specs.Blame.{blame_text}
use Rattle.caret_places.specs.Faults.{fault_of}
use Rattle.caret_places.specs.declared.fault.IndexFault.TheVariants as standing
use Rattle.carets.specs.declared.caret.Caret.{Caret}
use Rattle.carets.specs.Sides.{caret_in, side, text_chars}
use Rattle.document.specs.declared.fault.RangeFault.{RangeFault}
use Rattle.document.specs.declared.fault.RangeFault.TheVariants as range
use Rattle.history_definitions.specs.Versions.{IsVersion}
use Rattle.egw_c.specs.declared.fault.ReadingFault.{ReadingFault}
use Rattle.egw_c.specs.declared.fault.ReadingFault.TheVariants as reading
use Rattle.egw_c.specs.Words.{IsCaret, RefusesCaretWords, RefusesWords, caret_ids}

-- the place of the first of the ids that isn't held; their number, where all are
abbrev pub unheld_place : List Event → List Id → ℕ
unheld_place history ids = position_or_len (λ x. not (is_held history x)) ids

-- why nothing is read at a version of these ids: this is the place of the first that isn't held; or memory was wanting
abbrev pub RefusesIds : List Event → List Id → ReadingFault → Type 0
RefusesIds history ids (reading.Unknown place) = (place ≡ unheld_place history ids) × (place < length ids)
RefusesIds history ids reading.OutOfMemory = ⊤
RefusesIds history ids (reading.OutOfRange len) = ⊥
RefusesIds history ids reading.NoVersion = ⊥
RefusesIds history ids reading.NoCaret = ⊥
RefusesIds history ids reading.NoCharacter = ⊥

-- the words are a version whose ids are all held, and the bytes its text
abbrev pub ReadsVersion : List Event → List ℕ → List ℕ → Type 0
ReadsVersion history words bytes = (ids : List Id) × IsVersion words ids × (unheld_place history ids ≡ length ids) × (bytes ≡ encode_utf8_all (text_at history ids))

-- why nothing is read at what the words tell: they are no version, or that of ids of which one isn't held
abbrev pub RefusesVersion : List Event → List ℕ → ReadingFault → Type 0
RefusesVersion history words (reading.Unknown place) = (ids : List Id) × IsVersion words ids × RefusesIds history ids (reading.Unknown place)
RefusesVersion history words fault = RefusesWords words fault

-- a place that the text or the history doesn't have
abbrev pub of_range : RangeFault → ReadingFault
of_range (range.OutOfRange len) = reading.OutOfRange len
of_range range.OutOfMemory = reading.OutOfMemory

-- why nothing is found at a number, where there are so many: it is above them; or, where it isn't, memory was wanting
abbrev pub RefusesAbove : ℕ → ℕ → ReadingFault → Type 0
RefusesAbove count from (reading.OutOfRange len) = (count < from) × (len ≡ count)
RefusesAbove count from reading.OutOfMemory = from ≤ count
RefusesAbove count from reading.NoVersion = ⊥
RefusesAbove count from (reading.Unknown place) = ⊥
RefusesAbove count from reading.NoCaret = ⊥
RefusesAbove count from reading.NoCharacter = ⊥

-- the words are the caret at an index of the text
abbrev pub WritesCaret : List Event → ℕ → List ℕ → Type 0
WritesCaret history at words = (c : Caret) × (caret_in (text_chars history) at ≡ Some c) × (words ≡ version_text (caret_ids c))

-- why there is no caret at an index: the text ends before it
abbrev pub RefusesCaret : List Event → ℕ → ReadingFault → Type 0
RefusesCaret history at (reading.OutOfRange len) = (caret_in (text_chars history) at ≡ None) × (len ≡ length (text_of history))
RefusesCaret history at reading.OutOfMemory = ⊤
RefusesCaret history at reading.NoVersion = ⊥
RefusesCaret history at (reading.Unknown place) = ⊥
RefusesCaret history at reading.NoCaret = ⊥
RefusesCaret history at reading.NoCharacter = ⊥

-- the words are a caret, which stands at this index
abbrev pub StandsAt : List Event → List ℕ → ℕ → Type 0
StandsAt history words index = (c : Caret) × IsCaret words c × (fault_of history c ≡ None) × (index ≡ side history c)

-- why a caret stands nowhere: no event with its id is held, or that event inserted no character
abbrev pub RefusesStanding : List Event → Caret → ReadingFault → Type 0
RefusesStanding history c (reading.Unknown place) = (place ≡ 0) × ((x : Id) × (fault_of history c ≡ Some (standing.Unknown x)))
RefusesStanding history c reading.NoCharacter = (x : Id) × (fault_of history c ≡ Some (standing.NoCharacter x))
RefusesStanding history c reading.OutOfMemory = ⊤
RefusesStanding history c (reading.OutOfRange len) = ⊥
RefusesStanding history c reading.NoVersion = ⊥
RefusesStanding history c reading.NoCaret = ⊥

-- why the words tell no index: they are no caret, or a caret that stands nowhere
abbrev pub RefusesIndex : List Event → List ℕ → ReadingFault → Type 0
RefusesIndex history words fault = RefusesCaretWords words fault ⊎ ((c : Caret) × IsCaret words c × RefusesStanding history c fault)

-- the words name a version whose ids are all held; no words name the whole history
abbrev pub NamesVersion : List Event → List ℕ → Option (List Id) → Type 0
NamesVersion history words None = words ≡ []
NamesVersion history words (Some ids) = IsVersion words ids × (unheld_place history ids ≡ length ids)

-- the bytes are the blame of what the words name
abbrev pub WritesBlame : List Event → List ℕ → ℕ → List ℕ → Type 0
WritesBlame history words columns bytes = (version : Option (List Id)) × NamesVersion history words version × (bytes ≡ blame_text history version columns)
