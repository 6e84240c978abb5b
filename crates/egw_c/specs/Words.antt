-- Words that C hands in: versions, ids and carets.
use Rattle.std.specs.Prelude.{⊤, ℕ, ◌<◌, List, [], ◌∷◌, length}
use Rattle.ew_model.specs.declared.id.Id.{Id}
use Rattle.carets.specs.declared.caret.Caret.{Caret}
use Rattle.carets.specs.declared.caret.Caret.TheVariants.{Root, Behind}
use Rattle.history_definitions.specs.Versions.{IsVersion}
use Rattle.egw_c.specs.declared.fault.ReadingFault.{ReadingFault}
use Rattle.egw_c.specs.declared.fault.ReadingFault.TheVariants as reading
use Rattle.egw_c.specs.declared.fault.UndoingFault.{UndoingFault}
use Rattle.egw_c.specs.declared.fault.UndoingFault.TheVariants as undoing

-- the words are no version
abbrev pub IsNoVersion : List ℕ → Type 0
IsNoVersion words = (ids : List Id) → ¬ (IsVersion words ids)

-- the words aren't an id
abbrev pub IsNoId : List ℕ → Type 0
IsNoId words = (x : Id) → ¬ (IsVersion words (x ∷ []))

-- a caret is written as the version of the event whose character it is behind; at the start, as that of none
abbrev pub caret_ids : Caret → List Id
caret_ids Root = []
caret_ids (Behind x) = x ∷ []

-- the words are this caret
abbrev pub IsCaret : List ℕ → Caret → Type 0
IsCaret words c = IsVersion words (caret_ids c)

-- why the words are read as no version; want of memory says nothing
abbrev pub RefusesWords : List ℕ → ReadingFault → Type 0
RefusesWords words reading.NoVersion = IsNoVersion words
RefusesWords words reading.OutOfMemory = ⊤
RefusesWords words (reading.OutOfRange len) = ⊥
RefusesWords words (reading.Unknown place) = ⊥
RefusesWords words reading.NoCaret = ⊥
RefusesWords words reading.NoCharacter = ⊥

-- why they are read as no caret: they are no version, or that of several ids
abbrev pub RefusesCaretWords : List ℕ → ReadingFault → Type 0
RefusesCaretWords words reading.NoCaret = (ids : List Id) × IsVersion words ids × (1 < length ids)
RefusesCaretWords words fault = RefusesWords words fault

-- why they are read as no id
abbrev pub RefusesIdWords : List ℕ → UndoingFault → Type 0
RefusesIdWords words undoing.NoId = IsNoId words
RefusesIdWords words undoing.OutOfMemory = ⊤
RefusesIdWords words (undoing.Name fault) = ⊥
RefusesIdWords words (undoing.Undo fault) = ⊥
