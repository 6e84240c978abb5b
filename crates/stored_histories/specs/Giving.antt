-- Events of a file that were given to a replica.
use Rattle.std.specs.Prelude.{◌≡◌, ℕ, ◌+◌, ◌≤◌, List, [], ◌∷◌, ◌++◌, length, Some}
use Rattle.ew_model.specs.declared.event.Event.{Event}
use Rattle.file_words.specs.FileFaults.{FileFinding}
use Rattle.file_words.specs.FileFaults.FileFinding.{IsFile}
use Rattle.event_file.specs.Rest.{Rest, in_front}
use Rattle.replica.specs.Giving.{Given, WereGiven}

-- the file has events, and just these were given
abbrev pub HoldsFile : FileFinding → Given → Type 0
HoldsFile found given = (events : List Event) × (found ≡ IsFile events) × WereGiven events given

-- of what is found of a file these events were given, and the rest is still to come, at most so many events in all
abbrev pub IsGivenFront : List Event → FileFinding → Given → Rest → ℕ → Type 0
IsGivenFront before found given rest most = WereGiven before given × (found ≡ in_front before rest.found) × (length before + rest.records ≤ most)

-- the same of some events, of which the last has the id that was handed out last
abbrev pub HasGivenLast : FileFinding → Given → Rest → ℕ → Type 0
HasGivenLast found given rest most = (before : List Event) × (e : Event) × (rest.last ≡ Some e.id) × IsGivenFront (before ++ e ∷ []) found given rest most
