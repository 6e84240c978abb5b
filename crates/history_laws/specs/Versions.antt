-- A version's text is that of its own events, whatever else is held.
use Rattle.std.specs.Prelude.{◌≡◌, true, List, [], ◌∷◌, ◌++◌}
use Rattle.std.specs.List.{list_all}
use Rattle.ew_model.specs.declared.id.Id.{Id}
use Rattle.ew_model.specs.declared.event.Event.{Event}
use Rattle.ew_model.specs.Sets.{Among, SameElements}
use Rattle.ew_model.specs.Ancestors.{is_held, version_events}
use Rattle.ew_model.specs.Texts.{text_at, text_of}
use Rattle.ew_model.specs.Operations.{changed_by}
use Rattle.ew_model.specs.Verdicts.{IsGood}
use Rattle.ew_model.specs.ArrivalLaw.{OneEach}
use Rattle.ew_model.specs.TextLaws.{own_change}

-- Versions with the same events have one text, whatever else their histories hold.
abbrev pub VersionsKeepText : Type 0
VersionsKeepText = (xs ys : List Event) (one other : List Id) → IsGood xs → IsGood ys
    → SameElements (version_events xs one) (version_events ys other) → text_at xs one ≡ text_at ys other

-- the events of the version are a good history of their own, and its text is the version's
pub record IsHistory (history : List Event) (version : List Id) : Type 0 where
  pub good : IsGood (version_events history version)
  pub text : text_at history version ≡ text_of (version_events history version)

-- So it is with each version of a good history.
abbrev pub VersionsAreHistories : Type 0
VersionsAreHistories = (history : List Event) (version : List Id) → IsGood history → IsHistory history version

-- the history holds an event for each id of the version
abbrev pub HoldsVersion : List Event → List Id → Type 0
HoldsVersion history version = list_all (is_held history) version ≡ true

-- A version has one text in all good histories that hold it, where there is one event for each id.
abbrev pub HeldVersionsKeepText : Type 0
HeldVersionsKeepText = (xs ys : List Event) (version : List Id) → IsGood xs → IsGood ys → OneEach (xs ++ ys)
    → HoldsVersion xs version → HoldsVersion ys version → text_at xs version ≡ text_at ys version

-- a history has the text that the event's maker saw, and the event changes that text by its own operation
pub record MeansWhatWasSeen (history makers : List Event) (e : Event) : Type 0 where
  pub seen : text_at history e.parents ≡ text_at makers e.parents
  pub made : text_at history (e.id ∷ []) ≡ changed_by (own_change e.op) (text_at makers e.parents)

-- An index is meant in the text that its maker saw. The event came next in its maker's history; each good history that holds it
-- means the same by it, where there is one event for each id.
abbrev pub EventsMeanWhatWasSeen : Type 0
EventsMeanWhatWasSeen = (history makers : List Event) (e : Event) → IsGood history → IsGood (makers ++ e ∷ []) → OneEach (history ++ makers)
    → Among e history → MeansWhatWasSeen history makers e
