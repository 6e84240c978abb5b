-- What is proved of carets.
use Rattle.std.specs.Prelude.{◌≡◌, ◌↔◌, ℕ, ◌<◌, ◌≤◌, List, Some, IsSome, slice_get}
use Rattle.ew_model.specs.declared.id.Id.{Id}
use Rattle.ew_model.specs.declared.event.Event.{Event}
use Rattle.ew_model.specs.Sets.{Among, SameElements}
use Rattle.ew_model.specs.Entries.{Inserted}
use Rattle.ew_model.specs.Verdicts.{IsGood}
use Rattle.carets.specs.declared.caret.Caret.{Caret}
use Rattle.carets.specs.declared.caret.Caret.TheVariants.{Root, Behind}
use Rattle.carets.specs.Sides.{all_chars, text_chars, caret_in, caret_at, char_of, side}

-- the history has inserted the caret's character
abbrev pub HoldsCaret : List Event → Caret → Type 0
HoldsCaret history Root = Unit {0}
HoldsCaret history (Behind x) = IsSome (char_of (all_chars history) x)

-- the second history holds all events of the first
abbrev pub IsHeldBy : List Event → List Event → Type 0
IsHeldBy xs ys = (e : Event) → Among e xs → Among e ys

-- A caret that was taken at an index of a history's text is at this index.
abbrev pub CaretsAreAtTheirIndex : Type 0
CaretsAreAtTheirIndex = (history : List Event) (at : ℕ) (c : Caret) → IsGood history → caret_in (text_chars history) at ≡ Some c → side history c ≡ at

-- Two carets that were taken in one version keep their order in each good history that holds all its events.
abbrev pub CaretsKeepTheirOrder : Type 0
CaretsKeepTheirOrder = (xs ys : List Event) (version : List Id) (i j : ℕ) (c d : Caret) → IsGood xs → IsGood ys → IsHeldBy xs ys
    → i ≤ j → caret_at xs version i ≡ Some c → caret_at xs version j ≡ Some d → side ys c ≤ side ys d

-- A character that is visible in a good history and in another that holds its events, at i and at j, is left of a caret in both or in
-- none.
abbrev pub CharactersKeepTheirSide : Type 0
CharactersKeepTheirSide = (xs ys : List Event) (c : Caret) (i j : ℕ) (z w : Inserted) → IsGood xs → IsGood ys → IsHeldBy xs ys → HoldsCaret xs c
    → slice_get (text_chars xs) i ≡ Some z → slice_get (text_chars ys) j ≡ Some w → z.id ≡ w.id → (i < side xs c) ↔ (j < side ys c)

-- In good histories with the same events a caret is at the same index.
abbrev pub EqualSetsHaveEqualSides : Type 0
EqualSetsHaveEqualSides = (xs ys : List Event) (c : Caret) → IsGood xs → IsGood ys → SameElements xs ys → side xs c ≡ side ys c
