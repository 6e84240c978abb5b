-- What is proved of walks from critical cuts: what is below the cut may be forgotten but for the length of its text.
use Rattle.std.specs.Prelude.{◌≡◌, ℕ, nat_eq, true, List, take, drop, length}
use Rattle.ew_model.specs.declared.id.Id.{Id}
use Rattle.ew_model.specs.declared.event.Event.{Event}
use Rattle.ew_model.specs.Ids.{id_eq}
use Rattle.ew_model.specs.Ancestors.{ids_of, ancestors}
use Rattle.ew_model.specs.Entries.{visible}
use Rattle.ew_model.specs.Tree.{tree_of, entries_over}
use Rattle.ew_model.specs.Texts.{visible_at, text_at}
use Rattle.ew_model.specs.Walks.{base_at, applied_from, positions_among, walked_from}
use Rattle.ew_model.specs.Verdicts.{IsGood}
use Rattle.ew_model.specs.Operations.{operations, operations_of}
use Rattle.ew_model.specs.Sound.{AreSound}
use Rattle.ew_model.specs.Cuts.{are_among, is_critical}

-- Where a cut of a good history is critical, the events behind it do over a base, of as many characters as the text below
-- the cut has, what they do over the history.
abbrev pub CutsClear : Type 0
CutsClear = (history : List Event) (k : ℕ) → IsGood history → AreSound history → is_critical history k ≡ true
    → operations_of id_eq (base_at history k) (applied_from history k) ≡ drop k (operations history)

-- And a version that holds all below the cut has as many visible characters over the base as over the history.
abbrev pub CutsKeepLengths : Type 0
CutsKeepLengths = (history : List Event) (k : ℕ) (version : List Id) → IsGood history → AreSound history → is_critical history k ≡ true
    → are_among (ancestors history version) (ids_of (take k history)) ≡ true
    → length (visible (entries_over id_eq (base_at history k) (tree_of id_eq (base_at history k) (applied_from history k)) (ancestors history version)))
    ≡ length (visible_at history version)

-- So a walk from a critical cut, which names the events by their positions and knows the base by its length alone, has the
-- operations of the history.
abbrev pub WalksAnswer : Type 0
WalksAnswer = (history : List Event) (k : ℕ) → IsGood history → AreSound history → is_critical history k ≡ true
    → operations_of nat_eq (base_at history k) (walked_from history k) ≡ drop k (operations history)

-- And it knows how long each version's text is that holds all below the cut: so it knows which index is out of range.
abbrev pub WalksKnowLengths : Type 0
WalksKnowLengths = (history : List Event) (k : ℕ) (version : List Id) → IsGood history → AreSound history → is_critical history k ≡ true
    → are_among (ancestors history version) (ids_of (take k history)) ≡ true
    → length (visible (entries_over nat_eq (base_at history k) (tree_of nat_eq (base_at history k) (walked_from history k)) (positions_among (ancestors history version) k (drop k history))))
    ≡ length (text_at history version)
