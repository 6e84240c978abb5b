-- What receiving a whole history does.
use Rattle.std.specs.Prelude.{◌≡◌, Bool, true, false, List, [], ◌++◌, map}
use Rattle.std.specs.List.{AllByRecursion}
use Rattle.ew_model.specs.declared.event.Event.{Event}
use Rattle.ew_model.specs.Sets.{SameElements}
use Rattle.ew_model.specs.Limits.{LimitNumbers}
use Rattle.ew_model.specs.Verdicts.{Ruling, IsGood}
use Rattle.ew_model.specs.Arrival.{Answer, Outcome, arrive}
use Rattle.ew_model.specs.Verdicts.Ruling.{Repeat, Clash, GraphFull, Good}
use Rattle.ew_model.specs.ArrivalLaw.{NoneFull, OneEach}

-- the event is held already, or becomes so
abbrev pub is_taken : Ruling → Bool
is_taken Repeat = true
is_taken Good = true
is_taken ruling = false

-- each event was answered once, in order, and is held; none waits
pub record IsMerged (held events : List Event) (o : Outcome) : Type 0 where
  pub in_order : map (λ a. a.event) o.answers ≡ events
  pub taken : AllByRecursion (λ a. is_taken a.ruling ≡ true) o.answers
  pub waiting : o.desk.waiting ≡ []
  pub whole : SameElements o.desk.held (held ++ events)

-- A good history that is received where nothing waits is taken whole, where no list is full.
abbrev pub HistoriesMerge : Type 0
HistoriesMerge = (limits : LimitNumbers) (held events : List Event) → IsGood held → IsGood events → OneEach (held ++ events)
    → NoneFull (arrive limits held [] events).answers → IsMerged held events (arrive limits held [] events)

-- another event has the id, or the history holds as many events as it may
abbrev pub is_clash_or_full : Ruling → Bool
is_clash_or_full Clash = true
is_clash_or_full GraphFull = true
is_clash_or_full ruling = false

-- none of the answers says so
abbrev pub NoneClashes : List Answer → Type 0
NoneClashes answers = AllByRecursion (λ a. is_clash_or_full a.ruling ≡ false) answers

-- The answers alone tell that it is: where none of them is a clash, and the history isn't full.
abbrev pub HistoriesMergeUnlessTheyClash : Type 0
HistoriesMergeUnlessTheyClash = (limits : LimitNumbers) (held events : List Event) → IsGood held → IsGood events → NoneClashes (arrive limits held [] events).answers
    → IsMerged held events (arrive limits held [] events)
