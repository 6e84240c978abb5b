-- What the order of arrival doesn't change.
use Rattle.std.specs.Prelude.{◌≡◌, Bool, true, false, List, ◌++◌}
use Rattle.std.specs.List.{AllByRecursion}
use Rattle.ew_model.specs.declared.event.Event.{Event}
use Rattle.ew_model.specs.Sets.{Among, SameElements}
use Rattle.ew_model.specs.Ids.{id_eq}
use Rattle.ew_model.specs.Limits.{LimitNumbers}
use Rattle.ew_model.specs.Verdicts.{Ruling}
use Rattle.ew_model.specs.Arrival.{Answer, Outcome, is_ready, arrive}
use Rattle.ew_model.specs.Kept.{IsOrderly}
use Rattle.ew_model.specs.Verdicts.Ruling.{PoolFull, GraphFull}

-- the ruling says that a list is full
abbrev pub is_full : Ruling → Bool
is_full PoolFull = true
is_full GraphFull = true
is_full ruling = false

-- none of the answers does
abbrev pub NoneFull : List Answer → Type 0
NoneFull answers = AllByRecursion (λ a. is_full a.ruling ≡ false) answers

-- no waiting event has all its parents held
abbrev pub NoneReady : List Event → List Event → Type 0
NoneReady held waiting = AllByRecursion (λ w. is_ready held w ≡ false) waiting

-- there is one event for each id
abbrev pub OneEach : List Event → Type 0
OneEach events = (f g : Event) → Among f events → Among g events → id_eq f.id g.id ≡ true → f ≡ g

-- the same events are held, and the same wait
pub record SameState (one other : Outcome) : Type 0 where
  pub held : SameElements one.desk.held other.desk.held
  pub waiting : SameElements one.desk.waiting other.desk.waiting

-- The same events, received in any order and with any repeats, come to the same where no list is full.
abbrev pub ArrivalAgrees : Type 0
ArrivalAgrees = (limits : LimitNumbers) (held waiting xs ys : List Event) → IsOrderly held waiting → NoneReady held waiting → OneEach (held ++ (waiting ++ xs)) → SameElements xs ys
    → NoneFull (arrive limits held waiting xs).answers → NoneFull (arrive limits held waiting ys).answers
    → SameState (arrive limits held waiting xs) (arrive limits held waiting ys)
