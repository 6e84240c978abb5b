-- What a replica stands for: the events held, and those that wait.
use Rattle.std.specs.Prelude.{◌≡◌, ℕ, ◌≤◌, Bool, false, not, ◌&&◌, List, [], ◌∷◌, length}
use Rattle.std.specs.List.{list_any, AllByRecursion}
use Rattle.ew_model.specs.declared.event.Event.{Event}
use Rattle.ew_model.specs.Ids.{name_eq}
use Rattle.ew_model.specs.Ancestors.{is_held}
use Rattle.ew_model.specs.Limits.{LimitNumbers}
use Rattle.ew_model.specs.Verdicts.{IsGood}

-- none of the waiting events has an id that is held
abbrev pub AreFresh : List Event → List Event → Type 0
AreFresh held waiting = AllByRecursion (λ w. is_held held w.id ≡ false) waiting

-- no two of the waiting events have one id
abbrev pub AreApart : List Event → Type 0
AreApart [] = Unit {0}
AreApart (w ∷ waiting) = (is_held waiting w.id ≡ false) × AreApart waiting

-- what is held is good, and no id stands twice among the events held and waiting
pub record IsOrderly (held waiting : List Event) : Type 0 where
  pub good : IsGood held
  pub fresh : AreFresh held waiting
  pub apart : AreApart waiting

-- what a replica of these limits keeps: an orderly state, of which neither list is too long
pub record IsKept (limits : LimitNumbers) (held waiting : List Event) : Type 0 where
  pub orderly : IsOrderly held waiting
  pub few : length held ≤ limits.events
  pub few_wait : length waiting ≤ limits.waiting

-- what a replica stands for: its limits, the events held, and those that wait
pub record ReplicaState : Type 0 where
  pub limits : LimitNumbers
  pub held : List Event
  pub waiting : List Event

-- a waiting event is, or has as parent, an event of the agent that isn't held
abbrev pub is_awaited : List Event → List Event → List ℕ → Bool
is_awaited held waiting agent =
    list_any (λ w. list_any (λ x. name_eq x.agent agent && not (is_held held x)) (w.id ∷ w.parents)) waiting
