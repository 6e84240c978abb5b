-- Arrival: what a list of received events leaves, one judgement after another.
use Rattle.std.specs.Prelude.{ℕ, zero, suc, ◌+◌, ◌*◌, Bool, true, false, List, [], ◌∷◌, ◌++◌, Option, Some, None, if◌then◌else◌, nat_le, length, find}
use Rattle.std.specs.List.{list_all}
use Rattle.std.specs.Option.{option_map_or}
use Rattle.ew_model.specs.declared.event.Event.{Event}
use Rattle.ew_model.specs.Ancestors.{is_held}
use Rattle.ew_model.specs.Limits.{LimitNumbers}
use Rattle.ew_model.specs.Verdicts.{Ruling, later_rows, first_row, verdict}
use Rattle.ew_model.specs.Verdicts.Ruling.{Unknown, PoolFull, Good}

-- The desk where events are received: what is held, what waits, what is still to be judged, and whether one was
-- judged, so that waiting events which are ready come first.
pub record Desk : Type 0 where
  pub held : List Event
  pub waiting : List Event
  pub coming : List Event
  pub is_settling : Bool

-- an event and what was answered to it
pub record Answer : Type 0 where
  pub event : Event
  pub ruling : Ruling

-- the desk after a judgement, and the answer
pub record Judgement : Type 0 where
  pub desk : Desk
  pub answer : Answer

-- all the event's parents are held
abbrev pub is_ready : List Event → Event → Bool
is_ready held e = list_all (is_held held) e.parents

-- the list without its first event that is ready
abbrev pub without_ready : List Event → List Event → List Event
without_ready held [] = []
without_ready held (e ∷ waiting) = if is_ready held e then waiting else e ∷ without_ready held waiting

-- an event with an unknown parent is refused where no more may wait
abbrev pub at_the_pool : LimitNumbers → List Event → Ruling → Ruling
at_the_pool limits waiting (Unknown p) = if nat_le limits.waiting (length waiting) then PoolFull else Unknown p
at_the_pool limits waiting ruling = ruling

-- a good event is appended to the history, one with an unknown parent waits, and any other is only answered
abbrev pub desk_after : Ruling → Event → Desk → Desk
desk_after Good e d = record { held = d.held ++ e ∷ []; waiting = d.waiting; coming = d.coming; is_settling = true }
desk_after (Unknown p) e d = record { held = d.held; waiting = d.waiting ++ e ∷ []; coming = d.coming; is_settling = true }
desk_after ruling e d = record { held = d.held; waiting = d.waiting; coming = d.coming; is_settling = true }

-- the judgement of an event by a ruling, which is PoolFull where no more may wait
abbrev pub judgement_of : LimitNumbers → Desk → Event → Ruling → Judgement
judgement_of limits d e ruling =
    let final = at_the_pool limits d.waiting ruling in
    record { desk = desk_after final e d; answer = record { event = e; ruling = final } }

-- the first of the events to come is judged by all rows
abbrev pub judge_coming : LimitNumbers → Bool → Desk → List Event → Option Judgement
judge_coming limits with_index d [] = None
judge_coming limits with_index d (e ∷ coming) =
    Some (judgement_of limits (record { held = d.held; waiting = d.waiting; coming = coming; is_settling = true }) e
    (verdict limits with_index d.held d.waiting e))

-- a waiting event that is ready is taken out and judged by the rows from the parents on
abbrev pub judge_ready : LimitNumbers → Bool → Desk → Option Event → Option Judgement
judge_ready limits with_index d None = judge_coming limits with_index d d.coming
judge_ready limits with_index d (Some e) =
    Some (judgement_of limits (record { held = d.held; waiting = without_ready d.held d.waiting; coming = d.coming; is_settling = true }) e
    (first_row (later_rows limits with_index d.held e)))

-- the next judgement, if there is one
unfoldable pub next_judgement : LimitNumbers → Bool → Desk → Option Judgement
next_judgement limits with_index d =
    judge_ready limits with_index d (if d.is_settling then find (is_ready d.held) d.waiting else None)

-- what a number of judgements leaves, with the answers in order
pub record Outcome : Type 0 where
  pub desk : Desk
  pub answers : List Answer

-- an outcome with one more answer in front
abbrev pub with_answer : Answer → Outcome → Outcome
with_answer answer o = record { desk = o.desk; answers = answer ∷ o.answers }

-- up to n judgements
abbrev pub judgements : LimitNumbers → Bool → ℕ → Desk → Outcome
judgements limits with_index zero d = record { desk = d; answers = [] }
judgements limits with_index (suc n) d =
    option_map_or (λ j. with_answer j.answer (judgements limits with_index n j.desk)) (next_judgement limits with_index d) (record { desk = d; answers = [] })

-- There are no more judgements than this: each takes a waiting event, or one to come, which may then wait.
abbrev pub most_judgements : Desk → ℕ
most_judgements d = length d.waiting + 2 * length d.coming

-- all judgements from the desk on
abbrev pub judged : LimitNumbers → Bool → Desk → Outcome
judged limits with_index d = judgements limits with_index (most_judgements d) d

-- a list of events before the first is judged
abbrev pub desk_of : List Event → List Event → List Event → Desk
desk_of held waiting events = record { held = held; waiting = waiting; coming = events; is_settling = false }

-- the state after a list of received events, with the answers in order of judging
unfoldable pub arrive : LimitNumbers → List Event → List Event → List Event → Outcome
arrive limits held waiting events = judged limits true (desk_of held waiting events)
