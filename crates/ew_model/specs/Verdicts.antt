-- How an event is judged against the events held and those that wait, and which histories are good.
use Rattle.std.specs.Prelude.{◌≡◌, ℕ, zero, suc, Bool, true, false, not, List, [], ◌∷◌, ◌++◌, Option, Some, None, if◌then◌else◌, nat_lt, nat_le, length, find}
use Rattle.std.specs.List.{list_any}
use Rattle.std.specs.Bool.{then_some}
use Rattle.std.specs.Option.{option_map}
use Rattle.ew_model.specs.declared.id.Id.{Id}
use Rattle.ew_model.specs.declared.event.Op.{Op}
use Rattle.ew_model.specs.declared.event.Op.TheVariants.{Ins, Del, Mark}
use Rattle.ew_model.specs.declared.event.Event.{Event}
use Rattle.ew_model.specs.Ids.{is_among, ids_ascend}
use Rattle.ew_model.specs.Events.{event_eq}
use Rattle.ew_model.specs.Ancestors.{ancestors, is_held, is_reduced}
use Rattle.ew_model.specs.Limits.{LimitNumbers}
use Rattle.ew_model.specs.Texts.{text_at}

-- what is answered to a received event
pub data Ruling : Type 0 where
  Repeat : Ruling
  Clash : Ruling
  SelfParent : Ruling
  TooManyParents : Ruling
  ParentsUnsorted : Ruling
  Unknown : (parent : Id) → Ruling
  PoolFull : Ruling
  NotReduced : Ruling
  Skipped : Ruling
  GraphFull : Ruling
  OutOfRange : (len : ℕ) → Ruling
  Good : Ruling

-- the number is 0, or the agent's event with the number below is among the ids
abbrev pub has_number_below : List Id → List ℕ → ℕ → Bool
has_number_below ids agent zero = true
has_number_below ids agent (suc n) = is_among ids (record { agent = agent; seq = n })

-- it is its agent's first, or the agent's event before it is among its ancestors
unfoldable pub follows_its_agent : List Event → Event → Bool
follows_its_agent history e = has_number_below (ancestors history e.parents) e.id.agent e.id.seq

-- the index is outside a text of this length; a mark has none
abbrev pub is_outside : ℕ → Op → Bool
is_outside len (Ins at ch) = nat_lt len at
is_outside len (Del at) = nat_le len at
is_outside len (Mark label) = false

-- The rows of the table, each with its answer where it holds.

-- by the id, against the events held and waiting
unfoldable pub id_rows : List Event → List Event → Event → List (Option Ruling)
id_rows held waiting e =
    then_some (list_any (event_eq e) (held ++ waiting)) Repeat
    ∷ then_some (is_held (held ++ waiting) e.id) Clash ∷ []

-- by the parents, against the events held
unfoldable pub parent_rows : List Event → Event → List (Option Ruling)
parent_rows held e =
    then_some (is_among e.parents e.id) SelfParent
    ∷ then_some (nat_lt 16 (length e.parents)) TooManyParents
    ∷ then_some (not (ids_ascend e.parents)) ParentsUnsorted
    ∷ option_map Unknown (find (λ p. not (is_held held p)) e.parents)
    ∷ then_some (not (is_reduced held e.parents)) NotReduced
    ∷ then_some (not (follows_its_agent held e)) Skipped ∷ []

-- by the number of events held
unfoldable pub size_rows : LimitNumbers → List Event → List (Option Ruling)
size_rows limits held = then_some (nat_le limits.events (length held)) GraphFull ∷ []

-- by the index, in the text at the event's parents
unfoldable pub range_rows : List Event → Event → List (Option Ruling)
range_rows held e =
    let len = length (text_at held e.parents) in
    then_some (is_outside len e.op) (OutOfRange len) ∷ []

-- the first row that holds, or else Good
abbrev pub first_row : List (Option Ruling) → Ruling
first_row [] = Good
first_row (None ∷ rows) = first_row rows
first_row (Some ruling ∷ rows) = ruling

-- the rows from the parents on; the one for the index may be left out
abbrev pub later_rows : LimitNumbers → Bool → List Event → Event → List (Option Ruling)
later_rows limits with_index held e = parent_rows held e ++ size_rows limits held ++ (if with_index then range_rows held e else [])

-- the verdict on a received event, before it is asked whether it may wait; the row for the index may be left out
abbrev pub verdict : LimitNumbers → Bool → List Event → List Event → Event → Ruling
verdict limits with_index held waiting e = first_row (id_rows held waiting e ++ later_rows limits with_index held e)

-- the verdict by the events held alone, whatever the event's index and their number
abbrev pub graph_verdict : List Event → Event → Ruling
graph_verdict held e = first_row (id_rows held [] e ++ parent_rows held e)

-- the verdict on the next event of a history, whatever its length
unfoldable pub next_verdict : List Event → Event → Ruling
next_verdict held e = first_row (id_rows held [] e ++ parent_rows held e ++ range_rows held e)

-- each of the events is good behind those before it
abbrev pub IsGoodAfter : List Event → List Event → Type 0
IsGoodAfter held [] = Unit {0}
IsGoodAfter held (e ∷ events) = (next_verdict held e ≡ Good) × IsGoodAfter (held ++ e ∷ []) events

-- a good history
unfoldable pub IsGood : List Event → Type 0
IsGood history = IsGoodAfter [] history

-- the ruling lets the event in
abbrev pub is_verdict_good : Ruling → Bool
is_verdict_good Good = true
is_verdict_good ruling = false

-- an event of a list that isn't good behind those before it: its position, and the verdict
pub record BadEvent : Type 0 where
  pub position : ℕ
  pub verdict : Ruling

-- the first of the events that isn't good, where the events before them are held
abbrev pub first_bad_after : List Event → List Event → Option BadEvent
first_bad_after held [] = None
first_bad_after held (e ∷ events) =
    if is_verdict_good (next_verdict held e) then first_bad_after (held ++ e ∷ []) events
    else Some (record { position = length held; verdict = next_verdict held e })

-- the first event of a list that isn't good, if there is one
unfoldable pub first_bad : List Event → Option BadEvent
first_bad events = first_bad_after [] events

-- the first of the ids that isn't held, if there is one
abbrev pub first_unknown : List Event → List Id → Option Id
first_unknown history ids = find (λ x. not (is_held history x)) ids
