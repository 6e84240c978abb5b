-- What a round of judgements is good for: it tells the first event that is out of range, and what comes after it.
use Rattle.std.specs.Prelude.{◌≡◌, ℕ, zero, suc, ◌+◌, true, false, List, [], ◌∷◌, ◌++◌, Some, None, if◌then◌else◌, length}
use Rattle.std.specs.Option.{option_map_or}
use Rattle.ew_model.specs.declared.event.Event.{Event}
use Rattle.ew_model.specs.Texts.{text_at}
use Rattle.ew_model.specs.Limits.{LimitNumbers}
use Rattle.ew_model.specs.Arrival.{Desk, Answer, judged, most_judgements, desk_of, arrive}
use Rattle.ew_model.specs.Verdicts.{is_outside}
use Rattle.ew_model.specs.Kept.{IsOrderly}
use Rattle.ew_model.specs.Rounds.{is_out_of_range, after_out_of_range}

-- how many answers say that an index is out of range
abbrev pub number_out : List Answer → ℕ
number_out [] = 0
number_out (a ∷ answers) = if is_out_of_range a.ruling then suc (number_out answers) else number_out answers

-- The desk `next` is left by the first answer OutOfRange from the desk d on. What would be held if no index were looked at
-- begins with what is held there and with the event so answered; from there on all goes on as from d.
pub record IsFirstOut (limits : LimitNumbers) (d next : Desk) : Type 0 where
  pub event : Event
  pub added : List Event
  pub later : List Event
  pub before : next.held ≡ d.held ++ added
  pub reached : (judged limits false d).desk.held ≡ next.held ++ event ∷ later
  pub outside : is_outside (length (text_at next.held event.parents)) event.op ≡ true
  pub kept : IsOrderly next.held next.waiting
  pub rest : (judged limits true d).desk ≡ (judged limits true next).desk
  pub number : number_out (judged limits true d).answers ≡ suc (number_out (judged limits true next).answers)

-- how many rounds the bound sums up, as it is defined
abbrev pub rounds : LimitNumbers → ℕ → Desk → ℕ
rounds limits zero d = 1
rounds limits (suc n) d = 1 + option_map_or (λ next. rounds limits n next) (after_out_of_range limits (most_judgements d) d) 0

pub record RoundsTell : Type 0 where
  pub first : (limits : LimitNumbers) (d next : Desk) → IsOrderly d.held d.waiting → after_out_of_range limits (most_judgements d) d ≡ Some next → IsFirstOut limits d next
  -- where there is none, the round comes to the same with the row for the index and without it
  pub last : (limits : LimitNumbers) (d : Desk) → after_out_of_range limits (most_judgements d) d ≡ None → judged limits false d ≡ judged limits true d
  -- one round more than there are answers OutOfRange
  pub number : (limits : LimitNumbers) (held waiting events : List Event) → IsOrderly held waiting
      → rounds limits (most_judgements (desk_of held waiting events)) (desk_of held waiting events) ≡ 1 + number_out (arrive limits held waiting events).answers
