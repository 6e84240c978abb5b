-- At most how many touches receiving takes: a walk is begun anew behind each event that is out of range.
use Rattle.std.specs.Prelude.{ℕ, zero, suc, ◌+◌, Bool, true, false, List, Option, Some, None, if◌then◌else◌, length}
use Rattle.std.specs.Option.{option_map_or}
use Rattle.ew_model.specs.declared.event.Event.{Event}
use Rattle.ew_model.specs.Limits.{LimitNumbers}
use Rattle.ew_model.specs.Verdicts.{Ruling}
use Rattle.ew_model.specs.Verdicts.Ruling.{OutOfRange}
use Rattle.ew_model.specs.Arrival.{Desk, next_judgement, judged, most_judgements, desk_of}
use Rattle.ew_model.specs.Cuts.{latest_cut}
use Rattle.ew_model.specs.Touches.{touches}

-- the ruling says that the index is outside the text
abbrev pub is_out_of_range : Ruling → Bool
is_out_of_range (OutOfRange len) = true
is_out_of_range ruling = false

-- the desk after the first answer OutOfRange among the next n judgements, if there is one
abbrev pub after_out_of_range : LimitNumbers → ℕ → Desk → Option Desk
after_out_of_range limits zero d = None
after_out_of_range limits (suc n) d =
    option_map_or
    (λ j. if is_out_of_range j.answer.ruling then Some j.desk else after_out_of_range limits n j.desk)
    (next_judgement limits true d)
    None

-- the touches of one round: of a walk, from the latest cut, of what would be held if no index were looked at
unfoldable pub round_touches : LimitNumbers → Desk → ℕ
round_touches limits d =
    let reached = (judged limits false d).desk.held in
    touches reached (latest_cut reached (length d.held))

-- the touches of this round and of up to n further ones; each but the last ends with an answer OutOfRange
abbrev pub rounds_touches : LimitNumbers → ℕ → Desk → ℕ
rounds_touches limits zero d = round_touches limits d
rounds_touches limits (suc n) d =
    round_touches limits d
    + option_map_or (λ next. rounds_touches limits n next) (after_out_of_range limits (most_judgements d) d) 0

-- at most so many touches does receiving the events take
unfoldable pub most_touches : LimitNumbers → List Event → List Event → List Event → ℕ
most_touches limits held waiting events =
    rounds_touches limits (most_judgements (desk_of held waiting events)) (desk_of held waiting events)
