-- Why an edit is refused, by numbers alone.
use Rattle.std.specs.Prelude.{ℕ, ◌+◌, nat_lt, ◌==◌, if◌then◌else◌, Option, Some, None}
use Rattle.ew_model.specs.Edits.{EditRefusal}
use Rattle.ew_model.specs.Edits.EditRefusal.{OutOfRange, TooManyHeads, Full}

-- the first reason against so many new events, if there are any: there are too many heads, or the events held and the new ones are
-- more than the most that may be
abbrev pub refusal_to_make : (heads count most size : ℕ) → Option EditRefusal
refusal_to_make heads count most size =
    if size == 0 then None
    else if nat_lt 16 heads then Some (TooManyHeads heads)
    else if nat_lt most (count + size) then Some (Full count)
    else None

-- the first reason against an edit: the text has len characters where the edit needs more, or its events can't be made
abbrev pub refusal_by : (len heads count most needed size : ℕ) → Option EditRefusal
refusal_by len heads count most needed size =
    if nat_lt len needed then Some (OutOfRange len)
    else refusal_to_make heads count most size
