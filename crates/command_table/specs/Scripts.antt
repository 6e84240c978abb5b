-- What inputs are read as, what running an edit script does to a history, and what of it goes into a journal.
use Rattle.std.specs.Prelude.{ℕ, List, [], ◌∷◌, ◌++◌, length, flat_map, Option, None, Some}
use Rattle.ew_model.specs.declared.event.Event.{Event}
use Rattle.ew_model.specs.Limits.{LimitNumbers}
use Rattle.ew_model.specs.Edits.{Edit, EditRefusal, events_of_edit, edit_refusal}
use Rattle.ew_model.specs.Scripts.{Numbered, IsScript, IsFirstBadLine}
use Rattle.peer_definitions.specs.declared.net_step.NetStep.{NetStep}
use Rattle.command_table.specs.Text.{kept_text}
use Rattle.peer_definitions.specs.Pieces.{frame_room, pieces}
use Rattle.peer_definitions.specs.NetScripts.{IsNetScript, IsFirstBadNetLine, numbered_steps}

-- what an input was read as: the edits of a script, or the number of its first bad line
pub data Reading : Type 0 where
  script : (edits : List (Numbered Edit)) → Reading
  bad_line : (line : ℕ) → Reading

-- the input means this
abbrev pub Means : List ℕ → Reading → Type 0
Means input (script edits) = IsScript input edits
Means input (bad_line line) = IsFirstBadLine input line

-- what an input was read as for a net: the steps of a net script, each with the number of its line, or the number of its first bad line
pub data NetReading : Type 0 where
  net_script : (steps : List (ℕ × NetStep)) → NetReading
  bad_net_line : (line : ℕ) → NetReading

-- the input means this to a net
abbrev pub MeansNet : List ℕ → NetReading → Type 0
MeansNet input (net_script steps) = IsNetScript input (numbered_steps steps)
MeansNet input (bad_net_line line) = IsFirstBadNetLine input line

-- a history after edits, or the line that was refused, and why
pub data Edited : Type 0 where
  ran : (events : List Event) → Edited
  stopped_at : (line : ℕ) (why : EditRefusal) → Edited

-- an edit that nothing speaks against, and then what comes
abbrev pub then_edited : ℕ → Option EditRefusal → Edited → Edited
then_edited line None more = more
then_edited line (Some why) more = stopped_at line why

-- an agent's edits of a history, one after another
abbrev pub edited_by : LimitNumbers → List ℕ → List Event → List (Numbered Edit) → Edited
edited_by limits agent events [] = ran events
edited_by limits agent events (i ∷ items) =
    then_edited i.line (edit_refusal limits events agent i.item) (edited_by limits agent (events ++ events_of_edit events agent i.item) items)

-- what is kept of a script: the events of each line that makes some, and the line that is refused, if one is, and why
pub record Watched : Type 0 where
  pub kept : List (List Event)
  pub stopped : Option (ℕ × EditRefusal)

-- the events of a line, if it made some, and then what comes
abbrev pub then_kept : List Event → Watched → Watched
then_kept [] more = more
then_kept (e ∷ events) more = record { kept = (e ∷ events) ∷ more.kept; stopped = more.stopped }

-- the events of a line that nothing speaks against, and then what comes
abbrev pub then_watched : ℕ → Option EditRefusal → List Event → Watched → Watched
then_watched line None made more = then_kept made more
then_watched line (Some why) made more = record { kept = []; stopped = Some (line, why) }

-- an agent's edits of a history, one after another: a line that is refused ends them, and those before it are kept
abbrev pub watched_by : LimitNumbers → List ℕ → List Event → List (Numbered Edit) → Watched
watched_by limits agent events [] = record { kept = []; stopped = None }
watched_by limits agent events (i ∷ items) =
    let made = events_of_edit events agent i.item in
    then_watched i.line (edit_refusal limits events agent i.item) made (watched_by limits agent (events ++ made) items)

-- the batches of lines: the events of each in order, in batches that are full but the last of the line
abbrev pub batches_of : LimitNumbers → List (List Event) → List (List Event)
batches_of limits lines = flat_map (pieces (frame_room limits)) lines

-- what is printed of lines that are kept: for each how many events it made
abbrev pub told_of : List (List Event) → List ℕ
told_of lines = flat_map (λ (events : List Event). kept_text (length events)) lines
