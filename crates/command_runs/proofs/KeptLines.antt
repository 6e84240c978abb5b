-- The lines that a watch keeps: each makes a batch or more, and what is told of them is all that is printed.
use Rattle.std.proofs.Common.{◌≡◌, ◌≤◌, ◌<◌, ℕ, zero, suc, Bool, true, false, nat_lt, if◌then◌else◌, List, [], ◌∷◌, ◌++◌, length, take, flat_map, Option, Some, None, refl, ap, arith}
use Rattle.std.specs.List.{AllByRecursion}
use Rattle.std.proofs.lemmas.List.{length-append, length-take}
use Rattle.ew_model.specs.declared.event.Event.{Event}
use Rattle.ew_model.specs.Edits.{Edit, EditRefusal, edit_refusal, events_of_edit}
use Rattle.ew_model.specs.Edits.EditRefusal.{OutOfRange, TooManyHeads, Full}
use Rattle.ew_model.specs.Limits.{LimitNumbers, AreLimits}
use Rattle.ew_model.specs.Scripts.{Numbered}
use Rattle.peer_definitions.specs.Pieces.{frame_room, pieces}
use Rattle.peer_frames.proofs.Journals.{one_journal}
use Rattle.peer_exchange.proofs.PieceLaws.{pieces_whole, some_room}
use Rattle.command_table.specs.Journals.{Journal, Watch, export_reply, keeps_nothing, open_journal, watch, watch_end, watch_opened, watch_script}
use Rattle.command_table.specs.Kept.{HoldsFront}
use Rattle.command_table.specs.Loads.{File, missing, too_long, whole}
use Rattle.command_table.specs.Refusals.{Refusal, input_too_long}
use Rattle.command_table.specs.Scripts.{Reading, bad_line, script, Watched, watched_by, then_kept, then_watched, batches_of, told_of}
use Rattle.command_table.specs.Sessions.{printed_by}
use Rattle.command_table.specs.Table.{Text, Opened, opened, refused, refuses}

-- ---- how many lines stand

-- each line has an event
abbrev pub AreMade : List (List Event) → Type 0
AreMade lines = AllByRecursion (λ (events : List Event). 1 ≤ length events) lines

some_pieces : (n : ℕ) (xs : List Event) → 0 < n → 1 ≤ length xs → 1 ≤ length (pieces n xs)
some_pieces n xs room some = has (pieces n xs) (pieces_whole n xs room).whole
  where
    has : (ps : List (List Event)) → flat_map (λ (piece : List Event). piece) ps ≡ xs → 1 ≤ length ps
    has [] is = absurd (omega (arith, some, ap length is))
    has (p ∷ ps) is = omega arith

-- lines in front that have no more batches are no more lines
few_lines : (limits : LimitNumbers) (lines : List (List Event)) (n other : ℕ) → 0 < frame_room limits → AreMade lines → n ≤ length lines
    → length (batches_of limits (take n lines)) ≤ length (batches_of limits (take other lines)) → n ≤ other
few_lines limits lines zero other room made within le = omega arith
few_lines limits [] (suc n) other room made within le = absurd (omega (arith, within))
few_lines limits (line ∷ lines) (suc n) zero room made within le =
    absurd (omega (arith, le, length-append (pieces (frame_room limits) line) (batches_of limits (take n lines)), some_pieces (frame_room limits) line room made.0))
few_lines limits (line ∷ lines) (suc n) (suc other) room made within le =
    let one = length-append (pieces (frame_room limits) line) (batches_of limits (take n lines)) in
    let two = length-append (pieces (frame_room limits) line) (batches_of limits (take other lines)) in
    omega (arith, few_lines limits lines n other room made.1 (omega (arith, within)) (omega (arith, le, one, two)))

-- the bytes hold a front of so many batches, and of no other number
one_count : (limits : LimitNumbers) (journal : Journal) (lines : List (List Event)) (count other : ℕ) (bytes : List ℕ) → HoldsFront limits journal lines count bytes → HoldsFront limits journal lines other bytes
    → count ≤ length (batches_of limits lines) → other ≤ length (batches_of limits lines) → count ≡ other
one_count limits journal lines count other bytes first second le few =
    let batches = batches_of limits lines in
    let same = (one_journal limits.body bytes (journal.batches ++ take count batches) (journal.batches ++ take other batches) journal.bad journal.bad first second).0 in
    omega (
      arith,
      le,
      few,
      ap length same,
      length-append journal.batches (take count batches),
      length-append journal.batches (take other batches),
      length-take count batches,
      length-take other batches,
    )

-- lines in front that have no more batches are no more lines
abbrev pub CountByBatches : LimitNumbers → List (List Event) → Type 0
CountByBatches limits lines = (n other : ℕ) → n ≤ length lines → length (batches_of limits (take n lines)) ≤ length (batches_of limits (take other lines)) → n ≤ other

pub made_count : (limits : LimitNumbers) (lines : List (List Event)) → AreLimits limits → AreMade lines → CountByBatches limits lines
made_count limits lines are made = λ n other within le. few_lines limits lines n other (some_room limits are) made within le

pub none_count : (limits : LimitNumbers) → CountByBatches limits []
none_count limits = λ n other within le. omega (arith, within)

-- so a line that stands whole is no further than these batches go
pub last_line : (limits : LimitNumbers) (journal : Journal) (lines : List (List Event)) (bytes : List ℕ) (count other told n : ℕ) → CountByBatches limits lines
    → HoldsFront limits journal lines count bytes → HoldsFront limits journal lines other bytes → count ≤ length (batches_of limits lines) → other ≤ length (batches_of limits lines)
    → count ≤ length (batches_of limits (take (suc told) lines)) → n ≤ length lines → length (batches_of limits (take n lines)) ≤ other → n ≤ suc told
last_line limits journal lines bytes count other told n counts first second le few most within stand =
    let same = one_count limits journal lines count other bytes first second le few in
    counts n (suc told) within (omega (arith, same, most, stand))

-- ---- what a watch prints

-- each line that is kept has an event and is told, and nothing else is printed
pub record TellsKept (w : Watch) : Type 0 where
  pub made : AreMade w.kept
  pub sent : w.session.sent ≡ told_of w.kept
  pub silent : printed_by w.session.closing ≡ []

tells_nothing : (why : Refusal) → TellsKept (keeps_nothing (refuses why))
tells_nothing why = record { made = tt; sent = refl; silent = refl }

ends_silent : (limits : LimitNumbers) (stopped : Option (ℕ × EditRefusal)) → printed_by (watch_end limits stopped) ≡ []
ends_silent limits None = refl
ends_silent limits (Some (line, OutOfRange len)) = refl
ends_silent limits (Some (line, TooManyHeads heads)) = refl
ends_silent limits (Some (line, Full count)) = refl

made_kept : (made : List Event) (more : Watched) → AreMade more.kept → AreMade (then_kept made more).kept
made_kept [] more h = h
made_kept (e ∷ events) more h = (omega arith, h)

line_made : (line : ℕ) (r : Option EditRefusal) (made : List Event) (more : Watched) → AreMade more.kept → AreMade (then_watched line r made more).kept
line_made line None made more h = made_kept made more h
line_made line (Some why) made more h = tt

lines_made : (limits : LimitNumbers) (agent : List ℕ) (events : List Event) (edits : List (Numbered Edit)) → AreMade (watched_by limits agent events edits).kept
lines_made limits agent events [] = tt
lines_made limits agent events (i ∷ items) =
    let made = events_of_edit events agent i.item in
    line_made i.line (edit_refusal limits events agent i.item) made (watched_by limits agent (events ++ made) items) (lines_made limits agent (events ++ made) items)

script_tells : (agent : Text) (limits : LimitNumbers) (events : List Event) (reading : Reading) → TellsKept (watch_script agent limits events reading)
script_tells agent limits events (bad_line line) = record { made = tt; sent = refl; silent = refl }
script_tells agent limits events (script edits) =
    let w = watched_by limits agent events edits in
    record { made = lines_made limits agent events edits; sent = refl; silent = ends_silent limits w.stopped }

capped_tells : (b : Bool) (limits : LimitNumbers) (w : Watch) → TellsKept w → TellsKept (if b then keeps_nothing (refuses (input_too_long limits.input)) else w)
capped_tells true limits w h = tells_nothing (input_too_long limits.input)
capped_tells false limits w h = h

opened_tells : (agent : Text) (limits : LimitNumbers) (input : List ℕ) (reading : Reading) (o : Opened) → TellsKept (watch_opened agent limits input reading o)
opened_tells agent limits input reading (opened events) =
    capped_tells (nat_lt limits.input (length input)) limits (watch_script agent limits events reading) (script_tells agent limits events reading)
opened_tells agent limits input reading (refused why) = tells_nothing why

pub watch_tells : (agent : Text) (limits : LimitNumbers) (journal : Journal) (input : List ℕ) (reading : Reading) → TellsKept (watch agent limits journal input reading)
watch_tells agent limits journal input reading = opened_tells agent limits input reading (open_journal limits journal)

-- an export prints nothing
pub export_silent : (name : Text) (file : File) (o : Opened) → printed_by (export_reply name file o) ≡ []
export_silent name missing (opened events) = refl
export_silent name missing (refused why) = refl
export_silent name too_long o = refl
export_silent name (whole bytes) o = refl
