-- Why calls of a document are refused.
use Rattle.std.proofs.Common.{◌≡◌, ◌≢◌, ℕ, ◌<◌, Bool, true, false, not, List, length, Option, Some, None, Result, Ok, Err, IfOk, OnOk, refl, sym, subst}
use Rattle.std.specs.Global.{Vec}
use Rattle.ew_model.specs.declared.id.Id.{Id}
use Rattle.ew_model.specs.declared.event.Event.{Event}
use Rattle.ew_model.specs.Ancestors.{is_held}
use Rattle.ew_model.specs.Entries.{Inserted}
use Rattle.ew_model.specs.Verdicts.{first_unknown}
use Rattle.blame_definitions.specs.Blame.{blame_text}
use Rattle.carets.specs.declared.caret.Caret.{Caret}
use Rattle.carets.specs.declared.caret.Caret.TheVariants.{Root, Behind}
use Rattle.carets.specs.Sides.{all_chars, char_of}
use Rattle.caret_places.specs.Faults.{fault_by, fault_of}
use Rattle.caret_places.specs.declared.fault.IndexFault.TheVariants as standing
use Rattle.document.specs.Documents as document
use Rattle.document.specs.declared.fault.RangeFault.{RangeFault}
use Rattle.document.specs.declared.fault.RangeFault.TheVariants as range
use Rattle.history_definitions.specs.Versions.{IsVersion}
use Rattle.egw_c.specs.declared.fault.ReadingFault.{ReadingFault}
use Rattle.egw_c.specs.declared.fault.ReadingFault.TheVariants as reading
use Rattle.egw_c.specs.Reading.{RefusesAbove, RefusesIds, WritesBlame, of_range, unheld_place}
use Rattle.egw_c.proofs.Places.{place_past, place_within}

-- a place that there isn't, as it is told
pub above_told : (count from : ℕ) (fault : RangeFault) → document.RefusesAbove count from fault → RefusesAbove count from (of_range fault)
above_told count from (range.OutOfRange len) h = h
above_told count from range.OutOfMemory h = h

-- the first id that isn't held stands at this place
pub unknown_refused : (history : List Event) (ids : List Id) (x : Id) (place : ℕ) → first_unknown history ids ≡ Some x → place ≡ unheld_place history ids → RefusesIds history ids (reading.Unknown place)
unknown_refused history ids x place unknown is = (is, within)
  where
    within : place < length ids
    within = subst (λ k. k < length ids) (sym is) (place_within (λ y. not (is_held history y)) ids x unknown)

-- where no id is unknown, all are held
pub all_held : (history : List Event) (ids : List Id) → ((x : Id) → first_unknown history ids ≡ Some x → ⊥) → unheld_place history ids ≡ length ids
all_held history ids none = place_past (λ y. not (is_held history y)) ids none

by_cases : (x : Id) (b : Bool) (ch : Option Inserted) → fault_by x b ch ≢ Some (standing.Unknown x) → fault_by x b ch ≢ Some (standing.NoCharacter x) → fault_by x b ch ≡ None
by_cases x false ch unknown none = absurd (unknown refl)
by_cases x true None unknown none = absurd (none refl)
by_cases x true (Some z) unknown none = refl

-- a caret that has neither fault has none
pub stands : (history : List Event) (c : Caret) → ((x : Id) → fault_of history c ≢ Some (standing.Unknown x)) → ((x : Id) → fault_of history c ≢ Some (standing.NoCharacter x)) → fault_of history c ≡ None
stands history Root unknown none = refl
stands history (Behind x) unknown none = by_cases x (is_held history x) (char_of (all_chars history) x) (unknown x) (none x)

-- the blame of a version that the words are
pub blamed_at : (history : List Event) (words : List ℕ) (ids : List Id) (columns : ℕ) (r : Result (Vec ℕ) ReadingFault) → IsVersion words ids
    → OnOk r (unheld_place history ids ≡ length ids) → IfOk r (λ bytes. bytes.items ≡ blame_text history (Some ids) columns) → IfOk r (λ bytes. WritesBlame history words columns bytes.items)
blamed_at history words ids columns (Ok bytes) v held h = (Some ids, (v, held), h)
blamed_at history words ids columns (Err fault) v held h = tt
