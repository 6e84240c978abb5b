-- Why an undo is refused, and what is answered where it isn't.
use Rattle.std.proofs.Common.{◌≡◌, ℕ, ◌+◌, ◌==◌, nat_lt, Bool, true, false, not, cond, List, length, find, map, Option, Some, None, IsSome, Ok, Err, refl, sym, ap, subst, ◌∙◌}
use Rattle.std.specs.Option.{option_and_then}
use Rattle.std.proofs.lemmas.Option.{same_Some}
use Rattle.ew_model.specs.declared.id.Id.{Id}
use Rattle.ew_model.specs.declared.event.Event.{Event}
use Rattle.ew_model.specs.Ancestors.{is_held, heads}
use Rattle.ew_model.specs.Edits.{EditRefusal}
use Rattle.ew_model.specs.Edits as edits
use Rattle.ew_model.specs.Kept.{ReplicaState}
use Rattle.ew_model.specs.Limits.{LimitNumbers}
use Rattle.ew_model.specs.Texts.{text_of}
use Rattle.ew_model.specs.Verdicts.{IsGood}
use Rattle.ew_model.proofs.EditLaws.{ops_long}
use Rattle.replica.specs.declared.fault.EditFault.{EditFault}
use Rattle.replica.specs.declared.fault.EditFault.TheVariants as refused
use Rattle.replica.specs.Operations.{DoesAll, ops_refusal, outside_first}
use Rattle.replica.specs.Refusing.{refusal_to_make}
use Rattle.replica.proofs.Doing.{none_outside}
use Rattle.undo.specs.declared.fault.UndoFault.{UndoFault}
use Rattle.undo.specs.Answers.{Undoes, fault_behind}
use Rattle.undo_definitions.specs.Undoing.{UndoRefusal, making_refusal, ops_of_undo, refusal_behind, undo_refusal}
use Rattle.undo_definitions.specs.Undoing.UndoRefusal.{NoEvent, TooManyHeads, Full}
use Rattle.undo_definitions.specs.Wanted.{restored, taken_out, wanted}
use Rattle.undo_definitions.proofs.Fitting.{undo_fits}
use Rattle.undo_definitions.proofs.Undos.{undos_leave_wanted}

-- the first event that isn't held
abbrev pub first_unheld : List Event → List Id → Option Id
first_unheld history undone = find (λ x. not (is_held history x)) undone

-- an event isn't held
pub no_event : (limits : LimitNumbers) (history : List Event) (undone : List Id) (id : Id) → Some id ≡ first_unheld history undone → undo_refusal limits history undone ≡ Some (NoEvent id)
unfolding undo_refusal
no_event limits history undone id is = ap (λ o. refusal_behind o (making_refusal limits history (length (ops_of_undo history undone)))) (sym is)

-- the refusal of an undo where that of its operations is this one
abbrev undo_by : EditRefusal → Option UndoRefusal
undo_by (edits.EditRefusal.OutOfRange len) = None
undo_by (edits.EditRefusal.TooManyHeads n) = Some (TooManyHeads n)
undo_by (edits.EditRefusal.Full count) = Some (Full count)

by_numbers : (none many full : Bool) (n count : ℕ)
    → cond none None (cond many (Some (TooManyHeads n)) (cond full (Some (Full count)) None)) ≡ option_and_then undo_by (cond none None (cond many (Some (edits.EditRefusal.TooManyHeads n)) (cond full (Some (edits.EditRefusal.Full count)) None)))
by_numbers true many full n count = refl
by_numbers false true full n count = refl
by_numbers false false true n count = refl
by_numbers false false false n count = refl

never_outside : (none many full : Bool) (n count len : ℕ) → cond none None (cond many (Some (edits.EditRefusal.TooManyHeads n)) (cond full (Some (edits.EditRefusal.Full count)) None)) ≡ Some (edits.EditRefusal.OutOfRange len) → ⊥
never_outside true many full n count len h = cc
never_outside false true full n count len h = cc
never_outside false false true n count len h = cc
never_outside false false false n count len h = cc

module _ (limits : LimitNumbers) (history : List Event) (undone : List Id) (good : IsGood history) where
  -- the operations of an undo are refused for their number alone
  in_range : ops_refusal limits history (ops_of_undo history undone) ≡ refusal_to_make (length (heads history)) (length history) limits.events (length (ops_of_undo history undone))
  in_range =
      let ops = ops_of_undo history undone in
      ap (λ o. outside_first o (refusal_to_make (length (heads history)) (length history) limits.events (length ops))) (none_outside (text_of history) ops (undo_fits history undone good))

  -- where all events are held, an undo is refused as its operations are
  same_refusal : first_unheld history undone ≡ None → undo_refusal limits history undone ≡ option_and_then undo_by (ops_refusal limits history (ops_of_undo history undone))
  unfolding undo_refusal
  same_refusal held =
      let made = length (ops_of_undo history undone) in
      ap (λ o. refusal_behind o (making_refusal limits history made)) held
      ∙ by_numbers (made == 0) (nat_lt 16 (length (heads history))) (nat_lt limits.events (length history + made)) (length (heads history)) (length history)
      ∙ ap (option_and_then undo_by) (sym in_range)

  not_outside : (len : ℕ) → ops_refusal limits history (ops_of_undo history undone) ≡ Some (edits.EditRefusal.OutOfRange len) → ⊥
  not_outside len h =
      let made = length (ops_of_undo history undone) in
      never_outside (made == 0) (nat_lt 16 (length (heads history))) (nat_lt limits.events (length history + made)) (length (heads history)) (length history) len (sym in_range ∙ h)

-- the fault of the operations is one of an undo
pub is_told : (agent : List ℕ) (undone : List Id) (old new : ReplicaState) (fault : EditFault) → IsGood old.held → DoesAll agent (ops_of_undo old.held undone) old new (Err fault) → IsSome (fault_behind fault)
is_told agent undone old new (refused.OutOfRange len) good h = absurd (not_outside old.limits old.held undone good len h.0)
is_told agent undone old new (refused.TooManyHeads n) good h = refl
is_told agent undone old new (refused.Full count) good h = refl
is_told agent undone old new refused.OutOfMemory good h = refl

-- the operations were refused
pub not_undone : (agent : List ℕ) (undone : List Id) (old new : ReplicaState) (fault : EditFault) (told : UndoFault) → IsGood old.held → first_unheld old.held undone ≡ None → fault_behind fault ≡ Some told
    → DoesAll agent (ops_of_undo old.held undone) old new (Err fault) → Undoes agent undone old new (Err told)
not_undone agent undone old new (refused.OutOfRange len) told good held is h = absurd (not_outside old.limits old.held undone good len h.0)
not_undone agent undone old new (refused.TooManyHeads n) told good held is h =
    subst (λ t. Undoes agent undone old new (Err t)) (same_Some _ told is) (same_refusal old.limits old.held undone good held ∙ ap (option_and_then undo_by) h.0, h.1)
not_undone agent undone old new (refused.Full count) told good held is h =
    subst (λ t. Undoes agent undone old new (Err t)) (same_Some _ told is) (same_refusal old.limits old.held undone good held ∙ ap (option_and_then undo_by) h.0, h.1)
not_undone agent undone old new refused.OutOfMemory told good held is h = subst (λ t. Undoes agent undone old new (Err t)) (same_Some _ told is) h

-- the operations were done
pub is_undone : (agent : List ℕ) (undone : List Id) (old new : ReplicaState) (n : ℕ) → IsGood old.held → first_unheld old.held undone ≡ None
    → DoesAll agent (ops_of_undo old.held undone) old new (Ok n) → Undoes agent undone old new (Ok n)
is_undone agent undone old new n good held h =
    (same_refusal old.limits old.held undone good held ∙ ap (option_and_then undo_by) h.0, h.1, h.2 ∙ sym (ops_long old.held agent (ops_of_undo old.held undone)))

-- what is so then
pub undone_text : (agent : List ℕ) (undone : List Id) (old new : ReplicaState) (n : ℕ) → IsGood old.held → Undoes agent undone old new (Ok n) → text_of new.held ≡ map (λ z. z.ch) (wanted old.held undone)
undone_text agent undone old new n good h = ap (λ (s : ReplicaState). text_of s.held) h.1 ∙ (undos_leave_wanted old.limits old.held agent undone good h.0).text

pub undone_made : (agent : List ℕ) (undone : List Id) (old new : ReplicaState) (n : ℕ) → IsGood old.held → Undoes agent undone old new (Ok n) → n ≡ length (taken_out old.held undone) + length (restored old.held undone)
undone_made agent undone old new n good h = h.2 ∙ (undos_leave_wanted old.limits old.held agent undone good h.0).made
