-- What is answered to an edit.
use Rattle.std.proofs.Common.{◌≡◌, ℕ, ◌+◌, ◌==◌, nat_lt, cond, ◌&&◌, List, ◌++◌, length, Some, None, Result, Ok, Err, refl, sym, ap, ◌∙◌, append-nil}
use Rattle.std.proofs.lemmas.List.{nil_from_length}
use Rattle.ew_model.specs.declared.event.Event.{Event}
use Rattle.ew_model.specs.Ancestors.{heads}
use Rattle.ew_model.specs.Limits.{LimitNumbers}
use Rattle.ew_model.specs.Texts.{text_of}
use Rattle.ew_model.specs.Verdicts.{IsGood}
use Rattle.ew_model.specs.Kept.{ReplicaState}
use Rattle.ew_model.specs.Edits.{Edit, ops_of, events_of_edit, needed_length, edit_refusal}
use Rattle.ew_model.specs.Edits.EditRefusal.{OutOfRange, TooManyHeads, Full}
use Rattle.ew_model.specs.EditLaws.{edited, size_of}
use Rattle.ew_model.proofs.EditLaws.{IsOfText, insert_of_text, delete_of_text, ops_long, edits_change_text}
use Rattle.ew_model.proofs.EditTexts.{edit_long}
use Rattle.replica.specs.declared.edit.Edit as program
use Rattle.replica.specs.declared.edit.Edit.TheVariants as of
use Rattle.replica.specs.declared.fault.EditFault.{EditFault}
use Rattle.replica.specs.declared.fault.EditFault.TheVariants as fault
use Rattle.replica.specs.Answers.{EditsBy, refusal_of}
use Rattle.replica.specs.Editing.{edit_view}
use Rattle.replica.specs.Refusing.{refusal_by}

-- an edit of the program puts in or takes out characters
pub view_of_text : (held : List Event) (agent : List ℕ) (edit : program.Edit) → IsOfText held agent (edit_view edit)
view_of_text held agent (of.Insert at text) = insert_of_text held agent at text.items
view_of_text held agent (of.Delete at count) = delete_of_text held agent at count

made_long : (held : List Event) (agent : List ℕ) (edit : Edit) → IsOfText held agent edit → length (events_of_edit held agent edit) ≡ size_of edit
made_long held agent edit text = ap length text.events ∙ (ops_long held agent (ops_of edit) ∙ edit_long edit)

-- whether an edit is refused that puts in or takes out characters depends on some numbers alone
pub refusal_is : (limits : LimitNumbers) (held : List Event) (agent : List ℕ) (edit : Edit) → IsOfText held agent edit
    → edit_refusal limits held agent edit ≡ refusal_by (length (text_of held)) (length (heads held)) (length held) limits.events (needed_length edit) (size_of edit)
unfolding edit_refusal
refusal_is limits held agent edit text =
    let long = made_long held agent edit text in
    λ i. cond (nat_lt (length (text_of held)) (needed_length edit)) (Some (OutOfRange (length (text_of held))))
    (cond (long i == 0) None
    (cond (text.needs i && nat_lt 16 (length (heads held))) (Some (TooManyHeads (length (heads held))))
    (cond (nat_lt limits.events (length held + long i)) (Some (Full (length held))) None)))

-- a refusal
pub refused : (agent : List ℕ) (edit : Edit) (old : ReplicaState) (told : EditFault) → edit_refusal old.limits old.held agent edit ≡ refusal_of told → EditsBy agent edit old old (Err told)
refused agent edit old (fault.OutOfRange len) e = (e, refl)
refused agent edit old (fault.TooManyHeads n) e = (e, refl)
refused agent edit old (fault.Full count) e = (e, refl)
refused agent edit old fault.OutOfMemory e = refl

-- an edit that makes no events
pub nothing_made : (agent : List ℕ) (edit : Edit) (old : ReplicaState) → IsOfText old.held agent edit → edit_refusal old.limits old.held agent edit ≡ None → size_of edit ≡ 0 → EditsBy agent edit old old (Ok 0)
nothing_made agent edit old text none empty =
    let long : length (events_of_edit old.held agent edit) ≡ 0 = made_long old.held agent edit text ∙ empty in
    let same : old.held ≡ old.held ++ events_of_edit old.held agent edit = sym (ap (λ es. old.held ++ es) (nil_from_length (events_of_edit old.held agent edit) long) ∙ append-nil old.held) in
    (none, (λ i. record { limits = old.limits; held = same i; waiting = old.waiting }), sym long)

-- an edit that makes some
pub some_made : (agent : List ℕ) (edit : Edit) (old new : ReplicaState) (made : List Event) (n : ℕ) → edit_refusal old.limits old.held agent edit ≡ None → made ≡ events_of_edit old.held agent edit
    → new ≡ record { limits = old.limits; held = old.held ++ made; waiting = old.waiting } → n ≡ length made → EditsBy agent edit old new (Ok n)
some_made agent edit old new made n none is e long =
    (none, e ∙ (λ i. record { limits = old.limits; held = old.held ++ is i; waiting = old.waiting }), long ∙ ap length is)

-- the text after an edit
pub text_after : (agent : List ℕ) (edit : Edit) (old new : ReplicaState) (n : ℕ) → IsGood old.held → EditsBy agent edit old new (Ok n) → text_of new.held ≡ edited edit (text_of old.held)
text_after agent edit old new n good e = ap (λ (s : ReplicaState). text_of s.held) e.1 ∙ (edits_change_text old.limits old.held agent edit good e.0).0

-- an edit leaves the waiting events as they were
pub waiting_stays : (agent : List ℕ) (edit : Edit) (old new : ReplicaState) (result : Result ℕ EditFault) → EditsBy agent edit old new result → new.waiting ≡ old.waiting
waiting_stays agent edit old new (Ok n) e = ap (λ (s : ReplicaState). s.waiting) e.1
waiting_stays agent edit old new (Err (fault.OutOfRange len)) e = ap (λ (s : ReplicaState). s.waiting) e.1
waiting_stays agent edit old new (Err (fault.TooManyHeads n)) e = ap (λ (s : ReplicaState). s.waiting) e.1
waiting_stays agent edit old new (Err (fault.Full count)) e = ap (λ (s : ReplicaState). s.waiting) e.1
waiting_stays agent edit old new (Err fault.OutOfMemory) e = ap (λ (s : ReplicaState). s.waiting) e
