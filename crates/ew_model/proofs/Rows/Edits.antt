-- The laws of local edits at work: an agent types at two heads, and then deletes.
use Rattle.std.proofs.Common.{◌≡◌, false, [], ◌∷◌, ◌++◌, List, None, refl, arith}
use Rattle.ew_model.specs.declared.event.Event.{Event}
use Rattle.ew_model.specs.Ancestors.{heads}
use Rattle.ew_model.specs.Texts.{text_of}
use Rattle.ew_model.specs.Verdicts.{IsGood}
use Rattle.ew_model.specs.Kept.{IsKept, is_awaited}
use Rattle.ew_model.specs.Edits.{events_of_ops, events_of_edit, edit_refusal}
use Rattle.ew_model.specs.Edits.Edit.{Insert, Delete}
use Rattle.ew_model.proofs.EditLaws.{edits_are_good, edits_keep, edits_change_text, heads_after_edit}
use Rattle.ew_model.proofs.Rows.Events.{id, ins, del, fork}
use Rattle.ew_model.proofs.Rows.Texts.{opened}
use Rattle.ew_model.proofs.Rows.Receiving.{judging, program}

-- b types xy at 1, behind both heads
abbrev typing : List Event
typing = ins 98 1 1 120 (id 98 0 ∷ id 99 0 ∷ []) ∷ ins 98 2 2 121 (id 98 1 ∷ []) ∷ []

-- d deletes two characters at 1
abbrev cutting : List Event
cutting = del 100 0 1 (id 98 0 ∷ id 99 0 ∷ []) ∷ del 100 1 1 (id 100 0 ∷ []) ∷ []

fork_good : IsGood fork
unfolding judging
fork_good = (refl, (refl, (refl, tt)))

fork_text : text_of fork ≡ 97 ∷ 98 ∷ 99 ∷ []
unfolding opened
fork_text = refl

typed_events : events_of_edit fork (98 ∷ []) (Insert 1 (120 ∷ 121 ∷ [])) ≡ typing
unfolding events_of_ops
typed_events = refl

cut_events : events_of_edit fork (100 ∷ []) (Delete 1 2) ≡ cutting
unfolding events_of_ops
cut_events = refl

may_type : edit_refusal program fork (98 ∷ []) (Insert 1 (120 ∷ 121 ∷ [])) ≡ None
unfolding edit_refusal events_of_ops opened
may_type = refl

may_cut : edit_refusal program fork (100 ∷ []) (Delete 1 2) ≡ None
unfolding edit_refusal events_of_ops opened
may_cut = refl

-- So the laws say something of them.
typing_good : IsGood (fork ++ typing)
unfolding events_of_ops
typing_good = (edits_are_good program fork (98 ∷ []) (Insert 1 (120 ∷ 121 ∷ [])) fork_good (omega arith) may_type).0

typed_text : text_of (fork ++ typing) ≡ 97 ∷ 120 ∷ 121 ∷ 98 ∷ 99 ∷ []
unfolding events_of_ops opened
typed_text = (edits_change_text program fork (98 ∷ []) (Insert 1 (120 ∷ 121 ∷ [])) fork_good may_type).0

cut_text : text_of (fork ++ cutting) ≡ 97 ∷ []
unfolding events_of_ops opened
cut_text = (edits_change_text program fork (100 ∷ []) (Delete 1 2) fork_good may_cut).0

cut_head : heads (fork ++ cutting) ≡ id 100 1 ∷ []
unfolding events_of_ops
cut_head = heads_after_edit program fork (100 ∷ []) (Delete 1 2) fork_good may_cut (del 100 0 1 (id 98 0 ∷ id 99 0 ∷ []) ∷ []) (del 100 1 1 (id 100 0 ∷ [])) refl

-- what waits for another agent goes on waiting
abbrev waits : Event
waits = ins 101 1 0 122 (id 101 0 ∷ [])

not_awaited : is_awaited fork (waits ∷ []) (98 ∷ []) ≡ false
not_awaited = refl

typing_kept : IsKept program (fork ++ typing) (waits ∷ [])
unfolding events_of_ops
typing_kept =
    edits_keep program fork (waits ∷ []) (98 ∷ []) (Insert 1 (120 ∷ 121 ∷ []))
    (record { orderly = record { good = fork_good; fresh = (refl, tt); apart = (refl, tt) }; few = omega arith; few_wait = omega arith })
    not_awaited may_type
