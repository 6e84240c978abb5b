-- Rows on marks: which heads they join, what they leave, their lines, and that they do nothing to a text.
use Rattle.std.proofs.Common.{◌≡◌, ℕ, false, List, [], ◌∷◌, ◌++◌, Some, None, refl, length, map, codes}
use Rattle.ew_model.specs.declared.event.Op.TheVariants as op
use Rattle.ew_model.specs.declared.text_op.TextOp.TheVariants.{Ins, Nothing}
use Rattle.ew_model.specs.declared.event.Event.{Event}
use Rattle.ew_model.specs.declared.id.Id.{Id}
use Rattle.ew_model.specs.Events.{event_eq}
use Rattle.ew_model.specs.Ancestors.{heads}
use Rattle.ew_model.specs.Texts.{text_of}
use Rattle.ew_model.specs.Operations.{next_operation, operations_of, operations}
use Rattle.ew_model.specs.Verdicts.{next_verdict}
use Rattle.ew_model.specs.Verdicts.Ruling.{Good, Skipped}
use Rattle.ew_model.specs.Bytes.{op_bytes}
use Rattle.ew_model.specs.Edits.{Edit, joining_order, events_of_mark, events_of_edit, edit_refusal}
use Rattle.ew_model.specs.Edits.Edit.{Mark}
use Rattle.ew_model.specs.Edits.EditRefusal.{Full}
use Rattle.ew_model.specs.EditLaws.{number_made}
use Rattle.ew_model.specs.Scripts.{edit_line, MeansEdit}
use Rattle.ew_model.proofs.ScriptReading.{means_no_edit, means_no_sound_edit}
use Rattle.ew_model.proofs.Rows.Texts.{opened}
use Rattle.ew_model.proofs.Rows.Receiving.{judging, program}
use Rattle.ew_model.proofs.Rows.Parts.{each_first}
use Rattle.ew_model.proofs.Rows.Events.{id, event, ins, abc}

-- a mark with the label m
abbrev mark : ℕ → ℕ → List Id → Event
mark agent n parents = event (id agent n) (op.Mark (codes "m")) parents

abbrev firsts : List ℕ → List Id
firsts agents = map (λ agent. id agent 0) agents

-- in the empty history it has no parents
first_mark : events_of_edit [] (codes "a") (Mark (codes "m")) ≡ mark 97 0 [] ∷ []
unfolding events_of_mark joining_order
first_mark = refl

-- 17 heads: 16 in the first group, and then the mark before and the one that is left
seventeen : events_of_edit (each_first (codes "abcdefghijklmnopq")) (codes "a") (Mark (codes "m"))
    ≡ mark 97 1 (firsts (codes "abcdefghijklmnop")) ∷ mark 97 2 (id 97 1 ∷ id 113 0 ∷ []) ∷ []
unfolding events_of_mark joining_order
seventeen = refl

-- the last head is the agent's own: it comes into the first group, with the lowest 15 others
own_is_last : events_of_edit (each_first (codes "abcdefghijklmnopq")) (codes "q") (Mark (codes "m"))
    ≡ mark 113 1 (firsts (codes "abcdefghijklmnoq")) ∷ mark 113 2 (id 112 0 ∷ id 113 1 ∷ []) ∷ []
unfolding events_of_mark joining_order
own_is_last = refl

-- an agent without events takes the lowest
no_events_yet : events_of_edit (each_first (codes "abcdefghijklmnopq")) (codes "z") (Mark (codes "m"))
    ≡ mark 122 0 (firsts (codes "abcdefghijklmnop")) ∷ mark 122 1 (id 113 0 ∷ id 122 0 ∷ []) ∷ []
unfolding events_of_mark joining_order
no_events_yet = refl

-- 16 heads are joined by one event, on all of them
sixteen : events_of_edit (each_first (codes "abcdefghijklmnop")) (codes "p") (Mark (codes "m")) ≡ mark 112 1 (firsts (codes "abcdefghijklmnop")) ∷ []
unfolding events_of_mark joining_order
sixteen = refl

-- how many events join 31 and 32 heads
thirty_one : length (events_of_mark (each_first (codes "abcdefghijklmnopqrstuvwxyz01234")) (codes "z") (codes "m")) ≡ 2
unfolding events_of_mark joining_order
thirty_one = refl

thirty_two : number_made (each_first (codes "abcdefghijklmnopqrstuvwxyz012345")) (Mark (codes "m")) ≡ 3
thirty_two = refl

-- the label alone tells two marks apart
other_label : event_eq (mark 97 0 []) (event (id 97 0) (op.Mark (codes "n")) []) ≡ false
other_label = refl

-- no number of heads refuses a mark, but a full history does
is_not_refused : edit_refusal program (each_first (codes "abcdefghijklmnopq")) (codes "a") (Mark (codes "m")) ≡ None
unfolding edit_refusal events_of_mark joining_order opened
is_not_refused = refl

full : edit_refusal (record { events = 18; waiting = 1; input = 64; body = 668 }) (each_first (codes "abcdefghijklmnopq")) (codes "a") (Mark (codes "m")) ≡ Some (Full 17)
unfolding edit_refusal events_of_mark joining_order opened
full = refl

-- a mark between letters: the letters stand as before, and the mark does nothing
abbrev between : List Event
between = abc ++ mark 98 0 (id 97 2 ∷ []) ∷ ins 97 3 3 100 (id 97 2 ∷ []) ∷ ins 98 1 0 120 (id 98 0 ∷ []) ∷ []

marked_text : text_of between ≡ codes "xabcd"
unfolding opened
marked_text = refl

marked_operations : operations between ≡ Ins 0 97 ∷ Ins 1 98 ∷ Ins 2 99 ∷ Nothing ∷ Ins 3 100 ∷ Ins 0 120 ∷ []
unfolding operations operations_of next_operation opened
marked_operations = refl

marked_heads : heads between ≡ id 97 3 ∷ id 98 1 ∷ []
marked_heads = refl

-- a mark has no index, so none is out of range; its number counts as any event's
good_mark : next_verdict abc (mark 98 0 (id 97 2 ∷ [])) ≡ Good
unfolding judging
good_mark = refl

skipped_mark : next_verdict abc (mark 98 1 (id 97 2 ∷ [])) ≡ Skipped
unfolding judging
skipped_mark = refl

-- kind 2, and the label as a name
mark_bytes : op_bytes (op.Mark (codes "m")) ≡ 2 ∷ 1 ∷ 109 ∷ []
mark_bytes = refl

line_of_mark : edit_line (Mark (codes "release-1")) ≡ codes "mark release-1"
line_of_mark = refl

no_label : (e : Edit) → ¬ MeansEdit (codes "mark ") e
no_label = means_no_sound_edit (codes "mark ") (λ h. let no : ⊥ = cc in no)

label_with_space : (e : Edit) → ¬ MeansEdit (codes "mark a b") e
label_with_space = means_no_sound_edit (codes "mark a b") (λ h. let no : ⊥ = cc in no)

no_space : (e : Edit) → ¬ MeansEdit (codes "mark") e
no_space = means_no_edit (codes "mark") refl
