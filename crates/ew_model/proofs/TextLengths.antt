-- A text has at most as many characters as its history has events.
use Rattle.std.proofs.Common.{◌≡◌, ℕ, ◌+◌, ◌≤◌, suc, List, [], ◌∷◌, length, take, drop, ap, ◌∙◌, arith, length-append, length-drop}
use Rattle.std.proofs.lemmas.List.{take-append-drop}
use Rattle.ew_model.specs.declared.event.Event.{Event}
use Rattle.ew_model.specs.declared.text_op.TextOp.{TextOp}
use Rattle.ew_model.specs.declared.text_op.TextOp.TheVariants.{Ins, Del, Nothing}
use Rattle.ew_model.specs.Operations.{operations_of, operations, changed_by, changed_by_all}
use Rattle.ew_model.specs.Entries.{Entry, insertions}
use Rattle.ew_model.specs.Entries.Entry.{Insertion, Deletion, Mark}
use Rattle.ew_model.specs.Tree.{applied_after}
use Rattle.ew_model.specs.Texts.{text_of}
use Rattle.ew_model.specs.Verdicts.{IsGood}
use Rattle.ew_model.proofs.ClearingLaw.{length-operations, length-applied}
use Rattle.ew_model.proofs.GoodLaws.{operations_make_text}

-- an operation lengthens a text by one character at most
pub length_changed : (op : TextOp) (text : List ℕ) → length (changed_by op text) ≤ length text + 1
length_changed (Ins at ch) text =
    omega (arith, length-append (take at text) (ch ∷ drop at text), length-append (take at text) (drop at text), ap length (take-append-drop at text))
length_changed (Del at) text =
    omega (arith, length-append (take at text) (drop (suc at) text), length-append (take at text) (drop at text), ap length (take-append-drop at text), length-drop (suc at) text, length-drop at text)
length_changed Nothing text = omega arith

pub length_changed_by_all : (ops : List TextOp) (text : List ℕ) → length (changed_by_all ops text) ≤ length text + length ops
length_changed_by_all [] text = omega arith
length_changed_by_all (op ∷ ops) text = omega (arith, length_changed_by_all ops (changed_by op text), length_changed op text)

-- a tree has no more insertions than entries
pub length-insertions-le : (entries : List Entry) → length (insertions entries) ≤ length entries
length-insertions-le [] = omega arith
length-insertions-le (Insertion x ∷ entries) = omega (arith, length-insertions-le entries)
length-insertions-le (Deletion t ∷ entries) = omega (arith, length-insertions-le entries)
length-insertions-le (Mark ∷ entries) = omega (arith, length-insertions-le entries)

pub length_operations : (history : List Event) → length (operations history) ≡ length history
unfolding operations operations_of
length_operations history = length-operations 0 [] (applied_after [] history) ∙ length-applied [] history

pub text_is_short : (history : List Event) → IsGood history → length (text_of history) ≤ length history
text_is_short history good =
    omega (arith, ap length (operations_make_text history good), length_changed_by_all (operations history) [], length_operations history)
