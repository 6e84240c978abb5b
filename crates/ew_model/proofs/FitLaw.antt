-- Each operation of a good history is in range where it is done.
use Rattle.std.proofs.Common.{◌≡◌, ℕ, suc, ◌+◌, ◌≤◌, Bool, true, false, cond, List, [], ◌∷◌, ◌++◌, length, Option, Some, None, position, count_by, refl, sym, subst, arith, append_assoc}
use Rattle.std.proofs.lemmas.List.{length-map}
use Rattle.std.proofs.lemmas.List.Sums.{sum_by-cons}
use Rattle.std.proofs.lemmas.List.Quantifiers.{position-Some}
use Rattle.ew_model.specs.declared.event.Event.{Event}
use Rattle.ew_model.specs.Ids.{id_eq}
use Rattle.ew_model.specs.Entries.{Inserted, Entry, order, visible}
use Rattle.ew_model.specs.Tree.{all_entries, next_entry, applied, applied_after, tree_of, tree_on, tree}
use Rattle.ew_model.specs.Paths.{path_lt}
use Rattle.ew_model.specs.Texts.{text_of}
use Rattle.ew_model.specs.Entries.Entry.{Insertion, Deletion, Mark}
use Rattle.ew_model.specs.Operations.{deletion_at, operation_of, next_operation, operations_after, operations_of, operations, changed_by}
use Rattle.ew_model.specs.TextLaws.{Fits, AllFit, OperationsFit}
use Rattle.ew_model.proofs.EntryLaws.{LaidOut}
use Rattle.ew_model.proofs.TreeLaws.{tree_on-push}
use Rattle.ew_model.proofs.OperationLaws.{laid_part, text_of-push}
use Rattle.ew_model.proofs.GoodLaws.{good_laid_out}

one_more : (b : Bool) (n m : ℕ) → n ≤ m → cond b 1 0 + n ≤ suc m
one_more true n m h = omega (arith, h)
one_more false n m h = omega (arith, h)

count_within : {X : Type 0} (p : X → Bool) (xs : List X) → count_by p xs ≤ length xs
count_within p [] = omega arith
count_within p (x ∷ xs) = subst (λ n. n ≤ length (x ∷ xs)) (sym (sum_by-cons (λ y. cond (p y) 1 0) x xs)) (one_more (p x) (count_by p xs) (length xs) (count_within p xs))

deletion_fits : (chars : List Inserted) (p : Inserted → Bool) (d : Inserted) (o : Option ℕ) → position p chars ≡ o → Fits (length chars) (deletion_at o)
deletion_fits chars p d None h = tt
deletion_fits chars p d (Some at) h = (position-Some p chars at d h).0

entry_fits : (chars : List Inserted) (d : Inserted) (o : Option Entry) → Fits (length chars) (operation_of chars o)
entry_fits chars d None = tt
entry_fits chars d (Some (Insertion x)) = count_within (λ y. path_lt y.path x.path) chars
entry_fits chars d (Some (Deletion target)) = deletion_fits chars (λ y. id_eq y.id target) d (position (λ y. id_eq y.id target) chars) refl
entry_fits chars d (Some Mark) = tt

nobody : Inserted
nobody = record { id = record { agent = []; seq = 0 }; path = []; ch = 0 }

next_fits : (history : List Event) (e : Event) → Fits (length (text_of history)) (next_operation id_eq 0 (tree_on 0 history) (applied history e))
unfolding text_of tree next_operation
next_fits history e =
    let chars = visible (all_entries 0 (tree_on 0 history)) in
    subst (λ n. Fits n (operation_of chars (next_entry id_eq 0 (tree_on 0 history) (applied history e)))) (sym (length-map chars (λ (x : Inserted). x.ch)))
    (entry_fits chars nobody (next_entry id_eq 0 (tree_on 0 history) (applied history e)))

all_fit : (before later : List Event) → LaidOut [] (before ++ later) → AllFit (text_of before) (operations_after id_eq 0 (tree_on 0 before) (applied_after before later))
all_fit before [] h = tt
all_fit before (e ∷ later) h =
    let shifted : (before ++ e ∷ []) ++ later ≡ before ++ e ∷ later = append_assoc before (e ∷ []) later in
    let laid : LaidOut [] ((before ++ e ∷ []) ++ later) = subst (LaidOut []) (sym shifted) h in
    let more = all_fit (before ++ e ∷ []) later laid in
    let told = subst (λ t. AllFit t (operations_after id_eq 0 (tree_on 0 (before ++ e ∷ [])) (applied_after (before ++ e ∷ []) later))) (text_of-push before e (laid_part [] (before ++ e ∷ []) later laid)) more in
    (next_fits before e, subst (λ notes. AllFit (changed_by (next_operation id_eq 0 (tree_on 0 before) (applied before e)) (text_of before)) (operations_after id_eq 0 notes (applied_after (before ++ e ∷ []) later))) (tree_on-push 0 before e) told)

nothing_yet : tree_on 0 [] ≡ []
unfolding tree_on tree_of
nothing_yet = refl

no_text : text_of [] ≡ []
unfolding text_of tree tree_on tree_of visible order
no_text = refl

pub operations_fit : OperationsFit
unfolding operations operations_of
operations_fit history good =
    subst (λ t. AllFit t (operations_after id_eq 0 [] (applied_after [] history))) no_text
    (subst (λ notes. AllFit (text_of []) (operations_after id_eq 0 notes (applied_after [] history))) nothing_yet (all_fit [] history (good_laid_out history good)))
