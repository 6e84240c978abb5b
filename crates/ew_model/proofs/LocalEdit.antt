-- A local event, whose parents know the whole history, changes the text at its own index.
use Rattle.std.proofs.Common.{◌≡◌, ℕ, zero, suc, ◌<◌, ◌≤◌, Bool, true, cond, List, [], ◌∷◌, map, filter, length, slice_get, Some, refl, sym, ap, ◌∙◌, subst, arith}
use Rattle.std.specs.List.{AllByRecursion}
use Rattle.std.proofs.lemmas.List.{length-map}
use Rattle.ew_model.specs.declared.id.Id.{Id}
use Rattle.ew_model.specs.declared.event.Op.{Op}
use Rattle.ew_model.specs.declared.event.Op.TheVariants as op
use Rattle.ew_model.specs.declared.text_op.TextOp.{TextOp}
use Rattle.ew_model.specs.declared.text_op.TextOp.TheVariants.{Ins, Del, Nothing}
use Rattle.ew_model.specs.declared.event.Event.{Event}
use Rattle.ew_model.specs.Ids.{id_eq, is_among}
use Rattle.ew_model.specs.Ancestors.{ancestors}
use Rattle.ew_model.specs.Paths.{Step}
use Rattle.ew_model.specs.Entries.{Inserted, visible, insertions}
use Rattle.ew_model.specs.Tree.{Noted, act_by, all_entries, entries_over, next_entry, applied, applied_after, tree_on, tree}
use Rattle.ew_model.specs.Places.{path_before, place}
use Rattle.ew_model.specs.Texts.{text_of}
use Rattle.ew_model.specs.Operations.{operation_of, next_operation}
use Rattle.ew_model.proofs.EntryLaws.{LaidOut, tree_on_whole}
use Rattle.ew_model.proofs.EqualSets.{tree_apart, all_notes_of}
use Rattle.ew_model.proofs.PrefixLaws.{tree_prefixes}
use Rattle.ew_model.proofs.GapLaws.{HasPrefixes}
use Rattle.ew_model.proofs.OperationLaws.{tree_ids_apart}
use Rattle.ew_model.proofs.OwnIndex.{BehindRoot, tree_behind, own_insertion, own_deletion, own_mark}

-- all events of the history are among the ids
abbrev pub KnowsAll : List Event → List Id → Type 0
KnowsAll history ids = AllByRecursion (λ f. is_among ids f.id ≡ true) history

pub filter_all : {X : Type 0} (p : X → Bool) (xs : List X) → AllByRecursion (λ x. p x ≡ true) xs → filter p xs ≡ xs
filter_all p [] h = refl
filter_all p (x ∷ xs) h = ap (λ b. cond b (x ∷ filter p xs) (filter p xs)) h.0 ∙ ap (λ ys. x ∷ ys) (filter_all p xs h.1)

-- then the version has all entries
pub all_known : (history : List Event) (ids : List Id) → LaidOut [] history → KnowsAll history ids → entries_over id_eq 0 (tree_on 0 history) ids ≡ all_entries 0 (tree_on 0 history)
all_known history ids h k =
    ap (map (λ (n : Noted Id). n.entry)) (filter_all (λ n. is_among ids n.name) (tree_on 0 history)
    (subst (AllByRecursion (λ (n : Noted Id). is_among ids n.name ≡ true)) (sym (tree_on_whole 0 history h)) (all_notes_of (λ x. is_among ids x ≡ true) 0 history history k)))

pub path_there : (chars : List Inserted) (at : ℕ) → at ≤ length chars → (p : List Step) × (path_before chars at ≡ Some p)
path_there chars zero h = ([], refl)
path_there [] (suc i) h = absurd (omega arith)
path_there (c ∷ chars) (suc zero) h = (c.path, refl)
path_there (c ∷ chars) (suc (suc i)) h = path_there chars (suc i) (omega arith)

pub char_there : (chars : List Inserted) (at : ℕ) → at < length chars → (c : Inserted) × (slice_get chars at ≡ Some c)
char_there [] at h = absurd (omega arith)
char_there (c ∷ chars) zero h = (c, refl)
char_there (c ∷ chars) (suc i) h = char_there chars i (omega arith)

pub tree_has_prefixes : (history : List Event) → HasPrefixes (insertions (all_entries 0 (tree_on 0 history)))
unfolding tree_on
tree_has_prefixes history = tree_prefixes id_eq 0 (applied_after [] history)

pub tree_behind_root : (history : List Event) → BehindRoot (insertions (all_entries 0 (tree_on 0 history)))
unfolding tree_on
tree_behind_root history = tree_behind id_eq 0 (applied_after [] history)

-- the index of an operation, as an operation on the text
abbrev pub same_index : Op → TextOp
same_index (op.Ins at ch) = Ins at ch
same_index (op.Del at) = Del at
same_index (op.Mark label) = Nothing

-- the index is in a text of this length
abbrev pub IsInRange : ℕ → Op → Type 0
IsInRange len (op.Ins at ch) = at ≤ len
IsInRange len (op.Del at) = at < len
IsInRange len (op.Mark label) = Unit {0}

pub own_operation : (history : List Event) (x : Id) (o : Op) → LaidOut [] history → IsInRange (length (visible (all_entries 0 (tree_on 0 history)))) o → operation_of (visible (all_entries 0 (tree_on 0 history))) (place (act_by x o) (all_entries 0 (tree_on 0 history))) ≡ same_index o
own_operation history x (op.Ins at ch) h r =
    let entries = all_entries 0 (tree_on 0 history) in
    let p = path_there (visible entries) at r in
    own_insertion entries x at ch p.0 (tree_apart history h) (tree_has_prefixes history) (tree_behind_root history) p.1
own_operation history x (op.Del at) h r =
    let entries = all_entries 0 (tree_on 0 history) in
    let c = char_there (visible entries) at r in
    own_deletion entries at c.0 (tree_apart history h) (tree_ids_apart history h) c.1
own_operation history x (op.Mark label) h r = own_mark (all_entries 0 (tree_on 0 history))

-- An event that knows all events of a history, with an index in its text, changes the text there.
pub local_operation : (history : List Event) (e : Event) → LaidOut [] history → KnowsAll history (ancestors history e.parents) → IsInRange (length (text_of history)) e.op → next_operation id_eq 0 (tree_on 0 history) (applied history e) ≡ same_index e.op
unfolding next_operation next_entry text_of tree
local_operation history e h k r =
    ap (λ entries. operation_of (visible (all_entries 0 (tree_on 0 history))) (place (act_by e.id e.op) entries)) (all_known history (ancestors history e.parents) h k)
    ∙ own_operation history e.id e.op h (subst (λ n. IsInRange n e.op) (length-map (visible (all_entries 0 (tree_on 0 history))) (λ (x : Inserted). x.ch)) r)
