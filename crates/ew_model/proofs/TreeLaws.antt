-- The tree of a history grows by one entry with each event.
use Rattle.std.proofs.Common.{◌≡◌, ℕ, Bool, List, [], ◌∷◌, ◌++◌, Option, refl, sym, ap, ◌∙◌, append_assoc, append-nil}
use Rattle.std.proofs.lemmas.List.Sums.{fold-append}
use Rattle.ew_model.specs.declared.id.Id.{Id}
use Rattle.ew_model.specs.declared.event.Op.TheVariants.{Ins}
use Rattle.ew_model.specs.declared.event.Event.{Event}
use Rattle.ew_model.specs.Ids.{id_eq}
use Rattle.ew_model.specs.Entries.{Entry, order, visible}
use Rattle.ew_model.specs.Places.{place}
use Rattle.ew_model.specs.Tree.{Applied, next_entry, noted_as, grow, tree_of, applied, applied_after, tree_on, tree}
use Rattle.ew_model.specs.Texts.{text_of}

-- one more event
pub tree_of-push : {N : Type 0} (same : N → N → Bool) (b : ℕ) (events : List (Applied N)) (a : Applied N) → tree_of same b (events ++ a ∷ []) ≡ grow same b (tree_of same b events) a
unfolding tree_of
tree_of-push same b events a = fold-append (grow same b) [] events (a ∷ [])

pub applied_after-append : (before history later : List Event) → applied_after before (history ++ later) ≡ applied_after before history ++ applied_after (before ++ history) later
applied_after-append before [] later = ap (λ h. applied_after h later) (sym (append-nil before))
applied_after-append before (e ∷ history) later =
    ap (λ list. applied before e ∷ list) (applied_after-append (before ++ e ∷ []) history later
    ∙ ap (λ h. applied_after (before ++ e ∷ []) history ++ applied_after h later) (append_assoc before (e ∷ []) history))

-- the entry of the event that comes next in a history
abbrev pub entry_after : ℕ → List Event → Event → Option Entry
entry_after b history e = next_entry id_eq b (tree_on b history) (applied history e)

-- The tree of a history with one more event is its tree and the event's entry.
pub tree_on-push : (b : ℕ) (history : List Event) (e : Event) → tree_on b (history ++ e ∷ []) ≡ tree_on b history ++ noted_as e.id (entry_after b history e)
unfolding tree_on
tree_on-push b history e =
    ap (tree_of id_eq b) (applied_after-append [] history (e ∷ []))
    ∙ tree_of-push id_eq b (applied_after [] history) (applied history e)

-- the text of one insertion at the start is its character
pub text_of_one : (x : Id) (parents : List Id) (ch : ℕ) → text_of (record { id = x; parents = parents; op = Ins 0 ch } ∷ []) ≡ ch ∷ []
unfolding text_of tree tree_on tree_of next_entry place visible order
text_of_one x parents ch = refl
