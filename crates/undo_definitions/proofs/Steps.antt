-- What an event that an agent makes behind all that is held does to the characters that are shown.
use Rattle.std.proofs.Common.{◌≡◌, ℕ, ◌<◌, ◌≤◌, true, List, [], ◌∷◌, ◌++◌, length, insert, remove, Option, Some, None, option_map, refl, ap, ◌∙◌, subst}
use Rattle.std.proofs.lemmas.List.{map-append}
use Rattle.ew_model.specs.declared.id.Id.{Id}
use Rattle.ew_model.specs.declared.event.Op.{Op}
use Rattle.ew_model.specs.declared.event.Op.TheVariants as op
use Rattle.ew_model.specs.declared.event.Event.{Event}
use Rattle.ew_model.specs.Ids.{is_among}
use Rattle.ew_model.specs.Ancestors.{ids_of, ancestors, heads}
use Rattle.ew_model.specs.Paths.{Step}
use Rattle.ew_model.specs.Entries.{Inserted, Entry, order, visible}
use Rattle.ew_model.specs.Entries.Entry.{Insertion, Deletion}
use Rattle.ew_model.specs.Places.{place, new_path}
use Rattle.ew_model.specs.Tree.{Noted, act_by, all_entries, next_entry, noted_as, tree_on, tree}
use Rattle.ew_model.specs.Verdicts.{IsGood}
use Rattle.ew_model.specs.Texts.{text_chars}
use Rattle.ew_model.proofs.CoverLaws.{held_of}
use Rattle.ew_model.proofs.EditEvents.{event_by, HasCome}
use Rattle.ew_model.proofs.EqualSets.{tree_apart}
use Rattle.ew_model.proofs.GoodLaws.{good_laid_out}
use Rattle.ew_model.proofs.HeadsLaw.{all_events}
use Rattle.ew_model.proofs.LocalEdit.{KnowsAll, all_known, path_there, char_there, tree_has_prefixes, tree_behind_root}
use Rattle.ew_model.proofs.OperationLaws.{tree_ids_apart, not_deleted, laid_last}
use Rattle.ew_model.proofs.OwnIndex.{count_gap, place_of_got, sorted_visible}
use Rattle.ew_model.proofs.PathOrder.{id_total}
use Rattle.ew_model.proofs.PlaceLaws.{ApartByPath}
use Rattle.ew_model.proofs.PrefixLaws.{ordered_among, visible_among}
use Rattle.ew_model.proofs.SortingLaws.{all_from, among_sort}
use Rattle.ew_model.proofs.TextLaws.{distinct_ids, visible-insertion, visible-deletion}
use Rattle.ew_model.proofs.TreeLaws.{entry_after, tree_on-push}

-- its entry is placed over all entries
entry_by : (history : List Event) (agent : List ℕ) (o : Op) → IsGood history
    → entry_after 0 history (event_by history agent o) ≡ place (act_by (event_by history agent o).id o) (all_entries 0 (tree_on 0 history))
unfolding next_entry
entry_by history agent o good = ap (place (act_by e.id o)) (all_known history (ancestors history e.parents) (good_laid_out history good) knows)
  where
    e : Event
    e = event_by history agent o

    knows : KnowsAll history (ancestors history e.parents)
    knows =
        all_from (λ f. is_among (ancestors history e.parents) f.id ≡ true) history
        (λ f m. ap (λ events. is_among (ids_of events) f.id) (all_events history e.parents (good_laid_out history good) (among_sort id_total (heads history))) ∙ held_of history f m)

grown_by : (history : List Event) (e : Event) (entry : Entry) → entry_after 0 history e ≡ Some entry → all_entries 0 (tree_on 0 (history ++ e ∷ [])) ≡ all_entries 0 (tree_on 0 history) ++ entry ∷ []
grown_by history e entry is =
    ap (all_entries 0) (tree_on-push 0 history e ∙ ap (λ o. tree_on 0 history ++ noted_as e.id o) is)
    ∙ map-append (λ (n : Noted Id). n.entry) (tree_on 0 history) (record { name = e.id; entry = entry } ∷ [])

-- an insertion puts a new character in at its index
pub put_in : (history : List Event) (agent : List ℕ) (at ch : ℕ) → IsGood history → HasCome history (event_by history agent (op.Ins at ch)) → at ≤ length (text_chars history)
    → (x : Inserted) × (x.id ≡ (event_by history agent (op.Ins at ch)).id) × (x.ch ≡ ch) × (text_chars (history ++ event_by history agent (op.Ins at ch) ∷ []) ≡ insert (text_chars history) at x)
unfolding tree place
put_in history agent at ch good come fits =
    let e = event_by history agent (op.Ins at ch) in
    let laid = good_laid_out history good in
    let then_laid = good_laid_out (history ++ e ∷ []) come.good in
    let entries = all_entries 0 (tree_on 0 history) in
    let p = path_there (visible entries) at fits in
    let x : Inserted = record { id = e.id; path = new_path (order entries) p.0 e.id; ch = ch } in
    let entry : entry_after 0 history e ≡ Some (Insertion x) =
    entry_by history agent (op.Ins at ch) good
    ∙ ap (option_map (λ (q : List Step). Insertion (record { id = e.id; path = new_path (order entries) q e.id; ch = ch }))) p.1 in
    let grown = grown_by history e (Insertion x) entry in (
      x,
      refl,
      refl,
      ap visible grown
          ∙ visible-insertion entries x (subst ApartByPath grown (tree_apart (history ++ e ∷ []) then_laid)) (not_deleted history e.id laid (laid_last [] history e then_laid))
          ∙ ap (λ n. insert (visible entries) n x) (count_gap entries at p.0 e.id (tree_apart history laid) (tree_has_prefixes history) (tree_behind_root history) p.1),
    )

-- a list without what stands at a place
abbrev without_at : {X : Type 0} → Option ℕ → List X → List X
without_at None xs = xs
without_at (Some i) xs = remove xs i

-- a deletion takes the character at its index out
pub taken : (history : List Event) (agent : List ℕ) (at : ℕ) → IsGood history → at < length (text_chars history)
    → text_chars (history ++ event_by history agent (op.Del at) ∷ []) ≡ remove (text_chars history) at
unfolding tree place
taken history agent at good fits =
    let e = event_by history agent (op.Del at) in
    let laid = good_laid_out history good in
    let entries = all_entries 0 (tree_on 0 history) in
    let apart = tree_apart history laid in
    let ids = tree_ids_apart history laid in
    let c = char_there (visible entries) at fits in
    let entry : entry_after 0 history e ≡ Some (Deletion c.0.id) =
    entry_by history agent (op.Del at) good ∙ ap (option_map (λ (target : Inserted). Deletion target.id)) c.1 in
    let distinct = distinct_ids (visible entries) (sorted_visible entries apart) (λ x y m k f. ids x y (ordered_among entries x (visible_among entries x m)) (ordered_among entries y (visible_among entries y k)) f) in
    ap visible (grown_by history e (Deletion c.0.id) entry)
    ∙ visible-deletion entries c.0.id apart ids
    ∙ ap (λ o. without_at o (visible entries)) (place_of_got (visible entries) at c.0 distinct c.1)
