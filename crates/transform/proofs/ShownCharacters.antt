-- The characters that are shown, by the positions of their events.
use Rattle.std.proofs.Common.{◌≡◌, ℕ, ◌<◌, ◌≤◌, Bool, true, false, not, cond, List, [], ◌∷◌, map, filter, length, get_or, Some, option_map, slice_get, refl, ap, ◌∙◌, arith}
use Rattle.std.proofs.lemmas.List.{length-map}
use Rattle.std.proofs.lemmas.Option.{slice_get-map, slice_get-get_or, get_or_from_slice_get}
use Rattle.ew_model.specs.declared.id.Id.{Id}
use Rattle.ew_model.specs.declared.event.Event.{Event}
use Rattle.ew_model.specs.Ancestors.{ids_of}
use Rattle.ew_model.specs.Entries.{Inserted, is_deleted, visible, order}
use Rattle.ew_model.specs.Tree.{all_entries, tree}
use Rattle.ew_model.specs.Verdicts.{IsGood}
use Rattle.ew_model.proofs.AgentLaws.{within_ids}
use Rattle.ew_model.proofs.ListParts.{length-filter-le}
use Rattle.transform.specs.Placing.{order_ids, AreAt}
use Rattle.transform.specs.Places.{are_deleted, shown_ids}
use Rattle.transform.proofs.TextOrder.{chars, char_there, as_many, few_chars}

-- the mark at a character's position says whether it is deleted
pub mark_there : (history : List Event) (deleted : List Bool) (p : ℕ) (x : Id) (d : Bool) → deleted ≡ are_deleted history → slice_get (ids_of history) p ≡ Some x → get_or deleted p d ≡ is_deleted (all_entries 0 (tree history)) x
mark_there history deleted p x d is at =
    let gone = is_deleted (all_entries 0 (tree history)) in
    ap (λ bs. get_or bs p d) is
    ∙ get_or_from_slice_get (are_deleted history) p (gone x) d (slice_get-map gone (ids_of history) p ∙ ap (option_map gone) at)

-- positions that are kept by their marks, beside characters that are kept by their ids
kept : (ids : List Id) (mark : ℕ → Bool) (gone : Id → Bool) → ((p : ℕ) (x : Id) → slice_get ids p ≡ Some x → mark p ≡ gone x) → (zs : List Inserted) (ps : List ℕ)
    → map (slice_get ids) ps ≡ map Some (map (λ (z : Inserted). z.id) zs)
    → map (slice_get ids) (filter (λ p. not (mark p)) ps) ≡ map Some (map (λ (z : Inserted). z.id) (filter (λ (z : Inserted). not (gone z.id)) zs))
kept ids mark gone same [] [] are = refl
kept ids mark gone same [] (p ∷ ps) are = let no : ⊥ = cc in absurd no
kept ids mark gone same (z ∷ zs) [] are = let no : ⊥ = cc in absurd no
kept ids mark gone same (z ∷ zs) (p ∷ ps) are =
    let first : slice_get ids p ≡ Some z.id = cc in
    let rest : map (slice_get ids) ps ≡ map Some (map (λ (w : Inserted). w.id) zs) = cc in
    at (mark p) (gone z.id) (same p z.id first) first (kept ids mark gone same zs ps rest)
  where
    kept_ps : List ℕ
    kept_ps = filter (λ q. not (mark q)) ps

    kept_zs : List Inserted
    kept_zs = filter (λ (w : Inserted). not (gone w.id)) zs

    at : (a b : Bool) → a ≡ b → slice_get ids p ≡ Some z.id → map (slice_get ids) kept_ps ≡ map Some (map (λ (w : Inserted). w.id) kept_zs)
        → map (slice_get ids) (cond (not a) (p ∷ kept_ps) kept_ps) ≡ map Some (map (λ (w : Inserted). w.id) (cond (not b) (z ∷ kept_zs) kept_zs))
    at true true e first rest = rest
    at false false e first rest = λ i. first i ∷ rest i
    at true false e first rest = let no : ⊥ = cc in absurd no
    at false true e first rest = let no : ⊥ = cc in absurd no

-- those of the order that aren't deleted are at the text's characters
pub shown_there : (history : List Event) (order : List ℕ) (deleted : List Bool) → AreAt history order (order_ids history) → deleted ≡ are_deleted history
    → AreAt history (filter (λ p. not (get_or deleted p true)) order) (shown_ids history)
unfolding visible
shown_there history order deleted are is =
    kept (ids_of history) (λ p. get_or deleted p true) (is_deleted (all_entries 0 (tree history))) (λ p x at. mark_there history deleted p x true is at) (chars history) order are

-- and no more than events
pub shown_few : (history : List Event) (positions : List ℕ) → IsGood history → AreAt history positions (shown_ids history) → length positions ≤ length history
unfolding visible
shown_few history positions good are =
    let many = as_many (ids_of history) (visible (all_entries 0 (tree history))) positions are in
    omega (arith, many, length-filter-le (λ (z : Inserted). not (is_deleted (all_entries 0 (tree history)) z.id)) (chars history), few_chars history good)

-- each position is one of the history
pub marks_long : (history : List Event) (deleted : List Bool) → deleted ≡ are_deleted history → length deleted ≡ length history
marks_long history deleted is = ap (length {A = Bool}) is ∙ length-map (ids_of history) (is_deleted (all_entries 0 (tree history))) ∙ length-map history (λ (e : Event). e.id)

pub order_within : (history : List Event) (order : List ℕ) (deleted : List Bool) → AreAt history order (order_ids history) → deleted ≡ are_deleted history → (k d : ℕ) → k < length order → get_or order k d < length deleted
order_within history order deleted are is k d lt =
    let char = char_there history order k (get_or order k d) are (slice_get-get_or order k d lt) in
    omega (arith, within_ids history (get_or order k d) char.0.id char.2, marks_long history deleted is)
