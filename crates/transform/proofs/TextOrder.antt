-- The characters in the order of the tree, by the positions of their events.
use Rattle.std.proofs.Common.{◌≡◌, ℕ, zero, suc, ◌≤◌, List, [], ◌∷◌, map, flat_map, length, Option, Some, None, slice_get, refl, sym, ap, ◌∙◌, length-append, arith}
use Rattle.std.proofs.lemmas.List.{length-map}
use Rattle.ew_model.specs.declared.id.Id.{Id}
use Rattle.ew_model.specs.declared.event.Event.{Event}
use Rattle.ew_model.specs.Ids.{id_eq}
use Rattle.ew_model.specs.Ancestors.{ids_of, ancestors}
use Rattle.ew_model.specs.Entries.{Inserted, Entry, inserted_cmp, insertions, order}
use Rattle.ew_model.specs.Tree.{Noted, act_by, all_entries, next_entry, noted_as, tree_on, tree}
use Rattle.ew_model.specs.Verdicts.{IsGood}
use Rattle.ew_model.proofs.EntryLaws.{notes_of, tree_on_whole}
use Rattle.ew_model.proofs.GoodLaws.{good_laid_out}
use Rattle.ew_model.proofs.ListPlaces.{some_is}
use Rattle.ew_model.proofs.SortingLaws.{length-sort}
use Rattle.ew_model.proofs.TextLengths.{length-insertions-le}
use Rattle.transform.specs.Placing.{order_ids, AreAt}

-- all inserted characters, deleted ones too, in the order of the tree
abbrev pub chars : List Event → List Inserted
chars history = order (all_entries 0 (tree history))

-- WHERE THEY STAND
-- the position at a place is that of the character's event
pub place_at : (ids : List Id) (zs : List Inserted) (ps : List ℕ) (n p : ℕ) → map (slice_get ids) ps ≡ map Some (map (λ (z : Inserted). z.id) zs) → slice_get ps n ≡ Some p
    → (z : Inserted) × (slice_get zs n ≡ Some z) × (slice_get ids p ≡ Some z.id)
place_at ids zs [] n p are at = let no : ⊥ = cc in absurd no
place_at ids [] (q ∷ ps) n p are at = let no : ⊥ = cc in absurd no
place_at ids (z ∷ zs) (q ∷ ps) zero p are at =
    let first : slice_get ids q ≡ Some z.id = cc in
    (z, refl, ap (slice_get ids) (sym (some_is q p at)) ∙ first)
place_at ids (z ∷ zs) (q ∷ ps) (suc n) p are at =
    let rest : map (slice_get ids) ps ≡ map Some (map (λ (w : Inserted). w.id) zs) = cc in
    place_at ids zs ps n p rest at

pub char_there : (history : List Event) (ps : List ℕ) (n p : ℕ) → AreAt history ps (order_ids history) → slice_get ps n ≡ Some p
    → (z : Inserted) × (slice_get (chars history) n ≡ Some z) × (slice_get (ids_of history) p ≡ Some z.id)
char_there history ps n p are at = place_at (ids_of history) (chars history) ps n p are at

-- there are as many positions as characters
pub as_many : (ids : List Id) (zs : List Inserted) (ps : List ℕ) → map (slice_get ids) ps ≡ map Some (map (λ (z : Inserted). z.id) zs) → length ps ≡ length zs
as_many ids zs ps are =
    sym (length-map ps (slice_get ids))
    ∙ ap (length {A = Option Id}) are
    ∙ length-map (map (λ (z : Inserted). z.id) zs) (λ (x : Id). Some x)
    ∙ length-map zs (λ (z : Inserted). z.id)

pub order_long : (history : List Event) (ps : List ℕ) → AreAt history ps (order_ids history) → length ps ≡ length (chars history)
order_long history ps are = as_many (ids_of history) (chars history) ps are

-- HOW MANY
short_note : (x : Id) (o : Option Entry) → length (noted_as x o) ≤ 1
short_note x None = omega arith
short_note x (Some e) = omega arith

short_notes : (whole history : List Event) → length (flat_map (notes_of 0 whole) history) ≤ length history
short_notes whole [] = omega arith
short_notes whole (e ∷ history) =
    let joined = length-append (notes_of 0 whole e) (flat_map (notes_of 0 whole) history) in
    let first = short_note e.id (next_entry id_eq 0 (tree_on 0 whole) (record { name = e.id; act = act_by e.id e.op; over = ancestors whole e.parents })) in
    let rest = short_notes whole history in
    omega (arith, joined, first, rest)

pub few_chars : (history : List Event) → IsGood history → length (chars history) ≤ length history
unfolding tree order
few_chars history good =
    let entries = all_entries 0 (tree_on 0 history) in
    let sorted = length-sort inserted_cmp (insertions entries) in
    let inserted = length-insertions-le entries in
    let noted = length-map (tree_on 0 history) (λ (n : Noted Id). n.entry) in
    let whole = ap (length {A = Noted Id}) (tree_on_whole 0 history (good_laid_out history good)) in
    omega (arith, sorted, inserted, noted, whole, short_notes history history)
