-- What an event leaves depends on the entries of its ancestors as a set.
use Rattle.std.proofs.Common.{◌≡◌, Bool, not, inl, inr, ⊎_elim, List, [], ◌∷◌, filter, option_map, slice_get, refl, ap, ◌∙◌}
use Rattle.std.specs.List.{list_any}
use Rattle.std.specs.Cmp.{both_ways, on_total, IsTotalOrder}
use Rattle.std.proofs.lemmas.List.Elements.{filter_agree}
use Rattle.ew_model.specs.Sets.{Among, SameElements}
use Rattle.ew_model.specs.Entries.{Inserted, Entry, insertions, deletes, is_deleted, inserted_cmp, order, visible}
use Rattle.ew_model.specs.Places.{path_before, new_path, Act, place}
use Rattle.ew_model.specs.Entries.Entry.{Insertion, Deletion, Mark}
use Rattle.ew_model.specs.Places.Act.{InsertAs, DeleteAt, MarkAs}
use Rattle.ew_model.proofs.PathOrder.{path_total}
use Rattle.ew_model.proofs.SortingLaws.{NoTies, same_sorted}
use Rattle.ew_model.proofs.VersionLaws.{any_from, found_by}

pub placed_total : IsTotalOrder inserted_cmp
placed_total = on_total (λ x. x.path) path_total

pub turned : {X : Type 0} (xs ys : List X) → SameElements xs ys → SameElements ys xs
turned xs ys h = record { there = h.back; back = h.there }

-- the inserted characters are those of the insertions
pub among_insertions : (entries : List Entry) (x : Inserted) → Among x (insertions entries) → Among (Insertion x) entries
among_insertions [] x m = m
among_insertions (Insertion y ∷ entries) x m = ⊎_elim (λ e. inl (ap Insertion e)) (λ k. inr (among_insertions entries x k)) m
among_insertions (Deletion t ∷ entries) x m = inr (among_insertions entries x m)
among_insertions (Mark ∷ entries) x m = inr (among_insertions entries x m)

pub insertion_among : (entries : List Entry) (x : Inserted) → Among (Insertion x) entries → Among x (insertions entries)
insertion_among [] x m = m
insertion_among (Insertion y ∷ entries) x m = ⊎_elim (λ e. let same : x ≡ y = cc in inl same) (λ k. inr (insertion_among entries x k)) m
insertion_among (Deletion t ∷ entries) x m = ⊎_elim (λ e. let no : ⊥ = cc in absurd no) (λ k. insertion_among entries x k) m
insertion_among (Mark ∷ entries) x m = ⊎_elim (λ e. let no : ⊥ = cc in absurd no) (λ k. insertion_among entries x k) m

-- the entries have no two characters at one path
abbrev pub ApartByPath : List Entry → Type 0
ApartByPath entries = NoTies inserted_cmp (insertions entries)

pub same_order : (xs ys : List Entry) → ApartByPath xs → ApartByPath ys → SameElements xs ys → order xs ≡ order ys
unfolding order
same_order xs ys n m h =
    same_sorted placed_total (insertions xs) (insertions ys) n m
    (λ z k. insertion_among ys z (h.there (Insertion z) (among_insertions xs z k)))
    (λ z k. insertion_among xs z (h.back (Insertion z) (among_insertions ys z k)))

-- a test of the elements answers alike
pub same_any : {X : Type 0} (p : X → Bool) (xs ys : List X) → SameElements xs ys → list_any p xs ≡ list_any p ys
same_any p xs ys h =
    both_ways (list_any p xs) (list_any p ys)
    (λ e. let found = found_by p xs e in any_from p ys found.0 (h.there found.0 found.1) found.2)
    (λ e. let found = found_by p ys e in any_from p xs found.0 (h.back found.0 found.1) found.2)

pub same_visible : (xs ys : List Entry) → ApartByPath xs → ApartByPath ys → SameElements xs ys → visible xs ≡ visible ys
unfolding visible
same_visible xs ys n m h =
    filter_agree (λ x. not (is_deleted xs x.id)) (λ x. not (is_deleted ys x.id)) (λ x. ap not (same_any (deletes x.id) xs ys h)) (order xs)
    ∙ ap (filter (λ x. not (is_deleted ys x.id))) (same_order xs ys n m h)

-- the place of an act over entries depends on their set alone
pub same_place : (a : Act) (xs ys : List Entry) → ApartByPath xs → ApartByPath ys → SameElements xs ys → place a xs ≡ place a ys
unfolding place
same_place (InsertAs x at ch) xs ys n m h =
    let seen = same_visible xs ys n m h in
    let walk = same_order xs ys n m h in
    λ i. option_map (λ p. Insertion (record { id = x; path = new_path (walk i) p x; ch = ch })) (path_before (seen i) at)
same_place (DeleteAt at) xs ys n m h =
    ap (λ chars. option_map (λ (target : Inserted). Deletion target.id) (slice_get chars at)) (same_visible xs ys n m h)
same_place MarkAs xs ys n m h = refl
