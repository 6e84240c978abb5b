-- What each event does to the text is its operation.
use Rattle.std.proofs.Common.{◌≡◌, ℕ, suc, ◌+◌, Bool, true, false, not, cond, ◌||◌, inl, inr, List, [], ◌∷◌, ◌++◌, map, filter, count_by, position, insert, remove, take, drop, Option, Some, None, option_map, refl, sym, ap, ◌∙◌, subst, arith, append-nil, one-add}
use Rattle.std.specs.List.{AllByRecursion}
use Rattle.std.specs.List.Sorted.{IsStrictlySortedBy}
use Rattle.std.specs.declared.cmp.Ordering.TheVariants.{Less, Equal}
use Rattle.std.specs.Cmp.{tied_back, eq_by_cmp_equiv, IsEquivalence}
use Rattle.std.proofs.Math.Bool.{or-false}
use Rattle.std.proofs.lemmas.Bool.{false_from_ne_true}
use Rattle.std.proofs.lemmas.Bool.Decides.{nat_tests}
use Rattle.std.proofs.lemmas.List.{map-append, take-map, drop-map}
use Rattle.std.proofs.lemmas.List.Elements.{filter_agree}
use Rattle.std.proofs.lemmas.List.Folds.{list_any-append}
use Rattle.std.proofs.lemmas.List.Kept.{IsStrictlySortedBy-filter}
use Rattle.ew_model.specs.declared.id.Id.{Id}
use Rattle.ew_model.specs.Sets.{Among}
use Rattle.ew_model.specs.Sorting.{put_in_order, sort_by}
use Rattle.ew_model.specs.Ids.{id_eq}
use Rattle.ew_model.specs.Entries.{Inserted, Entry, inserted_cmp, insertions, deletes, is_deleted, order, visible}
use Rattle.ew_model.specs.Paths.{path_lt}
use Rattle.ew_model.specs.Entries.Entry.{Insertion, Deletion, Mark}
use Rattle.ew_model.specs.Operations.{operation_of, deletion_at, changed_by}
use Rattle.ew_model.proofs.SortingLaws.{NoTie, NoTies, all_at, all_from, all_filter, sort_among, sort_sorted, sort-push, filter-put, put_at_count, not_itself}
use Rattle.ew_model.proofs.PathOrder.{id_total}
use Rattle.ew_model.proofs.SetLaws.{among_filter}
use Rattle.ew_model.proofs.PlaceLaws.{ApartByPath, placed_total}
use Rattle.ew_model.proofs.PrefixLaws.{insertions-append}

-- the first place that passes, one element at a time
pub position-cons : {X : Type 0} (p : X → Bool) (x : X) (xs : List X) → position p (x ∷ xs) ≡ cond (p x) (Some 0) (option_map (λ i. 1 + i) (position p xs))
position-cons p x xs = grind (arith, nat_tests)

at_end : {X : Type 0} (xs : List X) (x : X) → Among x (xs ++ x ∷ [])
at_end [] x = inl refl
at_end (y ∷ xs) x = inr (at_end xs x)

front_all : {X : Type 0} (P : X → Type 0) (xs : List X) (x : X) → AllByRecursion P (xs ++ x ∷ []) → AllByRecursion P xs
front_all P [] x h = tt
front_all P (y ∷ xs) x h = (h.0, front_all P xs x h.1)

-- the last of a list without ties ties with none before it
last_ties : (xs : List Inserted) (x : Inserted) → NoTies inserted_cmp (xs ++ x ∷ []) → NoTie inserted_cmp x xs
last_ties [] x h = tt
last_ties (y ∷ xs) x h =
    ((λ e. all_at (λ z. inserted_cmp y z ≡ Equal → ⊥) (xs ++ x ∷ []) x h.0 (at_end xs x) (tied_back placed_total x y e)), last_ties xs x h.1)

front_apart : (xs : List Inserted) (x : Inserted) → NoTies inserted_cmp (xs ++ x ∷ []) → NoTies inserted_cmp xs
front_apart [] x h = tt
front_apart (y ∷ xs) x h = (front_all (λ z. inserted_cmp y z ≡ Equal → ⊥) xs x h.0, front_apart xs x h.1)

-- the visible characters with an insertion
pub visible-insertion : (entries : List Entry) (x : Inserted) → ApartByPath (entries ++ Insertion x ∷ []) → is_deleted entries x.id ≡ false → visible (entries ++ Insertion x ∷ []) ≡ insert (visible entries) (count_by (λ y. path_lt y.path x.path) (visible entries)) x
unfolding visible order
visible-insertion entries x apart new =
    let xs = insertions entries in
    let apart' : NoTies inserted_cmp (xs ++ x ∷ []) = subst (NoTies inserted_cmp) (insertions-append entries (Insertion x ∷ [])) apart in
    let tie : NoTie inserted_cmp x xs = last_ties xs x apart' in
    let sorted : IsStrictlySortedBy inserted_cmp (sort_by inserted_cmp xs) = sort_sorted placed_total xs (front_apart xs x apart') in
    let tie_sorted : NoTie inserted_cmp x (sort_by inserted_cmp xs) = all_from (λ y. inserted_cmp x y ≡ Equal → ⊥) (sort_by inserted_cmp xs) (λ y m. all_at (λ z. inserted_cmp x z ≡ Equal → ⊥) xs y tie (sort_among placed_total xs y m)) in
    let seen : Inserted → Bool = λ y. not (is_deleted entries y.id) in
    filter_agree (λ y. not (is_deleted (entries ++ Insertion x ∷ []) y.id)) seen (λ y. ap not (list_any-append (deletes y.id) entries (Insertion x ∷ []) ∙ or-false (is_deleted entries y.id))) (sort_by inserted_cmp (insertions (entries ++ Insertion x ∷ [])))
    ∙ ap (λ ys. filter seen (sort_by inserted_cmp ys)) (insertions-append entries (Insertion x ∷ []))
    ∙ ap (filter seen) (sort-push placed_total xs x tie)
    ∙ filter-put placed_total seen x (sort_by inserted_cmp xs) tie_sorted sorted
    ∙ ap (λ b. cond (not b) (put_in_order inserted_cmp x (filter seen (sort_by inserted_cmp xs))) (filter seen (sort_by inserted_cmp xs))) new
    ∙ put_at_count placed_total x (filter seen (sort_by inserted_cmp xs)) (all_filter (λ y. inserted_cmp x y ≡ Equal → ⊥) seen (sort_by inserted_cmp xs) tie_sorted) (IsStrictlySortedBy-filter inserted_cmp seen (sort_by inserted_cmp xs) sorted)

-- two characters with one id are one
abbrev pub IdsApart : List Inserted → Type 0
IdsApart chars = (x y : Inserted) → Among x chars → Among y chars → id_eq x.id y.id ≡ true → x ≡ y

-- no id stands twice
abbrev pub DistinctIds : List Inserted → Type 0
DistinctIds [] = Unit {0}
DistinctIds (x ∷ chars) = AllByRecursion (λ y. id_eq x.id y.id ≡ false) chars × DistinctIds chars

pub distinct_ids : (chars : List Inserted) → IsStrictlySortedBy inserted_cmp chars → IdsApart chars → DistinctIds chars
unfolding IsStrictlySortedBy
distinct_ids [] s h = tt
distinct_ids (x ∷ chars) s h = (
  all_from (λ y. id_eq x.id y.id ≡ false) chars (λ y m. false_from_ne_true (id_eq x.id y.id) (λ e.
      let same : x ≡ y = h x y (inl refl) (inr m) e in
      not_itself placed_total x (subst (λ w. inserted_cmp x w ≡ Less) (sym same) (all_at (λ w. inserted_cmp x w ≡ Less) chars y s.0 m)))),
  distinct_ids chars s.1 (λ y z m k e. h y z (inr m) (inr k) e),
)

-- a list without what stands at a place
abbrev removed : {X : Type 0} → Option ℕ → List X → List X
removed None xs = xs
removed (Some i) xs = remove xs i

removed-cons : (o : Option ℕ) (x : Inserted) (xs : List Inserted) → removed (option_map (λ i. 1 + i) o) (x ∷ xs) ≡ x ∷ removed o xs
removed-cons None x xs = refl
removed-cons (Some i) x xs = ap (remove (x ∷ xs)) (one-add i)

pub ids_equal : IsEquivalence id_eq
ids_equal = eq_by_cmp_equiv id_total

-- where nothing has the id, all stays
none_removed : (t : Id) (chars : List Inserted) → AllByRecursion (λ y. id_eq t y.id ≡ false) chars → filter (λ y. not (id_eq t y.id)) chars ≡ chars
none_removed t [] h = refl
none_removed t (x ∷ chars) h =
    ap (λ b. cond (not b) (x ∷ filter (λ y. not (id_eq t y.id)) chars) (filter (λ y. not (id_eq t y.id)) chars)) h.0 ∙ ap (λ ys. x ∷ ys) (none_removed t chars h.1)

filter-removed_at : (t : Id) (x : Inserted) (chars : List Inserted) (b : Bool) → id_eq x.id t ≡ b → AllByRecursion (λ y. id_eq x.id y.id ≡ false) chars → filter (λ y. not (id_eq t y.id)) chars ≡ removed (position (λ y. id_eq y.id t) chars) chars
    → cond (not b) (x ∷ filter (λ y. not (id_eq t y.id)) chars) (filter (λ y. not (id_eq t y.id)) chars) ≡ removed (cond b (Some 0) (option_map (λ i. 1 + i) (position (λ y. id_eq y.id t) chars))) (x ∷ chars)
filter-removed_at t x chars true e apart ih =
    none_removed t chars (all_from (λ y. id_eq t y.id ≡ false) chars (λ y m. sym (ids_equal.congr x.id t y.id e) ∙ all_at (λ y. id_eq x.id y.id ≡ false) chars y apart m))
filter-removed_at t x chars false e apart ih =
    ap (λ ys. x ∷ ys) ih ∙ sym (removed-cons (position (λ y. id_eq y.id t) chars) x chars)

-- the characters without one id are those without what stands at its place
filter-removed : (t : Id) (chars : List Inserted) → DistinctIds chars → filter (λ y. not (id_eq t y.id)) chars ≡ removed (position (λ y. id_eq y.id t) chars) chars
filter-removed t [] h = refl
filter-removed t (x ∷ chars) h =
    ap (λ b. cond (not b) (x ∷ filter (λ y. not (id_eq t y.id)) chars) (filter (λ y. not (id_eq t y.id)) chars)) (ids_equal.symm t x.id)
    ∙ filter-removed_at t x chars (id_eq x.id t) refl h.0 (filter-removed t chars h.1)
    ∙ ap (λ o. removed o (x ∷ chars)) (sym (position-cons (λ y. id_eq y.id t) x chars))

kept_by_both : (a b : Bool) (x : Inserted) (us vs : List Inserted) → us ≡ vs → cond (not (a || b)) (x ∷ us) us ≡ cond (not a) (cond (not b) (x ∷ vs) vs) vs
kept_by_both true b x us vs e = e
kept_by_both false true x us vs e = e
kept_by_both false false x us vs e = ap (λ ys. x ∷ ys) e

filter_onto : (p : Inserted → Bool) (b : Bool) (x : Inserted) (xs : List Inserted) → filter p (cond b (x ∷ xs) xs) ≡ cond b (cond (p x) (x ∷ filter p xs) (filter p xs)) (filter p xs)
filter_onto p true x xs = refl
filter_onto p false x xs = refl

pub filter_both : (p q : Inserted → Bool) (xs : List Inserted) → filter (λ y. not (p y || q y)) xs ≡ filter (λ y. not (q y)) (filter (λ y. not (p y)) xs)
filter_both p q [] = refl
filter_both p q (x ∷ xs) =
    kept_by_both (p x) (q x) x (filter (λ y. not (p y || q y)) xs) (filter (λ y. not (q y)) (filter (λ y. not (p y)) xs)) (filter_both p q xs)
    ∙ sym (filter_onto (λ y. not (q y)) (not (p x)) x (filter (λ y. not (p y)) xs))

-- the visible characters with a deletion
pub visible-deletion : (entries : List Entry) (t : Id) → ApartByPath entries → IdsApart (insertions entries) → visible (entries ++ Deletion t ∷ []) ≡ removed (position (λ y. id_eq y.id t) (visible entries)) (visible entries)
unfolding visible order
visible-deletion entries t apart ids =
    let xs = insertions entries in
    let walk = sort_by inserted_cmp xs in
    let sorted : IsStrictlySortedBy inserted_cmp walk = sort_sorted placed_total xs apart in
    let seen : Inserted → Bool = λ y. not (is_deleted entries y.id) in
    let chars = filter seen walk in
    filter_agree (λ y. not (is_deleted (entries ++ Deletion t ∷ []) y.id)) (λ y. not (is_deleted entries y.id || id_eq t y.id))
    (λ y. ap not (list_any-append (deletes y.id) entries (Deletion t ∷ []) ∙ ap (λ b. is_deleted entries y.id || b) (or-false (id_eq t y.id)))) (sort_by inserted_cmp (insertions (entries ++ Deletion t ∷ [])))
    ∙ ap (λ ys. filter (λ y. not (is_deleted entries y.id || id_eq t y.id)) (sort_by inserted_cmp ys)) (insertions-append entries (Deletion t ∷ []) ∙ append-nil xs)
    ∙ filter_both (λ y. is_deleted entries y.id) (λ y. id_eq t y.id) walk
    ∙ filter-removed t chars (distinct_ids chars (IsStrictlySortedBy-filter inserted_cmp seen walk sorted)
    (λ x y m k e. ids x y (sort_among placed_total xs x (among_filter seen walk x m).0) (sort_among placed_total xs y (among_filter seen walk y k).0) e))

pub map-insert : {X Y : Type 0} (f : X → Y) (xs : List X) (i : ℕ) (x : X) → map f (insert xs i x) ≡ insert (map f xs) i (f x)
map-insert f xs i x =
    map-append f (take i xs) (x ∷ drop i xs) ∙ (λ k. sym (take-map f i xs) k ++ f x ∷ sym (drop-map f i xs) k)

map-remove : {X Y : Type 0} (f : X → Y) (xs : List X) (i : ℕ) → map f (remove xs i) ≡ remove (map f xs) i
map-remove f xs i =
    map-append f (take i xs) (drop (suc i) xs) ∙ (λ k. sym (take-map f i xs) k ++ sym (drop-map f (suc i) xs) k)

map-removed : (o : Option ℕ) (chars : List Inserted) → map (λ x. x.ch) (removed o chars) ≡ changed_by (deletion_at o) (map (λ x. x.ch) chars)
map-removed None chars = refl
map-removed (Some i) chars = map-remove (λ x. x.ch) chars i

-- a mark changes nothing that is visible
visible-mark : (entries : List Entry) → visible (entries ++ Mark ∷ []) ≡ visible entries
unfolding visible order
visible-mark entries =
    filter_agree (λ y. not (is_deleted (entries ++ Mark ∷ []) y.id)) (λ y. not (is_deleted entries y.id))
    (λ y. ap not (list_any-append (deletes y.id) entries (Mark ∷ []) ∙ or-false (is_deleted entries y.id))) (sort_by inserted_cmp (insertions (entries ++ Mark ∷ [])))
    ∙ ap (λ ys. filter (λ y. not (is_deleted entries y.id)) (sort_by inserted_cmp ys)) (insertions-append entries (Mark ∷ []) ∙ append-nil (insertions entries))

-- an entry may come next: its characters are apart from those there, and an insertion's id isn't deleted yet
abbrev pub MayFollow : List Entry → Entry → Type 0
MayFollow entries (Insertion x) = is_deleted entries x.id ≡ false
MayFollow entries (Deletion target) = IdsApart (insertions entries)
MayFollow entries Mark = Unit {0}

-- What one more entry does to the text is its operation.
pub text-entry : (entries : List Entry) (entry : Entry) → ApartByPath entries → ApartByPath (entries ++ entry ∷ []) → MayFollow entries entry → map (λ x. x.ch) (visible (entries ++ entry ∷ [])) ≡ changed_by (operation_of (visible entries) (Some entry)) (map (λ x. x.ch) (visible entries))
text-entry entries (Insertion x) before after h =
    ap (map (λ (y : Inserted). y.ch)) (visible-insertion entries x after h)
    ∙ map-insert (λ (y : Inserted). y.ch) (visible entries) (count_by (λ y. path_lt y.path x.path) (visible entries)) x
text-entry entries (Deletion t) before after h =
    ap (map (λ (y : Inserted). y.ch)) (visible-deletion entries t before h)
    ∙ map-removed (position (λ y. id_eq y.id t) (visible entries)) (visible entries)
text-entry entries Mark before after h = ap (map (λ (y : Inserted). y.ch)) (visible-mark entries)
