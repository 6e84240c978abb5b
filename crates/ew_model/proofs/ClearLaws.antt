-- What is visible over two stems with like new entries is alike.
use Rattle.std.proofs.Common.{◌≡◌, Bool, true, not, cond, ◌||◌, inl, inr, ⊎_elim, List, [], ◌∷◌, ◌++◌, filter, refl, sym, ap, ◌∙◌, subst}
use Rattle.std.specs.List.{AllByRecursion}
use Rattle.std.specs.List.Sorted.{IsStrictlySortedBy}
use Rattle.std.specs.declared.cmp.Ordering.{Ordering}
use Rattle.std.specs.declared.cmp.Ordering.TheVariants.{Less, Equal, Greater}
use Rattle.std.proofs.lemmas.List.Elements.{filter_agree, filter-append}
use Rattle.std.proofs.lemmas.List.Folds.{list_any-append}
use Rattle.ew_model.specs.Sets.{Among}
use Rattle.ew_model.specs.Sorting.{sort_by}
use Rattle.ew_model.specs.Entries.{Inserted, Entry, inserted_cmp, insertions, deletes, is_deleted, order, visible}
use Rattle.ew_model.specs.Paths.{path_cmp}
use Rattle.ew_model.proofs.SetLaws.{among_joined, joined_left, joined_right, among_filter, filter_among}
use Rattle.ew_model.proofs.SortingLaws.{all_at, all_from, sort_among, among_sort, NoTie, NoTies, filter-sort, same_sorted, ties_filter}
use Rattle.ew_model.proofs.GapLaws.{behind, gap}
use Rattle.ew_model.proofs.PrefixLaws.{insertions-append, ordered_prefixes}
use Rattle.ew_model.proofs.PlaceLaws.{ApartByPath, placed_total}
use Rattle.ew_model.proofs.TextLaws.{filter_both}
use Rattle.ew_model.proofs.OwnIndex.{sorted_order, sorted_visible}
use Rattle.ew_model.proofs.StemLaws.{IsStem, Desc, IsAt}
use Rattle.ew_model.proofs.LikeLaws.{IsNew}

-- a new character over a stem
pub record IsNewChar (stem : List Entry) (x : Inserted) : Type 0 where
  pub desc : Desc
  pub at : IsAt stem desc x.path
  pub new : IsNew stem x.id

-- the insertions among the entries are new
abbrev pub NewChars : List Entry → List Entry → Type 0
NewChars stem entries = AllByRecursion (IsNewChar stem) (insertions entries)

ties_joined : (xs ys : List Inserted) → NoTies inserted_cmp xs → NoTies inserted_cmp ys → ((x y : Inserted) → Among x xs → Among y ys → inserted_cmp x y ≡ Equal → ⊥) → NoTies inserted_cmp (xs ++ ys)
ties_joined [] ys h k f = k
ties_joined (x ∷ xs) ys h k f = (
  all_from (λ y. inserted_cmp x y ≡ Equal → ⊥) (xs ++ ys) (λ y m. ⊎_elim (λ j. all_at (λ y. inserted_cmp x y ≡ Equal → ⊥) xs y h.0 j) (λ j. f x y (inl refl) j) (among_joined xs ys y m)),
  ties_joined xs ys h.1 k (λ u v m n. f u v (inr m) n),
)

less_no_tie : (x : Inserted) (xs : List Inserted) → AllByRecursion (λ y. inserted_cmp x y ≡ Less) xs → NoTie inserted_cmp x xs
less_no_tie x [] h = tt
less_no_tie x (y ∷ xs) h = ((λ e. let l : inserted_cmp x y ≡ Less = h.0 in cc), less_no_tie x xs h.1)

pub sorted_ties : (xs : List Inserted) → IsStrictlySortedBy inserted_cmp xs → NoTies inserted_cmp xs
unfolding IsStrictlySortedBy
sorted_ties [] s = tt
sorted_ties (x ∷ xs) s = (less_no_tie x xs s.0, sorted_ties xs s.1)

pub never_equal : (o : Ordering) → behind o ≡ Equal → ⊥
never_equal Less e = cc
never_equal Equal e = cc
never_equal Greater e = cc

-- a node of the stem ties with no new one
cross : (stem entries : List Entry) (x y : Inserted) → IsStem stem → NewChars stem entries → Among x (order stem) → Among y (insertions entries) → inserted_cmp x y ≡ Equal → ⊥
cross stem entries x y s n mx my e =
    let new = all_at (IsNewChar stem) (insertions entries) y n my in
    never_equal (path_cmp x.path new.at.before)
    (sym (ap (path_cmp x.path) new.at.is ∙ gap (order stem) new.at.before new.desc.first new.desc.rest x (sorted_order stem s.apart) (ordered_prefixes stem s.prefixes) mx) ∙ e)

pub stem_ordered : (stem : List Entry) (x : Inserted) → Among x (insertions stem) → Among x (order stem)
unfolding order
stem_ordered stem x m = among_sort placed_total (insertions stem) x m

-- no two characters of a stem and new entries are at one path
pub stem_ties : (stem entries : List Entry) → IsStem stem → NewChars stem entries → NoTies inserted_cmp (insertions entries) → ApartByPath (stem ++ entries)
stem_ties stem entries s n t =
    subst (NoTies inserted_cmp) (sym (insertions-append stem entries))
    (ties_joined (insertions stem) (insertions entries) s.apart t (λ x y mx my. cross stem entries x y s n (stem_ordered stem x mx) my))

pub all_pass : (p : Inserted → Bool) (xs : List Inserted) → AllByRecursion (λ x. p x ≡ true) xs → filter p xs ≡ xs
all_pass p [] h = refl
all_pass p (x ∷ xs) h = ap (λ b. cond b (x ∷ filter p xs) (filter p xs)) h.0 ∙ ap (λ ys. x ∷ ys) (all_pass p xs h.1)

-- the visible ones: those of the stem and the new ones, without what the new entries delete, in order
pub visible_over : (stem entries : List Entry) → IsStem stem → NewChars stem entries → NoTies inserted_cmp (insertions entries)
    → visible (stem ++ entries) ≡ sort_by inserted_cmp (filter (λ y. not (is_deleted entries y.id)) (visible stem ++ insertions entries))
unfolding visible order
visible_over stem entries s n t =
    let old = insertions stem in
    let new = insertions entries in
    let seen : Inserted → Bool = λ y. not (is_deleted stem y.id) in
    let kept : Inserted → Bool = λ y. not (is_deleted entries y.id) in
    let shown = filter seen (sort_by inserted_cmp old) in
    let crossing : (x y : Inserted) → Among x old → Among y new → inserted_cmp x y ≡ Equal → ⊥ = λ x y mx my. cross stem entries x y s n (stem_ordered stem x mx) my in
    let shown_old : (x : Inserted) → Among x shown → Among x old = λ x m. sort_among placed_total old x (among_filter seen (sort_by inserted_cmp old) x m).0 in
    let first : NoTies inserted_cmp (filter seen old ++ new) = ties_joined (filter seen old) new (ties_filter inserted_cmp seen old s.apart) t (λ x y mx my. crossing x y (among_filter seen old x mx).0 my) in
    let second : NoTies inserted_cmp (shown ++ new) = ties_joined shown new (sorted_ties shown (sorted_visible stem s.apart)) t (λ x y mx my. crossing x y (shown_old x mx) my) in
    filter_agree (λ y. not (is_deleted (stem ++ entries) y.id)) (λ y. not (is_deleted stem y.id || is_deleted entries y.id)) (λ y. ap not (list_any-append (deletes y.id) stem entries)) (sort_by inserted_cmp (insertions (stem ++ entries)))
    ∙ filter_both (λ y. is_deleted stem y.id) (λ y. is_deleted entries y.id) (sort_by inserted_cmp (insertions (stem ++ entries)))
    ∙ ap (λ xs. filter kept (filter seen (sort_by inserted_cmp xs))) (insertions-append stem entries)
    ∙ ap (filter kept) (filter-sort placed_total seen (old ++ new) (ties_joined old new s.apart t crossing))
    ∙ ap (λ xs. filter kept (sort_by inserted_cmp xs)) (filter-append seen old new)
    ∙ ap (λ xs. filter kept (sort_by inserted_cmp (filter seen old ++ xs))) (all_pass seen new (all_from (λ x. seen x ≡ true) new (λ x m. ap not (all_at (IsNewChar stem) new x n m).new.kept)))
    ∙ ap (filter kept) (same_sorted placed_total (filter seen old ++ new) (shown ++ new) first second
    (λ z m. ⊎_elim (λ j. let p = among_filter seen old z j in joined_left shown new z (filter_among seen (sort_by inserted_cmp old) z (among_sort placed_total old z p.0) p.1)) (λ j. joined_right shown new z j) (among_joined (filter seen old) new z m))
    (λ z m. ⊎_elim (λ j. let p = among_filter seen (sort_by inserted_cmp old) z j in joined_left (filter seen old) new z (filter_among seen old z (sort_among placed_total old z p.0) p.1)) (λ j. joined_right (filter seen old) new z j) (among_joined shown new z m)))
    ∙ filter-sort placed_total kept (shown ++ new) second
