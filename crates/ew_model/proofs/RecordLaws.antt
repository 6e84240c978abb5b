-- What the records of a walker tell, and what an apply, an advance and a retreat change in them.
use Rattle.std.proofs.Common.{◌≡◌, ℕ, suc, nat_eq, nat_lt, Bool, true, false, not, cond, ◌||◌, ◌&&◌, inl, inr, ⊎_elim, List, [], ◌∷◌, ◌++◌, map, filter, length, refl, sym, ap, ◌∙◌, subst, arith}
use Rattle.std.specs.declared.cmp.Ordering.TheVariants.{Equal}
use Rattle.std.specs.List.{list_any}
use Rattle.std.proofs.lemmas.Bool.{false≢true, lt-ltb, ne_eqb}
use Rattle.std.proofs.lemmas.List.Elements.{filter_agree}
use Rattle.ew_model.specs.declared.id.Id.{Id}
use Rattle.ew_model.specs.Ids.{id_eq}
use Rattle.ew_model.specs.Sets.{Among}
use Rattle.ew_model.specs.Entries.{Inserted, Entry, inserted_cmp, deletes, is_deleted, insertions, order, visible}
use Rattle.ew_model.specs.Tree.{based, Applied, Noted, all_entries, entries_over, tree_of}
use Rattle.ew_model.specs.Entries.Entry.{Insertion, Deletion, Mark}
use Rattle.ew_model.specs.Records.{inserts, is_inserted, deletions_of, prepared_in, Record, record_in, records, RecordsTell}
use Rattle.ew_model.proofs.SetLaws.{among_joined, joined_left, joined_right, among_filter, filter_among}
use Rattle.ew_model.proofs.SortingLaws.{NoTies, all_at, all_from, ties_filter, filter-sort, same_sorted}
use Rattle.ew_model.proofs.VersionLaws.{any_from, found_by}
use Rattle.ew_model.proofs.PlaceLaws.{ApartByPath, placed_total, among_insertions, insertion_among}
use Rattle.ew_model.proofs.PrefixLaws.{insertions-append, over_insertions}
use Rattle.ew_model.proofs.RunLaws.{id_itself, id_same, named, entry_of, Grown, run_grown}

-- LISTS
map_filter_back : {X Y : Type 0} (f : X → Y) (g : Y → X) (t : Y → Bool) (xs : List X) → ((x : X) → g (f x) ≡ x) → map g (filter t (map f xs)) ≡ filter (λ x. t (f x)) xs
map_filter_back f g t [] h = refl
map_filter_back f g t (x ∷ xs) h = at (t (f x)) ∙ ap (λ ws. cond (t (f x)) (x ∷ ws) ws) (map_filter_back f g t xs h)
  where
    at : (b : Bool) → map g (cond b (f x ∷ filter t (map f xs)) (filter t (map f xs))) ≡ cond b (x ∷ map g (filter t (map f xs))) (map g (filter t (map f xs)))
    at true = ap (λ w. w ∷ map g (filter t (map f xs))) (h x)
    at false = refl

filter_both : {X : Type 0} (p q : X → Bool) (xs : List X) → filter (λ x. p x && q x) xs ≡ filter q (filter p xs)
filter_both p q [] = refl
filter_both p q (x ∷ xs) = at (p x) (q x) refl ∙ ap (λ ws. cond (p x) (cond (q x) (x ∷ ws) ws) ws) (filter_both p q xs) ∙ sym (other (p x))
  where
    at : (b c : Bool) → q x ≡ c → cond (b && c) (x ∷ filter (λ x. p x && q x) xs) (filter (λ x. p x && q x) xs) ≡ cond b (cond c (x ∷ filter (λ x. p x && q x) xs) (filter (λ x. p x && q x) xs)) (filter (λ x. p x && q x) xs)
    at true c e = refl
    at false c e = refl

    other : (b : Bool) → filter q (cond b (x ∷ filter p xs) (filter p xs)) ≡ cond b (cond (q x) (x ∷ filter q (filter p xs)) (filter q (filter p xs))) (filter q (filter p xs))
    other true = refl
    other false = refl

pub map_same : {X Y : Type 0} (f g : X → Y) (xs : List X) → ((x : X) → Among x xs → f x ≡ g x) → map f xs ≡ map g xs
map_same f g [] h = refl
map_same f g (x ∷ xs) h = λ i. h x (inl refl) i ∷ map_same f g xs (λ z m. h z (inr m)) i

pub map_map : {X Y Z : Type 0} (f : X → Y) (g : Y → Z) (xs : List X) → map g (map f xs) ≡ map (λ x. g (f x)) xs
map_map f g [] = refl
map_map f g (x ∷ xs) = ap (λ ws. g (f x) ∷ ws) (map_map f g xs)

pub map_itself : {X : Type 0} (f : X → X) (xs : List X) → ((x : X) → f x ≡ x) → map f xs ≡ xs
map_itself f [] h = refl
map_itself f (x ∷ xs) h = λ i. h x i ∷ map_itself f xs h i

-- the part of a tree is apart where the tree is
noted_kept : (b : Bool) (n : Noted ℕ) (ns : List (Noted ℕ)) (e : Entry) → Among e (map entry_of (cond b (n ∷ ns) ns)) → Among e (n.entry ∷ map entry_of ns)
noted_kept true n ns e m = m
noted_kept false n ns e m = inr m

noted_from : (p : Noted ℕ → Bool) (notes : List (Noted ℕ)) (e : Entry) → Among e (map entry_of (filter p notes)) → Among e (map entry_of notes)
noted_from p [] e m = m
noted_from p (n ∷ notes) e m = ⊎_elim (λ k. inl k) (λ k. inr (noted_from p notes e k)) (noted_kept (p n) n (filter p notes) e m)

noted_part : (p : Noted ℕ → Bool) (notes : List (Noted ℕ)) (z : Inserted) → Among z (insertions (map entry_of (filter p notes))) → Among z (insertions (map entry_of notes))
noted_part p notes z m = insertion_among (map entry_of notes) z (noted_from p notes (Insertion z) (among_insertions (map entry_of (filter p notes)) z m))

ties_front : (e : Entry) (es fs : List Entry) → ((z : Inserted) → Among z (insertions fs) → Among z (insertions es)) → (NoTies inserted_cmp (insertions es) → NoTies inserted_cmp (insertions fs))
    → NoTies inserted_cmp (insertions (e ∷ es)) → NoTies inserted_cmp (insertions (e ∷ fs)) × NoTies inserted_cmp (insertions fs)
ties_front (Insertion y) es fs f g k = (
  (all_from (λ z. inserted_cmp y z ≡ Equal → ⊥) (insertions fs) (λ z m. all_at (λ z. inserted_cmp y z ≡ Equal → ⊥) (insertions es) z k.0 (f z m)), g k.1),
  g k.1,
)
ties_front (Deletion t) es fs f g k = (g k, g k)
ties_front Mark es fs f g k = (g k, g k)

ties_chosen : (b : Bool) (n : Noted ℕ) (ns : List (Noted ℕ)) → NoTies inserted_cmp (insertions (n.entry ∷ map entry_of ns)) → NoTies inserted_cmp (insertions (map entry_of ns)) → NoTies inserted_cmp (insertions (map entry_of (cond b (n ∷ ns) ns)))
ties_chosen true n ns h k = h
ties_chosen false n ns h k = k

ties_part_notes : (p : Noted ℕ → Bool) (notes : List (Noted ℕ)) → NoTies inserted_cmp (insertions (map entry_of notes)) → NoTies inserted_cmp (insertions (map entry_of (filter p notes)))
ties_part_notes p [] h = tt
ties_part_notes p (n ∷ notes) h =
    let both = ties_front n.entry (map entry_of notes) (map entry_of (filter p notes)) (noted_part p notes) (ties_part_notes p notes) h in
    ties_chosen (p n) n (filter p notes) both.0 both.1

ties_behind : (xs ys zs : List Inserted) → ((z : Inserted) → Among z zs → Among z ys) → (NoTies inserted_cmp ys → NoTies inserted_cmp zs) → NoTies inserted_cmp (xs ++ ys) → NoTies inserted_cmp (xs ++ zs)
ties_behind [] ys zs f g h = g h
ties_behind (x ∷ xs) ys zs f g h = (
  all_from (λ w. inserted_cmp x w ≡ Equal → ⊥) (xs ++ zs) (λ w m. all_at (λ w. inserted_cmp x w ≡ Equal → ⊥) (xs ++ ys) w h.0
      (⊎_elim (λ k. joined_left xs ys w k) (λ k. joined_right xs ys w (f w k)) (among_joined xs zs w m))),
  ties_behind xs ys zs f g h.1,
)

pub part_apart : (b : ℕ) (notes : List (Noted ℕ)) (names : List ℕ) → ApartByPath (all_entries b notes) → ApartByPath (entries_over nat_eq b notes names)
part_apart b notes names h =
    subst (NoTies inserted_cmp) (sym (insertions-append (based b) (map entry_of (filter (named names) notes))))
    (ties_behind (insertions (based b)) (insertions (map entry_of notes)) (insertions (map entry_of (filter (named names) notes))) (noted_part (named names) notes) (ties_part_notes (named names) notes)
    (subst (NoTies inserted_cmp) (insertions-append (based b) (map entry_of notes)) h))

-- THE NUMBERS
pub inserted_by : (x : Id) (e : Entry) → inserts x e ≡ true → (y : Inserted) × (e ≡ Insertion y) × (y.id ≡ x)
inserted_by x (Insertion y) h = (y, refl, id_same y.id x h)
inserted_by x (Deletion t) h = absurd (false≢true h)
inserted_by x Mark h = absurd (false≢true h)

pub deleted_by : (x : Id) (e : Entry) → deletes x e ≡ true → e ≡ Deletion x
deleted_by x (Insertion y) h = absurd (false≢true h)
deleted_by x (Deletion t) h = ap Deletion (id_same t x h)
deleted_by x Mark h = absurd (false≢true h)

pub is_inserted_from : (entries : List Entry) (y : Inserted) → Among y (insertions entries) → is_inserted entries y.id ≡ true
is_inserted_from entries y m = any_from (inserts y.id) entries (Insertion y) (among_insertions entries y m) (id_itself y.id)

-- a character of the tree is inserted in the part exactly where it is one of it
pub inserted_there : (b : ℕ) (events : List (Applied ℕ)) (notes : List (Noted ℕ)) (names : List ℕ) → Grown b events notes → (z : Inserted) → Among z (insertions (all_entries b notes)) → is_inserted (entries_over nat_eq b notes names) z.id ≡ true → Among z (insertions (entries_over nat_eq b notes names))
inserted_there b events notes names g z m h =
    let part = entries_over nat_eq b notes names in
    let found = found_by (inserts z.id) part h in
    let by = inserted_by z.id found.0 found.2 in
    let here : Among by.0 (insertions part) = insertion_among part by.0 (subst (λ e. Among e part) by.1 found.1) in
    let same : by.0 ≡ z = g.ids by.0 z (over_insertions nat_eq b notes names by.0 here) m (ap (λ i. id_eq i z.id) by.2 ∙ id_itself z.id) in
    subst (λ w. Among w (insertions part)) same here

known_order : (b : ℕ) (events : List (Applied ℕ)) (notes : List (Noted ℕ)) (names : List ℕ) → Grown b events notes
    → filter (λ (z : Inserted). is_inserted (entries_over nat_eq b notes names) z.id) (order (all_entries b notes)) ≡ order (entries_over nat_eq b notes names)
unfolding order
known_order b events notes names g =
    let all = insertions (all_entries b notes) in
    let part = entries_over nat_eq b notes names in
    let test : Inserted → Bool = λ z. is_inserted part z.id in
    filter-sort placed_total test all g.apart
    ∙ same_sorted placed_total (filter test all) (insertions part) (ties_filter inserted_cmp test all g.apart) (part_apart b notes names g.apart)
    (λ z m. let passes = among_filter test all z m in inserted_there b events notes names g z passes.0 passes.1)
    (λ z m. filter_among test all z (over_insertions nat_eq b notes names z m) (is_inserted_from part z m))

pub number_known : (i : Bool) (n : ℕ) → nat_lt 0 (cond i (suc n) 0) ≡ i
number_known true n = lt-ltb 0 (suc n) (omega arith)
number_known false n = refl

one_kept : (b : Bool) (x : Entry) (xs : List Entry) → nat_eq (suc (length (cond b (x ∷ xs) xs))) 1 ≡ not b && nat_eq (suc (length xs)) 1
one_kept true x xs = ne_eqb (suc (suc (length xs))) 1 (λ e. let no : ⊥ = omega (arith, e) in no)
one_kept false x xs = refl

not_or : (b c : Bool) → not (b || c) ≡ not b && not c
not_or true c = refl
not_or false c = refl

one_where_none : (p : Entry → Bool) (xs : List Entry) → nat_eq (suc (length (filter p xs))) 1 ≡ not (list_any p xs)
one_where_none p [] = refl
one_where_none p (x ∷ xs) = one_kept (p x) x (filter p xs) ∙ ap (λ c. not (p x) && c) (one_where_none p xs) ∙ sym (not_or (p x) (list_any p xs))

number_one : (i : Bool) (entries : List Entry) (x : Id) → nat_eq (cond i (suc (deletions_of entries x)) 0) 1 ≡ i && not (is_deleted entries x)
number_one true entries x = one_where_none (deletes x) entries
number_one false entries x = refl

-- WHAT THE RECORDS TELL
module _ (b : ℕ) (events : List (Applied ℕ)) (notes : List (Noted ℕ)) (names : List ℕ) (g : Grown b events notes) where
  abbrev all : List Entry
  all = all_entries b notes

  abbrev part : List Entry
  part = entries_over nat_eq b notes names

  known_said : map (λ (r : Record). r.node) (filter (λ (r : Record). nat_lt 0 r.prepared) (records all part)) ≡ order part
  known_said =
      map_filter_back (record_in all part) (λ (r : Record). r.node) (λ (r : Record). nat_lt 0 r.prepared) (order all) (λ z. refl)
      ∙ filter_agree (λ (z : Inserted). nat_lt 0 (prepared_in part z.id)) (λ (z : Inserted). is_inserted part z.id) (λ z. number_known (is_inserted part z.id) (deletions_of part z.id)) (order all)
      ∙ known_order b events notes names g

  visible_said : map (λ (r : Record). r.node) (filter (λ (r : Record). nat_eq r.prepared 1) (records all part)) ≡ visible part
  unfolding visible
  visible_said =
      map_filter_back (record_in all part) (λ (r : Record). r.node) (λ (r : Record). nat_eq r.prepared 1) (order all) (λ z. refl)
      ∙ filter_agree (λ (z : Inserted). nat_eq (prepared_in part z.id) 1) (λ (z : Inserted). is_inserted part z.id && not (is_deleted part z.id)) (λ z. number_one (is_inserted part z.id) part z.id) (order all)
      ∙ filter_both (λ (z : Inserted). is_inserted part z.id) (λ (z : Inserted). not (is_deleted part z.id)) (order all)
      ∙ ap (filter (λ (z : Inserted). not (is_deleted part z.id))) (known_order b events notes names g)

  effect_said : map (λ (r : Record). r.node) (filter (λ (r : Record). r.effect) (records all part)) ≡ visible all
  unfolding visible
  effect_said = map_filter_back (record_in all part) (λ (r : Record). r.node) (λ (r : Record). r.effect) (order all) (λ z. refl)

pub records_tell : RecordsTell
records_tell b events prepared run =
    let notes = tree_of nat_eq b events in
    let g = run_grown b events run in
    record {
      known_nodes = known_said b events notes prepared g;
      visible_nodes = visible_said b events notes prepared g;
      effect_nodes = effect_said b events notes prepared g;
    }
