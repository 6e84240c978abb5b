-- The operation of an apply, read off the records; and which records are prepared.
use Rattle.std.proofs.Common.{◌≡◌, ℕ, suc, ◌+◌, nat_eq, Bool, true, false, cond, inl, inr, ⊎_elim, List, [], ◌∷◌, ◌++◌, map, filter, length, count_by, Some, None, option_map, refl, sym, ap, ◌∙◌, subst, append_assoc, one-add, zero-add, arith}
use Rattle.std.specs.Ordering.{is_lt, is_gt, ordering_reverse}
use Rattle.std.specs.declared.cmp.Ordering.{Ordering}
use Rattle.std.specs.declared.cmp.Ordering.TheVariants.{Less, Equal, Greater}
use Rattle.std.specs.Cmp.{tied_itself}
use Rattle.std.specs.List.{AllByRecursion, position}
use Rattle.std.specs.List.Sorted.{IsStrictlySortedBy}
use Rattle.std.proofs.lemmas.Bool.{false≢true, false_from_ne_true}
use Rattle.std.proofs.lemmas.List.{map-append, length-map}
use Rattle.std.proofs.lemmas.List.Elements.{filter-append}
use Rattle.std.proofs.lemmas.List.Sums.{sum_by-cons}
use Rattle.ew_model.specs.declared.id.Id.{Id}
use Rattle.ew_model.specs.declared.text_op.TextOp.TheVariants.{Ins, Del, Nothing}
use Rattle.ew_model.specs.Ids.{id_eq}
use Rattle.ew_model.specs.Sets.{Among}
use Rattle.ew_model.specs.Siblings.{StandsBehind, StandsAhead}
use Rattle.ew_model.specs.Operations.{deletion_at, operation_of, next_operation}
use Rattle.ew_model.specs.Entries.{Inserted, Entry, inserted_cmp, order, visible}
use Rattle.ew_model.specs.Paths.{path_lt}
use Rattle.ew_model.specs.Tree.{based, Applied, Noted, all_entries, entries_over, tree_of}
use Rattle.ew_model.specs.Entries.Entry.{Insertion, Deletion, Mark}
use Rattle.ew_model.specs.Records.{holds, is_inserted, deletions_of, Record, records, effects_in, OperationReads, OperationsRead, NamesPrepare}
use Rattle.ew_model.proofs.SetLaws.{among_joined, joined_left, joined_right, among_filter, among_map, map_among}
use Rattle.ew_model.proofs.SortingLaws.{all_at, all_from}
use Rattle.ew_model.proofs.TextLaws.{IdsApart, position-cons}
use Rattle.ew_model.proofs.PlaceLaws.{placed_total, among_insertions, insertion_among}
use Rattle.ew_model.proofs.PrefixLaws.{ordered_among}
use Rattle.ew_model.proofs.RunLaws.{id_itself, entry_of, part_base, part_note, part_cases, base_only, Grown, run_grown}
use Rattle.ew_model.proofs.RecordLaws.{is_inserted_from, records_tell, number_known, inserted_there}
use Rattle.ew_model.proofs.StateLaws.{node_of, nodes_of}
use Rattle.ew_model.proofs.OwnIndex.{sorted_order}

-- COUNTS
abbrev has_effect : Record → Bool
has_effect r = r.effect

-- the nodes of the records with effect
abbrev seen : List Record → List Inserted
seen rs = map node_of (filter has_effect rs)

count_cons : (p : Inserted → Bool) (y : Inserted) (ys : List Inserted) → count_by p (y ∷ ys) ≡ cond (p y) 1 0 + count_by p ys
count_cons p y ys = sum_by-cons (λ z. cond (p z) 1 0) y ys

count_joined : (p : Inserted → Bool) (xs ys : List Inserted) → count_by p (xs ++ ys) ≡ count_by p xs + count_by p ys
count_joined p [] ys = sym (zero-add (count_by p ys))
count_joined p (x ∷ xs) ys = omega (arith, count_cons p x (xs ++ ys), count_joined p xs ys, count_cons p x xs)

count_all : (p : Inserted → Bool) (xs : List Inserted) → AllByRecursion (λ x. p x ≡ true) xs → count_by p xs ≡ length xs
count_all p [] h = refl
count_all p (x ∷ xs) h = count_cons p x xs ∙ ap (λ c. cond c 1 0 + count_by p xs) h.0 ∙ one-add (count_by p xs) ∙ ap suc (count_all p xs h.1)

pub count_none : (p : Inserted → Bool) (xs : List Inserted) → AllByRecursion (λ x. p x ≡ false) xs → count_by p xs ≡ 0
count_none p [] h = refl
count_none p (x ∷ xs) h = count_cons p x xs ∙ ap (λ c. cond c 1 0 + count_by p xs) h.0 ∙ zero-add (count_by p xs) ∙ count_none p xs h.1

seen_joined : (rs qs : List Record) → seen (rs ++ qs) ≡ seen rs ++ seen qs
seen_joined rs qs = ap (map node_of) (filter-append has_effect rs qs) ∙ map-append node_of (filter has_effect rs) (filter has_effect qs)

-- a seen node is a node
seen_node : (rs : List Record) (z : Inserted) → Among z (seen rs) → (r : Record) × Among r rs × (z ≡ r.node)
seen_node rs z m =
    let from = among_map node_of (filter has_effect rs) z m in
    (from.0, (among_filter has_effect rs from.0 from.1).0, from.2)

count_split : (p : Inserted → Bool) (rs qs : List Record) → ((r : Record) → Among r rs → p r.node ≡ true) → ((q : Record) → Among q qs → p q.node ≡ false) → count_by p (seen (rs ++ qs)) ≡ effects_in rs
count_split p rs qs f g =
    ap (count_by p) (seen_joined rs qs)
    ∙ count_joined p (seen rs) (seen qs)
    ∙ (λ i. count_all p (seen rs) (all_from (λ z. p z ≡ true) (seen rs) (λ z m. let n = seen_node rs z m in ap p n.2 ∙ f n.0 n.1)) i
    + count_none p (seen qs) (all_from (λ z. p z ≡ false) (seen qs) (λ z m. let n = seen_node qs z m in ap p n.2 ∙ g n.0 n.1)) i)
    ∙ omega (arith, length-map (filter has_effect rs) node_of)

-- POSITIONS
position_none : (p : Inserted → Bool) (xs : List Inserted) → AllByRecursion (λ x. p x ≡ false) xs → position p xs ≡ None
position_none p [] h = refl
position_none p (x ∷ xs) h = position-cons p x xs ∙ ap (λ c. cond c (Some 0) (option_map (λ i. 1 + i) (position p xs))) h.0 ∙ ap (option_map (λ i. 1 + i)) (position_none p xs h.1)

position_at : (p : Inserted → Bool) (xs : List Inserted) (y : Inserted) (ys : List Inserted) → AllByRecursion (λ x. p x ≡ false) xs → p y ≡ true → position p (xs ++ y ∷ ys) ≡ Some (length xs)
position_at p [] y ys h e = position-cons p y ys ∙ ap (λ c. cond c (Some 0) (option_map (λ i. 1 + i) (position p ys))) e
position_at p (x ∷ xs) y ys h e =
    position-cons p x (xs ++ y ∷ ys) ∙ ap (λ c. cond c (Some 0) (option_map (λ i. 1 + i) (position p (xs ++ y ∷ ys)))) h.0
    ∙ ap (option_map (λ i. 1 + i)) (position_at p xs y ys h.1 e) ∙ ap Some (one-add (length xs))

-- WHERE A LIST OF RECORDS IS CUT
-- the records before r are before it, and those behind it behind
pub cut_before : (rs : List Record) (r : Record) (qs : List Record) → IsStrictlySortedBy inserted_cmp (map node_of (rs ++ r ∷ qs)) → (z : Record) → Among z rs → inserted_cmp z.node r.node ≡ Less
unfolding IsStrictlySortedBy
cut_before [] r qs s z m = absurd m
cut_before (x ∷ rs) r qs s z m =
    ⊎_elim
    (λ e. ap (λ (w : Record). inserted_cmp w.node r.node) e ∙ all_at (λ w. inserted_cmp x.node w ≡ Less) (map node_of (rs ++ r ∷ qs)) r.node s.0 (map_among node_of (rs ++ r ∷ qs) r (joined_right rs (r ∷ qs) r (inl refl))))
    (λ k. cut_before rs r qs s.1 z k)
    m

pub cut_behind : (rs : List Record) (r : Record) (qs : List Record) → IsStrictlySortedBy inserted_cmp (map node_of (rs ++ r ∷ qs)) → (z : Record) → Among z qs → inserted_cmp r.node z.node ≡ Less
unfolding IsStrictlySortedBy
cut_behind [] r qs s z m = all_at (λ w. inserted_cmp r.node w ≡ Less) (map node_of qs) z.node s.0 (map_among node_of qs z m)
cut_behind (x ∷ rs) r qs s z m = cut_behind rs r qs s.1 z m

pub turned_greater : (y z : Inserted) → inserted_cmp y z ≡ Less → inserted_cmp z y ≡ Greater
turned_greater y z e = placed_total.antisymm z y ∙ ap ordering_reverse e

abbrev behind_at : Ordering → Ordering
behind_at o = cond (is_gt o) Greater Less

abbrev ahead_at : Ordering → Ordering
ahead_at o = cond (is_lt o) Less Greater

node_there : (rs : List Record) (z : Record) → Among z rs → Among z.node (map node_of rs)
node_there rs z m = map_among node_of rs z m

module _ (rs : List Record) (r : Record) (qs : List Record) (sorted : IsStrictlySortedBy inserted_cmp (map node_of (rs ++ r ∷ qs))) where
  read_behind : (y : Inserted) → StandsBehind (map node_of (rs ++ r ∷ qs)) y.path r.node.path → count_by (λ z. path_lt z.path y.path) (seen (rs ++ r ∷ qs)) ≡ effects_in (rs ++ r ∷ [])
  read_behind y h =
      ap (λ ws. count_by (λ (z : Inserted). path_lt z.path y.path) (seen ws)) (sym (append_assoc rs (r ∷ []) qs))
      ∙ count_split (λ z. path_lt z.path y.path) (rs ++ r ∷ []) qs
      (λ z m. ⊎_elim
      (λ k. ap is_lt (h z.node (node_there (rs ++ r ∷ qs) z (joined_left rs (r ∷ qs) z k)) ∙ ap behind_at (cut_before rs r qs sorted z k)))
      (λ k. ⊎_elim
      (λ e. ap is_lt (h z.node (node_there (rs ++ r ∷ qs) z (joined_right rs (r ∷ qs) z (inl e))) ∙ ap behind_at (ap (λ (w : Record). inserted_cmp w.node r.node) e ∙ tied_itself placed_total r.node)))
      (λ no. absurd no) k)
      (among_joined rs (r ∷ []) z m))
      (λ z m. ap is_lt (h z.node (node_there (rs ++ r ∷ qs) z (joined_right rs (r ∷ qs) z (inr m))) ∙ ap behind_at (turned_greater r.node z.node (cut_behind rs r qs sorted z m))))

  read_ahead : (y : Inserted) → StandsAhead (map node_of (rs ++ r ∷ qs)) y.path r.node.path → count_by (λ z. path_lt z.path y.path) (seen (rs ++ r ∷ qs)) ≡ effects_in rs
  read_ahead y h =
      count_split (λ z. path_lt z.path y.path) rs (r ∷ qs)
      (λ z k. ap is_lt (h z.node (node_there (rs ++ r ∷ qs) z (joined_left rs (r ∷ qs) z k)) ∙ ap ahead_at (cut_before rs r qs sorted z k)))
      (λ z k. ⊎_elim
      (λ e. ap is_lt (h z.node (node_there (rs ++ r ∷ qs) z (joined_right rs (r ∷ qs) z k)) ∙ ap ahead_at (ap (λ (w : Record). inserted_cmp w.node r.node) e ∙ tied_itself placed_total r.node)))
      (λ m. ap is_lt (h z.node (node_there (rs ++ r ∷ qs) z (joined_right rs (r ∷ qs) z k)) ∙ ap ahead_at (turned_greater r.node z.node (cut_behind rs r qs sorted z m))))
      k)

  module _ (apart : IdsApart (map node_of (rs ++ r ∷ qs))) (t : Id) (target : r.node.id ≡ t) where
    here : Among r.node (map node_of (rs ++ r ∷ qs))
    here = node_there (rs ++ r ∷ qs) r (joined_right rs (r ∷ qs) r (inl refl))

    other_before : (z : Record) → Among z rs → id_eq z.node.id t ≡ false
    other_before z m = false_from_ne_true (id_eq z.node.id t) (λ e.
        let same : z.node ≡ r.node = apart z.node r.node (node_there (rs ++ r ∷ qs) z (joined_left rs (r ∷ qs) z m)) here (ap (id_eq z.node.id) target ∙ e) in
        let less : inserted_cmp z.node r.node ≡ Less = cut_before rs r qs sorted z m in
        let tie : inserted_cmp z.node r.node ≡ Equal = ap (λ w. inserted_cmp w r.node) same ∙ tied_itself placed_total r.node in
        let no : ⊥ = cc in no)

    other_behind : (z : Record) → Among z qs → id_eq z.node.id t ≡ false
    other_behind z m = false_from_ne_true (id_eq z.node.id t) (λ e.
        let same : z.node ≡ r.node = apart z.node r.node (node_there (rs ++ r ∷ qs) z (joined_right rs (r ∷ qs) z (inr m))) here (ap (id_eq z.node.id) target ∙ e) in
        let less : inserted_cmp r.node z.node ≡ Less = cut_behind rs r qs sorted z m in
        let tie : inserted_cmp r.node z.node ≡ Equal = ap (inserted_cmp r.node) same ∙ tied_itself placed_total r.node in
        let no : ⊥ = cc in no)

    none_before : AllByRecursion (λ (z : Inserted). id_eq z.id t ≡ false) (seen rs)
    none_before = all_from (λ (z : Inserted). id_eq z.id t ≡ false) (seen rs) (λ z m. let n = seen_node rs z m in ap (λ (w : Inserted). id_eq w.id t) n.2 ∙ other_before n.0 n.1)

    none_behind : AllByRecursion (λ (z : Inserted). id_eq z.id t ≡ false) (seen qs)
    none_behind = all_from (λ (z : Inserted). id_eq z.id t ≡ false) (seen qs) (λ z m. let n = seen_node qs z m in ap (λ (w : Inserted). id_eq w.id t) n.2 ∙ other_behind n.0 n.1)

    all_joined_two : (xs ys : List Inserted) → AllByRecursion (λ (z : Inserted). id_eq z.id t ≡ false) xs → AllByRecursion (λ (z : Inserted). id_eq z.id t ≡ false) ys → AllByRecursion (λ (z : Inserted). id_eq z.id t ≡ false) (xs ++ ys)
    all_joined_two [] ys h k = k
    all_joined_two (x ∷ xs) ys h k = (h.0, all_joined_two xs ys h.1 k)

    read_target_at : (b : Bool) → r.effect ≡ b → deletion_at (position (λ (z : Inserted). id_eq z.id t) (seen rs ++ map node_of (cond b (r ∷ filter has_effect qs) (filter has_effect qs)))) ≡ cond b (Del (effects_in rs)) Nothing
    read_target_at true e =
        ap deletion_at (position_at (λ (z : Inserted). id_eq z.id t) (seen rs) r.node (seen qs) none_before (ap (λ x. id_eq x t) target ∙ id_itself t))
        ∙ ap Del (length-map (filter has_effect rs) node_of)
    read_target_at false e = ap deletion_at (position_none (λ (z : Inserted). id_eq z.id t) (seen rs ++ seen qs) (all_joined_two (seen rs) (seen qs) none_before none_behind))

    read_target : deletion_at (position (λ (z : Inserted). id_eq z.id t) (seen (rs ++ r ∷ qs))) ≡ cond r.effect (Del (effects_in rs)) Nothing
    read_target = ap (λ ws. deletion_at (position (λ (z : Inserted). id_eq z.id t) ws)) (seen_joined rs (r ∷ qs)) ∙ read_target_at r.effect refl

-- THE OPERATION
reads : (e : Entry) (chars : List Inserted) (before rs : List Record) (r : Record) (qs : List Record) → before ≡ rs ++ r ∷ qs → chars ≡ seen before → IsStrictlySortedBy inserted_cmp (map node_of before) → IdsApart (map node_of before)
    → OperationReads e before rs r qs (operation_of chars (Some e))
reads (Insertion y) chars before rs r qs cut shown sorted apart =
    let here : chars ≡ seen (rs ++ r ∷ qs) = shown ∙ ap seen cut in
    let rising : IsStrictlySortedBy inserted_cmp (map node_of (rs ++ r ∷ qs)) = subst (λ ws. IsStrictlySortedBy inserted_cmp (map node_of ws)) cut sorted in (
      λ h. ap (λ n. Ins n y.ch) (ap (count_by (λ (z : Inserted). path_lt z.path y.path)) here ∙ read_behind rs r qs rising y (subst (λ ws. StandsBehind (map node_of ws) y.path r.node.path) cut h)),
      λ h. ap (λ n. Ins n y.ch) (ap (count_by (λ (z : Inserted). path_lt z.path y.path)) here ∙ read_ahead rs r qs rising y (subst (λ ws. StandsAhead (map node_of ws) y.path r.node.path) cut h)),
    )
reads (Deletion t) chars before rs r qs cut shown sorted apart =
    λ h. ap (λ ws. deletion_at (position (λ (z : Inserted). id_eq z.id t) ws)) (shown ∙ ap seen cut)
    ∙ read_target rs r qs (subst (λ ws. IsStrictlySortedBy inserted_cmp (map node_of ws)) cut sorted) (subst (λ ws. IdsApart (map node_of ws)) cut apart) t h
reads Mark chars before rs r qs cut shown sorted apart = refl

pub operations_read : OperationsRead
unfolding next_operation
operations_read b events prepared name act e run may is rs r qs cut =
    let notes = tree_of nat_eq b events in
    let g = run_grown b events run in
    let all = all_entries b notes in
    let part = entries_over nat_eq b notes prepared in
    let nodes : order all ≡ map node_of (records all part) = sym (nodes_of all part) in
    let sorted : IsStrictlySortedBy inserted_cmp (map node_of (records all part)) = subst (IsStrictlySortedBy inserted_cmp) nodes (sorted_order all g.apart) in
    let apart : IdsApart (map node_of (records all part)) = subst IdsApart nodes (λ x y mx my. g.ids x y (ordered_among all x mx) (ordered_among all y my)) in
    subst (OperationReads e (records all part) rs r qs) (ap (operation_of (visible all)) (sym is))
    (reads e (visible all) (records all part) rs r qs cut (sym (records_tell b events prepared run).effect_nodes) sorted apart)

-- WHICH ARE PREPARED
pub names_prepare : NamesPrepare
names_prepare b events prepared run =
    let notes = tree_of nat_eq b events in
    let g = run_grown b events run in
    let part = entries_over nat_eq b notes prepared in
    record {
      base = λ z m. number_known (is_inserted part z.id) (deletions_of part z.id) ∙ is_inserted_from part z (insertion_among part z (part_base b notes prepared (Insertion z) m));
      event = λ n z m e. number_known (is_inserted part z.id) (deletions_of part z.id) ∙ at b events notes prepared g n z m e (is_inserted part z.id) refl (holds prepared n.name) refl;
    }
  where
    at : (b : ℕ) (events : List (Applied ℕ)) (notes : List (Noted ℕ)) (prepared : List ℕ) → Grown b events notes → (n : Noted ℕ) (z : Inserted) → Among n notes → n.entry ≡ Insertion z → (c : Bool) → is_inserted (entries_over nat_eq b notes prepared) z.id ≡ c → (d : Bool) → holds prepared n.name ≡ d → c ≡ d
    at b events notes prepared g n z m e true h true k = refl
    at b events notes prepared g n z m e false h false k = refl
    at b events notes prepared g n z m e false h true k =
        let part = entries_over nat_eq b notes prepared in
        let there : Among (Insertion z) part = subst (λ w. Among w part) e (part_note b notes prepared n m k) in
        absurd (false≢true (sym h ∙ is_inserted_from part z (insertion_among part z there)))
    at b events notes prepared g n z m e true h false k =
        let part = entries_over nat_eq b notes prepared in
        let in_all : Among (Insertion z) (all_entries b notes) = joined_right (based b) (map entry_of notes) (Insertion z) (subst (λ w. Among w (map entry_of notes)) e (map_among entry_of notes n m)) in
        let there : Among (Insertion z) part = among_insertions part z (inserted_there b events notes prepared g z (insertion_among (all_entries b notes) z in_all) h) in
        ⊎_elim
        (λ base. absurd ((g.sources n m).agent z e (base_only b z (insertion_among (based b) z base)).0))
        (λ o. let one : o.0 ≡ n = g.one_note o.0 n o.1 m z z (sym o.3) e refl in sym (ap (λ (w : Noted ℕ). holds prepared w.name) (sym one) ∙ o.2) ∙ k)
        (part_cases b notes prepared (Insertion z) there)
