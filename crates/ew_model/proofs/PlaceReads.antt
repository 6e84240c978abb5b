-- What an apply looks up in what is prepared, read off the records.
use Rattle.std.proofs.Common.{◌≡◌, ℕ, suc, ◌≤◌, nat_eq, Bool, true, false, cond, ◌||◌, ◌&&◌, inl, inr, List, [], ◌∷◌, ◌++◌, map, filter, find, length, Some, None, option_map, slice_get, refl, sym, ap, ◌∙◌, subst, arith}
use Rattle.std.specs.Ordering.{is_lt, ordering_reverse}
use Rattle.std.specs.declared.cmp.Ordering.TheVariants.{Greater}
use Rattle.std.specs.Cmp.{tied_itself}
use Rattle.std.specs.List.{list_any}
use Rattle.std.specs.List.Sorted.{IsStrictlySortedBy}
use Rattle.std.proofs.lemmas.List.{map-append}
use Rattle.std.proofs.lemmas.List.Elements.{filter-append}
use Rattle.std.proofs.lemmas.Option.{slice_get_past}
use Rattle.ew_model.specs.Sets.{Among}
use Rattle.ew_model.specs.Entries.{Inserted, inserted_cmp, insertions, order, visible}
use Rattle.ew_model.specs.Paths.{path_cmp, path_lt, is_right_child}
use Rattle.ew_model.specs.Tree.{all_entries, entries_over, tree_of}
use Rattle.ew_model.specs.Records.{Record, records, is_one, is_known, ones_in, first_known, RecordsPlace}
use Rattle.ew_model.proofs.PathOrder.{path_total}
use Rattle.ew_model.proofs.SetLaws.{map_among}
use Rattle.ew_model.proofs.SortingLaws.{all_at}
use Rattle.ew_model.proofs.PrefixLaws.{ordered_among}
use Rattle.ew_model.proofs.OwnIndex.{tree_behind, sorted_order}
use Rattle.ew_model.proofs.RunLaws.{run_grown}
use Rattle.ew_model.proofs.RecordLaws.{records_tell}
use Rattle.ew_model.proofs.StateLaws.{node_of, nodes_of}
use Rattle.ew_model.proofs.ReadLaws.{cut_before, cut_behind, turned_greater}

length_mapped : (rs : List Record) → length (map node_of rs) ≡ length rs
length_mapped [] = refl
length_mapped (r ∷ rs) = ap suc (length_mapped rs)

got_at : (xs : List Inserted) (y : Inserted) (ys : List Inserted) → slice_get (xs ++ y ∷ ys) (length xs) ≡ Some y
got_at [] y ys = refl
got_at (x ∷ xs) y ys = got_at xs y ys

-- the nodes of the records that pass, where the list is cut
passed_cut : (t : Record → Bool) (rs : List Record) (r : Record) (qs : List Record) → map node_of (filter t (rs ++ r ∷ qs)) ≡ map node_of (filter t rs) ++ map node_of (filter t (r ∷ qs))
passed_cut t rs r qs = ap (map node_of) (filter-append t rs (r ∷ qs)) ∙ map-append node_of (filter t rs) (filter t (r ∷ qs))

one_at : (rs : List Record) (r : Record) (qs : List Record) → is_one r ≡ true → slice_get (map node_of (filter is_one (rs ++ r ∷ qs))) (ones_in rs) ≡ Some r.node
one_at rs r qs e =
    let cut : map node_of (filter is_one (rs ++ r ∷ qs)) ≡ map node_of (filter is_one rs) ++ r.node ∷ map node_of (filter is_one qs) =
    passed_cut is_one rs r qs ∙ ap (λ c. map node_of (filter is_one rs) ++ map node_of (cond c (r ∷ filter is_one qs) (filter is_one qs))) e in
    ap (λ ws. slice_get ws (ones_in rs)) cut
    ∙ ap (slice_get (map node_of (filter is_one rs) ++ r.node ∷ map node_of (filter is_one qs))) (sym (length_mapped (filter is_one rs)))
    ∙ got_at (map node_of (filter is_one rs)) r.node (map node_of (filter is_one qs))

-- the first known one of records that all pass
found_known : (p : Inserted → Bool) (qs : List Record) → ((q : Record) → Among q qs → p q.node ≡ true) → find p (map node_of (filter is_known qs)) ≡ first_known qs
found_known p [] h = refl
found_known p (q ∷ qs) h = at (is_known q) (found_known p qs (λ z m. h z (inr m)))
  where
    at : (c : Bool) → find p (map node_of (filter is_known qs)) ≡ first_known qs → find p (map node_of (cond c (q ∷ filter is_known qs) (filter is_known qs))) ≡ option_map node_of (cond c (Some q) (find is_known qs))
    at true rest = ap (λ c. cond c (Some q.node) (find p (map node_of (filter is_known qs)))) (h q (inl refl))
    at false rest = rest

-- records that don't pass are skipped
skipped : (p : Inserted → Bool) (rs : List Record) (ys : List Inserted) → ((r : Record) → Among r rs → p r.node ≡ false) → find p (map node_of (filter is_known rs) ++ ys) ≡ find p ys
skipped p [] ys h = refl
skipped p (r ∷ rs) ys h = at (is_known r) (skipped p rs ys (λ z m. h z (inr m)))
  where
    at : (c : Bool) → find p (map node_of (filter is_known rs) ++ ys) ≡ find p ys → find p (map node_of (cond c (r ∷ filter is_known rs) (filter is_known rs)) ++ ys) ≡ find p ys
    at true rest = ap (λ c. cond c (Some r.node) (find p (map node_of (filter is_known rs) ++ ys))) (h r (inl refl)) ∙ rest
    at false rest = rest

next_at : (rs : List Record) (r : Record) (qs : List Record) → IsStrictlySortedBy inserted_cmp (map node_of (rs ++ r ∷ qs)) → find (λ (y : Inserted). path_lt r.node.path y.path) (map node_of (filter is_known (rs ++ r ∷ qs))) ≡ first_known qs
next_at rs r qs sorted =
    ap (find (λ (y : Inserted). path_lt r.node.path y.path)) (passed_cut is_known rs r qs)
    ∙ skipped (λ (y : Inserted). path_lt r.node.path y.path) rs (map node_of (filter is_known (r ∷ qs))) (λ z m. ap is_lt (turned_greater z.node r.node (cut_before rs r qs sorted z m)))
    ∙ own (is_known r)
    ∙ found_known (λ (y : Inserted). path_lt r.node.path y.path) qs (λ z m. ap is_lt (cut_behind rs r qs sorted z m))
  where
    own : (c : Bool) → find (λ (y : Inserted). path_lt r.node.path y.path) (map node_of (cond c (r ∷ filter is_known qs) (filter is_known qs))) ≡ find (λ (y : Inserted). path_lt r.node.path y.path) (map node_of (filter is_known qs))
    own true = ap (λ c. cond c (Some r.node) (find (λ (y : Inserted). path_lt r.node.path y.path) (map node_of (filter is_known qs)))) (ap is_lt (tied_itself path_total r.node.path))
    own false = refl

any_known : (p : Inserted → Bool) (rs : List Record) → list_any p (map node_of (filter is_known rs)) ≡ list_any (λ (r : Record). is_known r && p r.node) rs
any_known p [] = refl
any_known p (r ∷ rs) = at (is_known r) (any_known p rs)
  where
    at : (c : Bool) → list_any p (map node_of (filter is_known rs)) ≡ list_any (λ (r : Record). is_known r && p r.node) rs → list_any p (map node_of (cond c (r ∷ filter is_known rs) (filter is_known rs))) ≡ ((c && p r.node) || list_any (λ (r : Record). is_known r && p r.node) rs)
    at true rest = ap (λ c. p r.node || c) rest
    at false rest = rest

pub records_place : RecordsPlace
records_place b events prepared run =
    let notes = tree_of nat_eq b events in
    let g = run_grown b events run in
    let all = all_entries b notes in
    let part = entries_over nat_eq b notes prepared in
    let say = records_tell b events prepared run in
    let shown : visible part ≡ map node_of (filter is_one (records all part)) = sym say.visible_nodes in
    let known : order part ≡ map node_of (filter is_known (records all part)) = sym say.known_nodes in
    let nodes : order all ≡ map node_of (records all part) = sym (nodes_of all part) in
    let sorted : IsStrictlySortedBy inserted_cmp (map node_of (records all part)) = subst (IsStrictlySortedBy inserted_cmp) nodes (sorted_order all g.apart) in
    let long : length (visible part) ≡ ones_in (records all part) = ap length shown ∙ length_mapped (filter is_one (records all part)) in
    let got : (rs : List Record) (r : Record) (qs : List Record) → records all part ≡ rs ++ r ∷ qs → is_one r ≡ true → slice_get (visible part) (ones_in rs) ≡ Some r.node =
    λ rs r qs cut e. ap (λ ws. slice_get ws (ones_in rs)) (shown ∙ ap (λ ws. map node_of (filter is_one ws)) cut) ∙ one_at rs r qs e in
    let past : (i : ℕ) → ones_in (records all part) ≤ i → slice_get (visible part) i ≡ None = λ i h. slice_get_past (visible part) i (omega (arith, h, long)) in
    record {
      at = got;
      before = λ rs r qs cut e. ap (option_map (λ (x : Inserted). x.path)) (got rs r qs cut e);
      next = λ rs r qs cut.
          ap (find (λ (y : Inserted). path_lt r.node.path y.path)) (known ∙ ap (λ ws. map node_of (filter is_known ws)) cut)
          ∙ next_at rs r qs (subst (λ ws. IsStrictlySortedBy inserted_cmp (map node_of ws)) cut sorted);
      next_of_root = ap (find (λ (y : Inserted). path_lt [] y.path)) known
          ∙ found_known (λ (y : Inserted). path_lt [] y.path) (records all part) (λ r m.
          let here : Among r.node (order all) = subst (Among r.node) (sym nodes) (map_among node_of (records all part) r m) in
          let behind : path_cmp r.node.path [] ≡ Greater = all_at (λ (z : Inserted). path_cmp z.path [] ≡ Greater) (insertions all) r.node (tree_behind nat_eq b events) (ordered_among all r.node here) in
          ap is_lt (path_total.antisymm [] r.node.path ∙ ap ordering_reverse behind));
      right_child = λ p. ap (list_any (λ (y : Inserted). is_right_child p y.path)) known ∙ any_known (λ (y : Inserted). is_right_child p y.path) (records all part);
      none_at = past;
      none_before = λ i h. ap (option_map (λ (x : Inserted). x.path)) (past i h);
    }
