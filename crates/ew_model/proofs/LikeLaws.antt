-- Two stems with as many visible characters, and new nodes over both with the same descriptions: what is visible is alike.
use Rattle.std.proofs.Common.{◌≡◌, ℕ, ◌+◌, Bool, true, false, cond, ◌||◌, ◌⊎◌, inl, inr, List, [], ◌∷◌, ◌++◌, filter, count_by, position, slice_get, Some, option_map, refl, sym, ap, ◌∙◌, nat_cmp}
use Rattle.std.specs.List.{AllByRecursion, AllZip}
use Rattle.std.specs.Ordering.{ordering_reverse, is_lt}
use Rattle.std.specs.declared.cmp.Ordering.{Ordering}
use Rattle.std.specs.declared.cmp.Ordering.TheVariants.{Equal}
use Rattle.std.specs.Cmp.{both_ways, tied_itself}
use Rattle.std.proofs.lemmas.Bool.{false≢true}
use Rattle.std.proofs.lemmas.List.Sums.{sum_by-cons}
use Rattle.std.proofs.lemmas.Map.Lookups.{exact_unsigned}
use Rattle.ew_model.specs.declared.id.Id.{Id}
use Rattle.ew_model.specs.Sorting.{put_in_order, sort_by}
use Rattle.ew_model.specs.Ids.{id_eq}
use Rattle.ew_model.specs.Entries.{Inserted, Entry, inserted_cmp, insertions, deletes, is_deleted, visible}
use Rattle.ew_model.specs.Paths.{path_cmp, path_lt}
use Rattle.ew_model.specs.Entries.Entry.{Insertion, Deletion, Mark}
use Rattle.ew_model.proofs.PathOrder.{path_total}
use Rattle.ew_model.proofs.SortingLaws.{all_at}
use Rattle.ew_model.proofs.PrefixLaws.{visible_among, ordered_among}
use Rattle.ew_model.proofs.TextLaws.{ids_equal, position-cons}
use Rattle.ew_model.proofs.OperationLaws.{got}
use Rattle.ew_model.proofs.OwnIndex.{sorted_visible}
use Rattle.ew_model.proofs.StemLaws.{IsStem, Desc, IsAt, desc_order, stem_gap, places_cmp}

-- an id of no visible character of the stem, which it doesn't delete
pub record IsNew (stem : List Entry) (x : Id) : Type 0 where
  pub others : AllByRecursion (λ z. id_eq z.id x ≡ false) (visible stem)
  pub kept : is_deleted stem x ≡ false

module _ (stem other : List Entry) (h : IsStem stem) (k : IsStem other) where
  -- the i-th visible characters of both
  pub record SamePlace (x y : Inserted) : Type 0 where
    pub place : ℕ
    pub here : slice_get (visible stem) place ≡ Some x
    pub there : slice_get (visible other) place ≡ Some y

  -- new characters of one event
  pub record SameNew (x y : Inserted) : Type 0 where
    pub desc : Desc
    pub here : IsAt stem desc x.path
    pub there : IsAt other desc y.path
    pub id : x.id ≡ y.id
    pub ch : x.ch ≡ y.ch
    pub new : IsNew stem x.id
    pub new_there : IsNew other y.id

  abbrev pub Like : Inserted → Inserted → Type 0
  Like x y = SamePlace x y ⊎ SameNew x y

  place_new_cmp : (x y u v : Inserted) → SamePlace x y → SameNew u v → path_cmp x.path u.path ≡ path_cmp y.path v.path
  place_new_cmp x y u v p n =
      ap (path_cmp x.path) n.here.is ∙ stem_gap stem p.place n.desc.gap x n.here.before n.desc.first n.desc.rest h p.here n.here.at
      ∙ sym (ap (path_cmp y.path) n.there.is ∙ stem_gap other p.place n.desc.gap y n.there.before n.desc.first n.desc.rest k p.there n.there.at)

  -- like characters stand alike
  pub like_cmp : (x y u v : Inserted) → Like x y → Like u v → inserted_cmp x u ≡ inserted_cmp y v
  like_cmp x y u v (inl p) (inl q) =
      places_cmp (visible stem) p.place q.place x u (sorted_visible stem h.apart) p.here q.here
      ∙ sym (places_cmp (visible other) p.place q.place y v (sorted_visible other k.apart) p.there q.there)
  like_cmp x y u v (inl p) (inr n) = place_new_cmp x y u v p n
  like_cmp x y u v (inr n) (inl p) =
      path_total.antisymm x.path u.path ∙ ap ordering_reverse (place_new_cmp u v x y p n) ∙ sym (path_total.antisymm y.path v.path)
  like_cmp x y u v (inr m) (inr n) = desc_order stem m.desc n.desc x.path u.path h m.here n.here ∙ sym (desc_order other m.desc n.desc y.path v.path k m.there n.there)

  same_place_id : (x y u v : Inserted) → SamePlace x y → SamePlace u v → id_eq x.id u.id ≡ true → id_eq y.id v.id ≡ true
  same_place_id x y u v p q e =
      let one : x ≡ u = h.ids x u (ordered_among stem x (visible_among stem x (got (visible stem) p.place x p.here))) (ordered_among stem u (visible_among stem u (got (visible stem) q.place u q.here))) e in
      let tie : Equal ≡ nat_cmp p.place q.place =
      sym (tied_itself path_total u.path) ∙ (ap (λ (w : Inserted). path_cmp w.path u.path) (sym one) ∙ places_cmp (visible stem) p.place q.place x u (sorted_visible stem h.apart) p.here q.here) in
      let places : p.place ≡ q.place = exact_unsigned p.place q.place (sym tie) in
      let found : Some y ≡ Some v = sym p.there ∙ (ap (slice_get (visible other)) places ∙ q.there) in
      let same : y ≡ v = cc in
      ap (λ (w : Inserted). id_eq w.id v.id) same ∙ ids_equal.refl v.id

turned_place : (stem other : List Entry) (h : IsStem stem) (k : IsStem other) (x y : Inserted) → SamePlace stem other h k x y → SamePlace other stem k h y x
turned_place stem other h k x y p = record { place = p.place; here = p.there; there = p.here }

module _ (stem other : List Entry) (h : IsStem stem) (k : IsStem other) where
  abbrev pub Alike : Inserted → Inserted → Type 0
  Alike x y = Like stem other h k x y

  place_new_ids : (x y u v : Inserted) → SamePlace stem other h k x y → SameNew stem other h k u v → id_eq x.id u.id ≡ id_eq y.id v.id
  place_new_ids x y u v p n =
      all_at (λ z. id_eq z.id u.id ≡ false) (visible stem) x n.new.others (got (visible stem) p.place x p.here)
      ∙ sym (all_at (λ z. id_eq z.id v.id ≡ false) (visible other) y n.new_there.others (got (visible other) p.place y p.there))

  -- like characters have the same ids in common
  pub like_ids : (x y u v : Inserted) → Alike x y → Alike u v → id_eq x.id u.id ≡ id_eq y.id v.id
  like_ids x y u v (inl p) (inl q) =
      both_ways (id_eq x.id u.id) (id_eq y.id v.id) (same_place_id stem other h k x y u v p q)
      (same_place_id other stem k h y x v u (turned_place stem other h k x y p) (turned_place stem other h k u v q))
  like_ids x y u v (inl p) (inr n) = place_new_ids x y u v p n
  like_ids x y u v (inr n) (inl p) = ids_equal.symm x.id u.id ∙ place_new_ids u v x y p n ∙ sym (ids_equal.symm y.id v.id)
  like_ids x y u v (inr m) (inr n) = λ i. id_eq (m.id i) (n.id i)

  -- targets of like characters
  pub record LikeTarget (t u : Id) : Type 0 where
    pub here : Inserted
    pub there : Inserted
    pub like : Alike here there
    pub is_here : here.id ≡ t
    pub is_there : there.id ≡ u

  abbrev pub LikeEntry : Entry → Entry → Type 0
  LikeEntry (Insertion x) (Insertion y) = SameNew stem other h k x y
  LikeEntry (Deletion t) (Deletion u) = LikeTarget t u
  LikeEntry (Insertion x) (Deletion u) = ⊥
  LikeEntry (Deletion t) (Insertion y) = ⊥
  LikeEntry Mark Mark = Unit {0}
  LikeEntry Mark f = ⊥
  LikeEntry e Mark = ⊥

  like_deletes : (x y : Inserted) (e f : Entry) → Alike x y → LikeEntry e f → deletes x.id e ≡ deletes y.id f
  like_deletes x y (Insertion z) (Insertion w) l m = refl
  like_deletes x y (Deletion t) (Deletion u) l m =
      (λ i. id_eq (sym m.is_here i) x.id) ∙ like_ids m.here m.there x y m.like l ∙ (λ i. id_eq (m.is_there i) y.id)
  like_deletes x y (Insertion z) (Deletion u) l m = absurd m
  like_deletes x y (Deletion t) (Insertion z) l m = absurd m
  like_deletes x y Mark Mark l m = refl
  like_deletes x y Mark (Insertion z) l m = absurd m
  like_deletes x y Mark (Deletion t) l m = absurd m
  like_deletes x y (Insertion z) Mark l m = absurd m
  like_deletes x y (Deletion t) Mark l m = absurd m

  -- like entries delete like characters
  pub like_deleted : (es fs : List Entry) (x y : Inserted) → AllZip LikeEntry es fs → Alike x y → is_deleted es x.id ≡ is_deleted fs y.id
  like_deleted [] [] x y z l = refl
  like_deleted [] (f ∷ fs) x y z l = absurd z
  like_deleted (e ∷ es) [] x y z l = absurd z
  like_deleted (e ∷ es) (f ∷ fs) x y z l = λ i. like_deletes x y e f l z.0 i || like_deleted es fs x y z.1 l i

  zip_kept : (a b : Bool) (x y : Inserted) (xs ys : List Inserted) → a ≡ b → Alike x y → AllZip Alike xs ys → AllZip Alike (cond a (x ∷ xs) xs) (cond b (y ∷ ys) ys)
  zip_kept true true x y xs ys e l z = (l, z)
  zip_kept false false x y xs ys e l z = z
  zip_kept true false x y xs ys e l z = absurd (false≢true (sym e))
  zip_kept false true x y xs ys e l z = absurd (false≢true e)

  pub zip_filter : (p q : Inserted → Bool) (xs ys : List Inserted) → ((x y : Inserted) → Alike x y → p x ≡ q y) → AllZip Alike xs ys → AllZip Alike (filter p xs) (filter q ys)
  zip_filter p q [] [] f z = z
  zip_filter p q [] (y ∷ ys) f z = absurd z
  zip_filter p q (x ∷ xs) [] f z = absurd z
  zip_filter p q (x ∷ xs) (y ∷ ys) f z = zip_kept (p x) (q y) x y (filter p xs) (filter q ys) (f x y z.0) z.0 (zip_filter p q xs ys f z.1)

  zip_chosen : (a b : Ordering) (x y u v : Inserted) (xs ys us vs : List Inserted) → a ≡ b → Alike x y → Alike u v → AllZip Alike xs ys → AllZip Alike us vs → AllZip Alike (cond (is_lt a) (x ∷ u ∷ xs) (u ∷ us)) (cond (is_lt b) (y ∷ v ∷ ys) (v ∷ vs))
  zip_chosen a b x y u v xs ys us vs e l m z w = at (is_lt a) (is_lt b) (ap is_lt e)
    where
      at : (c d : Bool) → c ≡ d → AllZip Alike (cond c (x ∷ u ∷ xs) (u ∷ us)) (cond d (y ∷ v ∷ ys) (v ∷ vs))
      at true true e = (l, (m, z))
      at false false e = (m, w)
      at true false e = absurd (false≢true (sym e))
      at false true e = absurd (false≢true e)

  zip_put : (x y : Inserted) (xs ys : List Inserted) → Alike x y → AllZip Alike xs ys → AllZip Alike (put_in_order inserted_cmp x xs) (put_in_order inserted_cmp y ys)
  zip_put x y [] [] l z = (l, z)
  zip_put x y [] (v ∷ ys) l z = absurd z
  zip_put x y (u ∷ xs) [] l z = absurd z
  zip_put x y (u ∷ xs) (v ∷ ys) l z =
      zip_chosen (inserted_cmp x u) (inserted_cmp y v) x y u v xs ys (put_in_order inserted_cmp x xs) (put_in_order inserted_cmp y ys) (like_cmp stem other h k x y u v l z.0) l z.0 z.1 (zip_put x y xs ys l z.1)

  -- sorting keeps lists alike
  pub zip_sort : (xs ys : List Inserted) → AllZip Alike xs ys → AllZip Alike (sort_by inserted_cmp xs) (sort_by inserted_cmp ys)
  zip_sort [] [] z = z
  zip_sort [] (y ∷ ys) z = absurd z
  zip_sort (x ∷ xs) [] z = absurd z
  zip_sort (x ∷ xs) (y ∷ ys) z = zip_put x y (sort_by inserted_cmp xs) (sort_by inserted_cmp ys) z.0 (zip_sort xs ys z.1)

  pub zip_joined : (xs ys us vs : List Inserted) → AllZip Alike xs ys → AllZip Alike us vs → AllZip Alike (xs ++ us) (ys ++ vs)
  zip_joined [] [] us vs z w = w
  zip_joined [] (y ∷ ys) us vs z w = absurd z
  zip_joined (x ∷ xs) [] us vs z w = absurd z
  zip_joined (x ∷ xs) (y ∷ ys) us vs z w = (z.0, zip_joined xs ys us vs z.1 w)

  -- like entries have like insertions
  pub zip_insertions : (es fs : List Entry) → AllZip LikeEntry es fs → AllZip Alike (insertions es) (insertions fs)
  zip_insertions [] [] z = z
  zip_insertions [] (f ∷ fs) z = absurd z
  zip_insertions (e ∷ es) [] z = absurd z
  zip_insertions (Insertion x ∷ es) (Insertion y ∷ fs) z = (inr z.0, zip_insertions es fs z.1)
  zip_insertions (Deletion t ∷ es) (Deletion u ∷ fs) z = zip_insertions es fs z.1
  zip_insertions (Insertion x ∷ es) (Deletion u ∷ fs) z = absurd z.0
  zip_insertions (Deletion t ∷ es) (Insertion y ∷ fs) z = absurd z.0
  zip_insertions (Mark ∷ es) (Mark ∷ fs) z = zip_insertions es fs z.1
  zip_insertions (Mark ∷ es) (Insertion y ∷ fs) z = absurd z.0
  zip_insertions (Mark ∷ es) (Deletion u ∷ fs) z = absurd z.0
  zip_insertions (Insertion x ∷ es) (Mark ∷ fs) z = absurd z.0
  zip_insertions (Deletion t ∷ es) (Mark ∷ fs) z = absurd z.0

  -- what count and place find is the same
  pub zip_count : (xs ys : List Inserted) (u v : Inserted) → AllZip Alike xs ys → Alike u v → count_by (λ x. path_lt x.path u.path) xs ≡ count_by (λ y. path_lt y.path v.path) ys
  zip_count [] [] u v z l = refl
  zip_count [] (y ∷ ys) u v z l = absurd z
  zip_count (x ∷ xs) [] u v z l = absurd z
  zip_count (x ∷ xs) (y ∷ ys) u v z l =
      sum_by-cons (λ x. cond (path_lt x.path u.path) 1 0) x xs
      ∙ (λ i. cond (is_lt (like_cmp stem other h k x y u v z.0 l i)) 1 0 + zip_count xs ys u v z.1 l i)
      ∙ sym (sum_by-cons (λ y. cond (path_lt y.path v.path) 1 0) y ys)

  pub zip_position : (xs ys : List Inserted) (t u : Id) → AllZip Alike xs ys → LikeTarget t u → position (λ x. id_eq x.id t) xs ≡ position (λ y. id_eq y.id u) ys
  zip_position [] [] t u z l = refl
  zip_position [] (y ∷ ys) t u z l = absurd z
  zip_position (x ∷ xs) [] t u z l = absurd z
  zip_position (x ∷ xs) (y ∷ ys) t u z l =
      position-cons (λ x. id_eq x.id t) x xs
      ∙ (λ i. cond (same i) (Some 0) (option_map (λ n. 1 + n) (zip_position xs ys t u z.1 l i)))
      ∙ sym (position-cons (λ y. id_eq y.id u) y ys)
    where
      same : id_eq x.id t ≡ id_eq y.id u
      same = ap (id_eq x.id) (sym l.is_here) ∙ like_ids x y l.here l.there z.0 l.like ∙ ap (id_eq y.id) l.is_there
