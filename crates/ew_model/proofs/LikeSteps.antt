-- One more event over two stems: like entries, and the same operation.
use Rattle.std.proofs.Common.{◌≡◌, ℕ, zero, suc, ◌+◌, not, ◌⊎◌, inl, inr, ⊎_elim, List, [], ◌∷◌, ◌++◌, filter, length, slice_get, Option, Some, None, option_map, refl, sym, ap, ◌∙◌, subst, arith}
use Rattle.std.specs.List.{AllZip}
use Rattle.ew_model.specs.Sets.{Among}
use Rattle.ew_model.specs.Sorting.{sort_by}
use Rattle.ew_model.specs.Paths.{Step}
use Rattle.ew_model.specs.Entries.{Inserted, Entry, inserted_cmp, insertions, is_deleted, order, visible}
use Rattle.ew_model.specs.Places.{Act, new_path, path_before, place}
use Rattle.ew_model.specs.Entries.Entry.{Insertion, Deletion, Mark}
use Rattle.ew_model.specs.Places.Act.{InsertAs, DeleteAt, MarkAs}
use Rattle.ew_model.specs.Operations.{operation_of, deletion_at}
use Rattle.ew_model.specs.declared.text_op.TextOp.TheVariants.{Ins}
use Rattle.ew_model.proofs.SetLaws.{among_joined, joined_left, joined_right}
use Rattle.ew_model.proofs.SortingLaws.{NoTie, NoTies}
use Rattle.ew_model.proofs.PrefixLaws.{insertions-append, ordered_among}
use Rattle.ew_model.proofs.OwnIndex.{sorted_order}
use Rattle.ew_model.proofs.StemLaws.{IsStem, Desc, IsAt, IsOver}
use Rattle.ew_model.proofs.NewNodes.{Spot, IsSpot, HasFirst, new_desc, new_node_at}
use Rattle.ew_model.proofs.NewNodes.Spot.{AtGap, AtNode}
use Rattle.ew_model.proofs.LikeLaws.{IsNew, Alike, LikeEntry, like_cmp, like_deleted, zip_filter, zip_sort, zip_joined, zip_insertions, zip_count, zip_position}
use Rattle.ew_model.proofs.ClearLaws.{NewChars, stem_ties, stem_ordered, visible_over}

module _ (stem other : List Entry) (h : IsStem stem) (k : IsStem other) (long : length (visible stem) ≡ length (visible other)) where
  zip_places : (n : ℕ) (xs ys : List Inserted) → length xs ≡ length ys → ((j : ℕ) (x : Inserted) → slice_get xs j ≡ Some x → slice_get (visible stem) (n + j) ≡ Some x) → ((j : ℕ) (y : Inserted) → slice_get ys j ≡ Some y → slice_get (visible other) (n + j) ≡ Some y) → AllZip (Alike stem other h k) xs ys
  zip_places n [] [] e f g = tt
  zip_places n [] (y ∷ ys) e f g = absurd (omega arith)
  zip_places n (x ∷ xs) [] e f g = absurd (omega arith)
  zip_places n (x ∷ xs) (y ∷ ys) e f g = (
    inl (record { place = n + 0; here = f 0 x refl; there = g 0 y refl }),
    zip_places (suc n) xs ys (omega arith)
        (λ j z q. let same : suc n + j ≡ n + suc j = omega arith in ap (slice_get (visible stem)) same ∙ f (suc j) z q)
        (λ j z q. let same : suc n + j ≡ n + suc j = omega arith in ap (slice_get (visible other)) same ∙ g (suc j) z q),
  )

  -- the visible characters of the stems are alike, place by place
  zip_stems : AllZip (Alike stem other h k) (visible stem) (visible other)
  zip_stems = zip_places 0 (visible stem) (visible other) long
      (λ j x q. let same : 0 + j ≡ j = omega arith in ap (slice_get (visible stem)) same ∙ q)
      (λ j y q. let same : 0 + j ≡ j = omega arith in ap (slice_get (visible other)) same ∙ q)

  new_here : (es fs : List Entry) → AllZip (LikeEntry stem other h k) es fs → NewChars stem es
  new_here [] [] z = tt
  new_here [] (f ∷ fs) z = absurd z
  new_here (e ∷ es) [] z = absurd z
  new_here (Insertion x ∷ es) (Insertion y ∷ fs) z = (record { desc = z.0.desc; at = z.0.here; new = z.0.new }, new_here es fs z.1)
  new_here (Deletion t ∷ es) (Deletion u ∷ fs) z = new_here es fs z.1
  new_here (Insertion x ∷ es) (Deletion u ∷ fs) z = absurd z.0
  new_here (Deletion t ∷ es) (Insertion y ∷ fs) z = absurd z.0
  new_here (Mark ∷ es) (Mark ∷ fs) z = new_here es fs z.1
  new_here (Mark ∷ es) (Insertion v ∷ fs) z = absurd z.0
  new_here (Mark ∷ es) (Deletion u ∷ fs) z = absurd z.0
  new_here (Insertion v ∷ es) (Mark ∷ fs) z = absurd z.0
  new_here (Deletion u ∷ es) (Mark ∷ fs) z = absurd z.0

  new_there : (es fs : List Entry) → AllZip (LikeEntry stem other h k) es fs → NewChars other fs
  new_there [] [] z = tt
  new_there [] (f ∷ fs) z = absurd z
  new_there (e ∷ es) [] z = absurd z
  new_there (Insertion x ∷ es) (Insertion y ∷ fs) z = (record { desc = z.0.desc; at = z.0.there; new = z.0.new_there }, new_there es fs z.1)
  new_there (Deletion t ∷ es) (Deletion u ∷ fs) z = new_there es fs z.1
  new_there (Insertion x ∷ es) (Deletion u ∷ fs) z = absurd z.0
  new_there (Deletion t ∷ es) (Insertion y ∷ fs) z = absurd z.0
  new_there (Mark ∷ es) (Mark ∷ fs) z = new_there es fs z.1
  new_there (Mark ∷ es) (Insertion v ∷ fs) z = absurd z.0
  new_there (Mark ∷ es) (Deletion u ∷ fs) z = absurd z.0
  new_there (Insertion v ∷ es) (Mark ∷ fs) z = absurd z.0
  new_there (Deletion u ∷ es) (Mark ∷ fs) z = absurd z.0

  zip_tie : (x y : Inserted) (xs ys : List Inserted) → Alike stem other h k x y → AllZip (Alike stem other h k) xs ys → NoTie inserted_cmp x xs → NoTie inserted_cmp y ys
  zip_tie x y [] [] l z t = tt
  zip_tie x y [] (v ∷ ys) l z t = absurd z
  zip_tie x y (u ∷ xs) [] l z t = absurd z
  zip_tie x y (u ∷ xs) (v ∷ ys) l z t = ((λ e. t.0 (like_cmp stem other h k x y u v l z.0 ∙ e)), zip_tie x y xs ys l z.1 t.1)

  zip_ties : (xs ys : List Inserted) → AllZip (Alike stem other h k) xs ys → NoTies inserted_cmp xs → NoTies inserted_cmp ys
  zip_ties [] [] z t = tt
  zip_ties [] (y ∷ ys) z t = absurd z
  zip_ties (x ∷ xs) [] z t = absurd z
  zip_ties (x ∷ xs) (y ∷ ys) z t = (zip_tie x y xs ys z.0 z.1 t.0, zip_ties xs ys z.1 t.1)

  ties_there : (es fs : List Entry) → AllZip (LikeEntry stem other h k) es fs → NoTies inserted_cmp (insertions es) → NoTies inserted_cmp (insertions fs)
  ties_there es fs z t = zip_ties (insertions es) (insertions fs) (zip_insertions stem other h k es fs z) t

  -- what is visible is alike
  pub like_visible : (es fs : List Entry) → AllZip (LikeEntry stem other h k) es fs → NoTies inserted_cmp (insertions es) → AllZip (Alike stem other h k) (visible (stem ++ es)) (visible (other ++ fs))
  like_visible es fs z t =
      subst (λ xs. AllZip (Alike stem other h k) xs (visible (other ++ fs))) (sym (visible_over stem es h (new_here es fs z) t))
      (subst (λ ys. AllZip (Alike stem other h k) (sort_by inserted_cmp (filter (λ y. not (is_deleted es y.id)) (visible stem ++ insertions es))) ys) (sym (visible_over other fs k (new_there es fs z) (ties_there es fs z t)))
      (zip_sort stem other h k (filter (λ y. not (is_deleted es y.id)) (visible stem ++ insertions es)) (filter (λ y. not (is_deleted fs y.id)) (visible other ++ insertions fs))
      (zip_filter stem other h k (λ y. not (is_deleted es y.id)) (λ y. not (is_deleted fs y.id)) (visible stem ++ insertions es) (visible other ++ insertions fs)
      (λ x y l. ap not (like_deleted stem other h k es fs x y z l))
      (zip_joined stem other h k (visible stem) (visible other) (insertions es) (insertions fs) zip_stems (zip_insertions stem other h k es fs z)))))

  -- the descriptions of the new characters
  abbrev pub descs_of : (es fs : List Entry) → AllZip (LikeEntry stem other h k) es fs → List Desc
  descs_of [] [] z = []
  descs_of [] (f ∷ fs) z = []
  descs_of (e ∷ es) [] z = []
  descs_of (Insertion x ∷ es) (Insertion y ∷ fs) z = z.0.desc ∷ descs_of es fs z.1
  descs_of (Deletion t ∷ es) (Deletion u ∷ fs) z = descs_of es fs z.1
  descs_of (Insertion x ∷ es) (Deletion u ∷ fs) z = []
  descs_of (Deletion t ∷ es) (Insertion y ∷ fs) z = []
  descs_of (Mark ∷ es) (Mark ∷ fs) z = descs_of es fs z.1
  descs_of (Mark ∷ es) (Insertion v ∷ fs) z = []
  descs_of (Mark ∷ es) (Deletion u ∷ fs) z = []
  descs_of (Insertion v ∷ es) (Mark ∷ fs) z = []
  descs_of (Deletion u ∷ es) (Mark ∷ fs) z = []

  pub desc_here : (es fs : List Entry) (z : AllZip (LikeEntry stem other h k) es fs) (x : Inserted) → Among x (insertions es) → (d : Desc) × Among d (descs_of es fs z) × IsAt stem d x.path
  desc_here [] [] z x m = absurd m
  desc_here [] (f ∷ fs) z x m = absurd z
  desc_here (e ∷ es) [] z x m = absurd z
  desc_here (Insertion u ∷ es) (Insertion v ∷ fs) z x m =
      ⊎_elim (λ e. (z.0.desc, inl refl, subst (λ (w : Inserted). IsAt stem z.0.desc w.path) (sym e) z.0.here)) (λ j. let d = desc_here es fs z.1 x j in (d.0, inr d.1, d.2)) m
  desc_here (Deletion t ∷ es) (Deletion u ∷ fs) z x m = desc_here es fs z.1 x m
  desc_here (Insertion u ∷ es) (Deletion t ∷ fs) z x m = absurd z.0
  desc_here (Deletion t ∷ es) (Insertion u ∷ fs) z x m = absurd z.0
  desc_here (Mark ∷ es) (Mark ∷ fs) z x m = desc_here es fs z.1 x m
  desc_here (Mark ∷ es) (Insertion v ∷ fs) z x m = absurd z.0
  desc_here (Mark ∷ es) (Deletion u ∷ fs) z x m = absurd z.0
  desc_here (Insertion v ∷ es) (Mark ∷ fs) z x m = absurd z.0
  desc_here (Deletion u ∷ es) (Mark ∷ fs) z x m = absurd z.0

  desc_there : (es fs : List Entry) (z : AllZip (LikeEntry stem other h k) es fs) (x : Inserted) → Among x (insertions fs) → (d : Desc) × Among d (descs_of es fs z) × IsAt other d x.path
  desc_there [] [] z x m = absurd m
  desc_there [] (f ∷ fs) z x m = absurd z
  desc_there (e ∷ es) [] z x m = absurd z
  desc_there (Insertion u ∷ es) (Insertion v ∷ fs) z x m =
      ⊎_elim (λ e. (z.0.desc, inl refl, subst (λ (w : Inserted). IsAt other z.0.desc w.path) (sym e) z.0.there)) (λ j. let d = desc_there es fs z.1 x j in (d.0, inr d.1, d.2)) m
  desc_there (Deletion t ∷ es) (Deletion u ∷ fs) z x m = desc_there es fs z.1 x m
  desc_there (Insertion u ∷ es) (Deletion t ∷ fs) z x m = absurd z.0
  desc_there (Deletion t ∷ es) (Insertion u ∷ fs) z x m = absurd z.0
  desc_there (Mark ∷ es) (Mark ∷ fs) z x m = desc_there es fs z.1 x m
  desc_there (Mark ∷ es) (Insertion v ∷ fs) z x m = absurd z.0
  desc_there (Mark ∷ es) (Deletion u ∷ fs) z x m = absurd z.0
  desc_there (Insertion v ∷ es) (Mark ∷ fs) z x m = absurd z.0
  desc_there (Deletion u ∷ es) (Mark ∷ fs) z x m = absurd z.0

  pub node_here : (es fs : List Entry) (z : AllZip (LikeEntry stem other h k) es fs) (d : Desc) → Among d (descs_of es fs z) → (x : Inserted) × Among x (insertions es) × IsAt stem d x.path
  node_here [] [] z d m = absurd m
  node_here [] (f ∷ fs) z d m = absurd z
  node_here (e ∷ es) [] z d m = absurd z
  node_here (Insertion u ∷ es) (Insertion v ∷ fs) z d m =
      ⊎_elim (λ e. (u, inl refl, subst (λ c. IsAt stem c u.path) (sym e) z.0.here)) (λ j. let x = node_here es fs z.1 d j in (x.0, inr x.1, x.2)) m
  node_here (Deletion t ∷ es) (Deletion u ∷ fs) z d m = node_here es fs z.1 d m
  node_here (Insertion u ∷ es) (Deletion t ∷ fs) z d m = absurd z.0
  node_here (Deletion t ∷ es) (Insertion u ∷ fs) z d m = absurd z.0
  node_here (Mark ∷ es) (Mark ∷ fs) z d m = node_here es fs z.1 d m
  node_here (Mark ∷ es) (Insertion v ∷ fs) z d m = absurd z.0
  node_here (Mark ∷ es) (Deletion u ∷ fs) z d m = absurd z.0
  node_here (Insertion v ∷ es) (Mark ∷ fs) z d m = absurd z.0
  node_here (Deletion u ∷ es) (Mark ∷ fs) z d m = absurd z.0

  node_there : (es fs : List Entry) (z : AllZip (LikeEntry stem other h k) es fs) (d : Desc) → Among d (descs_of es fs z) → (x : Inserted) × Among x (insertions fs) × IsAt other d x.path
  node_there [] [] z d m = absurd m
  node_there [] (f ∷ fs) z d m = absurd z
  node_there (e ∷ es) [] z d m = absurd z
  node_there (Insertion u ∷ es) (Insertion v ∷ fs) z d m =
      ⊎_elim (λ e. (v, inl refl, subst (λ c. IsAt other c v.path) (sym e) z.0.there)) (λ j. let x = node_there es fs z.1 d j in (x.0, inr x.1, x.2)) m
  node_there (Deletion t ∷ es) (Deletion u ∷ fs) z d m = node_there es fs z.1 d m
  node_there (Insertion u ∷ es) (Deletion t ∷ fs) z d m = absurd z.0
  node_there (Deletion t ∷ es) (Insertion u ∷ fs) z d m = absurd z.0
  node_there (Mark ∷ es) (Mark ∷ fs) z d m = node_there es fs z.1 d m
  node_there (Mark ∷ es) (Insertion v ∷ fs) z d m = absurd z.0
  node_there (Mark ∷ es) (Deletion u ∷ fs) z d m = absurd z.0
  node_there (Insertion v ∷ es) (Mark ∷ fs) z d m = absurd z.0
  node_there (Deletion u ∷ es) (Mark ∷ fs) z d m = absurd z.0

-- the walk over a stem and new entries
over_walk : (stem entries : List Entry) (descs : List Desc) → IsStem stem → NewChars stem entries → NoTies inserted_cmp (insertions entries)
    → ((x : Inserted) → Among x (insertions entries) → (d : Desc) × Among d descs × IsAt stem d x.path) → ((d : Desc) → Among d descs → (x : Inserted) × Among x (insertions entries) × IsAt stem d x.path) → IsOver stem descs (order (stem ++ entries))
over_walk stem entries descs s n t f g =
    let split : (z : Inserted) → Among z (order (stem ++ entries)) → Among z (insertions stem) ⊎ Among z (insertions entries) =
    λ z m. among_joined (insertions stem) (insertions entries) z (subst (Among z) (insertions-append stem entries) (ordered_among (stem ++ entries) z m)) in
    let join : (z : Inserted) → Among z (insertions stem ++ insertions entries) → Among z (order (stem ++ entries)) =
    λ z m. stem_ordered (stem ++ entries) z (subst (Among z) (sym (insertions-append stem entries)) m) in
    record {
      sorted = sorted_order (stem ++ entries) (stem_ties stem entries s n t);
      from = λ z m. ⊎_elim (λ j. inl (stem_ordered stem z j)) (λ j. inr (f z j)) (split z m);
      stems = λ z m. join z (joined_left (insertions stem) (insertions entries) z (ordered_among stem z m));
      nodes = λ d m. let x = g d m in (x.0, join x.0 (joined_right (insertions stem) (insertions entries) x.0 x.1), x.2);
    }

module _ (stem other : List Entry) (h : IsStem stem) (k : IsStem other) (long : length (visible stem) ≡ length (visible other)) where
  -- the neighbour before an index, on both sides
  abbrev SpotAt : Option (List Step) → Option (List Step) → Type 0
  SpotAt None None = Unit {0}
  SpotAt (Some v) (Some w) = (spot : Spot) × IsSpot stem spot v × IsSpot other spot w
  SpotAt None (Some w) = ⊥
  SpotAt (Some v) None = ⊥

  spot_at : (xs ys : List Inserted) (at : ℕ) → AllZip (Alike stem other h k) xs ys → SpotAt (path_before xs at) (path_before ys at)
  spot_at xs ys zero z = (AtGap 0, refl, refl)
  spot_at [] [] (suc i) z = tt
  spot_at [] (y ∷ ys) (suc i) z = absurd z
  spot_at (x ∷ xs) [] (suc i) z = absurd z
  spot_at (x ∷ xs) (y ∷ ys) (suc zero) z =
      ⊎_elim
      (λ p. (AtGap (suc p.place), ap (option_map (λ (c : Inserted). c.path)) p.here, ap (option_map (λ (c : Inserted). c.path)) p.there))
      (λ n. (AtNode n.desc, n.here, n.there))
      z.0
  spot_at (x ∷ xs) (y ∷ ys) (suc (suc i)) z = spot_at xs ys (suc i) z.1

  abbrev CharAt : Option Inserted → Option Inserted → Type 0
  CharAt None None = Unit {0}
  CharAt (Some x) (Some y) = Alike stem other h k x y
  CharAt None (Some y) = ⊥
  CharAt (Some x) None = ⊥

  char_at : (xs ys : List Inserted) (at : ℕ) → AllZip (Alike stem other h k) xs ys → CharAt (slice_get xs at) (slice_get ys at)
  char_at [] [] i z = tt
  char_at [] (y ∷ ys) i z = absurd z
  char_at (x ∷ xs) [] i z = absurd z
  char_at (x ∷ xs) (y ∷ ys) zero z = z.0
  char_at (x ∷ xs) (y ∷ ys) (suc i) z = char_at xs ys i z.1

  -- like entries, or none on either side
  abbrev pub LikeWhere : Option Entry → Option Entry → Type 0
  LikeWhere None None = Unit {0}
  LikeWhere (Some e) (Some f) = LikeEntry stem other h k e f
  LikeWhere None (Some f) = ⊥
  LikeWhere (Some e) None = ⊥

  -- the id of an act's character is new to both stems
  abbrev pub NewAct : Act → Type 0
  NewAct (InsertAs x at ch) = IsNew stem x × IsNew other x
  NewAct (DeleteAt at) = Unit {0}
  NewAct MarkAs = Unit {0}

  -- One act over like entries leaves like entries.
  pub like_place : (a : Act) (es fs : List Entry) (z : AllZip (LikeEntry stem other h k) es fs) → NewAct a → NoTies inserted_cmp (insertions es) → HasFirst (descs_of stem other h k long es fs z) → LikeWhere (place a (stem ++ es)) (place a (other ++ fs))
  unfolding place
  like_place (InsertAs x at ch) es fs z new t first =
      found (path_before (visible (stem ++ es)) at) (path_before (visible (other ++ fs)) at) (spot_at (visible (stem ++ es)) (visible (other ++ fs)) at (like_visible stem other h k long es fs z t))
    where
      found : (o p : Option (List Step)) → SpotAt o p
          → LikeWhere (option_map (λ v. Insertion (record { id = x; path = new_path (order (stem ++ es)) v x; ch = ch })) o) (option_map (λ v. Insertion (record { id = x; path = new_path (order (other ++ fs)) v x; ch = ch })) p)
      found None None s = tt
      found None (Some w) s = absurd s
      found (Some v) None s = absurd s
      found (Some v) (Some w) s =
          let descs = descs_of stem other h k long es fs z in
          record {
            desc = new_desc descs s.0 x;
            here = new_node_at stem descs (order (stem ++ es)) s.0 v x h (over_walk stem es descs h (new_here stem other h k long es fs z) t (desc_here stem other h k long es fs z) (node_here stem other h k long es fs z)) first s.1;
            there = new_node_at other descs (order (other ++ fs)) s.0 w x k (over_walk other fs descs k (new_there stem other h k long es fs z) (ties_there stem other h k long es fs z t) (desc_there stem other h k long es fs z) (node_there stem other h k long es fs z)) first s.2;
            id = refl;
            ch = refl;
            new = new.0;
            new_there = new.1;
          }
  like_place (DeleteAt at) es fs z new t first =
      found (slice_get (visible (stem ++ es)) at) (slice_get (visible (other ++ fs)) at) (char_at (visible (stem ++ es)) (visible (other ++ fs)) at (like_visible stem other h k long es fs z t))
    where
      found : (o p : Option Inserted) → CharAt o p → LikeWhere (option_map (λ (c : Inserted). Deletion c.id) o) (option_map (λ (c : Inserted). Deletion c.id) p)
      found None None s = tt
      found None (Some y) s = absurd s
      found (Some x) None s = absurd s
      found (Some x) (Some y) s = record { here = x; there = y; like = s; is_here = refl; is_there = refl }
  like_place MarkAs es fs z new t first = tt

  -- Like entries do the same to like texts.
  pub like_operation : (xs ys : List Inserted) (o p : Option Entry) → AllZip (Alike stem other h k) xs ys → LikeWhere o p → operation_of xs o ≡ operation_of ys p
  like_operation xs ys None None z l = refl
  like_operation xs ys None (Some f) z l = absurd l
  like_operation xs ys (Some e) None z l = absurd l
  like_operation xs ys (Some (Insertion u)) (Some (Insertion v)) z l = λ i. Ins (zip_count stem other h k xs ys u v z (inr l) i) (l.ch i)
  like_operation xs ys (Some (Deletion t)) (Some (Deletion u)) z l = ap deletion_at (zip_position stem other h k xs ys t u z l)
  like_operation xs ys (Some (Insertion u)) (Some (Deletion t)) z l = absurd l
  like_operation xs ys (Some (Deletion t)) (Some (Insertion u)) z l = absurd l
  like_operation xs ys (Some Mark) (Some Mark) z l = refl
  like_operation xs ys (Some Mark) (Some (Insertion v)) z l = absurd l
  like_operation xs ys (Some Mark) (Some (Deletion u)) z l = absurd l
  like_operation xs ys (Some (Insertion v)) (Some Mark) z l = absurd l
  like_operation xs ys (Some (Deletion u)) (Some Mark) z l = absurd l
