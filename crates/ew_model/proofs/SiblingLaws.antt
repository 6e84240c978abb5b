-- Where a new child stands among the nodes of a tree, and where subtrees end.
use Rattle.std.proofs.Common.{◌≡◌, nat_eq, Bool, true, false, cond, ◌⊎◌, inl, inr, ⊎_elim, List, [], ◌∷◌, ◌++◌, refl, sym, ap, ◌∙◌, subst, append_assoc, append-nil}
use Rattle.std.specs.Ordering.{ordering_then, ordering_reverse, is_eq, is_lt, is_gt}
use Rattle.std.specs.declared.cmp.Ordering.{Ordering}
use Rattle.std.specs.declared.cmp.Ordering.TheVariants.{Less, Equal, Greater}
use Rattle.std.specs.Cmp.{tied_itself}
use Rattle.std.proofs.lemmas.Bool.{false≢true, and_parts, and_from}
use Rattle.ew_model.specs.declared.id.Id.{Id}
use Rattle.ew_model.specs.Ids.{id_cmp}
use Rattle.ew_model.specs.Sets.{Among}
use Rattle.ew_model.specs.Paths.{Side, Step, side_cmp, step_cmp, path_cmp, path_lt, step_down}
use Rattle.ew_model.specs.Entries.{Inserted, Entry, inserted_cmp, order, insertions}
use Rattle.ew_model.specs.Paths.Side.{Left, Right}
use Rattle.ew_model.specs.Siblings.{IsRooted, HasChild, is_front, IsLastBelow, IsFirstBelow, StandsBehind, StandsAhead, StandsBeside, IsNextLower, IsLowest, SiblingsTell, SubtreesEnd, NeighboursPlace, TreesAreRooted}
use Rattle.ew_model.proofs.PathOrder.{path_total, step_total, step_exact, id_total, id_exact, turned_on}
use Rattle.ew_model.specs.Sorting.{put_in_order, sort_by}
use Rattle.ew_model.specs.Entries.Entry.{Insertion}
use Rattle.std.specs.List.{AllByRecursion}
use Rattle.std.specs.List.Sorted.{IsStrictlySortedBy}
use Rattle.ew_model.proofs.SetLaws.{joined_right}
use Rattle.ew_model.proofs.SortingLaws.{all_at, all_from, among_sort, sort-push}
use Rattle.ew_model.proofs.PlaceLaws.{placed_total}
use Rattle.ew_model.proofs.PrefixLaws.{insertions-append, tree_prefixes}
use Rattle.ew_model.proofs.GapLaws.{extends, behind, right_of, left_of, eq_from}

abbrev step : Side → Id → Step
step side x = record { side = side; child = x }

abbrev before : Ordering → Ordering
before o = cond (is_lt o) Less Greater

step_same : (s : Step) → step_cmp s s ≡ Equal
step_same s = tied_itself step_total s

-- a common front doesn't count
pub common_front : (q p r : List Step) → path_cmp (q ++ p) (q ++ r) ≡ path_cmp p r
common_front [] p r = refl
common_front (s ∷ q) p r = ap (λ o. ordering_then o (path_cmp (q ++ p) (q ++ r))) (step_same s) ∙ common_front q p r

-- two steps on one side go by their ids
one_side : (side : Side) (m x : Id) → step_cmp (step side m) (step side x) ≡ id_cmp m x
one_side Left m x = refl
one_side Right m x = refl

-- what is below two siblings goes by their ids first
below_siblings : (q : List Step) (side : Side) (m x : Id) (r t : List Step) → path_cmp (q ++ step side m ∷ r) (q ++ step side x ∷ t) ≡ ordering_then (id_cmp m x) (path_cmp r t)
below_siblings q side m x r t = common_front q (step side m ∷ r) (step side x ∷ t) ∙ ap (λ o. ordering_then o (path_cmp r t)) (one_side side m x)

pub front_rest : (p z : List Step) → is_front p z ≡ true → (r : List Step) × (z ≡ p ++ r)
front_rest [] z h = (z, refl)
front_rest (s ∷ p) [] h = absurd (false≢true h)
front_rest (s ∷ p) (t ∷ z) h =
    let parts = and_parts (is_eq (step_cmp t s)) (is_front p z) h in
    let same : t ≡ s = step_exact t s (eq_from (step_cmp t s) parts.0) in
    let more = front_rest p z parts.1 in
    (more.0, λ i. same i ∷ more.1 i)

pub front_is : (p r : List Step) → is_front p (p ++ r) ≡ true
front_is [] r = refl
front_is (s ∷ p) r = and_from (is_eq (step_cmp s s)) (is_front p (p ++ r)) (ap is_eq (step_same s)) (front_is p r)

-- what goes on to a side has its first step on it
side_is : (t side : Side) → is_eq (side_cmp t side) ≡ true → t ≡ side
side_is Left Left h = refl
side_is Left Right h = absurd (false≢true h)
side_is Right Left h = absurd (false≢true h)
side_is Right Right h = refl

pub first_on : (side : Side) (v z : List Step) → extends side v z ≡ true → (m : Id) × (rest : List Step) × (z ≡ v ++ step side m ∷ rest)
first_on side [] [] h = absurd (false≢true h)
first_on side [] (t ∷ q) h = let same = side_is t.side side h in (t.child, q, λ i. record { side = same i; child = t.child } ∷ q)
first_on side (s ∷ v) [] h = absurd (false≢true h)
first_on side (s ∷ v) (t ∷ q) h =
    let parts = and_parts (is_eq (step_cmp t s)) (extends side v q) h in
    let same : t ≡ s = step_exact t s (eq_from (step_cmp t s) parts.0) in
    let more = first_on side v q parts.1 in
    (more.0, more.1, λ i. same i ∷ more.2 i)

true_or_false : (b : Bool) → (b ≡ true) ⊎ (b ≡ false)
true_or_false true = inl refl
true_or_false false = inr refl

-- a path goes on from q on this side, by a child of the nodes, or doesn't
abbrev GoesOn : List Inserted → List Step → Side → List Step → Type 0
GoesOn nodes q side z = (m : Id) × (r : List Step) × (z ≡ q ++ step side m ∷ r) × HasChild nodes q side m

goes_on : (nodes : List Inserted) → IsRooted nodes → (q : List Step) (side : Side) (z : Inserted) → Among z nodes → GoesOn nodes q side z.path ⊎ (extends side q z.path ≡ false)
goes_on nodes rooted q side z m =
    ⊎_elim
    (λ e. let far = first_on side q z.path e in inl (far.0, far.1, far.2, rooted z m q (step side far.0) far.1 far.2))
    (λ e. inr e)
    (true_or_false (extends side q z.path))

behind_behind : (o : Ordering) → behind o ≡ behind (behind o)
behind_behind Less = refl
behind_behind Equal = refl
behind_behind Greater = refl

behind_before : (o : Ordering) → before o ≡ behind (before o)
behind_before Less = refl
behind_before Equal = refl
behind_before Greater = refl

before_behind : (o : Ordering) → behind o ≡ before (behind o)
before_behind Less = refl
before_behind Equal = refl
before_behind Greater = refl

before_before : (o : Ordering) → before o ≡ before (before o)
before_before Less = refl
before_before Equal = refl
before_before Greater = refl

-- who doesn't go on to this side sees all that is there at one place
outside_behind : (side : Side) (q z : List Step) (x j : Id) (u : List Step) → extends side q z ≡ false → path_cmp z (q ++ step side x ∷ []) ≡ behind (path_cmp z (q ++ step side j ∷ u))
outside_behind Left q z x j u e = left_of q z x [] e ∙ behind_before (path_cmp z q) ∙ ap behind (sym (left_of q z j u e))
outside_behind Right q z x j u e = right_of q z x [] e ∙ behind_behind (path_cmp z q) ∙ ap behind (sym (right_of q z j u e))

outside_before : (side : Side) (q z : List Step) (x j : Id) (u : List Step) → extends side q z ≡ false → path_cmp z (q ++ step side x ∷ []) ≡ before (path_cmp z (q ++ step side j ∷ u))
outside_before Left q z x j u e = left_of q z x [] e ∙ before_before (path_cmp z q) ∙ ap before (sym (left_of q z j u e))
outside_before Right q z x j u e = right_of q z x [] e ∙ before_behind (path_cmp z q) ∙ ap before (sym (right_of q z j u e))

id_turned_on : (x y : Id) → id_cmp x y ≡ Greater → id_cmp y x ≡ Less
id_turned_on x y e = id_total.antisymm y x ∙ ap ordering_reverse e

id_turned_back : (x y : Id) → id_cmp x y ≡ Less → id_cmp y x ≡ Greater
id_turned_back x y e = id_total.antisymm y x ∙ ap ordering_reverse e

-- what isn't behind is before
not_behind : (y z : List Step) → path_lt y z ≡ false → behind (path_cmp z y) ≡ Less
not_behind y z h = at (path_cmp z y) refl
  where
    at : (o : Ordering) → path_cmp z y ≡ o → behind (path_cmp z y) ≡ Less
    at Less e = ap behind e
    at Equal e = ap behind e
    at Greater e = absurd (false≢true (sym h ∙ ap is_lt (turned_on z y e)))

not_before : (y z : List Step) → path_lt z y ≡ false → before (path_cmp z y) ≡ Greater
not_before y z h = at (path_cmp z y) refl
  where
    at : (o : Ordering) → path_cmp z y ≡ o → before (path_cmp z y) ≡ Greater
    at Less e = absurd (false≢true (sym h ∙ ap is_lt e))
    at Equal e = ap before e
    at Greater e = ap before e

-- the last below a child, in steps
below_child : (q : List Step) (side : Side) (j : Id) (y : List Step) → is_front (step_down q side j) y ≡ true → (u : List Step) × (y ≡ q ++ step side j ∷ u)
below_child q side j y h =
    let rest = front_rest (step_down q side j) y h in
    (rest.0, rest.1 ∙ append_assoc q (step side j ∷ []) rest.0)

child_front : (q : List Step) (side : Side) (j : Id) (r : List Step) → is_front (step_down q side j) (q ++ step side j ∷ r) ≡ true
child_front q side j r = ap (is_front (step_down q side j)) (sym (append_assoc q (step side j ∷ []) r)) ∙ front_is (step_down q side j) r

module _ (nodes : List Inserted) (rooted : IsRooted nodes) (q : List Step) (side : Side) where
  module _ (x : Id) (free : HasChild nodes q side x → ⊥) where
    lower_inside : (j : Id) (y : Inserted) → IsNextLower nodes q side x j → IsLastBelow nodes (step_down q side j) y → (z : Inserted) → Among z nodes
        → (m : Id) (r : List Step) → z.path ≡ q ++ step side m ∷ r → HasChild nodes q side m
        → (u : List Step) → y.path ≡ q ++ step side j ∷ u
        → (o : Ordering) → id_cmp m x ≡ o → (o2 : Ordering) → id_cmp m j ≡ o2 → path_cmp z.path (step_down q side x) ≡ behind (path_cmp z.path y.path)
    lower_inside j y low last z mz m r zp child u yp Less e Less f =
        (λ i. path_cmp (zp i) (step_down q side x)) ∙ below_siblings q side m x r [] ∙ ap (λ o. ordering_then o (path_cmp r [])) e
        ∙ sym (ap behind ((λ i. path_cmp (zp i) (yp i)) ∙ below_siblings q side m j r u ∙ ap (λ o. ordering_then o (path_cmp r u)) f))
    lower_inside j y low last z mz m r zp child u yp Less e Equal f =
        (λ i. path_cmp (zp i) (step_down q side x)) ∙ below_siblings q side m x r [] ∙ ap (λ o. ordering_then o (path_cmp r [])) e
        ∙ sym (not_behind y.path z.path (last.last z mz (ap (is_front (step_down q side j)) (zp ∙ ap (λ k. q ++ step side k ∷ r) (id_exact m j f)) ∙ child_front q side j r)))
    lower_inside j y low last z mz m r zp child u yp Less e Greater f = absurd (low.greatest m child e (id_turned_on m j f))
    lower_inside j y low last z mz m r zp child u yp Equal e o2 f = absurd (free (subst (HasChild nodes q side) (id_exact m x e) child))
    lower_inside j y low last z mz m r zp child u yp Greater e o2 f =
        let jm : id_cmp m j ≡ Greater = id_turned_back j m (id_total.trans j x m low.lower (id_turned_on m x e)) in
        (λ i. path_cmp (zp i) (step_down q side x)) ∙ below_siblings q side m x r [] ∙ ap (λ o. ordering_then o (path_cmp r [])) e
        ∙ sym (ap behind ((λ i. path_cmp (zp i) (yp i)) ∙ below_siblings q side m j r u ∙ ap (λ o. ordering_then o (path_cmp r u)) jm))

    pub behind_lower : (j : Id) (y : Inserted) → IsNextLower nodes q side x j → IsLastBelow nodes (step_down q side j) y → StandsBehind nodes (step_down q side x) y.path
    behind_lower j y low last z mz =
        let at = below_child q side j y.path last.below in
        ⊎_elim
        (λ d. lower_inside j y low last z mz d.0 d.1 d.2 d.3 at.0 at.1 (id_cmp d.0 x) refl (id_cmp d.0 j) refl)
        (λ e. outside_behind side q z.path x j at.0 e ∙ ap (λ p. behind (path_cmp z.path p)) (sym at.1))
        (goes_on nodes rooted q side z mz)

    higher_inside : (j : Id) (y : Inserted) → IsLowest nodes q side x j → IsFirstBelow nodes (step_down q side j) y → (z : Inserted) → Among z nodes
        → (m : Id) (r : List Step) → z.path ≡ q ++ step side m ∷ r → HasChild nodes q side m
        → (u : List Step) → y.path ≡ q ++ step side j ∷ u
        → (o : Ordering) → id_cmp m x ≡ o → (o2 : Ordering) → id_cmp m j ≡ o2 → path_cmp z.path (step_down q side x) ≡ before (path_cmp z.path y.path)
    higher_inside j y low first z mz m r zp child u yp Less e o2 f = absurd (low.none m child e)
    higher_inside j y low first z mz m r zp child u yp Equal e o2 f = absurd (free (subst (HasChild nodes q side) (id_exact m x e) child))
    higher_inside j y low first z mz m r zp child u yp Greater e Less f = absurd (low.least m child f)
    higher_inside j y low first z mz m r zp child u yp Greater e Equal f =
        (λ i. path_cmp (zp i) (step_down q side x)) ∙ below_siblings q side m x r [] ∙ ap (λ o. ordering_then o (path_cmp r [])) e
        ∙ sym (not_before y.path z.path (first.first z mz (ap (is_front (step_down q side j)) (zp ∙ ap (λ k. q ++ step side k ∷ r) (id_exact m j f)) ∙ child_front q side j r)))
    higher_inside j y low first z mz m r zp child u yp Greater e Greater f =
        (λ i. path_cmp (zp i) (step_down q side x)) ∙ below_siblings q side m x r [] ∙ ap (λ o. ordering_then o (path_cmp r [])) e
        ∙ sym (ap before ((λ i. path_cmp (zp i) (yp i)) ∙ below_siblings q side m j r u ∙ ap (λ o. ordering_then o (path_cmp r u)) f))

    pub ahead_of_higher : (j : Id) (y : Inserted) → IsLowest nodes q side x j → IsFirstBelow nodes (step_down q side j) y → StandsAhead nodes (step_down q side x) y.path
    ahead_of_higher j y low first z mz =
        let at = below_child q side j y.path first.below in
        ⊎_elim
        (λ d. higher_inside j y low first z mz d.0 d.1 d.2 d.3 at.0 at.1 (id_cmp d.0 x) refl (id_cmp d.0 j) refl)
        (λ e. outside_before side q z.path x j at.0 e ∙ ap (λ p. before (path_cmp z.path p)) (sym at.1))
        (goes_on nodes rooted q side z mz)

  no_further : ((m : Id) → HasChild nodes q side m → ⊥) → (z : Inserted) → Among z nodes → extends side q z.path ≡ false
  no_further none z mz = ⊎_elim (λ d. absurd (none d.0 d.3)) (λ e. e) (goes_on nodes rooted q side z mz)

beside_alone : (nodes : List Inserted) → IsRooted nodes → (q : List Step) (side : Side) (x : Id) → ((m : Id) → HasChild nodes q side m → ⊥) → StandsBeside side nodes (step_down q side x) q
beside_alone nodes rooted q Left x none = λ z mz. left_of q z.path x [] (no_further nodes rooted q Left none z mz)
beside_alone nodes rooted q Right x none = λ z mz. right_of q z.path x [] (no_further nodes rooted q Right none z mz)

-- THE SIBLING RULE
pub siblings_tell : SiblingsTell
siblings_tell nodes rooted q side x free = record {
  lower = behind_lower nodes rooted q side x free;
  higher = ahead_of_higher nodes rooted q side x free;
  alone = beside_alone nodes rooted q side x;
}

-- WHERE SUBTREES END
module _ (nodes : List Inserted) (rooted : IsRooted nodes) (p : List Step) where
  further_front : (side : Side) (j : Id) (y : List Step) → is_front (step_down p side j) y ≡ true → is_front p y ≡ true
  further_front side j y h =
      let rest = front_rest (step_down p side j) y h in
      ap (is_front p) (rest.1 ∙ append_assoc p (step side j ∷ []) rest.0) ∙ front_is p (step side j ∷ rest.0)

  last_here : (y : Inserted) → Among y nodes → y.path ≡ p → ((m : Id) → HasChild nodes p Right m → ⊥) → IsLastBelow nodes p y
  last_here y my yp none = record {
    here = my;
    below = ap (is_front p) (yp ∙ sym (append-nil p)) ∙ front_is p [];
    last = λ z mz h. let rest = front_rest p z.path h in at z mz rest.0 rest.1;
  }
    where
      sided : (z : Inserted) → Among z nodes → (side : Side) (m : Id) (r : List Step) → z.path ≡ p ++ step side m ∷ r → path_lt y.path z.path ≡ false
      sided z mz Left m r zp = ap is_lt ((λ i. path_cmp ((yp ∙ sym (append-nil p)) i) (zp i)) ∙ common_front p [] (step Left m ∷ r))
      sided z mz Right m r zp = absurd (none m (rooted z mz p (step Right m) r zp))

      at : (z : Inserted) → Among z nodes → (r : List Step) → z.path ≡ p ++ r → path_lt y.path z.path ≡ false
      at z mz [] zp = ap is_lt ((λ i. path_cmp (yp i) ((zp ∙ append-nil p) i)) ∙ tied_itself path_total p)
      at z mz (s ∷ r) zp = sided z mz s.side s.child r zp

  first_here : (y : Inserted) → Among y nodes → y.path ≡ p → ((m : Id) → HasChild nodes p Left m → ⊥) → IsFirstBelow nodes p y
  first_here y my yp none = record {
    here = my;
    below = ap (is_front p) (yp ∙ sym (append-nil p)) ∙ front_is p [];
    first = λ z mz h. let rest = front_rest p z.path h in at z mz rest.0 rest.1;
  }
    where
      sided : (z : Inserted) → Among z nodes → (side : Side) (m : Id) (r : List Step) → z.path ≡ p ++ step side m ∷ r → path_lt z.path y.path ≡ false
      sided z mz Right m r zp = ap is_lt ((λ i. path_cmp (zp i) ((yp ∙ sym (append-nil p)) i)) ∙ common_front p (step Right m ∷ r) [])
      sided z mz Left m r zp = absurd (none m (rooted z mz p (step Left m) r zp))

      at : (z : Inserted) → Among z nodes → (r : List Step) → z.path ≡ p ++ r → path_lt z.path y.path ≡ false
      at z mz [] zp = ap is_lt ((λ i. path_cmp ((zp ∙ append-nil p) i) (yp i)) ∙ tied_itself path_total p)
      at z mz (s ∷ r) zp = sided z mz s.side s.child r zp

  last_through : (j : Id) (y : Inserted) → ((m : Id) → HasChild nodes p Right m → id_cmp j m ≡ Less → ⊥) → IsLastBelow nodes (step_down p Right j) y → IsLastBelow nodes p y
  last_through j y greatest end = record {
    here = end.here;
    below = further_front Right j y.path end.below;
    last = λ z mz h. let rest = front_rest p z.path h in at z mz rest.0 rest.1;
  }
    where
      inside : (z : Inserted) → Among z nodes → (m : Id) (r : List Step) → z.path ≡ p ++ step Right m ∷ r → (o : Ordering) → id_cmp j m ≡ o → path_lt y.path z.path ≡ false
      inside z mz m r zp Less e = absurd (greatest m (rooted z mz p (step Right m) r zp) e)
      inside z mz m r zp Equal e = end.last z mz (ap (is_front (step_down p Right j)) (zp ∙ ap (λ k. p ++ step Right k ∷ r) (sym (id_exact j m e))) ∙ child_front p Right j r)
      inside z mz m r zp Greater e =
          let far = below_child p Right j y.path end.below in
          ap is_lt ((λ i. path_cmp (far.1 i) (zp i)) ∙ below_siblings p Right j m far.0 r ∙ ap (λ o. ordering_then o (path_cmp far.0 r)) e)

      sided : (z : Inserted) → Among z nodes → (side : Side) (m : Id) (r : List Step) → z.path ≡ p ++ step side m ∷ r → path_lt y.path z.path ≡ false
      sided z mz Left m r zp = let far = below_child p Right j y.path end.below in ap is_lt ((λ i. path_cmp (far.1 i) (zp i)) ∙ common_front p (step Right j ∷ far.0) (step Left m ∷ r))
      sided z mz Right m r zp = inside z mz m r zp (id_cmp j m) refl

      at : (z : Inserted) → Among z nodes → (r : List Step) → z.path ≡ p ++ r → path_lt y.path z.path ≡ false
      at z mz [] zp = let far = below_child p Right j y.path end.below in ap is_lt ((λ i. path_cmp (far.1 i) (zp i)) ∙ common_front p (step Right j ∷ far.0) [])
      at z mz (s ∷ r) zp = sided z mz s.side s.child r zp

  first_through : (j : Id) (y : Inserted) → ((m : Id) → HasChild nodes p Left m → id_cmp m j ≡ Less → ⊥) → IsFirstBelow nodes (step_down p Left j) y → IsFirstBelow nodes p y
  first_through j y least end = record {
    here = end.here;
    below = further_front Left j y.path end.below;
    first = λ z mz h. let rest = front_rest p z.path h in at z mz rest.0 rest.1;
  }
    where
      inside : (z : Inserted) → Among z nodes → (m : Id) (r : List Step) → z.path ≡ p ++ step Left m ∷ r → (o : Ordering) → id_cmp m j ≡ o → path_lt z.path y.path ≡ false
      inside z mz m r zp Less e = absurd (least m (rooted z mz p (step Left m) r zp) e)
      inside z mz m r zp Equal e = end.first z mz (ap (is_front (step_down p Left j)) (zp ∙ ap (λ k. p ++ step Left k ∷ r) (id_exact m j e)) ∙ child_front p Left j r)
      inside z mz m r zp Greater e =
          let far = below_child p Left j y.path end.below in
          ap is_lt ((λ i. path_cmp (zp i) (far.1 i)) ∙ below_siblings p Left m j r far.0 ∙ ap (λ o. ordering_then o (path_cmp r far.0)) e)

      sided : (z : Inserted) → Among z nodes → (side : Side) (m : Id) (r : List Step) → z.path ≡ p ++ step side m ∷ r → path_lt z.path y.path ≡ false
      sided z mz Right m r zp = let far = below_child p Left j y.path end.below in ap is_lt ((λ i. path_cmp (zp i) (far.1 i)) ∙ common_front p (step Right m ∷ r) (step Left j ∷ far.0))
      sided z mz Left m r zp = inside z mz m r zp (id_cmp m j) refl

      at : (z : Inserted) → Among z nodes → (r : List Step) → z.path ≡ p ++ r → path_lt z.path y.path ≡ false
      at z mz [] zp = let far = below_child p Left j y.path end.below in ap is_lt ((λ i. path_cmp (zp i) (far.1 i)) ∙ common_front p [] (step Left j ∷ far.0))
      at z mz (s ∷ r) zp = sided z mz s.side s.child r zp

pub subtrees_end : SubtreesEnd
subtrees_end nodes rooted p = record {
  last_here = last_here nodes rooted p;
  last_through = last_through nodes rooted p;
  first_here = first_here nodes rooted p;
  first_through = first_through nodes rooted p;
}

-- WHERE THE NEW NODE STANDS IN THE LIST
goes_before : (x y : Inserted) (ys : List Inserted) → inserted_cmp x y ≡ Less → put_in_order inserted_cmp x (y ∷ ys) ≡ x ∷ y ∷ ys
goes_before x y ys e = ap (λ r. cond (is_lt r) (x ∷ y ∷ ys) (y ∷ put_in_order inserted_cmp x ys)) e

goes_first : (x : Inserted) (ys : List Inserted) → AllByRecursion (λ z. inserted_cmp x z ≡ Less) ys → put_in_order inserted_cmp x ys ≡ x ∷ ys
goes_first x [] h = refl
goes_first x (y ∷ ys) h = goes_before x y ys h.0

goes_behind : (x y : Inserted) (ys : List Inserted) → (inserted_cmp x y ≡ Less → ⊥) → put_in_order inserted_cmp x (y ∷ ys) ≡ y ∷ put_in_order inserted_cmp x ys
goes_behind x y ys n = at (inserted_cmp x y) n
  where
    at : (r : Ordering) → (r ≡ Less → ⊥) → cond (is_lt r) (x ∷ y ∷ ys) (y ∷ put_in_order inserted_cmp x ys) ≡ y ∷ put_in_order inserted_cmp x ys
    at Less n = absurd (n refl)
    at Equal n = refl
    at Greater n = refl

not_less_at : (o : Ordering) → o ≡ Greater → o ≡ Less → ⊥
not_less_at o g l = let no : ⊥ = cc in no

pub reversed_at : (y z : Inserted) (o : Ordering) → inserted_cmp z y ≡ o → inserted_cmp y z ≡ ordering_reverse o
reversed_at y z o e = placed_total.antisymm y z ∙ ap ordering_reverse e

not_less : (y z : Inserted) → inserted_cmp z y ≡ Less → inserted_cmp y z ≡ Less → ⊥
not_less y z e f = not_less_at (inserted_cmp y z) (reversed_at y z Less e) f

placed_behind : (y v : Inserted) (xs ys : List Inserted) → IsStrictlySortedBy inserted_cmp (xs ++ v ∷ ys) → StandsBehind (xs ++ v ∷ ys) y.path v.path → put_in_order inserted_cmp y (xs ++ v ∷ ys) ≡ xs ++ v ∷ y ∷ ys
unfolding IsStrictlySortedBy
placed_behind y v [] ys s h =
    goes_behind y v ys (not_less y v (h v (inl refl) ∙ ap behind (tied_itself placed_total v)))
    ∙ ap (λ ws. v ∷ ws) (goes_first y ys (all_from (λ z. inserted_cmp y z ≡ Less) ys (λ z m. reversed_at y z Greater (h z (inr m) ∙ ap behind (reversed_at z v Less (all_at (λ w. inserted_cmp v w ≡ Less) ys z s.0 m))))))
placed_behind y v (x ∷ xs) ys s h =
    goes_behind y x (xs ++ v ∷ ys) (not_less y x (h x (inl refl) ∙ ap behind (all_at (λ w. inserted_cmp x w ≡ Less) (xs ++ v ∷ ys) v s.0 (joined_right xs (v ∷ ys) v (inl refl)))))
    ∙ ap (λ ws. x ∷ ws) (placed_behind y v xs ys s.1 (λ z m. h z (inr m)))

placed_ahead : (y v : Inserted) (xs ys : List Inserted) → IsStrictlySortedBy inserted_cmp (xs ++ v ∷ ys) → StandsAhead (xs ++ v ∷ ys) y.path v.path → put_in_order inserted_cmp y (xs ++ v ∷ ys) ≡ xs ++ y ∷ v ∷ ys
unfolding IsStrictlySortedBy
placed_ahead y v [] ys s h = goes_before y v ys (reversed_at y v Greater (h v (inl refl) ∙ ap before (tied_itself placed_total v)))
placed_ahead y v (x ∷ xs) ys s h =
    goes_behind y x (xs ++ v ∷ ys) (not_less y x (h x (inl refl) ∙ ap before (all_at (λ w. inserted_cmp x w ≡ Less) (xs ++ v ∷ ys) v s.0 (joined_right xs (v ∷ ys) v (inl refl)))))
    ∙ ap (λ ws. x ∷ ws) (placed_ahead y v xs ys s.1 (λ z m. h z (inr m)))

never_tied : (z y : Inserted) (o : Ordering) (b : Bool) → inserted_cmp z y ≡ cond b Greater Less → inserted_cmp y z ≡ Equal → ⊥
never_tied z y o true e f = let g : inserted_cmp y z ≡ Less = reversed_at y z Greater e in cc
never_tied z y o false e f = let g : inserted_cmp y z ≡ Greater = reversed_at y z Less e in cc

never_tied_turned : (z y : Inserted) (b : Bool) → inserted_cmp z y ≡ cond b Less Greater → inserted_cmp y z ≡ Equal → ⊥
never_tied_turned z y true e f = let g : inserted_cmp y z ≡ Greater = reversed_at y z Less e in cc
never_tied_turned z y false e f = let g : inserted_cmp y z ≡ Less = reversed_at y z Greater e in cc

-- one more insertion is put into the order
pub order-push : (entries : List Entry) (y : Inserted) → ((z : Inserted) → Among z (order entries) → inserted_cmp y z ≡ Equal → ⊥) → order (entries ++ Insertion y ∷ []) ≡ put_in_order inserted_cmp y (order entries)
unfolding order
order-push entries y h =
    ap (sort_by inserted_cmp) (insertions-append entries (Insertion y ∷ []))
    ∙ sort-push placed_total (insertions entries) y (all_from (λ z. inserted_cmp y z ≡ Equal → ⊥) (insertions entries) (λ z m. h z (among_sort placed_total (insertions entries) z m)))

pub neighbours_place : NeighboursPlace
neighbours_place entries y v xs ys s e = (
  λ h. order-push entries y (λ z m. never_tied z y (inserted_cmp z y) (is_gt (path_cmp z.path v.path)) (h z m))
      ∙ ap (put_in_order inserted_cmp y) e ∙ placed_behind y v xs ys (subst (IsStrictlySortedBy inserted_cmp) e s) (subst (λ ws. StandsBehind ws y.path v.path) e h),
  λ h. order-push entries y (λ z m. never_tied_turned z y (is_lt (path_cmp z.path v.path)) (h z m))
      ∙ ap (put_in_order inserted_cmp y) e ∙ placed_ahead y v xs ys (subst (IsStrictlySortedBy inserted_cmp) e s) (subst (λ ws. StandsAhead ws y.path v.path) e h),
)

pub trees_are_rooted : TreesAreRooted
trees_are_rooted b events = tree_prefixes nat_eq b events
