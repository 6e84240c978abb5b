-- Tables of children: for each parent and side the ids of its children, ascending.
use Rattle.std.proofs.Common.{◌≡◌, cond, ◌⊎◌, inl, inr, ⊎_elim, List, [], ◌∷◌, ◌++◌, refl, sym, ap, ◌∙◌, subst}
use Rattle.std.specs.Ordering.{is_lt}
use Rattle.std.specs.declared.cmp.Ordering.{Ordering}
use Rattle.std.specs.declared.cmp.Ordering.TheVariants.{Less, Equal, Greater}
use Rattle.std.specs.List.Sorted.{IsStrictlySortedBy}
use Rattle.std.proofs.lemmas.List.{same_from_push}
use Rattle.ew_model.specs.declared.id.Id.{Id}
use Rattle.ew_model.specs.Ids.{id_cmp}
use Rattle.ew_model.specs.Sets.{Among}
use Rattle.ew_model.specs.Sorting.{put_in_order}
use Rattle.ew_model.specs.Paths.{Side, Step, step_down}
use Rattle.ew_model.specs.Entries.{Inserted}
use Rattle.ew_model.specs.Siblings.{HasChild, IsTable, TableTells, TablesTell, TablesGrow, ChildrenRoot}
use Rattle.ew_model.proofs.PathOrder.{id_total, id_exact}
use Rattle.ew_model.proofs.SetLaws.{among_joined, joined_left, joined_right}
use Rattle.ew_model.proofs.SortingLaws.{all_at, all_from, not_back, not_itself, put_sorted}
use Rattle.ew_model.proofs.PrefixLaws.{add_prefixes}

-- an ascending list, cut at one of its ids
below_cut : (lows : List Id) (j : Id) (highs : List Id) → IsStrictlySortedBy id_cmp (lows ++ j ∷ highs) → (m : Id) → Among m lows → id_cmp m j ≡ Less
unfolding IsStrictlySortedBy
below_cut [] j highs s m i = absurd i
below_cut (x ∷ lows) j highs s m i =
    ⊎_elim (λ e. ap (λ (w : Id). id_cmp w j) e ∙ all_at (λ (w : Id). id_cmp x w ≡ Less) (lows ++ j ∷ highs) j s.0 (joined_right lows (j ∷ highs) j (inl refl))) (λ k. below_cut lows j highs s.1 m k) i

above_cut : (lows : List Id) (j : Id) (highs : List Id) → IsStrictlySortedBy id_cmp (lows ++ j ∷ highs) → (m : Id) → Among m highs → id_cmp j m ≡ Less
unfolding IsStrictlySortedBy
above_cut [] j highs s m i = all_at (λ (w : Id). id_cmp j w ≡ Less) highs m s.0 i
above_cut (x ∷ lows) j highs s m i = above_cut lows j highs s.1 m i

-- where an id of the list stands to the one at the cut
cut_cases : (lows : List Id) (j : Id) (highs : List Id) → IsStrictlySortedBy id_cmp (lows ++ j ∷ highs) → (m : Id) → Among m (lows ++ j ∷ highs) → (id_cmp m j ≡ Less) ⊎ ((m ≡ j) ⊎ ((id_cmp j m ≡ Less) × Among m highs))
cut_cases lows j highs s m i =
    ⊎_elim
    (λ k. inl (below_cut lows j highs s m k))
    (λ k. ⊎_elim (λ e. inr (inl e)) (λ h. inr (inr (above_cut lows j highs s m h, h))) k)
    (among_joined lows (j ∷ highs) m i)

not_self : (j m : Id) → m ≡ j → id_cmp j m ≡ Less → ⊥
not_self j m e l = not_itself id_total j (subst (λ (w : Id). id_cmp j w ≡ Less) e l)

not_self_turned : (j m : Id) → m ≡ j → id_cmp m j ≡ Less → ⊥
not_self_turned j m e l = not_itself id_total j (subst (λ (w : Id). id_cmp w j ≡ Less) e l)

module _ (nodes : List Inserted) (p : List Step) (side : Side) (ids : List Id) (table : IsTable nodes p side ids) where
  within : (lows : List Id) (j : Id) (highs : List Id) → ids ≡ lows ++ j ∷ highs → (m : Id) → HasChild nodes p side m → (id_cmp m j ≡ Less) ⊎ ((m ≡ j) ⊎ ((id_cmp j m ≡ Less) × Among m highs))
  within lows j highs e m child = cut_cases lows j highs (subst (IsStrictlySortedBy id_cmp) e table.sorted) m (subst (Among m) e (table.all m child))

  child_at : (lows : List Id) (j : Id) (highs : List Id) → ids ≡ lows ++ j ∷ highs → HasChild nodes p side j
  child_at lows j highs e = table.there j (subst (Among j) (sym e) (joined_right lows (j ∷ highs) j (inl refl)))

  none_lower : (j : Id) (highs : List Id) → ids ≡ j ∷ highs → (m : Id) → HasChild nodes p side m → id_cmp m j ≡ Less → ⊥
  none_lower j highs e m child l =
      ⊎_elim
      (λ first. not_self_turned j m first l)
      (λ later. not_back id_total m j l (above_cut [] j highs (subst (IsStrictlySortedBy id_cmp) e table.sorted) m later))
      (subst (Among m) e (table.all m child))

  told : TableTells nodes p side ids
  told = record {
    next_lower = λ x j lows highs e low above. record {
      here = child_at lows j highs e;
      lower = low;
      greatest = λ m child mx jm. ⊎_elim
          (λ mj. not_back id_total m j mj jm)
          (λ k. ⊎_elim (λ same. not_self j m same jm) (λ h. not_back id_total m x mx (all_at (λ (h : Id). id_cmp x h ≡ Less) highs m above h.1)) k)
          (within lows j highs e m child);
    };
    lowest = λ x j highs e xj. record {
      here = child_at [] j highs e;
      none = λ m child mx. none_lower j highs e m child (id_total.trans m x j mx xj);
      least = none_lower j highs e;
    };
    none = λ e m child. subst (Among m) e (table.all m child);
    last = λ j lows e m child jm. ⊎_elim
        (λ mj. not_back id_total m j mj jm)
        (λ k. ⊎_elim (λ same. not_self j m same jm) (λ h. absurd h.1) k)
        (within lows j [] e m child);
    first = none_lower;
  }

pub tables_tell : TablesTell
tables_tell nodes p side ids table = told nodes p side ids table

-- HOW A TABLE GROWS
in_put_at : (r : Ordering) (x y : Id) (ys : List Id) (z : Id) → Among z (cond (is_lt r) (x ∷ y ∷ ys) (y ∷ put_in_order id_cmp x ys)) → (Among z (put_in_order id_cmp x ys) → (z ≡ x) ⊎ Among z ys) → (z ≡ x) ⊎ Among z (y ∷ ys)
in_put_at Less x y ys z m f = m
in_put_at Equal x y ys z m f = ⊎_elim (λ e. inr (inl e)) (λ k. ⊎_elim (λ e. inl e) (λ j. inr (inr j)) (f k)) m
in_put_at Greater x y ys z m f = ⊎_elim (λ e. inr (inl e)) (λ k. ⊎_elim (λ e. inl e) (λ j. inr (inr j)) (f k)) m

in_put : (x : Id) (ys : List Id) (z : Id) → Among z (put_in_order id_cmp x ys) → (z ≡ x) ⊎ Among z ys
in_put x [] z m = m
in_put x (y ∷ ys) z m = in_put_at (id_cmp x y) x y ys z m (in_put x ys z)

put_has_at : (r : Ordering) (x y : Id) (ys : List Id) (z : Id) → (z ≡ x) ⊎ Among z (y ∷ ys) → ((z ≡ x) ⊎ Among z ys → Among z (put_in_order id_cmp x ys)) → Among z (cond (is_lt r) (x ∷ y ∷ ys) (y ∷ put_in_order id_cmp x ys))
put_has_at Less x y ys z m f = m
put_has_at Equal x y ys z m f = ⊎_elim (λ e. inr (f (inl e))) (λ k. ⊎_elim (λ e. inl e) (λ j. inr (f (inr j))) k) m
put_has_at Greater x y ys z m f = ⊎_elim (λ e. inr (f (inl e))) (λ k. ⊎_elim (λ e. inl e) (λ j. inr (f (inr j))) k) m

put_has : (x : Id) (ys : List Id) (z : Id) → (z ≡ x) ⊎ Among z ys → Among z (put_in_order id_cmp x ys)
put_has x [] z m = m
put_has x (y ∷ ys) z m = put_has_at (id_cmp x y) x y ys z m (put_has x ys z)

child_stays : (nodes : List Inserted) (y : Inserted) (q : List Step) (s : Side) (m : Id) → HasChild nodes q s m → HasChild (nodes ++ y ∷ []) q s m
child_stays nodes y q s m h = (h.0, joined_left nodes (y ∷ []) h.0 h.1, h.2)

-- a child of the larger list is an old one, or the new node
child_cases : (nodes : List Inserted) (y : Inserted) (q : List Step) (s : Side) (m : Id) → HasChild (nodes ++ y ∷ []) q s m → HasChild nodes q s m ⊎ (y.path ≡ step_down q s m)
child_cases nodes y q s m h =
    ⊎_elim
    (λ k. inl (h.0, k, h.2))
    (λ k. ⊎_elim (λ e. inr (ap (λ (w : Inserted). w.path) (sym e) ∙ h.2)) (λ no. absurd no) k)
    (among_joined nodes (y ∷ []) h.0 h.1)

-- two paths of children that are one have one parent, side and id
one_child : (p q : List Step) (side s : Side) (x m : Id) → step_down p side x ≡ step_down q s m → (p ≡ q) × ((side ≡ s) × (x ≡ m))
one_child p q side s x m e =
    let same = same_from_push p q (record { side = side; child = x }) (record { side = s; child = m }) e in
    (same.0, (ap (λ (t : Step). t.side) same.1, ap (λ (t : Step). t.child) same.1))

pub tables_grow : TablesGrow
tables_grow nodes y p side x path free = record {
  own = λ ids table. record {
    sorted = put_sorted id_total x ids (all_from (λ (z : Id). id_cmp x z ≡ Equal → ⊥) ids (λ z m tie. free (subst (HasChild nodes p side) (sym (id_exact x z tie)) (table.there z m)))) table.sorted;
    there = λ m i. ⊎_elim
        (λ e. (y, joined_right nodes (y ∷ []) y (inl refl), path ∙ ap (step_down p side) (sym e)))
        (λ k. child_stays nodes y p side m (table.there m k))
        (in_put x ids m i);
    all = λ m child. put_has x ids m (⊎_elim
        (λ old. inr (table.all m old))
        (λ new. inl (sym (one_child p p side side x m (sym path ∙ new)).1.1))
        (child_cases nodes y p side m child));
  };
  other = λ q s ids apart table. record {
    sorted = table.sorted;
    there = λ m i. child_stays nodes y q s m (table.there m i);
    all = λ m child. ⊎_elim
        (λ old. table.all m old)
        (λ new. let one = one_child p q side s x m (sym path ∙ new) in absurd (apart (sym one.0) (sym one.1.0)))
        (child_cases nodes y q s m child);
  };
}

pub children_root : ChildrenRoot
children_root nodes y p side x rooted place path = add_prefixes nodes y p (record { side = side; child = x }) rooted place path
