-- A new node over a stem gets a description that depends on the descriptions of the nodes known, and not on the stem.
use Rattle.std.proofs.Common.{◌≡◌, ℕ, zero, suc, ◌<◌, Bool, true, false, cond, ◌&&◌, ◌⊎◌, inl, inr, ⊎_elim, List, [], ◌∷◌, ◌++◌, find, Option, Some, None, refl, sym, ap, ◌∙◌, subst, append_assoc, append-nil, arith, nat_cmp, ◌==◌}
use Rattle.std.specs.List.{list_any}
use Rattle.std.specs.List.Sorted.{IsStrictlySortedBy}
use Rattle.std.specs.Ordering.{ordering_then, ordering_reverse, is_eq, is_lt}
use Rattle.std.specs.declared.cmp.Ordering.{Ordering}
use Rattle.std.specs.declared.cmp.Ordering.TheVariants.{Less, Equal, Greater}
use Rattle.std.specs.Cmp.{both_ways, tied_itself}
use Rattle.std.proofs.lemmas.Bool.{false≢true, cases_order, and_parts, and_from, true_from_ne_false, eqb-true, eq-eqb}
use Rattle.std.proofs.lemmas.Bool.Decides.{nat_tests}
use Rattle.std.proofs.lemmas.Cmp.{nat_cmp_total}
use Rattle.std.proofs.lemmas.Map.Lookups.{exact_unsigned}
use Rattle.ew_model.specs.declared.id.Id.{Id}
use Rattle.ew_model.specs.Sets.{Among}
use Rattle.ew_model.specs.Ids.{id_cmp}
use Rattle.ew_model.specs.Paths.{Step, step_cmp, path_cmp, path_lt, is_right_child, step_down}
use Rattle.ew_model.specs.Entries.{Inserted, Entry, inserted_cmp, order, visible}
use Rattle.ew_model.specs.Places.{left_of_or_right_of, new_path, path_before}
use Rattle.ew_model.specs.Paths.Side.{Left, Right}
use Rattle.ew_model.proofs.PathOrder.{path_total, id_total, id_exact, step_exact, turned_back}
use Rattle.ew_model.proofs.SortingLaws.{all_at}
use Rattle.ew_model.proofs.VersionLaws.{any_from, found_by}
use Rattle.ew_model.proofs.GapLaws.{extends, behind, gap, right_of, right_greater, first_right, child_is, child_extends, none_extends, right_side, eq_from, first_found, none_found}
use Rattle.ew_model.proofs.PrefixLaws.{ordered_prefixes, visible_among}
use Rattle.ew_model.proofs.OperationLaws.{got}
use Rattle.ew_model.proofs.OwnIndex.{sorted_order, sorted_visible, behind_root_visible, behind_root_order, new_path_behind}
use Rattle.ew_model.proofs.StemLaws.{IsStem, Desc, desc_cmp, desc_total, desc_exact, IsAt, desc_order, one_desc, IsOver, stem_gap, char_gap, gap_char, got_below}

-- where the left neighbour of a new node is: before a gap, or a new node
pub data Spot : Type 0 where
  AtGap : (gap : ℕ) → Spot
  AtNode : (node : Desc) → Spot

-- the neighbour's path over a stem
abbrev pub IsSpot : List Entry → Spot → List Step → Type 0
IsSpot stem (AtGap g) v = path_before (visible stem) g ≡ Some v
IsSpot stem (AtNode e) v = IsAt stem e v

-- the description is in the spot's gap and behind it
abbrev after_spot : Spot → Desc → Bool
after_spot (AtGap g) d = d.gap == g
after_spot (AtNode e) d = (d.gap == e.gap) && is_lt (desc_cmp e d)

-- the lower one of two
abbrev lower_of : Desc → Option Desc → Desc
lower_of d None = d
lower_of d (Some e) = cond (is_lt (desc_cmp d e)) d e

-- the lowest that passes
abbrev least : (Desc → Bool) → List Desc → Option Desc
least p [] = None
least p (d ∷ descs) = cond (p d) (Some (lower_of d (least p descs))) (least p descs)

-- one step to the right of the node
abbrev child_of : Desc → Desc → Bool
child_of e d = (d.gap == e.gap) && (is_eq (id_cmp d.first e.first) && is_right_child e.rest d.rest)

abbrev left_below : Desc → Id → Desc
left_below w x = record { gap = w.gap; first = w.first; rest = step_down w.rest Left x }

abbrev right_below : Desc → Id → Desc
right_below e x = record { gap = e.gap; first = e.first; rest = step_down e.rest Right x }

abbrev in_gap : Option Desc → ℕ → Id → Desc
in_gap None g x = record { gap = g; first = x; rest = [] }
in_gap (Some w) g x = left_below w x

abbrev by_node : Option Desc → Desc → Id → Desc
by_node None e x = right_below e x
by_node (Some w) e x = left_below w x

-- the description of a new node, by those of the nodes known
abbrev pub new_desc : List Desc → Spot → Id → Desc
new_desc descs (AtGap g) x = in_gap (least (after_spot (AtGap g)) descs) g x
new_desc descs (AtNode e) x = cond (list_any (child_of e) descs) (by_node (least (after_spot (AtNode e)) descs) e x) (right_below e x)

-- what the lowest is
record IsLeast (p : Desc → Bool) (descs : List Desc) (w : Desc) : Type 0 where
  there : Among w descs
  passes : p w ≡ true
  first : (d : Desc) → Among d descs → p d ≡ true → (d ≡ w) ⊎ (desc_cmp w d ≡ Less)

LeastIs : (Desc → Bool) → List Desc → Option Desc → Type 0
LeastIs p descs None = (d : Desc) → Among d descs → p d ≡ false
LeastIs p descs (Some w) = IsLeast p descs w

is_less : (o : Ordering) → is_lt o ≡ true → o ≡ Less
is_less Less e = refl
is_less Equal e = absurd (false≢true e)
is_less Greater e = absurd (false≢true e)

not_less_before : (d e : Desc) → (desc_cmp d e ≡ Less → ⊥) → (e ≡ d) ⊎ (desc_cmp e d ≡ Less)
not_less_before d e n = at (desc_cmp d e) refl
  where
    at : (o : Ordering) → desc_cmp d e ≡ o → (e ≡ d) ⊎ (desc_cmp e d ≡ Less)
    at Less h = absurd (n h)
    at Equal h = inl (sym (desc_exact d e h))
    at Greater h = inr (desc_total.antisymm e d ∙ ap ordering_reverse h)

lowest_at : (p : Desc → Bool) (d : Desc) (descs : List Desc) (o : Option Desc) → p d ≡ true → LeastIs p descs o → IsLeast p (d ∷ descs) (lower_of d o)
unfolding LeastIs
lowest_at p d descs None h k =
    record { there = inl refl; passes = h; first = λ z m q. ⊎_elim (λ e. inl e) (λ j. absurd (false≢true (sym (k z j) ∙ q))) m }
lowest_at p d descs (Some e) h k = at (is_lt (desc_cmp d e)) refl
  where
    at : (b : Bool) → is_lt (desc_cmp d e) ≡ b → IsLeast p (d ∷ descs) (cond b d e)
    at true l =
        record { there = inl refl; passes = h; first = λ z m q. ⊎_elim (λ s. inl s) (λ j. ⊎_elim (λ s. inr (subst (λ w. desc_cmp d w ≡ Less) (sym s) (is_less (desc_cmp d e) l))) (λ f. inr (desc_total.trans d e z (is_less (desc_cmp d e) l) f)) (k.first z j q)) m }
    at false l =
        record { there = inr k.there; passes = k.passes; first = λ z m q. ⊎_elim (λ s. ⊎_elim (λ f. inl (s ∙ sym f)) (λ f. inr (subst (λ w. desc_cmp e w ≡ Less) (sym s) f)) (not_less_before d e (λ f. false≢true (sym l ∙ ap is_lt f)))) (λ j. k.first z j q) m }

carried : (p : Desc → Bool) (d : Desc) (descs : List Desc) (o : Option Desc) → p d ≡ false → LeastIs p descs o → LeastIs p (d ∷ descs) o
unfolding LeastIs
carried p d descs None e h = λ z m. ⊎_elim (λ s. ap p s ∙ e) (λ j. h z j) m
carried p d descs (Some w) e h =
    record { there = inr h.there; passes = h.passes; first = λ z m q. ⊎_elim (λ s. absurd (false≢true (sym e ∙ (ap p (sym s) ∙ q)))) (λ j. h.first z j q) m }

least_at : (p : Desc → Bool) (d : Desc) (descs : List Desc) (b : Bool) → p d ≡ b → LeastIs p descs (least p descs) → LeastIs p (d ∷ descs) (cond b (Some (lower_of d (least p descs))) (least p descs))
unfolding LeastIs
least_at p d descs true e h = lowest_at p d descs (least p descs) e h
least_at p d descs false e h = carried p d descs (least p descs) e h

-- the lowest is the lowest
least_is : (p : Desc → Bool) (descs : List Desc) → LeastIs p descs (least p descs)
unfolding LeastIs
least_is p [] = λ d m. absurd m
least_is p (d ∷ descs) = least_at p d descs (p d) refl (least_is p descs)

-- a path between v and a right child of it goes on from v to the right
between_right : (v w z : List Step) → path_cmp v w ≡ Less → path_cmp w z ≡ Less → is_right_child v z ≡ true → extends Right v w ≡ true
between_right v w z a b child =
    true_from_ne_false (extends Right v w) (λ e.
    let far = first_right v z (child_extends v z child) in
    let s : Step = far.0 in
    let path : z ≡ v ++ record { side = Right; child = s.child } ∷ far.1 = far.2 ∙ (λ i. v ++ record { side = far.3 i; child = s.child } ∷ far.1) in
    let wz : path_cmp w z ≡ Greater = ap (path_cmp w) path ∙ right_of v w s.child far.1 e ∙ ap behind (turned_back v w a) in
    cc)

-- two nodes of a walk at one path are one
one_place : (walk : List Inserted) (x y : Inserted) → IsStrictlySortedBy inserted_cmp walk → Among x walk → Among y walk → path_cmp x.path y.path ≡ Equal → x ≡ y
unfolding IsStrictlySortedBy
one_place [] x y s m k e = absurd m
one_place (z ∷ walk) x y s m k e =
    ⊎_elim
    (λ a. ⊎_elim
    (λ b. a ∙ sym b)
    (λ b. let less : path_cmp x.path y.path ≡ Less = ap (λ (w : Inserted). path_cmp w.path y.path) a ∙ all_at (λ w. inserted_cmp z w ≡ Less) walk y s.0 b in let no : ⊥ = cc in absurd no)
    k)
    (λ a. ⊎_elim
    (λ b. let more : path_cmp x.path y.path ≡ Greater = ap (λ (w : Inserted). path_cmp x.path w.path) b ∙ turned_back z.path x.path (all_at (λ w. inserted_cmp z w ≡ Less) walk x s.0 a) in let no : ⊥ = cc in absurd no)
    (λ b. one_place walk x y s.1 a b e)
    k)
    m

-- what is found is the first node behind v
found_is : (walk : List Inserted) (v : List Step) (w : Inserted) → IsStrictlySortedBy inserted_cmp walk → Among w walk → path_cmp v w.path ≡ Less → ((z : Inserted) → Among z walk → path_cmp v z.path ≡ Less → (z ≡ w) ⊎ (inserted_cmp w z ≡ Less)) → find (λ y. path_lt v y.path) walk ≡ Some w
found_is walk v w s m l f = at (find (λ y. path_lt v y.path) walk) refl
  where
    at : (o : Option Inserted) → find (λ y. path_lt v y.path) walk ≡ o → o ≡ Some w
    at None e = absurd (none_found (λ y. path_lt v y.path) walk w e m (ap is_lt l))
    at (Some u) e =
        let first = first_found (λ y. path_lt v y.path) walk u s e in
        ⊎_elim
        (λ same. ap Some same)
        (λ wu. ⊎_elim
        (λ same. ap Some (sym same))
        (λ uw. let back : inserted_cmp u w ≡ Greater = turned_back w.path u.path wu in let no : ⊥ = cc in absurd no)
        (first.2 w m (ap is_lt l)))
        (f u first.0 (is_less (path_cmp v u.path) first.1))

abbrev gap_of : Spot → ℕ
gap_of (AtGap g) = g
gap_of (AtNode e) = e.gap

-- a node of the stem behind the spot is behind all new nodes of its gap
stem_behind : (stem : List Entry) (spot : Spot) (v : List Step) (z : Inserted) (d : Desc) (q : List Step) → IsStem stem → IsSpot stem spot v → Among z (order stem) → path_cmp v z.path ≡ Less → IsAt stem d q → d.gap ≡ gap_of spot → path_cmp q z.path ≡ Less
stem_behind stem (AtGap g) v z d q s h m l k same =
    let found : Some k.before ≡ Some v = sym k.at ∙ (ap (path_before (visible stem)) same ∙ h) in
    let one : k.before ≡ v = cc in
    let zq : path_cmp z.path q ≡ Greater =
    ap (path_cmp z.path) k.is ∙ gap (order stem) k.before d.first d.rest z (sorted_order stem s.apart) (ordered_prefixes stem s.prefixes) m
    ∙ ap (λ p. behind (path_cmp z.path p)) one ∙ ap behind (turned_back v z.path l) in
    path_total.antisymm q z.path ∙ ap ordering_reverse zq
stem_behind stem (AtNode e) v z d q s h m l k same =
    let found : Some k.before ≡ Some h.before = sym k.at ∙ (ap (path_before (visible stem)) same ∙ h.at) in
    let one : k.before ≡ h.before = cc in
    let zv : Greater ≡ behind (path_cmp z.path h.before) =
    sym (turned_back v z.path l) ∙ (ap (path_cmp z.path) h.is ∙ gap (order stem) h.before e.first e.rest z (sorted_order stem s.apart) (ordered_prefixes stem s.prefixes) m) in
    let zq : path_cmp z.path q ≡ Greater =
    ap (path_cmp z.path) k.is ∙ gap (order stem) k.before d.first d.rest z (sorted_order stem s.apart) (ordered_prefixes stem s.prefixes) m
    ∙ ap (λ p. behind (path_cmp z.path p)) one ∙ sym zv in
    path_total.antisymm q z.path ∙ ap ordering_reverse zq

same_by : (m n : ℕ) → m ≡ n → (m == n) ≡ true
same_by m n e = eq-eqb m n e

node_after : (e d : Desc) (o : Ordering) → nat_cmp e.gap d.gap ≡ o → desc_cmp e d ≡ Less → ((d.gap ≡ e.gap) × (after_spot (AtNode e) d ≡ true)) ⊎ (e.gap < d.gap)
node_after e d Less n h = inr (grind (arith, nat_tests))
node_after e d Equal n h =
    let same : e.gap ≡ d.gap = exact_unsigned e.gap d.gap n in
    inl (sym same, and_from (d.gap == e.gap) (is_lt (desc_cmp e d)) (same_by d.gap e.gap (sym same)) (ap is_lt h))
node_after e d Greater n h =
    let more : desc_cmp e d ≡ Greater = ap (λ o. ordering_then o (ordering_then (id_cmp e.first d.first) (path_cmp e.rest d.rest))) n in
    let no : ⊥ = cc in absurd no

-- a new node behind the spot is in its gap and behind it there, or in a later gap
new_behind : (stem : List Entry) (spot : Spot) (v : List Step) (d : Desc) (q : List Step) → IsStem stem → IsSpot stem spot v → IsAt stem d q → path_cmp v q ≡ Less → ((d.gap ≡ gap_of spot) × (after_spot spot d ≡ true)) ⊎ (gap_of spot < d.gap)
new_behind stem (AtNode e) v d q s h k l = node_after e d (nat_cmp e.gap d.gap) refl (sym (desc_order stem e d v q s h k) ∙ l)
new_behind stem (AtGap zero) v d q s h k l =
    ⊎_elim (λ e. inl (e, same_by d.gap 0 e)) (λ c. ⊎_elim (λ f. absurd (omega arith)) (λ f. inr f) c) (cases_order d.gap 0)
new_behind stem (AtGap (suc i)) v d q s h k l =
    ⊎_elim
    (λ e. inl (e, same_by d.gap (suc i) e))
    (λ c. ⊎_elim
    (λ f.
    let char = gap_char (visible stem) i v h in
    let vq : path_cmp v q ≡ Greater =
    ap (λ p. path_cmp p q) (sym char.2) ∙ ap (path_cmp char.0.path) k.is ∙ stem_gap stem i d.gap char.0 k.before d.first d.rest s char.1 k.at ∙ grind (arith, nat_tests) in
    let no : ⊥ = cc in absurd no)
    (λ f. inr f) c)
    (cases_order d.gap (suc i))

behind_front : (p r : List Step) → path_cmp p [] ≡ Greater → path_cmp (p ++ r) [] ≡ Greater
behind_front [] r h = cc
behind_front (t ∷ p) r h = h

-- what is in the spot's gap and behind it is behind the spot
behind_spot : (stem : List Entry) (spot : Spot) (v : List Step) (d : Desc) (q : List Step) → IsStem stem → IsSpot stem spot v → IsAt stem d q → after_spot spot d ≡ true → path_cmp v q ≡ Less
behind_spot stem (AtNode e) v d q s h k a = desc_order stem e d v q s h k ∙ is_less (desc_cmp e d) (and_parts (d.gap == e.gap) (is_lt (desc_cmp e d)) a).1
behind_spot stem (AtGap zero) v d q s h k a =
    let root : [] ≡ v = cc in
    let none : d.gap ≡ 0 = eqb-true d.gap 0 a in
    let found : Some k.before ≡ Some [] = sym k.at ∙ ap (path_before (visible stem)) none in
    let one : k.before ≡ [] = cc in
    ap (λ p. path_cmp p q) (sym root) ∙ ap (path_cmp []) k.is
    ∙ path_total.antisymm [] (new_path (order stem) k.before d.first ++ d.rest)
    ∙ ap ordering_reverse (behind_front (new_path (order stem) k.before d.first) d.rest (new_path_behind (order stem) k.before d.first (behind_root_order stem s.roots) (inl one)))
behind_spot stem (AtGap (suc i)) v d q s h k a =
    let char = gap_char (visible stem) i v h in
    let same : d.gap ≡ suc i = eqb-true d.gap (suc i) a in
    ap (λ p. path_cmp p q) (sym char.2) ∙ ap (path_cmp char.0.path) k.is ∙ stem_gap stem i d.gap char.0 k.before d.first d.rest s char.1 k.at ∙ grind (arith, nat_tests)

after_gap : (spot : Spot) (d : Desc) → after_spot spot d ≡ true → d.gap ≡ gap_of spot
after_gap (AtGap g) d a = eqb-true d.gap g a
after_gap (AtNode e) d a = eqb-true d.gap e.gap (and_parts (d.gap == e.gap) (is_lt (desc_cmp e d)) a).0

-- The node of the lowest description behind the spot is the first node of the walk behind it.
next_node : (stem : List Entry) (descs : List Desc) (walk : List Inserted) (spot : Spot) (v : List Step) (w : Desc) (n : Inserted) → IsStem stem → IsOver stem descs walk → IsSpot stem spot v → IsLeast (after_spot spot) descs w → Among n walk → IsAt stem w n.path → find (λ y. path_lt v y.path) walk ≡ Some n
next_node stem descs walk spot v w n s o h least' mn at_n =
    found_is walk v n o.sorted mn (behind_spot stem spot v w n.path s h at_n least'.passes) (λ z mz l.
    ⊎_elim
    (λ k. inr (stem_behind stem spot v z w n.path s h k l at_n (after_gap spot w least'.passes)))
    (λ k. ⊎_elim
    (λ here. ⊎_elim
    (λ same. inl (sym (one_place walk n z o.sorted mn mz (desc_order stem w k.0 n.path z.path s at_n k.2 ∙ (ap (desc_cmp w) same ∙ tied_itself desc_total w)))))
    (λ f. inr (desc_order stem w k.0 n.path z.path s at_n k.2 ∙ f))
    (least'.first k.0 k.1 here.1))
    (λ later.
    let lower : w.gap < k.0.gap = subst (λ g. g < k.0.gap) (sym (after_gap spot w least'.passes)) later in
    let first : nat_cmp w.gap k.0.gap ≡ Less = grind (arith, nat_tests) in
    inr (desc_order stem w k.0 n.path z.path s at_n k.2 ∙ ap (λ c. ordering_then c (ordering_then (id_cmp w.first k.0.first) (path_cmp w.rest k.0.rest))) first))
    (new_behind stem spot v k.0 z.path s h k.2 l))
    (o.from z mz))

-- a left child of a new node
left_at : (stem : List Entry) (w : Desc) (q : List Step) (x : Id) → IsAt stem w q → IsAt stem (left_below w x) (step_down q Left x)
left_at stem w q x k = record {
  before = k.before;
  at = k.at;
  is = ap (λ p. step_down p Left x) k.is ∙ append_assoc (new_path (order stem) k.before w.first) w.rest (record { side = Left; child = x } ∷ []);
}

right_at : (stem : List Entry) (e : Desc) (q : List Step) (x : Id) → IsAt stem e q → IsAt stem (right_below e x) (step_down q Right x)
right_at stem e q x k = record {
  before = k.before;
  at = k.at;
  is = ap (λ p. step_down p Right x) k.is ∙ append_assoc (new_path (order stem) k.before e.first) e.rest (record { side = Right; child = x } ∷ []);
}

-- a right child's path
pub child_form : (v z : List Step) → is_right_child v z ≡ true → (s : Step) × (z ≡ v ++ s ∷ []) × (s.side ≡ Right)
child_form [] [] h = absurd (false≢true h)
child_form [] (t ∷ []) h = (t, refl, right_side t.side h)
child_form [] (t ∷ u ∷ q) h = absurd (false≢true h)
child_form (s ∷ v) [] h = absurd (false≢true h)
child_form (s ∷ v) (t ∷ q) h =
    let parts = and_parts (is_eq (step_cmp s t)) (is_right_child v q) h in
    let same : t ≡ s = sym (step_exact s t (eq_from (step_cmp s t) parts.0)) in
    let more = child_form v q parts.1 in
    (more.0, (λ i. same i ∷ more.1 i), more.2)

-- the path with what is found behind a neighbour that has a right child
chosen_left : (walk : List Inserted) (v : List Step) (x : Id) (n : Inserted) → list_any (λ y. is_right_child v y.path) walk ≡ true → find (λ y. path_lt v y.path) walk ≡ Some n → new_path walk v x ≡ step_down n.path Left x
chosen_left walk v x n b f =
    ap (λ c. cond c (left_of_or_right_of (find (λ y. path_lt v y.path) walk) v x) (step_down v Right x)) b ∙ ap (λ o. left_of_or_right_of o v x) f

chosen_right : (walk : List Inserted) (v : List Step) (x : Id) → list_any (λ y. is_right_child v y.path) walk ≡ false → new_path walk v x ≡ step_down v Right x
chosen_right walk v x b = ap (λ c. cond c (left_of_or_right_of (find (λ y. path_lt v y.path) walk) v x) (step_down v Right x)) b

-- with each description that of its first node is there
abbrev pub HasFirst : List Desc → Type 0
HasFirst descs = (d : Desc) → Among d descs → Among (record { gap = d.gap; first = d.first; rest = [] }) descs

-- where a gap has a node, its neighbour has a right child
gap_has_child : (stem : List Entry) (descs : List Desc) (walk : List Inserted) (g : ℕ) (v : List Step) (w : Desc) → IsStem stem → IsOver stem descs walk → HasFirst descs → path_before (visible stem) g ≡ Some v → Among w descs → w.gap ≡ g → list_any (λ y. is_right_child v y.path) walk ≡ true
gap_has_child stem descs walk g v w s o f h m same = at (list_any (λ y. is_right_child v y.path) (order stem)) refl
  where
    at : (b : Bool) → list_any (λ y. is_right_child v y.path) (order stem) ≡ b → list_any (λ y. is_right_child v y.path) walk ≡ true
    at true e =
        let c = found_by (λ y. is_right_child v y.path) (order stem) e in
        any_from (λ y. is_right_child v y.path) walk c.0 (o.stems c.0 c.1) c.2
    at false e =
        let n = o.nodes (record { gap = w.gap; first = w.first; rest = [] }) (f w m) in
        let found : Some n.2.before ≡ Some v = sym n.2.at ∙ (ap (path_before (visible stem)) same ∙ h) in
        let one : n.2.before ≡ v = cc in
        let path : n.0.path ≡ v ++ record { side = Right; child = w.first } ∷ [] =
        n.2.is ∙ append-nil (new_path (order stem) n.2.before w.first) ∙ ap (λ p. new_path (order stem) p w.first) one ∙ chosen_right (order stem) v w.first e in
        any_from (λ y. is_right_child v y.path) walk n.0 n.1 (ap (is_right_child v) path ∙ child_is v (record { side = Right; child = w.first }) refl)

only_behind : (o : Ordering) → Greater ≡ behind o → o ≡ Greater
only_behind Less e = let no : ⊥ = cc in absurd no
only_behind Equal e = let no : ⊥ = cc in absurd no
only_behind Greater e = refl

-- the first node of the stem behind a gap's neighbour is before all nodes of later gaps
later_gap : (stem : List Entry) (g : ℕ) (v : List Step) (d : Desc) (q : List Step) → IsStem stem → path_before (visible stem) g ≡ Some v → g < d.gap → IsAt stem d q → (c : Inserted) × Among c (order stem) × (path_cmp v c.path ≡ Less) × (path_cmp c.path q ≡ Less)
later_gap stem g v d q s h l k = at d.gap refl k.at
  where
    at : (n : ℕ) → d.gap ≡ n → path_before (visible stem) d.gap ≡ Some k.before → (c : Inserted) × Among c (order stem) × (path_cmp v c.path ≡ Less) × (path_cmp c.path q ≡ Less)
    at zero e f = absurd (omega arith)
    at (suc n) e f =
        let last = gap_char (visible stem) n k.before (ap (path_before (visible stem)) (sym e) ∙ f) in
        let c = got_below (visible stem) g n last.0 (omega arith) last.1 in
        let cv : Greater ≡ behind (path_cmp c.0.path v) = sym (char_gap (visible stem) g g c.0 v (sorted_visible stem s.apart) (behind_root_visible stem s.roots) c.1 h ∙ grind (arith, nat_tests)) in (
          c.0,
          visible_among stem c.0 (got (visible stem) g c.0 c.1),
          path_total.antisymm v c.0.path ∙ ap ordering_reverse (only_behind (path_cmp c.0.path v) cv),
          ap (path_cmp c.0.path) k.is ∙ stem_gap stem g d.gap c.0 k.before d.first d.rest s c.1 k.at ∙ grind (arith, nat_tests),
        )

-- no node of the gap is known
NoneIn : ℕ → List Desc → Type 0
NoneIn g descs = (d : Desc) → Among d descs → (d.gap == g) ≡ false

not_in : (g : ℕ) (descs : List Desc) (d : Desc) → NoneIn g descs → Among d descs → d.gap ≡ g → ⊥
unfolding NoneIn
not_in g descs d none m e = false≢true (sym (none d m) ∙ same_by d.gap g e)

-- a node behind an empty gap's neighbour is of the stem or of a later gap
behind_empty : (stem : List Entry) (descs : List Desc) (walk : List Inserted) (g : ℕ) (v : List Step) (z : Inserted) → IsStem stem → IsOver stem descs walk → NoneIn g descs → path_before (visible stem) g ≡ Some v → Among z walk → path_cmp v z.path ≡ Less
    → Among z (order stem) ⊎ ((d : Desc) × IsAt stem d z.path × (g < d.gap))
behind_empty stem descs walk g v z s o none h m l =
    ⊎_elim
    (λ k. inl k)
    (λ k. ⊎_elim
    (λ here. absurd (not_in g descs k.0 none k.1 here.0))
    (λ later. inr (k.0, k.2, later))
    (new_behind stem (AtGap g) v k.0 z.path s h k.2 l))
    (o.from z m)

-- an empty gap's neighbour has a right child exactly where it has one in the stem
empty_children : (stem : List Entry) (descs : List Desc) (walk : List Inserted) (g : ℕ) (v : List Step) → IsStem stem → IsOver stem descs walk → NoneIn g descs → path_before (visible stem) g ≡ Some v → list_any (λ y. is_right_child v y.path) walk ≡ list_any (λ y. is_right_child v y.path) (order stem)
empty_children stem descs walk g v s o none h =
    both_ways (list_any (λ y. is_right_child v y.path) walk) (list_any (λ y. is_right_child v y.path) (order stem))
    (λ e.
    let c = found_by (λ y. is_right_child v y.path) walk e in
    let less : path_cmp v c.0.path ≡ Less = path_total.antisymm v c.0.path ∙ ap ordering_reverse (right_greater v c.0.path (child_extends v c.0.path c.2)) in
    ⊎_elim
    (λ k. any_from (λ y. is_right_child v y.path) (order stem) c.0 k c.2)
    (λ k.
    let between = later_gap stem g v k.0 c.0.path s h k.2 k.1 in
    true_from_ne_false (list_any (λ y. is_right_child v y.path) (order stem)) (λ none'. false≢true (sym (none_extends (order stem) v between.0 (ordered_prefixes stem s.prefixes) none' between.1) ∙ between_right v between.0.path c.0.path between.2 between.3 c.2)))
    (behind_empty stem descs walk g v c.0 s o none h c.1 less))
    (λ e. let c = found_by (λ y. is_right_child v y.path) (order stem) e in any_from (λ y. is_right_child v y.path) walk c.0 (o.stems c.0 c.1) c.2)

-- and the first node behind it is that of the stem
empty_next : (stem : List Entry) (descs : List Desc) (walk : List Inserted) (g : ℕ) (v : List Step) (n : Inserted) → IsStem stem → IsOver stem descs walk → NoneIn g descs → path_before (visible stem) g ≡ Some v → find (λ y. path_lt v y.path) (order stem) ≡ Some n → find (λ y. path_lt v y.path) walk ≡ Some n
empty_next stem descs walk g v n s o none h e =
    let first = first_found (λ y. path_lt v y.path) (order stem) n (sorted_order stem s.apart) e in
    found_is walk v n o.sorted (o.stems n first.0) (is_less (path_cmp v n.path) first.1) (λ z m l.
    ⊎_elim
    (λ k. first.2 z k (ap is_lt l))
    (λ k.
    let between = later_gap stem g v k.0 z.path s h k.2 k.1 in
    ⊎_elim
    (λ same. inr (ap (λ (w : Inserted). path_cmp w.path z.path) (sym same) ∙ between.3))
    (λ f. inr (path_total.trans n.path between.0.path z.path f between.3))
    (first.2 between.0 between.1 (ap is_lt between.2)))
    (behind_empty stem descs walk g v z s o none h m l))

-- into an empty gap a new node goes as over the stem alone
empty_gap : (stem : List Entry) (descs : List Desc) (walk : List Inserted) (g : ℕ) (v : List Step) (x : Id) → IsStem stem → IsOver stem descs walk → NoneIn g descs → path_before (visible stem) g ≡ Some v → new_path walk v x ≡ new_path (order stem) v x
empty_gap stem descs walk g v x s o none h = at (list_any (λ y. is_right_child v y.path) (order stem)) (find (λ y. path_lt v y.path) (order stem)) refl refl
  where
    at : (b : Bool) (f : Option Inserted) → list_any (λ y. is_right_child v y.path) (order stem) ≡ b → find (λ y. path_lt v y.path) (order stem) ≡ f → new_path walk v x ≡ new_path (order stem) v x
    at false f e k = chosen_right walk v x (empty_children stem descs walk g v s o none h ∙ e) ∙ sym (chosen_right (order stem) v x e)
    at true (Some n) e k = chosen_left walk v x n (empty_children stem descs walk g v s o none h ∙ e) (empty_next stem descs walk g v n s o none h k) ∙ sym (chosen_left (order stem) v x n e k)
    at true None e k =
        let c = found_by (λ y. is_right_child v y.path) (order stem) e in
        absurd (none_found (λ y. path_lt v y.path) (order stem) c.0 k c.1 (ap is_lt (path_total.antisymm v c.0.path ∙ ap ordering_reverse (right_greater v c.0.path (child_extends v c.0.path c.2)))))

-- what a right child of a new node is described as
child_desc : (e : Desc) (s : Step) → s.side ≡ Right → child_of e (record { gap = e.gap; first = e.first; rest = e.rest ++ s ∷ [] }) ≡ true
child_desc e s h =
    and_from (e.gap == e.gap) (is_eq (id_cmp e.first e.first) && is_right_child e.rest (e.rest ++ s ∷ [])) (same_by e.gap e.gap refl)
    (and_from (is_eq (id_cmp e.first e.first)) (is_right_child e.rest (e.rest ++ s ∷ [])) (ap is_eq (tied_itself id_total e.first)) (child_is e.rest s h))

no_tie : (o : Ordering) → Equal ≡ behind o → ⊥
no_tie Less e = cc
no_tie Equal e = cc
no_tie Greater e = cc

-- a new node's right children in a walk are those among the descriptions
node_children : (stem : List Entry) (descs : List Desc) (walk : List Inserted) (e : Desc) (v : List Step) → IsStem stem → IsOver stem descs walk → IsAt stem e v → list_any (λ y. is_right_child v y.path) walk ≡ list_any (child_of e) descs
node_children stem descs walk e v s o h =
    both_ways (list_any (λ y. is_right_child v y.path) walk) (list_any (child_of e) descs)
    (λ b.
    let c = found_by (λ y. is_right_child v y.path) walk b in
    let form = child_form v c.0.path c.2 in
    let at : IsAt stem (record { gap = e.gap; first = e.first; rest = e.rest ++ form.0 ∷ [] }) c.0.path = record {
      before = h.before;
      at = h.at;
      is = form.1 ∙ ap (λ p. p ++ form.0 ∷ []) h.is ∙ append_assoc (new_path (order stem) h.before e.first) e.rest (form.0 ∷ []);
    } in
    ⊎_elim
    (λ k.
    let tie : Equal ≡ behind (path_cmp c.0.path h.before) =
    sym (tied_itself path_total c.0.path) ∙ (ap (path_cmp c.0.path) at.is ∙ gap (order stem) h.before e.first (e.rest ++ form.0 ∷ []) c.0 (sorted_order stem s.apart) (ordered_prefixes stem s.prefixes) k) in
    absurd (no_tie (path_cmp c.0.path h.before) tie))
    (λ k.
    let same : k.0 ≡ record { gap = e.gap; first = e.first; rest = e.rest ++ form.0 ∷ [] } = one_desc stem k.0 (record { gap = e.gap; first = e.first; rest = e.rest ++ form.0 ∷ [] }) c.0.path s k.2 at in
    any_from (child_of e) descs k.0 k.1 (ap (child_of e) same ∙ child_desc e form.0 form.2))
    (o.from c.0 c.1))
    (λ b.
    let d = found_by (child_of e) descs b in
    let parts = and_parts (d.0.gap == e.gap) (is_eq (id_cmp d.0.first e.first) && is_right_child e.rest d.0.rest) d.2 in
    let more = and_parts (is_eq (id_cmp d.0.first e.first)) (is_right_child e.rest d.0.rest) parts.1 in
    let form = child_form e.rest d.0.rest more.1 in
    let n = o.nodes d.0 d.1 in
    let found : Some n.2.before ≡ Some h.before = sym n.2.at ∙ (ap (path_before (visible stem)) (eqb-true d.0.gap e.gap parts.0) ∙ h.at) in
    let one : n.2.before ≡ h.before = cc in
    let first : d.0.first ≡ e.first = id_exact d.0.first e.first (eq_from (id_cmp d.0.first e.first) more.0) in
    let path : n.0.path ≡ v ++ form.0 ∷ [] =
    n.2.is ∙ ((λ i. new_path (order stem) (one i) (first i) ++ form.1 i)
    ∙ (sym (append_assoc (new_path (order stem) h.before e.first) e.rest (form.0 ∷ [])) ∙ ap (λ p. p ++ form.0 ∷ []) (sym h.is))) in
    any_from (λ y. is_right_child v y.path) walk n.0 n.1 (ap (is_right_child v) path ∙ child_is v form.0 form.2))

-- a child is behind its node
child_after : (e d : Desc) → child_of e d ≡ true → after_spot (AtNode e) d ≡ true
child_after e d h =
    let parts = and_parts (d.gap == e.gap) (is_eq (id_cmp d.first e.first) && is_right_child e.rest d.rest) h in
    let more = and_parts (is_eq (id_cmp d.first e.first)) (is_right_child e.rest d.rest) parts.1 in
    let same : e.gap ≡ d.gap = sym (eqb-true d.gap e.gap parts.0) in
    let first : d.first ≡ e.first = id_exact d.first e.first (eq_from (id_cmp d.first e.first) more.0) in
    let rest : path_cmp e.rest d.rest ≡ Less = path_total.antisymm e.rest d.rest ∙ ap ordering_reverse (right_greater e.rest d.rest (child_extends e.rest d.rest more.1)) in
    and_from (d.gap == e.gap) (is_lt (desc_cmp e d)) parts.0
    (ap (λ g. is_lt (ordering_then (nat_cmp e.gap g) (ordering_then (id_cmp e.first d.first) (path_cmp e.rest d.rest)))) (sym same)
    ∙ ap (λ c. is_lt (ordering_then c (ordering_then (id_cmp e.first d.first) (path_cmp e.rest d.rest)))) (tied_itself nat_cmp_total e.gap)
    ∙ ap (λ x. is_lt (ordering_then (id_cmp e.first x) (path_cmp e.rest d.rest))) first
    ∙ ap (λ c. is_lt (ordering_then c (path_cmp e.rest d.rest))) (tied_itself id_total e.first)
    ∙ ap is_lt rest)

-- A new node over a stem is where its description says.
pub new_node_at : (stem : List Entry) (descs : List Desc) (walk : List Inserted) (spot : Spot) (v : List Step) (x : Id) → IsStem stem → IsOver stem descs walk → HasFirst descs → IsSpot stem spot v → IsAt stem (new_desc descs spot x) (new_path walk v x)
unfolding LeastIs NoneIn
new_node_at stem descs walk (AtGap g) v x s o f h = at (least (after_spot (AtGap g)) descs) (least_is (after_spot (AtGap g)) descs)
  where
    at : (w : Option Desc) → LeastIs (after_spot (AtGap g)) descs w → IsAt stem (in_gap w g x) (new_path walk v x)
    at None none = record { before = v; at = h; is = empty_gap stem descs walk g v x s o none h ∙ sym (append-nil (new_path (order stem) v x)) }
    at (Some w) low =
        let n = o.nodes w low.there in
        subst (IsAt stem (left_below w x))
        (sym (chosen_left walk v x n.0 (gap_has_child stem descs walk g v w s o f h low.there (after_gap (AtGap g) w low.passes)) (next_node stem descs walk (AtGap g) v w n.0 s o h low n.1 n.2)))
        (left_at stem w n.0.path x n.2)
new_node_at stem descs walk (AtNode e) v x s o f h = at (list_any (child_of e) descs) (least (after_spot (AtNode e)) descs) refl (least_is (after_spot (AtNode e)) descs)
  where
    at : (b : Bool) (w : Option Desc) → list_any (child_of e) descs ≡ b → LeastIs (after_spot (AtNode e)) descs w → IsAt stem (cond b (by_node w e x) (right_below e x)) (new_path walk v x)
    at false w b low = subst (IsAt stem (right_below e x)) (sym (chosen_right walk v x (node_children stem descs walk e v s o h ∙ b))) (right_at stem e v x h)
    at true None b none =
        let d = found_by (child_of e) descs b in
        absurd (false≢true (sym (none d.0 d.1) ∙ child_after e d.0 d.2))
    at true (Some w) b low =
        let n = o.nodes w low.there in
        subst (IsAt stem (left_below w x))
        (sym (chosen_left walk v x n.0 (node_children stem descs walk e v s o h ∙ b) (next_node stem descs walk (AtNode e) v w n.0 s o h low n.1 n.2)))
        (left_at stem w n.0.path x n.2)
