-- Where a new node stands among the nodes of a walk: right behind its left neighbour, whatever its id and its descendants.
use Rattle.std.proofs.Common.{◌≡◌, Bool, true, false, cond, ◌&&◌, ◌⊎◌, inl, inr, ⊎_elim, List, [], ◌∷◌, ◌++◌, Option, Some, None, find, refl, sym, ap, ◌∙◌, subst, append_assoc}
use Rattle.std.specs.List.{list_any}
use Rattle.std.specs.List.Sorted.{IsStrictlySortedBy}
use Rattle.std.specs.Ordering.{ordering_then, is_eq, is_lt, is_gt}
use Rattle.std.specs.declared.cmp.Ordering.{Ordering}
use Rattle.std.specs.declared.cmp.Ordering.TheVariants.{Less, Equal, Greater}
use Rattle.std.specs.Cmp.{tied_itself}
use Rattle.std.proofs.lemmas.Bool.{false≢true, and_parts, and_from, false_from_ne_true, true_from_ne_false}
use Rattle.ew_model.specs.declared.id.Id.{Id}
use Rattle.ew_model.specs.Sets.{Among}
use Rattle.ew_model.specs.Paths.{Side, Step, side_cmp, step_cmp, path_cmp, path_lt, node_cmp, below_cmp, is_right_child, step_down}
use Rattle.ew_model.specs.Entries.{Inserted, inserted_cmp}
use Rattle.ew_model.specs.Places.{left_of_or_right_of, new_path}
use Rattle.ew_model.specs.Paths.Side.{Left, Right}
use Rattle.ew_model.proofs.PathOrder.{path_total, step_total, step_exact, turned_back, turned_on}
use Rattle.ew_model.proofs.SortingLaws.{all_at}
use Rattle.ew_model.proofs.VersionLaws.{any_from, found_by, find_none}

-- the second path goes on from the first by a step on this side
abbrev pub extends : Side → List Step → List Step → Bool
extends side [] [] = false
extends side [] (t ∷ q) = is_eq (side_cmp t.side side)
extends side (s ∷ p) [] = false
extends side (s ∷ p) (t ∷ q) = is_eq (step_cmp t s) && extends side p q

abbrev step : Side → Id → Step
step side x = record { side = side; child = x }

-- behind a path, or before it
abbrev pub behind : Ordering → Ordering
behind o = cond (is_gt o) Greater Less

abbrev before : Ordering → Ordering
before o = cond (is_lt o) Less Greater

behind_step : (o a b : Ordering) (e : Bool) → (is_eq o && e) ≡ false → (e ≡ false → a ≡ behind b) → ordering_then o a ≡ behind (ordering_then o b)
behind_step Less a b e h f = refl
behind_step Equal a b e h f = f h
behind_step Greater a b e h f = refl

before_step : (o a b : Ordering) (e : Bool) → (is_eq o && e) ≡ false → (e ≡ false → a ≡ before b) → ordering_then o a ≡ before (ordering_then o b)
before_step Less a b e h f = refl
before_step Equal a b e h f = f h
before_step Greater a b e h f = refl

behind_root : (side : Side) (y x : Id) (q r : List Step) → is_eq (side_cmp side Right) ≡ false → path_cmp (step side y ∷ q) (step Right x ∷ r) ≡ behind (path_cmp (step side y ∷ q) [])
behind_root Left y x q r h = refl
behind_root Right y x q r h = absurd (false≢true (sym h))

before_root : (side : Side) (y x : Id) (q r : List Step) → is_eq (side_cmp side Left) ≡ false → path_cmp (step side y ∷ q) (step Left x ∷ r) ≡ before (path_cmp (step side y ∷ q) [])
before_root Left y x q r h = absurd (false≢true (sym h))
before_root Right y x q r h = refl

node_behind : (side : Side) → node_cmp side ≡ behind (node_cmp side)
node_behind Left = refl
node_behind Right = refl

node_before : (side : Side) → node_cmp side ≡ before (node_cmp side)
node_before Left = refl
node_before Right = refl

-- A path that doesn't go on to the right of v stands to v's right descendants as it stands to v, and v itself is before them.
pub right_of : (v z : List Step) (x : Id) (r : List Step) → extends Right v z ≡ false → path_cmp z (v ++ step Right x ∷ r) ≡ behind (path_cmp z v)
right_of [] [] x r h = refl
right_of [] (t ∷ q) x r h = behind_root t.side t.child x q r h
right_of (s ∷ v) [] x r h = node_behind s.side
right_of (s ∷ v) (t ∷ q) x r h = behind_step (step_cmp t s) (path_cmp q (v ++ step Right x ∷ r)) (path_cmp q v) (extends Right v q) h (right_of v q x r)

-- The same to the left, where v itself is behind.
pub left_of : (v z : List Step) (x : Id) (r : List Step) → extends Left v z ≡ false → path_cmp z (v ++ step Left x ∷ r) ≡ before (path_cmp z v)
left_of [] [] x r h = refl
left_of [] (t ∷ q) x r h = before_root t.side t.child x q r h
left_of (s ∷ v) [] x r h = node_before s.side
left_of (s ∷ v) (t ∷ q) x r h = before_step (step_cmp t s) (path_cmp q (v ++ step Left x ∷ r)) (path_cmp q v) (extends Left v q) h (left_of v q x r)

pub eq_from : (o : Ordering) → is_eq o ≡ true → o ≡ Equal
eq_from Less e = absurd (false≢true e)
eq_from Equal e = refl
eq_from Greater e = absurd (false≢true e)

pub right_side : (side : Side) → is_eq (side_cmp side Right) ≡ true → side ≡ Right
right_side Left e = absurd (false≢true e)
right_side Right e = refl

left_side : (side : Side) → is_eq (side_cmp side Left) ≡ true → side ≡ Left
left_side Left e = refl
left_side Right e = absurd (false≢true e)

-- what goes on to the right is behind, and what goes on to the left is before
pub right_greater : (v z : List Step) → extends Right v z ≡ true → path_cmp z v ≡ Greater
right_greater [] [] h = absurd (false≢true h)
right_greater [] (t ∷ q) h = ap below_cmp (right_side t.side h)
right_greater (s ∷ v) [] h = absurd (false≢true h)
right_greater (s ∷ v) (t ∷ q) h =
    let parts = and_parts (is_eq (step_cmp t s)) (extends Right v q) h in
    ap (λ o. ordering_then o (path_cmp q v)) (eq_from (step_cmp t s) parts.0) ∙ right_greater v q parts.1

pub left_less : (v z : List Step) → extends Left v z ≡ true → path_cmp z v ≡ Less
left_less [] [] h = absurd (false≢true h)
left_less [] (t ∷ q) h = ap below_cmp (left_side t.side h)
left_less (s ∷ v) [] h = absurd (false≢true h)
left_less (s ∷ v) (t ∷ q) h =
    let parts = and_parts (is_eq (step_cmp t s)) (extends Left v q) h in
    ap (λ o. ordering_then o (path_cmp q v)) (eq_from (step_cmp t s) parts.0) ∙ left_less v q parts.1

-- what goes on from what goes on to the right goes on to the right
pub extends_far : (side : Side) (v w z : List Step) → extends Right v w ≡ true → extends side w z ≡ true → extends Right v z ≡ true
extends_far side [] [] z h k = absurd (false≢true h)
extends_far side [] (t ∷ q) [] h k = absurd (false≢true k)
extends_far side [] (t ∷ q) (u ∷ m) h k =
    let same : u ≡ t = step_exact u t (eq_from (step_cmp u t) (and_parts (is_eq (step_cmp u t)) (extends side q m) k).0) in
    ap (λ (w : Step). is_eq (side_cmp w.side Right)) same ∙ h
extends_far side (s ∷ v) [] z h k = absurd (false≢true h)
extends_far side (s ∷ v) (t ∷ q) [] h k = absurd (false≢true k)
extends_far side (s ∷ v) (t ∷ q) (u ∷ m) h k =
    let ts = and_parts (is_eq (step_cmp t s)) (extends Right v q) h in
    let ut = and_parts (is_eq (step_cmp u t)) (extends side q m) k in
    let same : u ≡ t = step_exact u t (eq_from (step_cmp u t) ut.0) in
    and_from (is_eq (step_cmp u s)) (extends Right v m) (ap (λ w. is_eq (step_cmp w s)) same ∙ ts.0) (extends_far side v q m ts.1 ut.1)

-- Every path of the walk has its nodes in the walk: each front of it that isn't empty is a node's path.
abbrev pub HasPrefixes : List Inserted → Type 0
HasPrefixes walk = (z : Inserted) → Among z walk → (front : List Step) (s : Step) (rest : List Step) → z.path ≡ front ++ s ∷ rest → (y : Inserted) × Among y walk × (y.path ≡ front ++ s ∷ [])

-- what goes on to the right has a first step to the right
pub first_right : (v z : List Step) → extends Right v z ≡ true → (s : Step) × (rest : List Step) × (z ≡ v ++ s ∷ rest) × (s.side ≡ Right)
first_right [] [] h = absurd (false≢true h)
first_right [] (t ∷ q) h = (t, q, refl, right_side t.side h)
first_right (s ∷ v) [] h = absurd (false≢true h)
first_right (s ∷ v) (t ∷ q) h =
    let parts = and_parts (is_eq (step_cmp t s)) (extends Right v q) h in
    let same : t ≡ s = step_exact t s (eq_from (step_cmp t s) parts.0) in
    let more = first_right v q parts.1 in
    (more.0, more.1, (λ i. same i ∷ more.2 i), more.3)

step_itself : (s : Step) → is_eq (step_cmp s s) ≡ true
step_itself s = ap is_eq (tied_itself step_total s)

-- one step to the right is a right child
pub child_is : (v : List Step) (s : Step) → s.side ≡ Right → is_right_child v (v ++ s ∷ []) ≡ true
child_is [] s h = ap (λ side. is_eq (side_cmp side Right)) h
child_is (u ∷ v) s h = and_from (is_eq (step_cmp u u)) (is_right_child v (v ++ s ∷ [])) (step_itself u) (child_is v s h)

-- and it goes on to the right
pub child_extends : (v z : List Step) → is_right_child v z ≡ true → extends Right v z ≡ true
child_extends [] [] h = absurd (false≢true h)
child_extends [] (t ∷ []) h = h
child_extends [] (t ∷ u ∷ q) h = absurd (false≢true h)
child_extends (s ∷ v) [] h = absurd (false≢true h)
child_extends (s ∷ v) (t ∷ q) h =
    let parts = and_parts (is_eq (step_cmp s t)) (is_right_child v q) h in
    let same : s ≡ t = step_exact s t (eq_from (step_cmp s t) parts.0) in
    and_from (is_eq (step_cmp t s)) (extends Right v q) (subst (λ w. is_eq (step_cmp t w) ≡ true) (sym same) (step_itself t)) (child_extends v q parts.1)

-- where there is no right child, nothing goes on to the right
pub none_extends : (walk : List Inserted) (v : List Step) (z : Inserted) → HasPrefixes walk → list_any (λ y. is_right_child v y.path) walk ≡ false → Among z walk → extends Right v z.path ≡ false
none_extends walk v z p none m =
    false_from_ne_true (extends Right v z.path) (λ e.
    let first = first_right v z.path e in
    let child = p z m v first.0 first.1 first.2 in
    false≢true (sym none ∙ any_from (λ y. is_right_child v y.path) walk child.0 child.1 (subst (λ path. is_right_child v path ≡ true) (sym child.2) (child_is v first.0 first.3))))

-- the first element that passes, in a list in order
first_found_at : (p : Inserted → Bool) (x w : Inserted) (b : Bool) (o : Option Inserted) → cond b (Some x) o ≡ Some w → ((b ≡ true) × (w ≡ x)) ⊎ ((b ≡ false) × (o ≡ Some w))
first_found_at p x w true o e = let same : w ≡ x = cc in inl (refl, same)
first_found_at p x w false o e = inr (refl, e)

pub first_found : (p : Inserted → Bool) (walk : List Inserted) (w : Inserted) → IsStrictlySortedBy inserted_cmp walk → find p walk ≡ Some w → Among w walk × (p w ≡ true) × ((z : Inserted) → Among z walk → p z ≡ true → (z ≡ w) ⊎ (inserted_cmp w z ≡ Less))
unfolding IsStrictlySortedBy
first_found p [] w s e = let no : ⊥ = cc in absurd no
first_found p (x ∷ walk) w s e =
    ⊎_elim
    (λ h. (inl h.1, ap p h.1 ∙ h.0, λ z m q. ⊎_elim (λ k. inl (k ∙ sym h.1)) (λ k. inr (subst (λ y. inserted_cmp y z ≡ Less) (sym h.1) (all_at (λ y. inserted_cmp x y ≡ Less) walk z s.0 k))) m))
    (λ h. let more = first_found p walk w s.1 h.1 in
    (inr more.0, more.1, λ z m q. ⊎_elim (λ k. absurd (false≢true (sym h.0 ∙ (ap p (sym k) ∙ q)))) (λ k. more.2 z k q) m))
    (first_found_at p x w (p x) (find p walk) e)

found_or_not : (o : Option Inserted) → ((w : Inserted) × (o ≡ Some w)) ⊎ (o ≡ None)
found_or_not None = inr refl
found_or_not (Some w) = inl (w, refl)

-- nothing is found only where nothing passes
pub none_found : (p : Inserted → Bool) (walk : List Inserted) (z : Inserted) → find p walk ≡ None → Among z walk → p z ≡ true → ⊥
none_found p walk z e m q = false≢true (sym (all_at (λ y. p y ≡ false) walk z (find_none p walk e) m) ∙ q)

-- a test by the order, as an answer of it
is_less : (o : Ordering) → is_lt o ≡ true → o ≡ Less
is_less Less e = refl
is_less Equal e = absurd (false≢true e)
is_less Greater e = absurd (false≢true e)

-- a node of the walk against the first node behind v
against_next : (walk : List Inserted) (v : List Step) (w z : Inserted) → Among w walk → (path_cmp v w.path ≡ Less) → ((y : Inserted) → Among y walk → path_lt v y.path ≡ true → (y ≡ w) ⊎ (inserted_cmp w y ≡ Less)) → Among z walk → before (path_cmp z.path w.path) ≡ behind (path_cmp z.path v)
against_next walk v w z mw vw first m = at (path_cmp z.path v) refl
  where
    at : (o : Ordering) → path_cmp z.path v ≡ o → before (path_cmp z.path w.path) ≡ behind (path_cmp z.path v)
    at Less e = ap before (path_total.trans z.path v w.path e vw) ∙ sym (ap behind e)
    at Equal e = ap before (path_total.congr z.path v w.path e ∙ vw) ∙ sym (ap behind e)
    at Greater e =
        ⊎_elim
        (λ same. ap (λ (y : Inserted). before (path_cmp y.path w.path)) same ∙ ap before (tied_itself path_total w.path) ∙ sym (ap behind e))
        (λ after. ap before (turned_back w.path z.path after) ∙ sym (ap behind e))
        (first z m (ap is_lt (turned_on z.path v e)))

-- the first node behind v, where v has a right child, goes on from v to the right
next_is_right : (walk : List Inserted) (v : List Step) (c w : Inserted) → Among c walk → is_right_child v c.path ≡ true → path_cmp v w.path ≡ Less → ((y : Inserted) → Among y walk → path_lt v y.path ≡ true → (y ≡ w) ⊎ (inserted_cmp w y ≡ Less)) → extends Right v w.path ≡ true
next_is_right walk v c w mc child vw first =
    true_from_ne_false (extends Right v w.path) (λ e.
    let far = first_right v c.path (child_extends v c.path child) in
    let s : Step = far.0 in
    let path : c.path ≡ v ++ step Right s.child ∷ far.1 = far.2 ∙ (λ i. v ++ record { side = far.3 i; child = s.child } ∷ far.1) in
    let wc : path_cmp w.path c.path ≡ Greater = ap (path_cmp w.path) path ∙ right_of v w.path s.child far.1 e ∙ ap behind (turned_back v w.path vw) in
    ⊎_elim
    (λ same. let tie : path_cmp w.path c.path ≡ Equal = ap (λ (y : Inserted). path_cmp w.path y.path) same ∙ tied_itself path_total w.path in let no : ⊥ = cc in no)
    (λ after. let no : ⊥ = cc in no)
    (first c mc (ap is_lt (turned_on c.path v (right_greater v c.path (child_extends v c.path child))))))

-- and no node is to the left of it
nothing_left : (walk : List Inserted) (v : List Step) (c w z : Inserted) → Among c walk → is_right_child v c.path ≡ true → path_cmp v w.path ≡ Less → ((y : Inserted) → Among y walk → path_lt v y.path ≡ true → (y ≡ w) ⊎ (inserted_cmp w y ≡ Less)) → Among z walk → extends Left w.path z.path ≡ false
nothing_left walk v c w z mc child vw first m =
    false_from_ne_true (extends Left w.path z.path) (λ e.
    let far : extends Right v z.path ≡ true = extends_far Left v w.path z.path (next_is_right walk v c w mc child vw first) e in
    let zw : path_cmp z.path w.path ≡ Less = left_less w.path z.path e in
    let wz : path_cmp w.path z.path ≡ Greater = turned_back z.path w.path zw in
    ⊎_elim
    (λ same. let tie : path_cmp z.path w.path ≡ Equal = ap (λ (y : Inserted). path_cmp y.path w.path) same ∙ tied_itself path_total w.path in let no : ⊥ = cc in no)
    (λ after. let no : ⊥ = cc in no)
    (first z m (ap is_lt (turned_on z.path v (right_greater v z.path far)))))

gap_found : (walk : List Inserted) (v : List Step) (x : Id) (r : List Step) (c z : Inserted) (o : Option Inserted) → IsStrictlySortedBy inserted_cmp walk → Among c walk → is_right_child v c.path ≡ true → find (λ y. path_lt v y.path) walk ≡ o → Among z walk
    → path_cmp z.path (left_of_or_right_of o v x ++ r) ≡ behind (path_cmp z.path v)
gap_found walk v x r c z None s mc child e m =
    absurd (none_found (λ y. path_lt v y.path) walk c e mc (ap is_lt (turned_on c.path v (right_greater v c.path (child_extends v c.path child)))))
gap_found walk v x r c z (Some w) s mc child e m =
    let found = first_found (λ y. path_lt v y.path) walk w s e in
    let vw : path_cmp v w.path ≡ Less = is_less (path_cmp v w.path) found.1 in
    ap (path_cmp z.path) (append_assoc w.path (step Left x ∷ []) r)
    ∙ left_of w.path z.path x r (nothing_left walk v c w z mc child vw found.2 m)
    ∙ against_next walk v w z found.0 vw found.2 m

gap_at : (walk : List Inserted) (v : List Step) (x : Id) (r : List Step) (z : Inserted) (b : Bool) → IsStrictlySortedBy inserted_cmp walk → HasPrefixes walk → list_any (λ y. is_right_child v y.path) walk ≡ b → Among z walk
    → path_cmp z.path (cond b (left_of_or_right_of (find (λ y. path_lt v y.path) walk) v x) (step_down v Right x) ++ r) ≡ behind (path_cmp z.path v)
gap_at walk v x r z true s p e m =
    let child = found_by (λ y. is_right_child v y.path) walk e in
    gap_found walk v x r child.0 z (find (λ y. path_lt v y.path) walk) s child.1 child.2 refl m
gap_at walk v x r z false s p e m =
    ap (path_cmp z.path) (append_assoc v (step Right x ∷ []) r) ∙ right_of v z.path x r (none_extends walk v z p e m)

-- A new node with the left neighbour v, and all that hangs on it, stands right behind v among the nodes of the walk.
pub gap : (walk : List Inserted) (v : List Step) (x : Id) (r : List Step) (z : Inserted) → IsStrictlySortedBy inserted_cmp walk → HasPrefixes walk → Among z walk → path_cmp z.path (new_path walk v x ++ r) ≡ behind (path_cmp z.path v)
gap walk v x r z s p m = gap_at walk v x r z (list_any (λ y. is_right_child v y.path) walk) s p refl m
