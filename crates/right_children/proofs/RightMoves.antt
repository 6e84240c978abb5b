-- How the counts of right children change with one node, and with a new child.
use mathlib.Core.Bool.{beq}
use Rattle.std.proofs.Common.{◌≡◌, ℕ, ◌+◌, ◌<◌, ◌≤◌, ◌^◌, Bool, true, false, ◌&&◌, ◌||◌, ◌⊎◌, inl, inr, Option, Some, None, List, [], ◌∷◌, ◌++◌, nat_eq, nat_lt, if◌then◌else◌, refl, sym, ap, ◌∙◌, subst, arith}
use Rattle.std.specs.List.{list_any}
use Rattle.std.proofs.lemmas.Bool.{false≢true, eqb-true, eq-eqb}
use Rattle.ew_model.specs.declared.node.Node.{Node}
use Rattle.ew_model.specs.declared.node.Node.TheVariants.{Root, Base, Event}
use Rattle.ew_model.specs.Sets.{Among}
use Rattle.ew_model.proofs.SetLaws.{among_joined}
use Rattle.fugue_place.specs.declared.child.Attached.{Attached}
use Rattle.fugue_place.specs.declared.child.Side.TheVariants.{Right as right}
use Rattle.fugue_place.specs.Attachments.{node_eq, is_attached, is_there, AreAttached}
use Rattle.fugue_place.specs.Neighbours.{is_child, side_eq}
use Rattle.fugue_place.proofs.NodeLaws.{node_same, node_itself}
use Rattle.right_children.specs.Rights.{one_if, Counted, parent_of, known_right, right_parent, AreRights, Shifts, MayShift}
use Rattle.right_children.specs.Rows.{MayStep}
use Rattle.right_children.proofs.RightCounts.{count_moved, count_unmoved, count_same, count_has, count-cons, any_counted, not_there}
use Rattle.ew_model.proofs.ListTests.{count-append}

-- the attached child whose node it is
pub attached_as : (xs : List Attached) (v : Node) → is_attached xs v ≡ true → (a : Attached) × Among a xs × (a.node ≡ v)
attached_as [] v e = absurd (false≢true e)
attached_as (x ∷ xs) v e = at (attached_as xs v) (node_eq x.node v) refl
  where
    or_right : (a b : Bool) → (a || b) ≡ true → a ≡ false → b ≡ true
    or_right true b e f = absurd (false≢true (sym f))
    or_right false b e f = e

    at : (is_attached xs v ≡ true → (a : Attached) × Among a xs × (a.node ≡ v)) → (b : Bool) → node_eq x.node v ≡ b → (a : Attached) × Among a (x ∷ xs) × (a.node ≡ v)
    at further true h = (x, inl refl, node_same x.node v h)
    at further false h = let rest = further (or_right (node_eq x.node v) (is_attached xs v) e h) in (rest.0, inr rest.1, rest.2)

some_same : (v w : Node) → Some v ≡ Some w → v ≡ w
some_same v w e = cc

none_some : (w : Node) → None ≡ Some w → ⊥
none_some w e = cc

-- it hangs on the right of its parent alone
hangs : (a : Attached) (p : Node) → right_parent a ≡ Some p → is_child p right a ≡ true
hangs a p e = at (side_eq a.side right) refl
  where
    at : (b : Bool) → side_eq a.side right ≡ b → (node_eq a.parent p && side_eq a.side right) ≡ true
    at true h =
        let own : a.parent ≡ p = some_same a.parent p (sym (ap (λ (b : Bool). if b then Some a.parent else None) h) ∙ e) in
        (λ i. node_eq a.parent p && h i) ∙ ap (λ (v : Node). node_eq v p && true) own ∙ ap (λ (b : Bool). b && true) (node_itself p)
    at false h = absurd (none_some p (sym (ap (λ (b : Bool). if b then Some a.parent else None) h) ∙ e))

hangs_else : (a : Attached) (w : Node) → (right_parent a ≡ Some w → ⊥) → (b : Bool) → is_child w right a ≡ b → b ≡ false
hangs_else a w other false e = refl
hangs_else a w other true e = at (node_eq a.parent w) refl (side_eq a.side right) refl e
  where
    at : (b : Bool) → node_eq a.parent w ≡ b → (c : Bool) → side_eq a.side right ≡ c → (node_eq a.parent w && side_eq a.side right) ≡ true → true ≡ false
    at true f true g h = absurd (other (ap (λ (c : Bool). if c then Some a.parent else None) g ∙ ap (λ (v : Node). Some v) (node_same a.parent w f)))
    at true f false g h = absurd (false≢true (sym (λ i. f i && g i) ∙ h))
    at false f c g h = absurd (false≢true (sym (ap (λ (b : Bool). b && side_eq a.side right) f) ∙ h))

abbrev tells : (Node → Bool) → Node → Attached → Bool
tells before p a = is_child p right a && before a.node

pub decided : (o : Option Node) (w : Node) → (o ≡ Some w) ⊎ (o ≡ Some w → ⊥)
decided None w = inr (none_some w)
decided (Some v) w = at (node_eq v w) refl
  where
    at : (b : Bool) → node_eq v w ≡ b → (Some v ≡ Some w) ⊎ (Some v ≡ Some w → ⊥)
    at true e = inl (ap (λ (u : Node). Some u) (node_same v w e))
    at false e = inr (λ h. false≢true (sym e ∙ ap (λ (u : Node). node_eq u w) (some_same v w h) ∙ node_itself w))

one_most : (b : Bool) → one_if b ≤ 1
one_most true = omega arith
one_most false = omega arith

and_true : (b : Bool) → (b && true) ≡ b
and_true true = refl
and_true false = refl

eqb_turned : (k n : ℕ) → nat_eq k n ≡ false → nat_eq n k ≡ false
eqb_turned k n e = at (nat_eq n k) refl
  where
    at : (b : Bool) → nat_eq n k ≡ b → b ≡ false
    at false f = refl
    at true f = absurd (false≢true (sym e ∙ ap (λ (i : ℕ). nat_eq k i) (eqb-true n k f) ∙ eq-eqb k k refl))

-- what differs at the node v alone
module _ (before after : Node → Bool) (attached : List Attached) (c : Counted) (v : Node) (rights : AreRights before attached c) (sound : AreAttached [] attached)
    (others : (u : Node) → node_eq u v ≡ false → after u ≡ before u) where
  same : (p : Node) (x : Attached) → node_eq x.node v ≡ false → tells after p x ≡ tells before p x
  same p x e = ap (λ (b : Bool). is_child p right x && b) (others x.node e)

  moved : (a : Attached) → Among a attached → a.node ≡ v → (p : Node) → parent_of c v ≡ Some p → known_right after attached p + one_if (before v) ≡ known_right before attached p + one_if (after v)
  moved a m is p e =
      let own : right_parent a ≡ Some p = sym (rights.parents a m) ∙ ap (parent_of c) is ∙ e in
      let child = hangs a p own in
      let was : tells before p a ≡ before v = (λ i. child i && before (is i)) in
      let now : tells after p a ≡ after v = (λ i. child i && after (is i)) in
      subst (λ (b : Bool). known_right after attached p + one_if b ≡ known_right before attached p + one_if (after v)) was
      (subst (λ (b : Bool). known_right after attached p + one_if (tells before p a) ≡ known_right before attached p + one_if b) now
      (count_moved (tells after p) (tells before p) [] attached sound v (same p) a m is))

  child_of : (w : Node) → is_there attached w ≡ true → (p : Node) → parent_of c w ≡ Some p → (a : Attached) × Among a attached × (a.node ≡ w)
  child_of Root there p e = absurd (none_some p e)
  child_of (Base i) there p e = absurd (none_some p e)
  child_of (Event n) there p e = attached_as attached (Event n) there

  -- where it hangs elsewhere, the count stays
  stays : (w : Node) → (parent_of c v ≡ Some w → ⊥) → known_right after attached w ≡ known_right before attached w
  stays w other = count_same (tells after w) (tells before w) attached (λ a m. at a m (node_eq a.node v) refl)
    where
      at : (a : Attached) → Among a attached → (b : Bool) → node_eq a.node v ≡ b → tells after w a ≡ tells before w a
      at a m false e = same w a e
      at a m true e =
          let none = hangs_else a w (λ h. other (ap (parent_of c) (sym (node_same a.node v e)) ∙ rights.parents a m ∙ h)) (is_child w right a) refl in
          ap (λ (b : Bool). b && after a.node) none ∙ sym (ap (λ (b : Bool). b && before a.node) none)

  pub may_shift : is_there attached v ≡ true → ((w : Node) → known_right before attached w ≤ 2 ^ 26) → MayShift c v (before v) (after v)
  may_shift there few p e =
      let a = child_of v there p e in
      let own : right_parent a.0 ≡ Some p = sym (rights.parents a.0 a.1) ∙ ap (parent_of c) a.2 ∙ e in
      let child = hangs a.0 p own in
      let was : tells before p a.0 ≡ before v = (λ i. child i && before (a.2 i)) in
      let some : one_if (before v) ≤ known_right before attached p = subst (λ (b : Bool). one_if b ≤ known_right before attached p) was (count_has (tells before p) attached a.0 a.1) in
      let bound = few p in
      let counted = rights.counts p in
      (omega (arith, some, counted), omega (arith, bound, counted, one_most (after v)))

  pub shifted : (d : Counted) → is_there attached v ≡ true → Shifts c d v (before v) (after v) → AreRights after attached d
  shifted d there shifts = record {
    parents = λ a m. same_parent a.node ∙ rights.parents a m;
    counts = λ w. counted w (decided (parent_of c v) w);
  }
    where
      same_parent : (u : Node) → parent_of d u ≡ parent_of c u
      same_parent Root = refl
      same_parent (Base i) = refl
      same_parent (Event n) = shifts.parents n

      counted : (w : Node) → (parent_of c v ≡ Some w) ⊎ (parent_of c v ≡ Some w → ⊥) → d.count w ≡ known_right after attached w
      counted w (inl e) =
          let a = child_of v there w e in
          let now = shifts.own w e in
          let both = moved a.0 a.1 a.2 w e in
          let was = rights.counts w in
          omega (arith, now, both, was)
      counted w (inr other) = shifts.others w other ∙ rights.counts w ∙ sym (stays w other)

-- what is noted of a node that isn't attached changes nothing
pub noted : (before : Node → Bool) (attached : List Attached) (old c : Counted) (n : ℕ) → AreRights before attached old → is_attached attached (Event n) ≡ false
    → ((k : ℕ) → nat_eq n k ≡ false → c.parent_at k ≡ old.parent_at k) → ((w : Node) → c.count w ≡ old.count w) → AreRights before attached c
noted before attached old c n rights new parents counts = record {
  parents = λ a m. kept a.node (not_there attached (Event n) new a m) ∙ rights.parents a m;
  counts = λ w. counts w ∙ rights.counts w;
}
  where
    kept : (u : Node) → node_eq u (Event n) ≡ false → parent_of c u ≡ parent_of old u
    kept Root e = refl
    kept (Base i) e = refl
    kept (Event k) e = parents k (eqb_turned k n e)

-- a new child comes in, which is inserted
module _ (before after : Node → Bool) (attached : List Attached) (old c d : Counted) (a : Attached) (n : ℕ) (rights : AreRights before attached old) (node : a.node ≡ Event n)
    (new : is_attached attached (Event n) ≡ false) (others : (u : Node) → node_eq u (Event n) ≡ false → after u ≡ before u) (known : after (Event n) ≡ true)
    (parent : c.parent_at n ≡ right_parent a) (parents : (k : ℕ) → nat_eq n k ≡ false → c.parent_at k ≡ old.parent_at k) (counts : (w : Node) → c.count w ≡ old.count w) where
  pub may_join : ((w : Node) → known_right before attached w ≤ 2 ^ 26) → MayShift c (Event n) false true
  may_join few p e =
      let bound = few p in
      let counted = counts p ∙ rights.counts p in
      (omega arith, omega (arith, bound, counted))

  tells_new : (w : Node) → tells after w a ≡ is_child w right a
  tells_new w = ap (λ (u : Node). is_child w right a && after u) node ∙ ap (λ (b : Bool). is_child w right a && b) known ∙ and_true (is_child w right a)

  unmoved : (w : Node) → known_right after attached w ≡ known_right before attached w
  unmoved w = count_unmoved (tells after w) (tells before w) attached (Event n) new (λ x e. ap (λ (b : Bool). is_child w right x && b) (others x.node e))

  grown : (w : Node) → known_right after (attached ++ a ∷ []) w ≡ known_right before attached w + one_if (is_child w right a)
  grown w =
      let one = count-cons (tells after w) a [] in
      let all = count-append (tells after w) attached (a ∷ []) in
      let here = ap one_if (tells_new w) in
      omega (arith, one, all, here, unmoved w)

  pub joins : Shifts c d (Event n) false true → AreRights after (attached ++ a ∷ []) d
  joins shifts = record {
    parents = λ x m. at x (among_joined attached (a ∷ []) x m);
    counts = λ w. counted w (decided (parent_of c (Event n)) w);
  }
    where
      kept : (u : Node) → node_eq u (Event n) ≡ false → parent_of d u ≡ parent_of old u
      kept Root e = refl
      kept (Base i) e = refl
      kept (Event k) e = shifts.parents k ∙ parents k (eqb_turned k n e)

      absent : (xs : List Attached) → is_attached xs (Event n) ≡ false → (x : Attached) → Among x xs → node_eq x.node (Event n) ≡ false
      absent xs none x m = not_there xs (Event n) none x m

      at : (x : Attached) → Among x attached ⊎ Among x (a ∷ []) → parent_of d x.node ≡ right_parent x
      at x (inl m) = kept x.node (absent attached new x m) ∙ rights.parents x m
      at x (inr (inl is)) = ap (λ (y : Attached). parent_of d y.node) is ∙ ap (parent_of d) node ∙ shifts.parents n ∙ parent ∙ ap right_parent (sym is)
      at x (inr (inr m)) = absurd m

      counted : (w : Node) → (parent_of c (Event n) ≡ Some w) ⊎ (parent_of c (Event n) ≡ Some w → ⊥) → d.count w ≡ known_right after (attached ++ a ∷ []) w
      counted w (inl e) =
          let now = shifts.own w e in
          let hung = ap one_if (hangs a w (sym parent ∙ e)) in
          let was = counts w ∙ rights.counts w in
          omega (arith, now, hung, was, grown w)
      counted w (inr other) =
          let now = shifts.others w other in
          let hung = ap one_if (hangs_else a w (λ h. other (parent ∙ h)) (is_child w right a) refl) in
          let was = counts w ∙ rights.counts w in
          omega (arith, now, hung, was, grown w)

-- some are known where one is
pub known_child : (known : Node → Bool) (attached : List Attached) (v : Node) → nat_lt 0 (known_right known attached v) ≡ list_any (λ (a : Attached). is_child v right a && known a.node) attached
known_child known attached v = any_counted (tells known v) attached

-- a count that may change so may take the step
pub may_step : (n : ℕ) (was is : Bool) → beq was is ≡ false → (one_if was ≤ n) × (n + one_if is < 2 ^ 32) → MayStep n is
may_step n true true e may = absurd (false≢true (sym e))
may_step n false false e may = absurd (false≢true (sym e))
may_step n true false e may = (λ f. may.0, λ f. absurd (false≢true f))
may_step n false true e may = (λ f. absurd (false≢true (sym f)), λ f. may.1)
