-- The counts of right children, while no node of an event is known any more.
use Rattle.std.proofs.Common.{◌≡◌, ℕ, ◌+◌, ◌<◌, ◌≤◌, Bool, true, false, ◌&&◌, ◌⊎◌, inl, inr, Some, None, List, nat_eq, nat_lt, if◌then◌else◌, refl, sym, ap, ◌∙◌, arith}
use Rattle.std.proofs.lemmas.Bool.{false≢true, and_parts, eqb-true, eq-eqb, ltb-false}
use Rattle.ew_model.specs.declared.node.Node.{Node}
use Rattle.ew_model.specs.declared.node.Node.TheVariants.{Root, Base, Event}
use Rattle.ew_model.proofs.ListTests.{found_by}
use Rattle.fugue_place.specs.declared.child.Attached.{Attached}
use Rattle.fugue_place.specs.declared.child.Side.TheVariants.{Right as right}
use Rattle.fugue_place.specs.Attachments.{node_eq}
use Rattle.fugue_place.specs.Neighbours.{is_child, side_eq}
use Rattle.fugue_place.proofs.NodeLaws.{node_same}
use Rattle.right_children.specs.Rights.{Counted, parent_of, known_right, right_parent, none_known, AreRights, Resets, HangWithin}
use Rattle.right_children.proofs.RightCounts.{any_counted, count_none}
use Rattle.right_children.proofs.RightMoves.{decided}

-- NONE IS KNOWN
and_false : (b : Bool) → (b && false) ≡ false
and_false true = refl
and_false false = refl

abbrev tells : (Node → Bool) → Node → Attached → Bool
tells known p a = is_child p right a && known a.node

none_right : (attached : List Attached) (v : Node) → known_right none_known attached v ≡ 0
none_right attached v = count_none (tells none_known v) attached (λ a m. and_false (is_child v right a))

-- IN TURN
-- the parents of the events at positions from the first on that are below the second are seen to
pub record AreReset (old c : Counted) (low high : ℕ) : Type 0 where
  pub parents : (n : ℕ) → c.parent_at n ≡ old.parent_at n
  pub gone : (n : ℕ) (p : Node) → low ≤ n → n < high → old.parent_at n ≡ Some p → c.count p ≡ 0
  pub kept : (v : Node) → (c.count v ≡ 0) ⊎ (c.count v ≡ old.count v)

pub none_reset : (c : Counted) (low : ℕ) → AreReset c c low low
none_reset c low = record {
  parents = λ n. refl;
  gone = λ n p le lt e. absurd (omega (arith, le, lt));
  kept = λ v. inr refl;
}

pub next_reset : (old c d : Counted) (low n : ℕ) → AreReset old c low n → Resets c d (Event n) → AreReset old d low (n + 1)
next_reset old c d low n before resets = record {
  parents = λ k. resets.parents k ∙ before.parents k;
  gone = λ k p le lt e. gone k p le lt e (nat_eq k n) refl;
  kept = λ v. kept v (decided (parent_of c (Event n)) v) (before.kept v);
}
  where
    stays : (p : Node) → c.count p ≡ 0 → (parent_of c (Event n) ≡ Some p) ⊎ (parent_of c (Event n) ≡ Some p → ⊥) → d.count p ≡ 0
    stays p none (inl e) = resets.own p e
    stays p none (inr other) = resets.others p other ∙ none

    gone : (k : ℕ) (p : Node) → low ≤ k → k < n + 1 → old.parent_at k ≡ Some p → (b : Bool) → nat_eq k n ≡ b → d.count p ≡ 0
    gone k p le lt e true is = resets.own p (before.parents n ∙ ap old.parent_at (sym (eqb-true k n is)) ∙ e)
    gone k p le lt e false not = by (λ is. false≢true (sym not ∙ eq-eqb k n is))
      where
        by : (k ≡ n → ⊥) → d.count p ≡ 0
        by other = stays p (before.gone k p le (omega (arith, other, lt)) e) (decided (parent_of c (Event n)) p)

    kept : (v : Node) → (parent_of c (Event n) ≡ Some v) ⊎ (parent_of c (Event n) ≡ Some v → ⊥) → (c.count v ≡ 0) ⊎ (c.count v ≡ old.count v) → (d.count v ≡ 0) ⊎ (d.count v ≡ old.count v)
    kept v (inl e) was = inl (resets.own v e)
    kept v (inr other) (inl none) = inl (resets.others v other ∙ none)
    kept v (inr other) (inr same) = inr (resets.others v other ∙ same)

-- AT THE END
child_parent : (a : Attached) (v : Node) → is_child v right a ≡ true → right_parent a ≡ Some v
child_parent a v e =
    let parts = and_parts (node_eq a.parent v) (side_eq a.side right) e in
    ap (λ (b : Bool). if b then Some a.parent else None) parts.1 ∙ ap (λ (u : Node). Some u) (node_same a.parent v parts.0)

module _ (known : Node → Bool) (attached : List Attached) (old c : Counted) (from to : ℕ) (rights : AreRights known attached old) (within : HangWithin from to attached) (reset : AreReset old c from to) where
  same_parent : (u : Node) → parent_of c u ≡ parent_of old u
  same_parent Root = refl
  same_parent (Base i) = refl
  same_parent (Event n) = reset.parents n

  none_left : (v : Node) → c.count v ≡ 0
  none_left v = at_kept (reset.kept v)
    where
      by : c.count v ≡ old.count v → (b : Bool) → nat_lt 0 (known_right known attached v) ≡ b → c.count v ≡ 0
      by same false e =
          let none = ltb-false 0 (known_right known attached v) e in
          let was = rights.counts v in
          omega (arith, none, was, same)
      by same true e =
          let a = found_by (tells known v) attached (sym (any_counted (tells known v) attached) ∙ e) in
          let child = and_parts (is_child v right a.0) (known a.0.node) a.2 in
          let at = within a.0 a.1 in
          reset.gone at.0 v at.1 at.2 (ap (parent_of old) (sym at.3) ∙ rights.parents a.0 a.1 ∙ child_parent a.0 v child.0)

      at_kept : (c.count v ≡ 0) ⊎ (c.count v ≡ old.count v) → c.count v ≡ 0
      at_kept (inl none) = none
      at_kept (inr same) = by same (nat_lt 0 (known_right known attached v)) refl

  pub rests : AreRights none_known attached c
  rests = record {
    parents = λ a m. same_parent a.node ∙ rights.parents a m;
    counts = λ v. none_left v ∙ sym (none_right attached v);
  }
