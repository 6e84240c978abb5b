-- The counts of right children, while the nodes of a chain come to be known at once, or are so no more.
use mathlib.Core.Bool.{beq}
use Rattle.std.proofs.Common.{◌≡◌, ℕ, zero, suc, ◌+◌, ◌-◌, ◌<◌, ◌≤◌, Bool, true, false, ◌&&◌, cond, Option, Some, IsSome, List, nat_le, nat_lt, unwrap_or, if◌then◌else◌, refl, sym, ap, ◌∙◌, subst, arith}
use Rattle.std.proofs.lemmas.Bool.{false≢true}
use Rattle.std.proofs.lemmas.Option.{same_Some}
use Rattle.ew_model.specs.declared.node.Node.{Node}
use Rattle.ew_model.specs.declared.node.Node.TheVariants.{Root, Base, Event}
use Rattle.fugue_place.specs.declared.child.Attached.{Attached}
use Rattle.fugue_place.specs.Attachments.{node_eq}
use Rattle.right_children.specs.declared.rights.Rights.{Rights}
use Rattle.right_children.specs.declared.rows.Rows.{Rows}
use Rattle.right_children.specs.Chains.{AreLinked}
use Rattle.right_children.specs.Rows.{kept_at, row_at, stepped, MayStep, StepsEach}
use Rattle.right_children.specs.Rights.{one_if, Counted, counted, AreRights, HasCount, IsWhole, Shifts, ShiftEach}
use Rattle.right_children.proofs.RightCounts.{not_same}
use Rattle.right_children.proofs.RightMoves.{may_step}
use Rattle.right_children.proofs.RightSpans.{is_between, between, outside, none_between, one_more, so_far, may_next, kept_next}

-- A STEP
step_is : (x : ℕ) (was is : Bool) → beq was is ≡ false → MayStep x is → stepped x is + one_if was ≡ x + one_if is
step_is x true true e may = absurd (false≢true (sym e))
step_is x false false e may = absurd (false≢true (sym e))
step_is x true false e may = let some = may.0 refl in omega (arith, some)
step_is x false true e may = omega arith

-- ONE AFTER ANOTHER
-- the nodes of the events behind the first position that are below the end are each a right child of the one before
module _ (c : Counted) (is : Bool) (first end : ℕ) (linked : AreLinked c.parent_at (first + 1) end) where
  -- the counts once those up to a position are seen to
  abbrev walked : ℕ → Counted
  walked m = record { parent_at = c.parent_at; count = λ (v : Node). if is_between first m v then stepped (c.count v) is else c.count v }

  walked_none : walked first ≡ c
  walked_none = λ i. record { parent_at = c.parent_at; count = λ (v : Node). if none_between first v i then stepped (c.count v) is else c.count v }

  hangs : (m : ℕ) → first ≤ m → m + 1 < end → c.parent_at (m + 1) ≡ Some (Event m)
  hangs m le lt = let own : m + 1 - 1 ≡ m = omega arith in (linked (m + 1) (omega (arith, le)) lt).1 ∙ ap (λ (n : ℕ). Some (Event n)) own

  here : (m : ℕ) → (walked m).count (Event m) ≡ c.count (Event m)
  here m = ap (λ (b : Bool). if b then stepped (c.count (Event m)) is else c.count (Event m)) (outside first m m (λ le lt. absurd (omega (arith, lt))))

  walks : (was : Bool) → beq was is ≡ false → (m : ℕ) → first ≤ m → m + 1 < end → MayStep (c.count (Event m)) is → Shifts (walked m) (walked (m + 1)) (Event (m + 1)) was is
  walks was differ m le lt may = record {
    parents = λ n. refl;
    own = λ p e. subst (λ (v : Node). (walked (m + 1)).count v + one_if was ≡ (walked m).count v + one_if is) (same_Some (Event m) p (sym (hangs m le lt) ∙ e)) own;
    others = λ w other.
        ap (λ (b : Bool). if b then stepped (c.count w) is else c.count w)
        (one_more first m w (not_same w (Event m) (λ same. other (hangs m le lt ∙ ap (λ (v : Node). Some v) (sym same))) (node_eq w (Event m)) refl));
  }
    where
      own : (walked (m + 1)).count (Event m) + one_if was ≡ (walked m).count (Event m) + one_if is
      own =
          ap (λ (b : Bool). (if b then stepped (c.count (Event m)) is else c.count (Event m)) + one_if was) (between first (m + 1) m le (omega arith))
          ∙ step_is (c.count (Event m)) was is differ may ∙ ap (λ (n : ℕ). n + one_if is) (sym (here m))

  module _ (old new : Node → Bool) (attached : List Attached) (from to : ℕ) (was : Bool) (h : ShiftEach old new attached from to was is) (differ : beq was is ≡ false)
      (low : from ≤ first) (high : end ≤ to) (rights : AreRights (so_far old new from (first + 1)) attached c) where
    next_may : (m : ℕ) → first ≤ m → m + 1 < end → AreRights (so_far old new from (m + 1)) attached (walked m) → MayStep (c.count (Event m)) is
    next_may m le lt before =
        subst (λ (n : ℕ). MayStep n is) (here m)
        (may_step ((walked m).count (Event m)) was is differ (may_next old new attached from to was is h (m + 1) (omega (arith, low, le)) (omega (arith, lt, high)) (walked m) before (Event m) (hangs m le lt)))

    all_right : (k m : ℕ) → m ≡ first + k → m < end → AreRights (so_far old new from (m + 1)) attached (walked m)
    all_right zero m own lt =
        let same : first ≡ m = omega (arith, own) in
        subst (λ (n : ℕ). AreRights (so_far old new from (n + 1)) attached (walked n)) same
        (subst (λ (d : Counted). AreRights (so_far old new from (first + 1)) attached d) (sym walked_none) rights)
    all_right (suc k) m own lt =
        let n = first + k in
        let next : n + 1 ≡ m = omega (arith, own) in
        let within : n + 1 < end = omega (arith, next, lt) in
        let le : first ≤ n = omega arith in
        let before = all_right k n refl (omega (arith, within)) in
        subst (λ (p : ℕ). AreRights (so_far old new from (p + 1)) attached (walked p)) next
        (kept_next old new attached from to was is h (n + 1) (omega (arith, low)) (omega (arith, within, high)) (walked n) before (walked (n + 1))
        (walks was differ n le within (next_may n le within before)))

    pub each_may : (m : ℕ) → first ≤ m → m < end - 1 → MayStep (c.count (Event m)) is
    each_may m le lt =
        let within : m + 1 < end = omega (arith, lt) in
        let far : m ≡ first + (m - first) = omega (arith, le) in
        next_may m le within (all_right (m - first) m far (omega (arith, within)))

    pub end_right : first < end → AreRights (so_far old new from end) attached (walked (end - 1))
    end_right some =
        let far : end - 1 ≡ first + (end - 1 - first) = omega (arith, some) in
        let last : end - 1 + 1 ≡ end = omega (arith, some) in
        subst (λ (n : ℕ). AreRights (so_far old new from n) attached (walked (end - 1))) last (all_right (end - 1 - first) (end - 1) far (omega (arith, some)))

-- THE TABLES
-- the rows of a chain are stepped
module _ (r : Rights) (rows : Rows) (first end : ℕ) (is : Bool) (steps : StepsEach r.rows rows first (end - 1) is) where
  abbrev after : Rights
  after = record { parents = r.parents; rows = rows; counts = r.counts }

  counts_are : (v : Node) → (counted after).count v ≡ (if is_between first (end - 1) v then stepped ((counted r).count v) is else (counted r).count v)
  counts_are Root = refl
  counts_are (Base i) = refl
  counts_are (Event n) = ap (λ (o : Option ℕ). unwrap_or o 0) (steps n) ∙ at (nat_le first n && nat_lt n (end - 1))
    where
      at : (b : Bool) → unwrap_or (cond b (Some (stepped (row_at r.rows n) is)) (kept_at r.rows n)) 0 ≡ cond b (stepped (row_at r.rows n) is) (row_at r.rows n)
      at true = refl
      at false = refl

  still : (v : Node) → HasCount r v → HasCount after v
  still Root has = has
  still (Base i) has = has
  still (Event n) has = subst (λ (o : Option ℕ). IsSome o) (sym (steps n)) (at (nat_le first n && nat_lt n (end - 1)))
    where
      at : (b : Bool) → IsSome (cond b (Some (stepped (row_at r.rows n) is)) (kept_at r.rows n))
      at true = refl
      at false = has

  pub still_whole : IsWhole r → IsWhole after
  still_whole whole n p e = still p (whole n p e)

  pub end_counted : (known : Node → Bool) (attached : List Attached) → (linked : AreLinked (counted r).parent_at (first + 1) end)
      → AreRights known attached (walked (counted r) is first end linked (end - 1)) → AreRights known attached (counted after)
  end_counted known attached linked rights =
      let same : walked (counted r) is first end linked (end - 1) ≡ counted after = λ i. record { parent_at = (counted r).parent_at; count = λ (v : Node). sym (counts_are v) i } in
      subst (λ (d : Counted). AreRights known attached d) same rights

-- each of them has a row
pub each_kept : (r : Rights) (first end : ℕ) → IsWhole r → AreLinked (counted r).parent_at (first + 1) end → (m : ℕ) → first ≤ m → m < end - 1 → IsSome (kept_at r.rows m)
each_kept r first end whole linked m le lt =
    let own : m + 1 - 1 ≡ m = omega arith in
    whole (m + 1) (Event m) ((linked (m + 1) (omega (arith, le)) (omega (arith, lt))).1 ∙ ap (λ (n : ℕ). Some (Event n)) own)
