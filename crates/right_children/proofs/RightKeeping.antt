-- Each parent of a right child has a count, whatever is noted.
use Rattle.std.proofs.Common.{◌≡◌, ℕ, Bool, true, false, cond, Option, Some, OnOk, OnErr, Result, Ok, Err, nat_eq, if◌then◌else◌, sym, ◌∙◌, subst}
use Rattle.ew_model.specs.declared.node.Node.{Node}
use Rattle.ew_model.specs.declared.node.Node.TheVariants.{Root, Base, Event}
use Rattle.right_children.specs.declared.parents.Parents.{Parents}
use Rattle.right_children.specs.declared.rights.Rights.{Rights}
use Rattle.right_children.specs.Parents.{parent_at}
use Rattle.right_children.specs.Rights.{counted, HasCount, IsWhole, MayShift}

module _ (r : Rights) (new : Parents) where
  abbrev after : Rights
  after = record { parents = new; rows = r.rows; counts = r.counts }

  still_counted : (v : Node) → HasCount r v → HasCount after v
  still_counted Root h = h
  still_counted (Base i) h = h
  still_counted (Event n) h = h

  module _ (whole : IsWhole r) where
    told_whole : ((n : ℕ) → parent_at new n ≡ parent_at r.parents n) → IsWhole after
    told_whole same n p e = still_counted p (whole n p (sym (same n) ∙ e))

    module _ (k : ℕ) (parent : Option Node) (some : (p : Node) → parent ≡ Some p → HasCount r p) where
      put_whole : ((n : ℕ) → parent_at new n ≡ (if nat_eq k n then parent else parent_at r.parents n)) → IsWhole after
      put_whole puts n p e = at (nat_eq k n) (sym (puts n) ∙ e)
        where
          at : (b : Bool) → cond b parent (parent_at r.parents n) ≡ Some p → HasCount after p
          at true h = still_counted p (some p h)
          at false h = still_counted p (whole n p h)

      -- a parent that has a count is noted, or memory is wanting
      pub noted_whole : {X E : Type 0} (result : Result X E) → OnOk result ((n : ℕ) → parent_at new n ≡ (if nat_eq k n then parent else parent_at r.parents n))
          → OnErr result ((n : ℕ) → parent_at new n ≡ parent_at r.parents n) → IsWhole after
      noted_whole (Ok x) ok err = put_whole ok
      noted_whole (Err x) ok err = told_whole err

-- a search changes none
pub found_whole : (r : Rights) (new : Parents) → new ≡ r.parents → IsWhole r → IsWhole (after r new)
found_whole r new same whole = subst (λ (ps : Parents). IsWhole (after r ps)) (sym same) whole

pub found_may : (r : Rights) (new : Parents) (v : Node) (was is : Bool) → new ≡ r.parents → MayShift (counted r) v was is → MayShift (counted (after r new)) v was is
found_may r new v was is same may = subst (λ (ps : Parents). MayShift (counted (after r ps)) v was is) (sym same) may

-- none changes, and none goes
pub same_whole : (r s : Rights) → IsWhole r → ((n : ℕ) → (counted s).parent_at n ≡ (counted r).parent_at n) → ((v : Node) → HasCount r v → HasCount s v) → IsWhole s
same_whole r s whole same more n p e = more p (whole n p (sym (same n) ∙ e))
