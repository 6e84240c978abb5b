use Rattle.std.proofs.Common.{◌≡◌, ℕ, ◌+◌, ◌-◌, Bool, true, false, cond, Option, Some, None, OnOk, OnErr, IsSome, Result, Ok, Err, length, slice_get, nat_eq, unwrap_or, if◌then◌else◌, refl, sym, ap, ◌∙◌, subst, arith}
use Rattle.std.specs.BTreeMap.{get}
use Rattle.std.specs.Option.{option_or}
use Rattle.std.specs.Ordering.{nat_cmp}
use Rattle.std.proofs.lemmas.Bool.{le-ltb, eqb-true}
use Rattle.std.proofs.lemmas.Option.{slice_get_past}
use Rattle.right_children.specs.declared.rows.Rows.{Rows}
use Rattle.right_children.specs.Rows.{kept_at, row_at, KeepsRows}
use Rattle.right_children.proofs.rows.Rows.push.Goals as goal

-- the same rows are kept
same_rows : (r new : Rows) → ((n : ℕ) → kept_at new n ≡ kept_at r n) → KeepsRows r new
same_rows r new same = record {
  same = λ n. ap (λ (o : Option ℕ). unwrap_or o 0) (same n);
  kept = λ n some. subst (λ (o : Option ℕ). IsSome o) (sym (same n)) some;
}

module _ (r new : Rows) (position : ℕ) (next : position ≡ r.first + length r.line.items) (row : ℕ) where
  -- the position's row was kept elsewhere, if at all
  row_before : row_at r position ≡ unwrap_or (get nat_cmp r.others position) 0
  row_before =
      ap (λ (o : Option ℕ). unwrap_or (option_or o (get nat_cmp r.others position)) 0)
      (ap (λ (b : Bool). if b then None else slice_get r.line.items (position - r.first)) (le-ltb position r.first (omega (arith, next)))
      ∙ slice_get_past r.line.items (position - r.first) (omega (arith, next)))

  module _ (put : (n : ℕ) → kept_at new n ≡ (if nat_eq position n then Some row else kept_at r n)) where
    still_kept : (n : ℕ) → IsSome (kept_at r n) → IsSome (kept_at new n)
    still_kept n some = subst (λ (o : Option ℕ). IsSome o) (sym (put n)) (at (nat_eq position n))
      where
        at : (b : Bool) → IsSome (cond b (Some row) (kept_at r n))
        at true = refl
        at false = some

    row_after : (n : ℕ) → row_at new n ≡ (if nat_eq position n then row else row_at r n)
    row_after n = ap (λ (o : Option ℕ). unwrap_or o 0) (put n) ∙ at (nat_eq position n)
      where
        at : (b : Bool) → unwrap_or (cond b (Some row) (kept_at r n)) 0 ≡ cond b row (row_at r n)
        at true = refl
        at false = refl

    -- nothing is told anew where it is the row from before
    put_same : row ≡ unwrap_or (get nat_cmp r.others position) 0 → KeepsRows r new
    put_same is = record { same = λ n. row_after n ∙ at n (nat_eq position n) refl; kept = still_kept }
      where
        at : (n : ℕ) (b : Bool) → nat_eq position n ≡ b → cond b row (row_at r n) ≡ row_at r n
        at n true e = is ∙ sym row_before ∙ ap (row_at r) (eqb-true position n e)
        at n false e = refl

  pushed : {X E : Type 0} (result : Result X E) → OnOk result ((n : ℕ) → kept_at new n ≡ (if nat_eq position n then Some row else kept_at r n)) → OnErr result ((n : ℕ) → kept_at new n ≡ kept_at r n)
      → row ≡ unwrap_or (get nat_cmp r.others position) 0 → KeepsRows r new
  pushed (Ok x) ok err is = put_same ok is
  pushed (Err x) ok err is = same_rows r new err

pub returns-clause-rows : goal.returns-clause-rows
returns-clause-rows c = pushed c.args.self.now c.push_row.new.self c.args.position c.requires c.elsewhere-row.result c.push_row.result c.push_row.ensures.ok c.push_row.ensures.err c.elsewhere-row.ensures
