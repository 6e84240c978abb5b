use Rattle.std.proofs.Common.{◌≡◌, ℕ, zero, suc, ◌+◌, ◌-◌, ◌<◌, IsSome, length, refl, subst, arith}
use Rattle.std.proofs.lemmas.Result.{on_ok_weaker}
use Rattle.right_children.specs.declared.rows.Rows.{Rows}
use Rattle.right_children.specs.Rows.{kept_at, KeepsRows}
use Rattle.right_children.proofs.rows.Rows.begin_each.Goals as goal

-- the first has a row, and those behind it get theirs
all_begun : (r new : Rows) (from count : ℕ) → from + 1 ≡ r.first + length r.line.items → IsSome (kept_at r from) → KeepsRows r new
    → ((k : ℕ) → k < count - 1 → IsSome (kept_at new (r.first + length r.line.items + k))) → (k : ℕ) → k < count → IsSome (kept_at new (from + k))
all_begun r new from count next first rows begun zero lt = let here : from ≡ from + 0 = omega arith in subst (λ (n : ℕ). IsSome (kept_at new n)) here (rows.kept from first)
all_begun r new from count next first rows begun (suc k) lt =
    let here : r.first + length r.line.items + k ≡ from + suc k = omega (arith, next) in
    subst (λ (n : ℕ). IsSome (kept_at new n)) here (begun k (omega (arith, lt)))

pub returns-then-is_next-clause-begun : goal.returns-then-is_next-clause-begun
returns-then-is_next-clause-begun c =
    on_ok_weaker c.lengthen_by.result (all_begun c.begin.new.self c.lengthen_by.new.self c.args.from c.args.count (c.if-is_next.ensures refl) c.in_ok-begin.ensures.begun c.lengthen_by.ensures.rows)
    c.lengthen_by.ensures.begun
