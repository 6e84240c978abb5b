-- How many blocks there are.
use Rattle.std.proofs.Common.{◌≡◌, ℕ, ◌+◌, ◌*◌, ◌^◌, ◌≤◌, Bool, true, false, nat_lt, if◌then◌else◌, length, arith}
use Rattle.std.proofs.Math.Nat.{pow-le-pow_right}
use Rattle.rope.specs.Nodes.{Seen}
use Rattle.rope.specs.Shape.{IsSound}
use Rattle.rope.specs.Lengths.{most_chars}

pick : (b : Bool) (x y : ℕ) → (if b then x else y) ≤ x + y
pick true x y = omega arith
pick false x y = omega arith

-- so many full nodes stand above a branch at most
pub above_most : (many above n : ℕ) → n ≡ (if nat_lt many 16 then 0 else above + 1) → n ≤ above + 1
above_most many above n is = omega (arith, is, pick (nat_lt many 16) 0 (above + 1))

-- one block is spent at most
pub spent : (b : Bool) (new old : ℕ) → new + (if b then 1 else 0) ≡ old → old ≤ new + 1
spent b new old is = omega (arith, is, pick b 1 0)

small : (d n : ℕ) → 2 ^ d ≤ 2 * n → n ≤ 16777216 → (26 ≤ d → 2 ^ 26 ≤ 2 ^ d) → d ≤ 25
small d n enough few big = grind arith

-- no tree is deeper than 25 levels
pub shallow : (t : Seen) → IsSound t → length t.chars ≤ most_chars → t.depth ≤ 25
shallow t h few = small t.depth t.leaves h.enough (omega (arith, h.some, few)) (λ le. pow-le-pow_right (omega arith) le)
