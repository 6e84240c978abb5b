-- What holds of a node with parts enough.
use Rattle.std.proofs.Common.{◌≡◌, ℕ, ◌≤◌, List, length, arith}
use Rattle.std.specs.Bool.{IsTrue}
use lib.Dec.{ltb}
use Rattle.rope.specs.declared.branch.Node.{Node}
use Rattle.rope.specs.declared.branch.Node.TheVariants.{Leaf, Inner}
use Rattle.rope.specs.Nodes.{Seen}
use Rattle.rope.specs.Shape.{IsSound, AllBelow, IsBranch, least, chars_in, parts_in}
use Rattle.rope.proofs.KidLists.{high, sound_inner, least_two}

-- a node above branches has two at least, where it has parts enough
pub two_kids : (d : ℕ) (ks : List Seen) → AllBelow d ks → 1 ≤ length ks → least d ≤ length ks → 2 ≤ length ks
two_kids d ks h some enough = omega (arith, least_two d (high d ks h some), enough)

-- a node with parts enough is sound
pub sound_of : (d count leaves wide bytes : ℕ) (node : Node) → IsBranch d count leaves wide bytes node → least d ≤ parts_in node → IsSound (record { chars = chars_in node; depth = d; leaves = leaves; parts = parts_in node })
sound_of d count leaves wide bytes (Leaf cs) h enough =
    let one : d ≡ 1 = h.shape.0 in
    let some : 1 ≤ length cs = rw one at enough in
    record {
      deep = omega (arith, one);
      parts = enough;
      enough = rw one (omega (arith, h.shape.1));
      some = omega (arith, some, h.shape.1);
      few = omega (arith, h.shape.1, h.shape.2);
    }
sound_of d count leaves wide bytes (Inner kids) h enough =
    let two : 2 ≤ length kids.items = two_kids d kids.items h.shape.0 h.shape.2 enough in
    rw h.shape.1 (sound_inner d kids.items h.shape.0 two)

pub least_kids : (d : ℕ) (ks : List Seen) → AllBelow d ks → 1 ≤ length ks → least d ≡ 2
least_kids d ks h some = least_two d (high d ks h some)

-- one is less than the number of parts exactly where there are two
pub has_more : (n least parts : ℕ) → least ≡ 2 → parts ≡ n → (IsTrue (ltb 1 n) → least ≤ parts) × (least ≤ parts → IsTrue (ltb 1 n))
has_more n least parts two same = (grind arith, grind arith)
