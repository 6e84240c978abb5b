-- Lists of branches that are equally deep.
use Rattle.std.proofs.Common.{◌≡◌, ℕ, zero, suc, ◌+◌, ◌-◌, ◌*◌, ◌^◌, ◌<◌, ◌≤◌, List, [], ◌∷◌, length, arith, ap, ◌∙◌, subst, slice_index_or, length-append}
use Rattle.std.proofs.lemmas.List.Elements.{All-nil, All-cons}
use Rattle.std.proofs.lemmas.Nat.{pow_pos}
use Rattle.std.proofs.Math.Nat.{pow-succ'}
use Rattle.order_tree.specs.declared.branch.Node.{Node}
use Rattle.order_tree.specs.declared.branch.Node.TheVariants.{Leaf, Inner}
use Rattle.order_tree.specs.Pairs.{Tree, IsDepthOf}
use Rattle.order_tree.specs.Parts.{all_pairs, AllSome}
use Rattle.order_tree.specs.Shape.{pairs_in, AllBelow, IsNode}

double : (n x : ℕ) → 2 ≤ n → 2 * x ≤ n * x
double n x h = grind arith

few_times : (n x : ℕ) → n ≤ 16 → n * x ≤ 16 * x
few_times n x h = grind arith

pow-more : (b e : ℕ) → b ^ (e + 1) ≡ b * b ^ e
pow-more b e = let more : e + 1 ≡ suc e = omega arith in rw more (pow-succ' b e)

module _ {R : Type 0} where
  -- each branch has a run
  pub kids_some : (d : ℕ) (ks : List (Tree R)) → AllBelow d ks → AllSome (λ k. k.pairs) ks
  kids_some d [] h = All-nil (λ k. 0 < length k.pairs)
  kids_some d (k ∷ ks) h =
      let some : 0 < length k.pairs = omega (arith, h.1.0, pow_pos k.depth) in
      All-cons (λ (t : Tree R). 0 < length t.pairs) k ks some (kids_some d ks h.2)

  pub kid_lower : (d : ℕ) (ks : List (Tree R)) (k : ℕ) (kid : Tree R) → AllBelow d ks → k < length ks → kid ≡ slice_index_or ks k kid → kid.depth + 1 ≡ d
  kid_lower d [] k kid h lt is = absurd (omega (arith, lt))
  kid_lower d (x ∷ xs) zero kid h lt is = ap (λ (t : Tree R). t.depth + 1) is ∙ h.0
  kid_lower d (x ∷ xs) (suc k) kid h lt is = kid_lower d xs k kid h.2 (omega (arith, lt)) is

  -- branches of depth e have together as many runs as they are branches, times what that depth asks
  many : (e : ℕ) (ks : List (Tree R)) → AllBelow (e + 1) ks → length ks * 2 ^ e ≤ 2 * length (all_pairs (λ k. k.pairs) ks)
  many e [] h = omega arith
  many e (k ∷ ks) h =
      let same : k.depth ≡ e = omega (arith, h.0) in
      let own : 2 ^ e ≤ 2 * length k.pairs = rw (← same) h.1.0 in
      omega (arith, own, many e ks h.2, length-append k.pairs (all_pairs (λ (t : Tree R). t.pairs) ks))

  -- and no more than that depth allows each
  few : (e : ℕ) (ks : List (Tree R)) → AllBelow (e + 1) ks → length (all_pairs (λ k. k.pairs) ks) ≤ length ks * 16 ^ e
  few e [] h = omega arith
  few e (k ∷ ks) h =
      let same : k.depth ≡ e = omega (arith, h.0) in
      let own : length k.pairs ≤ 16 ^ e = rw (← same) h.1.1 in
      omega (arith, own, few e ks h.2, length-append k.pairs (all_pairs (λ (t : Tree R). t.pairs) ks))

  -- a node with branches is not of depth 0
  high : (d : ℕ) (ks : List (Tree R)) → AllBelow d ks → 2 ≤ length ks → d ≡ d - 1 + 1
  high d [] h some = absurd (omega (arith, some))
  high d (k ∷ ks) h some = omega (arith, h.0)

  pub bound_inner : (d : ℕ) (ks : List (Tree R)) → AllBelow d ks → 2 ≤ length ks → 2 ^ d ≤ 2 * length (all_pairs (λ k. k.pairs) ks)
  bound_inner d ks h some =
      let up : d ≡ d - 1 + 1 = high d ks h some in
      let all : length ks * 2 ^ (d - 1) ≤ 2 * length (all_pairs (λ (t : Tree R). t.pairs) ks) = many (d - 1) ks (subst (λ (m : ℕ). AllBelow m ks) up h) in
      let twice : 2 * 2 ^ (d - 1) ≤ length ks * 2 ^ (d - 1) = double (length ks) (2 ^ (d - 1)) some in
      let power : 2 ^ d ≡ 2 * 2 ^ (d - 1) = ap (λ (m : ℕ). 2 ^ m) up ∙ pow-more 2 (d - 1) in
      omega (arith, all, twice, power)

  wide_inner : (d : ℕ) (ks : List (Tree R)) → AllBelow d ks → 2 ≤ length ks → length ks ≤ 16 → length (all_pairs (λ k. k.pairs) ks) ≤ 16 ^ d
  wide_inner d ks h some most =
      let up : d ≡ d - 1 + 1 = high d ks h some in
      let all : length (all_pairs (λ (t : Tree R). t.pairs) ks) ≤ length ks * 16 ^ (d - 1) = few (d - 1) ks (subst (λ (m : ℕ). AllBelow m ks) up h) in
      let times : length ks * 16 ^ (d - 1) ≤ 16 * 16 ^ (d - 1) = few_times (length ks) (16 ^ (d - 1)) most in
      let power : 16 ^ d ≡ 16 * 16 ^ (d - 1) = ap (λ (m : ℕ). 16 ^ m) up ∙ pow-more 16 (d - 1) in
      omega (arith, all, times, power)

  pub deep_inner : (d : ℕ) (ks : List (Tree R)) → AllBelow d ks → 2 ≤ length ks → length ks ≤ 16 → IsDepthOf d (length (all_pairs (λ k. k.pairs) ks))
  deep_inner d ks h some most = (bound_inner d ks h some, wide_inner d ks h some most)

  pub deep : (d : ℕ) (node : Node R) → IsNode d node → IsDepthOf d (length (pairs_in node))
  deep d (Leaf ps) h = let one : d ≡ 1 = h.0 in rw one (omega (arith, h.1), omega (arith, h.2))
  deep d (Inner kids) h = deep_inner d kids.items h.0 h.1 h.2
