-- What an edit of a branch leaves.
use Rattle.std.proofs.Common.{◌≡◌, ℕ, ◌+◌, ◌^◌, ◌<◌, ◌≤◌, true, false, Bool, nat_lt, if◌then◌else◌, Option, Some, None, List, [], ◌∷◌, zero, suc, length, slice_set, slice_index_or, arith, refl, ap, ◌∙◌}
use Rattle.std.specs.Prelude.{is_some, Result, Ok, Err, IfOk, OnErr, IsErr}
use Rattle.std.proofs.lemmas.Bool.{false≢true}
use Rattle.std.specs.declared.vec.Vec.{Vec}
use Rattle.std.specs.declared.alloc.Global.{Global}
use Rattle.order_tree.specs.Pairs.{Tree, IsDepthOf}
use Rattle.order_tree.specs.Blocks.{IsHalved}
use Rattle.order_tree.specs.Shape.{AllBelow}
use Rattle.order_tree.specs.Rights.{IsLeft, above_kids}

module _ {R : Type 0} where
  pub halved_enough : (above spares : ℕ) (left : List (ℕ × R)) (tail : Option (Vec (ℕ × R) Global)) → IsHalved above left tail spares → IsDepthOf 1 (length left)
  halved_enough above spares left None h = (omega (arith, h.0), omega (arith, h.1))
  halved_enough above spares left (Some b) h = (omega (arith, h.0), omega (arith, h.1))

  pub halved_left : (above spares : ℕ) (left : List (ℕ × R)) (tail : Option (Vec (ℕ × R) Global)) (right : Option (Tree R)) → is_some right ≡ is_some tail → IsHalved above left tail spares → IsLeft above right spares
  halved_left above spares left None None e h = h.2
  halved_left above spares left None (Some t) e h = absurd (cc)
  halved_left above spares left (Some b) None e h = absurd (cc)
  halved_left above spares left (Some b) (Some t) e h = h.5

  pub same_tree : (s t : Tree R) → s.pairs ≡ t.pairs → s.depth ≡ t.depth → s ≡ t
  same_tree s t p d = ap (λ (ps : List (ℕ × R)). let u : Tree R = record { pairs = ps; depth = s.depth } in u) p ∙ ap (λ (n : ℕ). let u : Tree R = record { pairs = t.pairs; depth = n } in u) d

  pub set_same : (ks : List (Tree R)) (k : ℕ) (w kid : Tree R) → kid ≡ slice_index_or ks k kid → w ≡ kid → slice_set ks k w ≡ ks
  set_same [] k w kid is same = refl
  set_same (x ∷ xs) zero w kid is same = ap (λ (y : Tree R). y ∷ xs) (same ∙ is)
  set_same (x ∷ xs) (suc k) w kid is same = ap (λ (ys : List (Tree R)). x ∷ ys) (set_same xs k w kid is same)

  pub is_deep : (d : ℕ) (ks : List (Tree R)) → AllBelow d ks → 0 < length ks → 1 ≤ d
  is_deep d [] h some = absurd (omega (arith, some))
  is_deep d (k ∷ ks) h some = omega (arith, h.0)

-- a way down to a branch that is one level lower needs no more blocks than it may
pub below_above : (many above next low d : ℕ) → next ≡ above_kids many above → low + 1 ≡ d → above + d < 2 ^ 32 → next + low < 2 ^ 32
below_above many above next low d is lower fits = omega (arith, is, lower, fits, at_most many above)
  where
    pick : (b : Bool) (x y : ℕ) → (if b then x else y) ≤ x + y
    pick true x y = omega arith
    pick false x y = omega arith

    at_most : (many above : ℕ) → above_kids many above ≤ above + 1
    at_most many above = omega (arith, pick (nat_lt many 16) 0 (above + 1))

-- what is said of an answer that is an error
pub if_ok : {T E : Type 0} (r : Result T E) (P : T → Type 0) → IsErr r → IfOk r P
if_ok (Ok x) P h = absurd (false≢true h)
if_ok (Err e) P h = tt

pub on_err : {T E : Type 0} (r : Result T E) (X : Type 0) → IsErr r → X → OnErr r X
on_err (Ok x) X h said = tt
on_err (Err e) X h said = said
