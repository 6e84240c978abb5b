-- The last entry of a range of an ordered map.
use Rattle.std.proofs.Common.{◌≡◌, ℕ, List, [], ◌∷◌, ◌++◌}
use Rattle.std.specs.Ordering.{nat_cmp}
use Rattle.std.specs.BTreeMap.{BTreeMap, get}
use Rattle.std.specs.BTreeMap.Range.{IsRangeOf}
use Rattle.std.specs.declared.ops.Bound.TheVariants.{Included, Unbounded}
use Rattle.std.proofs.lemmas.Map.Keys.{le_from_not_gt, ge_from_not_lt}
use Rattle.ew_model.proofs.ListTests.{le_not_gt}
use Rattle.predecessor_map.specs.Labels.{IsLastIn}

-- the last entry of the range up to a number
pub last_of_range : (m : BTreeMap ℕ ℕ) (n : ℕ) (r rest : List (ℕ × ℕ)) (k label : ℕ) → IsRangeOf nat_cmp Unbounded (Included n) m r → r ≡ rest ++ (k, label) ∷ [] → IsLastIn (get nat_cmp m) n k label
last_of_range m n r rest k label h e =
    let here = h.3 (k, label) rest e in
    record {
      before = le_from_not_gt k n here.0.1;
      has = here.1;
      last = λ q le some. ge_from_not_lt k q (h.4 (k, label) rest e q (tt, le_not_gt q n le) some);
    }
