-- The first link in a part of the map of links.
use Rattle.std.proofs.Common.{◌≡◌, ℕ, ◌<◌, ◌≤◌, List, [], ◌∷◌, Option, Some, None, IsSome, false, refl, sym, subst, arith}
use Rattle.std.specs.BTreeMap.{BTreeMap, get}
use Rattle.std.specs.BTreeMap.Range.{IsRangeOf}
use Rattle.std.specs.declared.ops.Bound.TheVariants.{Included, Excluded}
use Rattle.std.specs.declared.cmp.Ordering.TheVariants.{Less}
use Rattle.std.specs.Cmp.{nat_cmp_is}
use Rattle.std.specs.Ordering.{nat_cmp, is_gt}
use Rattle.std.proofs.lemmas.Cmp.{ranked}
use Rattle.std.proofs.lemmas.Map.Keys.{le_from_not_gt}
use Rattle.ew_model.proofs.ListTests.{le_not_gt}
use Rattle.fugue_place.specs.Ways.{IsFirstLink}

module _ (m : BTreeMap ℕ ℕ) (from to : ℕ) (r : List (ℕ × ℕ)) (is : IsRangeOf nat_cmp (Included from) (Excluded to) m r) where
  pub link_first : (k head : ℕ) (rest : List (ℕ × ℕ)) → r ≡ (k, head) ∷ rest → IsFirstLink (get nat_cmp m) from to (Some head)
  link_first k head rest e =
      let known = subst (IsRangeOf nat_cmp (Included from) (Excluded to) m) e is in
      let below : k < to = ranked k to Less (sym known.1.0.1) in (
        k,
        le_from_not_gt from k known.1.0.0,
        below,
        known.1.1,
        λ q above before. at q above before (get nat_cmp m q) refl (λ some. known.2 q (le_not_gt from q above, sym (nat_cmp_is q to Less (omega (arith, before, below)))) some),
      )
    where
      at : (q : ℕ) → from ≤ q → q < k → (o : Option ℕ) → get nat_cmp m q ≡ o → (IsSome (get nat_cmp m q) → is_gt (nat_cmp k q) ≡ false) → o ≡ None
      at q above before None f first = refl
      at q above before (Some x) f first =
          let low : k ≤ q = le_from_not_gt k q (first (subst (λ (o : Option ℕ). IsSome o) (sym f) refl)) in
          absurd (omega (arith, before, low))

  pub link_none : r ≡ [] → IsFirstLink (get nat_cmp m) from to None
  link_none e = λ k above below. is.5 e k (le_not_gt from k above, sym (nat_cmp_is k to Less below))
