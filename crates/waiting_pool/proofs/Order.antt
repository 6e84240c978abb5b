-- The order of the queue tells places apart, and keeps those under one missing parent together.
use Rattle.std.proofs.Common.{◌≡◌, ℕ, ◌<◌, Bool, true, false, cond, Option, Some, None, refl, sym, ap, ◌∙◌, subst, arith}
use Rattle.std.specs.declared.cmp.Ordering.{Ordering}
use Rattle.std.specs.declared.cmp.Ordering.TheVariants.{Less, Equal, Greater}
use Rattle.std.specs.BTreeMap.{is_at}
use Rattle.std.specs.BTreeMap.Range.{IsLeBy}
use Rattle.std.specs.Cmp.{IsTotalOrder}
use Rattle.std.specs.Cmp.Lexicographic.{options_total}
use Rattle.std.specs.Option.{option_cmp, IfSome, IfNone}
use Rattle.std.specs.Ordering.{nat_cmp, ordering_then, ordering_reverse, is_eq, is_gt, MatchOrdering}
use Rattle.std.proofs.lemmas.Bool.{false≢true, false_from_ne_true}
use Rattle.std.proofs.lemmas.Cmp.{nat_cmp_total, on_total, then_total, tied_itself, ranked, eq_by_cmp_equiv}
use Rattle.std.proofs.lemmas.Map.Keys.{le_from_not_gt}
use Rattle.std.proofs.lemmas.Map.Lookups.{exact_unsigned}
use Rattle.ew_model.specs.declared.id.Id.{Id}
use Rattle.ew_model.specs.Ids.{id_cmp}
use Rattle.ew_model.proofs.GapLaws.{eq_from}
use Rattle.ew_model.proofs.PathOrder.{id_total, id_exact}
use Rattle.waiting_pool.specs.declared.waiter.Place.{Place}
use Rattle.waiting_pool.specs.Places.{place_cmp, same_missing, IsLeastFrom, IsFirstNumber}

pub missing_total : IsTotalOrder (option_cmp id_cmp)
missing_total = options_total id_total

pub place_total : IsTotalOrder place_cmp
place_total = then_total (on_total (λ (p : Place). p.missing) missing_total) (on_total (λ (p : Place). p.number) nat_cmp_total)

missing_exact : (a b : Option Id) → option_cmp id_cmp a b ≡ Equal → a ≡ b
missing_exact None None e = refl
missing_exact None (Some y) e = let no : ⊥ = cc in absurd no
missing_exact (Some x) None e = let no : ⊥ = cc in absurd no
missing_exact (Some x) (Some y) e = ap Some (id_exact x y e)

pub missing_same : (a b : Option Id) → same_missing a b ≡ true → a ≡ b
missing_same a b h = missing_exact a b (eq_from (option_cmp id_cmp a b) h)

pub missing_itself : (a : Option Id) → option_cmp id_cmp a a ≡ Equal
missing_itself a = tied_itself missing_total a

first_part : (r s : Ordering) → is_eq (ordering_then r s) ≡ true → (is_eq r ≡ true) × (is_eq s ≡ true)
first_part Less s h = absurd (false≢true h)
first_part Equal s h = (refl, h)
first_part Greater s h = absurd (false≢true h)

pub place_same : (p q : Place) → is_at (place_cmp p) q ≡ true → p ≡ q
place_same p q h =
    let parts = first_part (option_cmp id_cmp p.missing q.missing) (nat_cmp p.number q.number) h in
    let missing = missing_same p.missing q.missing parts.0 in
    let number = exact_unsigned p.number q.number (eq_from (nat_cmp p.number q.number) parts.1) in
    λ i. record { missing = missing i; number = number i }

pub missing_flip : (a b : Option Id) → same_missing a b ≡ same_missing b a
missing_flip a b = (eq_by_cmp_equiv missing_total).symm a b

not_after : (k : ℕ) → is_gt (nat_cmp 0 k) ≡ false
not_after k = at (nat_cmp 0 k) (ranked 0 k (nat_cmp 0 k) refl)
  where
    at : (r : Ordering) → MatchOrdering r (0 < k) (0 ≡ k) (k < 0) → is_gt r ≡ false
    at Less h = refl
    at Equal h = refl
    at Greater h = let no : ⊥ = omega arith in absurd no

first_of_two : (r s : Ordering) → is_gt (ordering_then r s) ≡ false → is_gt r ≡ false
first_of_two Less s h = refl
first_of_two Equal s h = refl
first_of_two Greater s h = h

tied_between : (r s : Ordering) → r ≡ ordering_reverse s → is_gt r ≡ false → is_gt s ≡ false → is_eq s ≡ true
tied_between r Less e h k = let no : false ≡ true = sym h ∙ ap is_gt e in absurd (false≢true no)
tied_between r Equal e h k = refl
tied_between r Greater e h k = absurd (false≢true (sym k))

module _ (queued : Place → Bool) (m : Option Id) where
  abbrev at_number : ℕ → Place
  at_number k = record { missing = m; number = k }

  -- every number under the missing parent stands behind the lowest
  from_zero : (k : ℕ) → IsLeBy place_cmp (at_number 0) (at_number k)
  from_zero k = ap (λ r. is_gt (ordering_then r (nat_cmp 0 k))) (missing_itself m) ∙ not_after k

  -- a place between two under one missing parent is under it too
  between : (p : Place) (k : ℕ) → IsLeBy place_cmp (at_number 0) p → IsLeBy place_cmp p (at_number k) → same_missing p.missing m ≡ true
  between p k h j =
      tied_between (option_cmp id_cmp m p.missing) (option_cmp id_cmp p.missing m) (missing_total.antisymm m p.missing)
      (first_of_two (option_cmp id_cmp m p.missing) (nat_cmp 0 p.number) h)
      (first_of_two (option_cmp id_cmp p.missing m) (nat_cmp p.number k) j)

  first_at : (p : Place) → p.missing ≡ m → IsLeastFrom queued (at_number 0) p → IsFirstNumber queued m p.number
  first_at p e least = record {
    there = ap queued (λ i. record { missing = sym e i; number = p.number }) ∙ least.there;
    lowest = λ k h.
        le_from_not_gt p.number k
        (ap (λ r. is_gt (ordering_then r (nat_cmp p.number k))) (sym (missing_itself m) ∙ ap (λ x. option_cmp id_cmp x m) (sym e)) ∙ least.lowest (at_number k) (from_zero k) h);
  }

  pub first_under : (p : Place) (r : Option ℕ) → IsLeastFrom queued (at_number 0) p → r ≡ cond (same_missing p.missing m) (Some p.number) None → IfSome r (λ n. IsFirstNumber queued m n)
  first_under p r least e = at (same_missing p.missing m) refl e
    where
      at : (b : Bool) → same_missing p.missing m ≡ b → r ≡ cond b (Some p.number) None → IfSome r (λ n. IsFirstNumber queued m n)
      at true h f = subst (λ o. IfSome o (λ n. IsFirstNumber queued m n)) (sym f) (first_at p (missing_same p.missing m h) least)
      at false h f = subst (λ o. IfSome o (λ n. IsFirstNumber queued m n)) (sym f) tt

  pub none_under : (p : Place) (r : Option ℕ) → IsLeastFrom queued (at_number 0) p → r ≡ cond (same_missing p.missing m) (Some p.number) None → IfNone r ((k : ℕ) → queued (at_number k) ≡ false)
  none_under p r least e = at (same_missing p.missing m) refl e
    where
      at : (b : Bool) → same_missing p.missing m ≡ b → r ≡ cond b (Some p.number) None → IfNone r ((k : ℕ) → queued (at_number k) ≡ false)
      at true h f = subst (λ o. IfNone o ((k : ℕ) → queued (at_number k) ≡ false)) (sym f) tt
      at false h f =
          subst (λ o. IfNone o ((k : ℕ) → queued (at_number k) ≡ false)) (sym f)
          (λ k. false_from_ne_true (queued (at_number k)) (λ t. false≢true (sym h ∙ between p k least.above (least.lowest (at_number k) (from_zero k) t))))

  pub none_queued : ((q : Place) → IsLeBy place_cmp (at_number 0) q → queued q ≡ false) → (k : ℕ) → queued (at_number k) ≡ false
  none_queued none k = none (at_number k) (from_zero k)
