use Rattle.std.proofs.Common.{◌≡◌, ℕ, suc, ◌+◌, ◌-◌, ◌*◌, ◌%◌, ◌≤◌, ◌<◌, ◌^◌, ◌⊎◌, inl, inr, ⊎_elim, Bool, true, false, List, [], ◌∷◌, length, slice_index_or, Bor, arith, of_calls, refl, sym, ap, subst, ◌∙◌}
use Rattle.std.specs.Fn.{Called, Mut, ComputesKey}
use Rattle.std.specs.List.{AllWithin}
use Rattle.std.specs.List.Sorted.{IsPartitionedBy}
use Rattle.std.specs.Int.{from_bool}
use Rattle.std.proofs.Math.Nat.{pow-suc, one-le-pow}
use Rattle.std.proofs.lemmas.Bool.{false≢true, false_from_ne_true}
use Rattle.std.proofs.lemmas.List.{get_or_default}
use Rattle.std.proofs.lemmas.Nat.{one_shl}
use Rattle.sorted_search.proofs.count_passing.Goals.{then-passes, else-passes}
use Rattle.sorted_search.proofs.count_passing.Goals as goal

-- what a call answers is what the key gives, and so of later calls
answers : {F X : Type 0} (g : Mut F (Bor X × Unit {0}) Bool) (p : X → Bool) (f : F) (a : Bor X × Unit {0}) (r : Bool) (next : F) → Called g f a r next → ComputesKey g p f → (r ≡ p a.0.now) × ComputesKey g p next
answers g p f a r next call h = ((h.at (a ∷ []) r next call).0, record { at = λ xs. (h.at (a ∷ xs) r next call).1 })

-- a power of two is twice the one below it
double : (n : ℕ) → 0 < n → 2 ^ (n - 1) + 2 ^ (n - 1) ≡ 2 ^ n
double n some =
    let next : suc (n - 1) ≡ n = omega (arith, some) in
    subst (λ (k : ℕ). 2 ^ (n - 1) + 2 ^ (n - 1) ≡ 2 ^ k) next (omega (arith, pow-suc 2 (n - 1)))

-- where the search goes on: behind a half that passes, or at the same place
onward : (b : Bool) (more shift low : ℕ) → shift < 64 → more ≡ from_bool b
    → ((low + (more * 2 ^ shift) % 18446744073709551616 ≡ low + 2 ^ shift) × (b ≡ true)) ⊎ ((low + (more * 2 ^ shift) % 18446744073709551616 ≡ low) × (b ≡ false))
onward true more shift low few is =
    let one : more ≡ 1 = is in
    inl (ap (λ (n : ℕ). low + n) (ap (λ (m : ℕ). (m * 2 ^ shift) % 18446744073709551616) one ∙ one_shl shift 64 few), refl)
onward false more shift low few is =
    let none : more ≡ 0 = is in
    let product : more * 2 ^ shift ≡ 0 = ap (λ (m : ℕ). m * 2 ^ shift) none ∙ omega arith in
    inr (omega (arith, ap (λ (n : ℕ). n % 18446744073709551616) product), refl)

module _ {X : Type 0} (p : X → Bool) (xs : List X) where
  -- the place that is sought is the first of so many, or one of those behind it
  abbrev IsAround : ℕ → ℕ → Type 0
  IsAround low width = AllWithin (λ y. p y ≡ true) xs 0 low × AllWithin (λ y. p y ≡ false) xs (low + width - 1) (length xs)

  front_passes : (m : ℕ) (x : X) → m < length xs → x ≡ slice_index_or xs m x → p x ≡ true → IsPartitionedBy p xs → AllWithin (λ y. p y ≡ true) xs 0 (m + 1)
  front_passes m x lt is holds first = λ k d a b. first k m d (omega (arith, b)) lt (ap p (sym (is ∙ get_or_default xs m x d lt)) ∙ holds)

  rest_fails : (m : ℕ) (x : X) → m < length xs → x ≡ slice_index_or xs m x → p x ≡ false → IsPartitionedBy p xs → AllWithin (λ y. p y ≡ false) xs m (length xs)
  rest_fails m x lt is fails first = λ k d a b. false_from_ne_true (p (slice_index_or xs k d))
      (λ t. false≢true (sym (ap p (sym (is ∙ get_or_default xs m x d lt)) ∙ fails) ∙ first m k d a b t))

  begun_behind : (most : ℕ) (x : X) → 0 < most → most ≤ length xs → length xs < most + most → x ≡ slice_index_or xs (most - 1) x → p x ≡ true → IsPartitionedBy p xs → IsAround (length xs - (most - 1)) most
  begun_behind most x some le wide is holds first =
      let front = front_passes (most - 1) x (omega (arith, some, le)) is holds first in
      (λ k d a b. front k d a (omega (arith, b, some, wide, le)), λ k d a b. absurd (omega (arith, a, b, some, le)))

  begun_ahead : (most : ℕ) (x : X) → 0 < most → most ≤ length xs → x ≡ slice_index_or xs (most - 1) x → p x ≡ false → IsPartitionedBy p xs → IsAround 0 most
  begun_ahead most x some le is fails first =
      let rest = rest_fails (most - 1) x (omega (arith, some, le)) is fails first in
      (λ k d a b. absurd (omega (arith, b)), λ k d a b. rest k d (omega (arith, a)) b)

  begun_at : (most low : ℕ) (x : X) → 0 < most → most ≤ length xs → length xs < most + most → x ≡ slice_index_or xs (most - 1) x
      → ((low ≡ length xs - (most - 1)) × (p x ≡ true)) ⊎ ((low ≡ 0) × (p x ≡ false)) → IsPartitionedBy p xs → IsAround low most
  begun_at most low x some le wide is way first =
      ⊎_elim (λ w. subst (λ (n : ℕ). IsAround n most) (sym w.0) (begun_behind most x some le wide is w.1 first)) (λ w. subst (λ (n : ℕ). IsAround n most) (sym w.0) (begun_ahead most x some le is w.1 first)) way

  halved : (low width half next at : ℕ) (x : X) → half + half ≡ width → 0 < half → low + width ≤ length xs + 1 → at ≡ low + half - 1 → x ≡ slice_index_or xs at x
      → ((next ≡ low + half) × (p x ≡ true)) ⊎ ((next ≡ low) × (p x ≡ false)) → IsPartitionedBy p xs → IsAround low width → IsAround next half
  halved low width half next at x two some within place is way first so_far = ⊎_elim (λ w. behind w.0 w.1) (λ w. ahead w.0 w.1) way
    where
      lt : at < length xs
      lt = omega (arith, two, some, within, place)

      behind : next ≡ low + half → p x ≡ true → IsAround next half
      behind e holds =
          let front = front_passes at x lt is holds first in
          (λ k d a b. front k d a (omega (arith, b, e, some, place)), λ k d a b. so_far.1 k d (omega (arith, a, e, two, some)) b)

      ahead : next ≡ low → p x ≡ false → IsAround next half
      ahead e fails =
          let rest = rest_fails at x lt is fails first in
          (λ k d a b. so_far.0 k d a (omega (arith, b, e)), λ k d a b. rest k d (omega (arith, a, e, place)) b)

pub loop-shift-init : goal.loop-shift-init
loop-shift-init g c =
    let xs = c.args.items.now in
    let shift = c.ilog2-shift.result in
    let most = (1 * 2 ^ shift) % 18446744073709551616 in
    let power : most ≡ 2 ^ shift = one_shl shift 64 c.ilog2-shift.ensures.bound in
    let some : 0 < most = omega (arith, power, one-le-pow shift 2 (omega arith)) in
    let le : most ≤ length xs = omega (arith, power, c.ilog2-shift.ensures.power_le) in
    let wide : length xs < most + most = omega (arith, power, c.ilog2-shift.ensures.next_power_gt) in
    let low = c.if-passes.low in
    let either : ((low ≡ length xs - (most - 1)) × (c.passes.result ≡ true)) ⊎ ((low ≡ 0) × (c.passes.result ≡ false)) = elim c.if-passes.branch [ then-passes w ↦ inl (w.low-is, w.if-passes.true) | else-passes w ↦ inr (w.low-is, w.if-passes.false) ] in
    record {
      callable = search of_calls;
      few = c.ilog2-shift.ensures.bound;
      within = ⊎_elim (λ w. omega (arith, w.0, le, some, power)) (λ w. omega (arith, w.0, le, power)) either;
      known = λ p h.
          let now = answers g.P.FnMut p _ _ _ _ c.passes.ensures h in
          let told = ⊎_elim (λ w. inl (w.0, sym now.0 ∙ w.1)) (λ w. inr (w.0, sym now.0 ∙ w.1)) either in
          (now.1, λ first. subst (λ (n : ℕ). IsAround p xs low n) power (begun_at p xs most low c.index-items-most.result some le wide c.index-items-most.is told first));
    }

pub loop-shift-preserved : goal.loop-shift-preserved
loop-shift-preserved g c =
    let xs = c.args.items.now in
    let shift = c.loop-shift.shift in
    let low = c.loop-shift.low in
    let two = double shift c.loop-shift-test.true in
    let some : 0 < 2 ^ (shift - 1) = one-le-pow (shift - 1) 2 (omega arith) in
    let within = c.loop-shift.invariant.within in
    let few : shift - 1 < 64 = omega (arith, c.loop-shift.invariant.few) in
    let power : (1 * 2 ^ (shift - 1)) % 18446744073709551616 ≡ 2 ^ (shift - 1) = one_shl (shift - 1) 64 few in
    let place : low + (1 * 2 ^ (shift - 1)) % 18446744073709551616 - 1 ≡ low + 2 ^ (shift - 1) - 1 = omega (arith, power) in
    let way = onward c.passes-in-loop-shift.result c.from-more.result (shift - 1) low few c.from-more.ensures in
    record {
      callable = search of_calls;
      few = few;
      within = ⊎_elim (λ w. omega (arith, w.0, two, within)) (λ w. omega (arith, w.0, two, within)) way;
      known = λ p h.
          let so_far = c.loop-shift.invariant.known p h in
          let now = answers g.P.FnMut p _ _ _ _ c.passes-in-loop-shift.ensures so_far.0 in
          let told = ⊎_elim (λ w. inl (w.0, sym now.0 ∙ w.1)) (λ w. inr (w.0, sym now.0 ∙ w.1)) way in
          (now.1, λ first. halved p xs low (2 ^ shift) (2 ^ (shift - 1)) _ _ c.index-items-low.result two some within place c.index-items-low.is told first (so_far.1 first));
    }

pub returns-clause-partitioned : goal.returns-clause-partitioned
returns-clause-partitioned g c = λ p h first.
    let end : c.loop-shift.shift ≡ 0 = omega (arith, c.loop-shift-test.false) in
    let so_far = (c.loop-shift.invariant.known p h).1 first in
    let one : 2 ^ c.loop-shift.shift ≡ 1 = ap (λ (n : ℕ). 2 ^ n) end in
    (so_far.0, λ k d a b. so_far.1 k d (omega (arith, a, one)) b)
