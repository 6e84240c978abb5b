-- Ways once one more place is added.
use Rattle.std.proofs.Common.{◌≡◌, ℕ, ◌+◌, ◌-◌, ◌<◌, ◌≤◌, ◌⊎◌, inl, inr, ⊎_elim, Option, Some, None, refl, sym, ap, ◌∙◌, subst, arith}
use Rattle.std.proofs.lemmas.Bool.{cases_eq, cases_lt}
use Rattle.std.proofs.lemmas.Option.{none-some, same_Some}
use Rattle.fugue_place.specs.Chains.{IsLedBy}
use Rattle.fugue_place.specs.Ways.{next_before, led_to, IsFirstLink}
use Rattle.fugue_place.proofs.ChainLaws.{before_last}
use Rattle.fugue_place.proofs.WayLaws.{AreStops, AreWays, way, way_link, way_next, way_last, no_link, first_same, first_longer, one_run}

module _ (n c : ℕ) (head stop : ℕ → ℕ) (link outer : ℕ → Option ℕ) (ways : AreWays n c head stop link outer) where
  -- the new place isn't linked
  none_past : (k : ℕ) → n ≤ k → link k ≡ None
  none_past k le = at (link k) refl
    where
      at : (o : Option ℕ) → link k ≡ o → o ≡ None
      at None e = refl
      at (Some r) e = let lt : k < n = (ways.links k r e).0 in absurd (omega arith)

  -- AN HEIR
  module _ (more : ℕ → ℕ) (stops : AreStops (n + 1) c head more) (longer : (k : ℕ) → k < n → (more k ≡ stop k) ⊎ ((stop k ≡ n) × (more k ≡ n + 1))) (new : more n ≡ n + 1) where
    pub heir_ways : AreWays (n + 1) c head more link outer
    heir_ways = record {
      stops = stops;
      links = λ k r e. let known = ways.links k r e in let lt : k < n = known.0 in (omega (arith, lt), known.1);
      firsts = λ r low.
          let lt : head r < n = ways.stops.heads r low in
          ⊎_elim
          (λ same. subst (λ (x : ℕ). IsFirstLink link (head r) x (outer r)) (sym same) (ways.firsts r low))
          (λ last.
          let old : stop (head r) ≡ n = last.0 in
          let now : more (head r) ≡ n + 1 = last.1 in
          first_longer link (head r) (stop (head r)) (more (head r)) (outer r) (omega (arith, old, now)) (λ k from to. none_past k (omega (arith, from, old))) (ways.firsts r low))
          (longer (head r) lt);
    }

    heir_last : way head more link n ≡ None
    heir_last = way_last head more link n (none_past n (omega arith)) (omega (arith, new))

    -- a place with another behind it is followed as before
    heir_others : (k : ℕ) → k < n → ((more k ≡ stop k) ⊎ (k + 1 < n)) → way head more link k ≡ way head stop link k
    heir_others k lt either =
        ⊎_elim
        (λ same. ap (λ (x : ℕ). led_to head (link k) (next_before x k)) same)
        (λ inner.
        ⊎_elim
        (λ same. ap (λ (x : ℕ). led_to head (link k) (next_before x k)) same)
        (λ last. at (link k) refl last.0 last.1 inner)
        (longer k lt))
        either
      where
        at : (o : Option ℕ) → link k ≡ o → stop k ≡ n → more k ≡ n + 1 → k + 1 < n → way head more link k ≡ way head stop link k
        at None e old now inner = way_next head more link k e (omega (arith, now, inner)) ∙ sym (way_next head stop link k e (omega (arith, old, inner)))
        at (Some r) e old now inner = way_link head more link k r e ∙ sym (way_link head stop link k r e)

    -- on the left the heir is alone
    pub heir_alone : ((k : ℕ) → k < n → more k ≡ stop k) → IsLedBy n (way head stop link) None (way head more link)
    heir_alone same = record {
      last = heir_last;
      leads = λ k e. absurd (none-some k e);
      others = λ k lt apart. heir_others k lt (inl (same k lt));
    }

    -- on the right it follows the newest one
    pub heir_led : 0 < n → way head stop link (n - 1) ≡ None → more (n - 1) ≡ n + 1 → IsLedBy n (way head stop link) (Some (n - 1)) (way head more link)
    heir_led some last grows = record {
      last = heir_last;
      leads = λ k e.
          let here : n - 1 ≡ k = same_Some (n - 1) k e in
          let next : n - 1 + 1 ≡ n = omega (arith, some) in
          ap (way head more link) (sym here) ∙ way_next head more link (n - 1) (no_link head stop link (n - 1) last) (omega (arith, some, grows)) ∙ ap (λ (x : ℕ). Some x) next;
      others = λ k lt apart.
          ⊎_elim
          (λ (inner : k + 1 < n). heir_others k lt (inr inner))
          (λ (high : n ≤ k + 1). let here : n - 1 ≡ k = omega (arith, some, lt, high) in absurd (apart (ap (λ (x : ℕ). Some x) here)))
          (cases_lt (k + 1) n);
    }

  -- A HEAD
  module _ (more_head more : ℕ → ℕ) (more_link more_outer : ℕ → Option ℕ) (stops : AreStops (n + 1) (c + 1) more_head more)
      (same_head : (r : ℕ) → r < c → more_head r ≡ head r) (new_head : more_head c ≡ n) (same : (k : ℕ) → k < n → more k ≡ stop k) (new : more n ≡ n + 1)
      (behind : Option ℕ) (early : (k : ℕ) → behind ≡ Some k → k < n) (leads : (k : ℕ) → behind ≡ Some k → more_link k ≡ Some c) (others : (k : ℕ) → (behind ≡ Some k → ⊥) → more_link k ≡ link k) where
    -- a place that isn't ahead of the new one isn't linked
    new_free : (k : ℕ) → n ≤ k → more_link k ≡ None
    new_free k le = others k (λ e. let lt : k < n = early k e in absurd (omega (arith, le, lt))) ∙ none_past k le

    pub head_links : (k r : ℕ) → more_link k ≡ Some r → (k < n + 1) × (r < c + 1)
    head_links k r e = at behind refl
      where
        old : link k ≡ Some r → (k < n + 1) × (r < c + 1)
        old f = let known = ways.links k r f in let lt : k < n = known.0 in let low : r < c = known.1 in (omega (arith, lt), omega (arith, low))

        at : (b : Option ℕ) → behind ≡ b → (k < n + 1) × (r < c + 1)
        at None f = old (sym (others k (λ some. none-some k (sym f ∙ some))) ∙ e)
        at (Some m) f =
            ⊎_elim
            (λ (here : m ≡ k).
            let it : behind ≡ Some k = f ∙ ap (λ (x : ℕ). Some x) here in
            let lt : k < n = early k it in
            let is : c ≡ r = same_Some c r (sym (leads k it) ∙ e) in
            (omega (arith, lt), omega (arith, is)))
            (λ apart. old (sym (others k (λ some. apart (same_Some m k (sym f ∙ some)))) ∙ e))
            (cases_eq m k)

    -- each place is followed as before, but for the one that the new place is put behind
    pub head_led : IsLedBy n (way head stop link) behind (way more_head more more_link)
    head_led = record {
      last = way_last more_head more more_link n (new_free n (omega arith)) (omega (arith, new));
      leads = λ k e. way_link more_head more more_link k c (leads k e) ∙ ap (λ (x : ℕ). Some x) new_head;
      others = λ k lt apart. at k lt (others k apart) (link k) refl;
    }
      where
        at : (k : ℕ) → k < n → more_link k ≡ link k → (o : Option ℕ) → link k ≡ o → way more_head more more_link k ≡ way head stop link k
        at k lt e None f = (λ i. led_to more_head ((e ∙ f) i) (next_before (same k lt i) k)) ∙ sym (ap (λ (o : Option ℕ). led_to head o (next_before (stop k) k)) f)
        at k lt e (Some r) f = way_link more_head more more_link k r (e ∙ f) ∙ ap (λ (x : ℕ). Some x) (same_head r (ways.links k r f).1) ∙ sym (way_link head stop link k r f)

    module _ (at : Option ℕ) (added : IsLedBy c outer at more_outer)
        (some : (r : ℕ) → at ≡ Some r → (k : ℕ) × (behind ≡ Some k) × (r < c) × (head r ≤ k) × (k < stop (head r)) × IsFirstLink more_link (head r) k None)
        (none : at ≡ None → (k r : ℕ) → behind ≡ Some k → r < c → head r ≤ k → k < stop (head r) → (s : ℕ) × IsFirstLink more_link (head r) k (Some s)) where
      module _ (r : ℕ) (low : r < c) where
        abbrev IsFirstNow : Option ℕ → Type 0
        IsFirstNow o = IsFirstLink more_link (head r) (stop (head r)) o

        old_first : IsFirstLink link (head r) (stop (head r)) (outer r)
        old_first = ways.firsts r low

        -- the place behind which the new one is put isn't in this run
        elsewhere : ((k : ℕ) → behind ≡ Some k → head r ≤ k → k < stop (head r) → ⊥) → IsFirstNow (more_outer r)
        elsewhere out =
            subst IsFirstNow
            (sym (added.others r low (λ e. let it = some r e in out it.0 it.1 it.3 it.4)))
            (first_same link more_link (head r) (stop (head r)) (outer r) (λ k from to. others k (λ e. out k e from to)) old_first)

        module _ (k : ℕ) (e : behind ≡ Some k) (from : head r ≤ k) (to : k < stop (head r)) where
          not_behind : (m : ℕ) → m < k → behind ≡ Some m → ⊥
          not_behind m lt f = let is : k ≡ m = same_Some k m (sym e ∙ f) in absurd (omega (arith, lt, is))

          -- the place is the first that is linked now
          leading : at ≡ Some r → IsFirstNow (more_outer r)
          leading f =
              let it = some r f in
              let is : k ≡ it.0 = same_Some k it.0 (sym e ∙ it.1) in
              subst IsFirstNow (sym (added.leads r f)) (k, from, to, leads k e, λ m le lt. it.5 m le (omega (arith, lt, is)))

          -- another one ahead of it is linked
          behind_first : (s : ℕ) → IsFirstLink more_link (head r) k (Some s) → (o : Option ℕ) → outer r ≡ o → IsFirstNow o
          behind_first s ahead None f =
              let before : ahead.0 < k = ahead.2 in
              let old : link ahead.0 ≡ Some s = sym (others ahead.0 (not_behind ahead.0 before)) ∙ ahead.3 in
              absurd (none-some s (sym (subst (IsFirstLink link (head r) (stop (head r))) f old_first ahead.0 ahead.1 (omega (arith, before, to))) ∙ old))
          behind_first s ahead (Some j) f =
              let first = subst (IsFirstLink link (head r) (stop (head r))) f old_first in
              let before : ahead.0 < k = ahead.2 in
              let old : link ahead.0 ≡ Some s = sym (others ahead.0 (not_behind ahead.0 before)) ∙ ahead.3 in
              ⊎_elim
              (λ (late : ahead.0 < first.0). absurd (none-some s (sym (first.4 ahead.0 ahead.1 late) ∙ old)))
              (λ (soon : first.0 ≤ ahead.0).
              let under : first.0 < k = omega (arith, soon, before) in (
                first.0,
                first.1,
                first.2,
                others first.0 (not_behind first.0 under) ∙ first.3,
                λ m le lt. others m (not_behind m (omega (arith, lt, under))) ∙ first.4 m le lt,
              ))
              (cases_lt ahead.0 first.0)

          inside : (o : Option ℕ) → at ≡ o → IsFirstNow (more_outer r)
          inside None f =
              let it = none f k r e low from to in
              subst IsFirstNow (sym (added.others r low (λ g. none-some r (sym f ∙ g)))) (behind_first it.0 it.1 (outer r) refl)
          inside (Some s) f =
              let it = some s f in
              let is : k ≡ it.0 = same_Some k it.0 (sym e ∙ it.1) in
              let lower : head s ≤ it.0 = it.3 in
              let upper : it.0 < stop (head s) = it.4 in
              let one : s ≡ r = one_run n c head stop ways.stops k s r it.2 low (omega (arith, lower, is)) (omega (arith, upper, is)) from to in
              leading (f ∙ ap (λ (x : ℕ). Some x) one)

        still_first : IsFirstNow (more_outer r)
        still_first = by behind refl
          where
            by : (b : Option ℕ) → behind ≡ b → IsFirstNow (more_outer r)
            by None e = elsewhere (λ k f from to. none-some k (sym e ∙ f))
            by (Some k) e =
                ⊎_elim
                (λ (out : k < head r). elsewhere (λ m f from to. let is : k ≡ m = same_Some k m (sym e ∙ f) in absurd (omega (arith, is, out, from))))
                (λ (from : head r ≤ k).
                ⊎_elim
                (λ (to : k < stop (head r)). inside k e from to at refl)
                (λ (out : stop (head r) ≤ k). elsewhere (λ m f low to. let is : k ≡ m = same_Some k m (sym e ∙ f) in absurd (omega (arith, is, out, to))))
                (cases_lt k (stop (head r))))
                (cases_lt k (head r))

      firsts : (r : ℕ) → r < c + 1 → IsFirstLink more_link (more_head r) (more (more_head r)) (more_outer r)
      firsts r lt =
          ⊎_elim
          (λ low.
          let head_same = same_head r low in
          let stop_same = ap more head_same ∙ same (head r) (ways.stops.heads r low) in
          subst (λ (x : ℕ). IsFirstLink more_link x (more (more_head r)) (more_outer r)) (sym head_same)
          (subst (λ (x : ℕ). IsFirstLink more_link (head r) x (more_outer r)) (sym stop_same) (still_first r low)))
          (λ (here : r ≡ c).
          let place : more_head r ≡ n = ap more_head here ∙ new_head in
          subst (λ (o : Option ℕ). IsFirstLink more_link (more_head r) (more (more_head r)) o) (sym (ap more_outer here ∙ added.last)) (λ k from to. new_free k (omega (arith, from, place))))
          (before_last r c lt)

      pub head_ways : AreWays (n + 1) (c + 1) more_head more more_link more_outer
      head_ways = record { stops = stops; links = head_links; firsts = firsts }
