-- Where chains end, and how a new place leads them on.
use Rattle.std.proofs.Common.{◌≡◌, ℕ, zero, suc, ◌+◌, ◌<◌, ◌≤◌, ◌⊎◌, inl, inr, ⊎_elim, Option, Some, None, refl, sym, ap, ◌∙◌, subst, arith}
use Rattle.std.proofs.lemmas.Bool.{cases_order, cases_eq}
use Rattle.std.proofs.lemmas.Option.{none-some, same_Some}
use Rattle.fugue_place.specs.Chains.{IsStep, AreChains, Leads, IsEndOf, IsOuterRenumbered, IsInnerRenumbered}

pub before_last : (k n : ℕ) → k < n + 1 → (k < n) ⊎ (k ≡ n)
before_last k n lt = ⊎_elim (λ e. inr e) (λ r. ⊎_elim (λ low. inl low) (λ high. absurd (omega arith)) r) (cases_order k n)

-- the numbers, while those that follow `at` get the number n, up to `last`
pub record IsOuterPart (n : ℕ) (outer : ℕ → Option ℕ) (number : ℕ → ℕ) (at : ℕ) (new : ℕ → ℕ) (last : ℕ) : Type 0 where
  pub early : last < n
  pub from : at ≤ last
  pub one : number last ≡ number at
  pub marked : (last ≡ at) ⊎ (new last ≡ n)
  pub steps : (k j : ℕ) → k < n → outer k ≡ Some j → (k ≡ at → ⊥) → (k ≡ last → ⊥) → new j ≡ new k
  pub each : (k : ℕ) → k < n → (new k ≡ number k) ⊎ ((new k ≡ n) × (number k ≡ number at) × (at < k))
  pub newest : new n ≡ number n

-- the numbers, while `at` and those that it follows get the number n, down to `first`
pub record IsInnerPart (n : ℕ) (outer : ℕ → Option ℕ) (number : ℕ → ℕ) (at : ℕ) (new : ℕ → ℕ) (first : ℕ) : Type 0 where
  pub to : first ≤ at
  pub marked : new first ≡ n
  pub itself : new at ≡ n
  pub steps : (k j : ℕ) → k < n → outer k ≡ Some j → (k ≡ at → ⊥) → (j ≡ first → ⊥) → new j ≡ new k
  pub each : (k : ℕ) → k < n → (new k ≡ number k) ⊎ ((new k ≡ n) × (outer k ≡ None → k ≡ at))
  pub newest : new n ≡ number n

module _ (n : ℕ) (outer inner : ℕ → Option ℕ) (number end : ℕ → ℕ) (chains : AreChains n outer inner number end) where
  -- THE END
  -- the end that is kept for a chain's number is its end, from each place of it
  end_from : (d k : ℕ) → k < n → n ≤ k + d → IsEndOf outer k (end (number k)) × (end (number k) < n)
  end_from zero k lt le = absurd (omega arith)
  end_from (suc d) k lt le = at (outer k) refl (λ j later within. end_from d j within (omega arith))
    where
      at : (o : Option ℕ) → outer k ≡ o → ((j : ℕ) → k < j → j < n → IsEndOf outer j (end (number j)) × (end (number j) < n)) → IsEndOf outer k (end (number k)) × (end (number k) < n)
      at None e further = let same = chains.ends k lt e in ((zero, (e, sym same)), subst (λ (x : ℕ). x < n) (sym same) lt)
      at (Some j) e further =
          let s = chains.step k j lt e in
          let rest = further j s.later s.within in
          let same : end (number j) ≡ end (number k) = ap end s.number in
          ((suc rest.0.0, (j, e, subst (λ (x : ℕ). Leads outer rest.0.0 j x) same rest.0.1)), subst (λ (x : ℕ). x < n) same rest.1)

  pub chain_end : (k : ℕ) → k < n → IsEndOf outer k (end (number k)) × (end (number k) < n)
  chain_end k lt = end_from n k lt (omega arith)

  -- two that follow, or are followed by, one place are one
  pub one_leader : (k j m : ℕ) → k < n → m < n → outer k ≡ Some j → outer m ≡ Some j → k ≡ m
  one_leader k j m lk lm e f = same_Some k m (sym (chains.step k j lk e).inner ∙ (chains.step m j lm f).inner)

  module _ (at : ℕ) (low : at < n) where
    -- THE OUTER PART
    pub outer_begins : IsOuterPart n outer number at number at
    outer_begins = record {
      early = low;
      from = omega arith;
      one = refl;
      marked = inl refl;
      steps = λ k j lt e apart other. (chains.step k j lt e).number;
      each = λ k lt. inl refl;
      newest = refl;
    }

    pub outer_goes_on : (new more : ℕ → ℕ) (last next : ℕ) → IsOuterPart n outer number at new last → outer last ≡ Some next → more next ≡ n → ((k : ℕ) → (k ≡ next → ⊥) → more k ≡ new k) → IsOuterPart n outer number at more next
    outer_goes_on new more last next part e marked others =
        let from : at ≤ last = part.from in
        let step = chains.step last next part.early e in
        let later : last < next = step.later in
        let within : next < n = step.within in
        record {
          early = within;
          from = omega arith;
          one = step.number ∙ part.one;
          marked = inr marked;
          steps = λ k j lt f apart other.
              ⊎_elim
              (λ (here : j ≡ next).
              let same : k ≡ last = one_leader k next last lt part.early (f ∙ ap (λ (x : ℕ). Some x) here) e in
              ap more here ∙ marked
              ∙ sym (others k other ∙ ap new same ∙ ⊎_elim (λ start. absurd (apart (same ∙ start))) (λ done. done) part.marked))
              (λ elsewhere.
              others j elsewhere
              ∙ part.steps k j lt f apart (λ same. elsewhere (same_Some j next (sym f ∙ ap outer same ∙ e)))
              ∙ sym (others k other))
              (cases_eq j next);
          each = λ k lt.
              ⊎_elim
              (λ (here : k ≡ next). inr (ap more here ∙ marked, ap number here ∙ step.number ∙ part.one, omega arith))
              (λ elsewhere. ⊎_elim (λ old. inl (others k elsewhere ∙ old)) (λ moved. inr (others k elsewhere ∙ moved.0, moved.1, moved.2)) (part.each k lt))
              (cases_eq k next);
          newest = others n (λ same. absurd (omega arith)) ∙ part.newest;
        }

    -- the number of `at` stays
    pub outer_stays : (new : ℕ → ℕ) → IsOuterRenumbered n outer number new at → new at ≡ number at
    outer_stays new renumbered = ⊎_elim (λ kept. kept) (λ moved. let no : at < at = moved.2 in absurd (omega arith)) (renumbered.each at low)

    -- where nothing follows `at`, there is none to renumber
    pub none_renumbered : outer at ≡ None → IsOuterRenumbered n outer number number at
    none_renumbered last = record {
      steps = λ k j lt e apart. (chains.step k j lt e).number;
      each = λ k lt. inl refl;
      end = λ k lt e one apart. absurd (apart (sym (chains.ends k lt e) ∙ ap end one ∙ chains.ends at low last));
      newest = refl;
    }

    -- THE INNER PART
    pub inner_begins : (new : ℕ → ℕ) → new at ≡ n → ((k : ℕ) → (k ≡ at → ⊥) → new k ≡ number k) → IsInnerPart n outer number at new at
    inner_begins new marked others = record {
      to = omega arith;
      marked = marked;
      itself = marked;
      steps = λ k j lt e apart other. others j other ∙ (chains.step k j lt e).number ∙ sym (others k apart);
      each = λ k lt. ⊎_elim (λ (here : k ≡ at). inr (ap new here ∙ marked, λ none. here)) (λ elsewhere. inl (others k elsewhere)) (cases_eq k at);
      newest = others n (λ same. absurd (omega arith));
    }

    pub inner_goes_on : (new more : ℕ → ℕ) (first next : ℕ) → IsInnerPart n outer number at new first → next < n → outer next ≡ Some first → more next ≡ n → ((k : ℕ) → (k ≡ next → ⊥) → more k ≡ new k) → IsInnerPart n outer number at more next
    inner_goes_on new more first next part lt e marked others =
        let to : first ≤ at = part.to in
        let earlier : next < first = (chains.step next first lt e).later in
        record {
          to = omega arith;
          marked = marked;
          itself = others at (λ same. absurd (omega arith)) ∙ part.itself;
          steps = λ k j lk f apart other.
              ⊎_elim
              (λ (here : j ≡ first).
              let same : k ≡ next = one_leader k first next lk lt (f ∙ ap (λ (x : ℕ). Some x) here) e in
              others j other ∙ ap new here ∙ part.marked ∙ sym (ap more same ∙ marked))
              (λ elsewhere.
              others j other
              ∙ part.steps k j lk f apart elsewhere
              ∙ sym (others k (λ same. elsewhere (same_Some j first (sym f ∙ ap outer same ∙ e)))))
              (cases_eq j first);
          each = λ k lk.
              ⊎_elim
              (λ (here : k ≡ next). inr (ap more here ∙ marked, λ none. absurd (none-some first (sym none ∙ ap outer here ∙ e))))
              (λ elsewhere. ⊎_elim (λ old. inl (others k elsewhere ∙ old)) (λ moved. inr (others k elsewhere ∙ moved.0, moved.1)) (part.each k lk))
              (cases_eq k next);
          newest = others n (λ same. absurd (omega arith)) ∙ part.newest;
        }

    -- ONE MORE PLACE
    -- n follows `at` now, and nothing follows n
    pub record IsAdded (more : ℕ → Option ℕ) : Type 0 where
      pub leads : more at ≡ Some n
      pub last : more n ≡ None
      pub others : (k : ℕ) → k < n → (k ≡ at → ⊥) → more k ≡ outer k

    module _ (more : ℕ → Option ℕ) (added : IsAdded more) (behind : inner n ≡ Some at) where
      -- what follows another place than `at` did so before
      old_step : (k j : ℕ) → k < n + 1 → (k ≡ at → ⊥) → more k ≡ Some j → (k < n) × (outer k ≡ Some j)
      old_step k j lt apart e =
          ⊎_elim
          (λ early. (early, sym (added.others k early apart) ∙ e))
          (λ here. absurd (none-some j (sym added.last ∙ ap more (sym here) ∙ e)))
          (before_last k n lt)

      -- and is the new one behind `at`
      new_step : (k j : ℕ) → k ≡ at → more k ≡ Some j → n ≡ j
      new_step k j same e = same_Some n j (sym added.leads ∙ ap more (sym same) ∙ e)

      still_inward : (j k : ℕ) → j < n + 1 → inner j ≡ Some k → k < j
      still_inward j k lt e =
          ⊎_elim
          (λ early. chains.inward j k early e)
          (λ here. let same : at ≡ k = same_Some at k (sym behind ∙ ap inner (sym here) ∙ e) in omega arith)
          (before_last j n lt)

      -- an old end isn't `at`
      not_at : (k : ℕ) → more k ≡ None → k ≡ at → ⊥
      not_at k e same = none-some n (sym e ∙ ap more same ∙ added.leads)

      pub inner_led : (new : ℕ → ℕ) → IsInnerRenumbered n outer number new at → number n ≡ n → end n ≡ n → AreChains (n + 1) more inner new end
      inner_led new renumbered own last = record {
        step = λ k j lt e.
            ⊎_elim
            (λ (same : k ≡ at).
            subst (λ (i : ℕ). IsStep (n + 1) inner new k i) (new_step k j same e) (record {
              later = omega arith;
              within = omega arith;
              inner = behind ∙ ap (λ (x : ℕ). Some x) (sym same);
              number = renumbered.newest ∙ own ∙ sym renumbered.itself ∙ ap new (sym same);
            }))
            (λ apart.
            let old = old_step k j lt apart e in
            let s = chains.step k j old.0 old.1 in
            let within : j < n = s.within in
            record { later = s.later; within = omega arith; inner = s.inner; number = renumbered.steps k j old.0 old.1 apart })
            (cases_eq k at);
        inward = still_inward;
        known = λ k lt.
            ⊎_elim
            (λ early.
            ⊎_elim
            (λ (kept : new k ≡ number k). let low : number k < n = chains.known k early in omega arith)
            (λ moved. let is : new k ≡ n = moved.0 in omega arith)
            (renumbered.each k early))
            (λ (here : k ≡ n). let is : new k ≡ n = ap new here ∙ renumbered.newest ∙ own in omega arith)
            (before_last k n lt);
        ends = λ k lt e.
            ⊎_elim
            (λ early.
            let none : outer k ≡ None = sym (added.others k early (not_at k e)) ∙ e in
            ⊎_elim
            (λ kept. ap end kept ∙ chains.ends k early none)
            (λ moved. absurd (not_at k e (moved.1 none)))
            (renumbered.each k early))
            (λ (here : k ≡ n). ap end (ap new here ∙ renumbered.newest ∙ own) ∙ last ∙ sym here)
            (before_last k n lt);
      }

      -- what the tables of numbers and ends tell once the outer part has a number of its own
      pub record IsRegrouped (new told : ℕ → ℕ) (ends : ℕ → ℕ) : Type 0 where
        pub newest : told n ≡ number at
        pub others : (k : ℕ) → k < n → told k ≡ new k
        pub tail : (k : ℕ) → k < n → new k ≡ n → ends n ≡ end (number at)
        pub front : ends (number at) ≡ n
        pub rest : (c : ℕ) → c < n → (c ≡ number at → ⊥) → ends c ≡ end c

      pub outer_led : (new told ends : ℕ → ℕ) → IsOuterRenumbered n outer number new at → IsRegrouped new told ends → AreChains (n + 1) more inner told ends
      outer_led new told ends renumbered grouped = record {
        step = λ k j lt e.
            ⊎_elim
            (λ (same : k ≡ at).
            subst (λ (i : ℕ). IsStep (n + 1) inner told k i) (new_step k j same e) (record {
              later = omega arith;
              within = omega arith;
              inner = behind ∙ ap (λ (x : ℕ). Some x) (sym same);
              number = grouped.newest ∙ sym (ap told same ∙ grouped.others at low ∙ outer_stays new renumbered);
            }))
            (λ apart.
            let old = old_step k j lt apart e in
            let s = chains.step k j old.0 old.1 in
            let within : j < n = s.within in
            record { later = s.later; within = omega arith; inner = s.inner; number = grouped.others j s.within ∙ renumbered.steps k j old.0 old.1 apart ∙ sym (grouped.others k old.0) })
            (cases_eq k at);
        inward = still_inward;
        known = λ k lt.
            ⊎_elim
            (λ early.
            ⊎_elim
            (λ (kept : new k ≡ number k). let low : number k < n = chains.known k early in let is : told k ≡ new k = grouped.others k early in omega arith)
            (λ moved. let is : told k ≡ n = grouped.others k early ∙ moved.0 in omega arith)
            (renumbered.each k early))
            (λ (here : k ≡ n). let is : told k ≡ number at = ap told here ∙ grouped.newest in let under : number at < n = chains.known at low in omega arith)
            (before_last k n lt);
        ends = λ k lt e.
            ⊎_elim
            (λ early. ap ends (grouped.others k early) ∙ old_end k early e)
            (λ (here : k ≡ n). ap ends (ap told here ∙ grouped.newest) ∙ grouped.front ∙ sym here)
            (before_last k n lt);
      }
        where
          old_end : (k : ℕ) → k < n → more k ≡ None → ends (new k) ≡ k
          old_end k lt e =
              let none : outer k ≡ None = sym (added.others k lt (not_at k e)) ∙ e in
              ⊎_elim
              (λ (kept : new k ≡ number k).
              ⊎_elim
              (λ (one : number k ≡ number at).
              let is : new k ≡ n = renumbered.end k lt none one (not_at k e) in
              let low : number k < n = chains.known k lt in
              absurd (omega arith))
              (λ other. ap ends kept ∙ grouped.rest (number k) (chains.known k lt) other ∙ chains.ends k lt none)
              (cases_eq (number k) (number at)))
              (λ moved. ap ends moved.0 ∙ grouped.tail k lt moved.0 ∙ ap end (sym moved.1) ∙ chains.ends k lt none)
              (renumbered.each k lt)

-- a new place that is alone
pub lone_led : (n : ℕ) (outer inner : ℕ → Option ℕ) (number end : ℕ → ℕ) → AreChains n outer inner number end → outer n ≡ None → inner n ≡ None → number n ≡ n → end n ≡ n → AreChains (n + 1) outer inner number end
lone_led n outer inner number end chains last alone own ends = record {
  step = λ k j lt e.
      ⊎_elim
      (λ early. let s = chains.step k j early e in let within : j < n = s.within in record { later = s.later; within = omega arith; inner = s.inner; number = s.number })
      (λ here. absurd (none-some j (sym last ∙ ap outer (sym here) ∙ e)))
      (before_last k n lt);
  inward = λ j k lt e. ⊎_elim (λ early. chains.inward j k early e) (λ here. absurd (none-some k (sym alone ∙ ap inner (sym here) ∙ e))) (before_last j n lt);
  known = λ k lt.
      ⊎_elim
      (λ early. let low : number k < n = chains.known k early in omega arith)
      (λ (here : k ≡ n). let is : number k ≡ n = ap number here ∙ own in omega arith)
      (before_last k n lt);
  ends = λ k lt e. ⊎_elim (λ early. chains.ends k early e) (λ (here : k ≡ n). ap end (ap number here ∙ own) ∙ ends ∙ sym here) (before_last k n lt);
}

-- chains stay where the tables tell the same of the first n places
pub chains_stay : (n : ℕ) (outer inner more_outer more_inner : ℕ → Option ℕ) (number end more_number more_end : ℕ → ℕ) → AreChains n outer inner number end → ((k : ℕ) → k < n → more_outer k ≡ outer k)
    → ((k : ℕ) → k < n → more_inner k ≡ inner k) → ((k : ℕ) → k < n → more_number k ≡ number k) → ((k : ℕ) → k < n → more_end k ≡ end k) → AreChains n more_outer more_inner more_number more_end
chains_stay n outer inner more_outer more_inner number end more_number more_end chains o i g d = record {
  step = λ k j lt e.
      let s = chains.step k j lt (sym (o k lt) ∙ e) in
      record { later = s.later; within = s.within; inner = i j s.within ∙ s.inner; number = g j s.within ∙ s.number ∙ sym (g k lt) };
  inward = λ j k lt e. chains.inward j k lt (sym (i j lt) ∙ e);
  known = λ k lt. subst (λ (x : ℕ). x < n) (sym (g k lt)) (chains.known k lt);
  ends = λ k lt e. ap more_end (g k lt) ∙ d (number k) (chains.known k lt) ∙ chains.ends k lt (sym (o k lt) ∙ e);
}
