-- Where ways end, told by the runs, the links and the chains of heads.
use Rattle.std.proofs.Common.{◌≡◌, ℕ, zero, suc, ◌+◌, ◌-◌, ◌<◌, ◌≤◌, ⊎_elim, Option, Some, None, nat_lt, refl, sym, ap, ◌∙◌, subst, arith}
use Rattle.std.proofs.lemmas.Bool.{cases_lt, cases_order, lt-ltb, le-ltb, cond-true, cond-false}
use Rattle.std.proofs.lemmas.Option.{none-some}
use Rattle.fugue_place.specs.Chains.{Leads, IsEndOf}
use Rattle.fugue_place.specs.Ways.{next_before, led_to, IsFirstLink}

-- where runs stop: there are n places and c heads
pub record AreStops (n c : ℕ) (head stop : ℕ → ℕ) : Type 0 where
  pub ahead : (k : ℕ) → k < n → k < stop k
  pub within : (k : ℕ) → k < n → stop k ≤ n
  pub same : (k x : ℕ) → k < n → k ≤ x → x < stop k → stop x ≡ stop k
  pub next : (x r : ℕ) → r < c → x < head r → stop x ≤ head r
  pub heads : (r : ℕ) → r < c → head r < n
  pub rising : (r s : ℕ) → r < s → s < c → head r < head s

-- what is kept of them: links, and chains of heads
pub record AreWays (n c : ℕ) (head stop : ℕ → ℕ) (link outer : ℕ → Option ℕ) : Type 0 where
  pub stops : AreStops n c head stop
  pub links : (k r : ℕ) → link k ≡ Some r → (k < n) × (r < c)
  pub firsts : (r : ℕ) → r < c → IsFirstLink link (head r) (stop (head r)) (outer r)

-- what follows a place
abbrev pub way : (ℕ → ℕ) → (ℕ → ℕ) → (ℕ → Option ℕ) → ℕ → Option ℕ
way head stop link k = led_to head (link k) (next_before (stop k) k)

module _ (head stop : ℕ → ℕ) (link : ℕ → Option ℕ) (k : ℕ) where
  pub way_link : (r : ℕ) → link k ≡ Some r → way head stop link k ≡ Some (head r)
  way_link r e = ap (λ (o : Option ℕ). led_to head o (next_before (stop k) k)) e

  pub way_next : link k ≡ None → k + 1 < stop k → way head stop link k ≡ Some (k + 1)
  way_next e lt = ap (λ (o : Option ℕ). led_to head o (next_before (stop k) k)) e ∙ cond-true (nat_lt (k + 1) (stop k)) (Some (k + 1)) None (lt-ltb (k + 1) (stop k) lt)

  pub way_last : link k ≡ None → stop k ≤ k + 1 → way head stop link k ≡ None
  way_last e le = ap (λ (o : Option ℕ). led_to head o (next_before (stop k) k)) e ∙ cond-false (nat_lt (k + 1) (stop k)) (Some (k + 1)) None (le-ltb (k + 1) (stop k) le)

  -- where nothing follows, nothing is linked
  pub no_link : way head stop link k ≡ None → link k ≡ None
  no_link e = at (link k) refl
    where
      at : (o : Option ℕ) → link k ≡ o → o ≡ None
      at None f = refl
      at (Some r) f = absurd (none-some (head r) (sym e ∙ way_link r f))

-- links that are the same there
pub first_same : (link other : ℕ → Option ℕ) (from to : ℕ) (o : Option ℕ) → ((k : ℕ) → from ≤ k → k < to → other k ≡ link k) → IsFirstLink link from to o → IsFirstLink other from to o
first_same link other from to None same none = λ k le lt. same k le lt ∙ none k le lt
first_same link other from to (Some r) same first =
    (first.0, first.1, first.2, same first.0 first.1 first.2 ∙ first.3, λ m le lt. let low : first.0 < to = first.2 in same m le (omega (arith, low, lt)) ∙ first.4 m le lt)

-- up to a place further on, where none is linked behind the old one
pub first_longer : (link : ℕ → Option ℕ) (from to more : ℕ) (o : Option ℕ) → to ≤ more → ((k : ℕ) → to ≤ k → k < more → link k ≡ None) → IsFirstLink link from to o → IsFirstLink link from more o
first_longer link from to more None le none first = λ k low high. ⊎_elim (λ early. first k low early) (λ late. none k late high) (cases_lt k to)
first_longer link from to more (Some r) le none first = (first.0, first.1, let lt : first.0 < to = first.2 in omega (arith, lt, le), first.3, first.4)

-- THE END
module _ (n c : ℕ) (head stop : ℕ → ℕ) (link outer : ℕ → Option ℕ) (ways : AreWays n c head stop link outer) where
  -- through a run, where none is linked on the way
  through : (d k t e : ℕ) → t ≡ k + d → k < n → t < stop k → ((m : ℕ) → k ≤ m → m < t → link m ≡ None) → IsEndOf (way head stop link) t e → IsEndOf (way head stop link) k e
  through zero k t e is lt low free ends = subst (λ (x : ℕ). IsEndOf (way head stop link) x e) (let same : t ≡ k = omega arith in same) ends
  through (suc d) k t e is lt low free ends =
      let within : stop k ≤ n = ways.stops.within k lt in
      let same : stop (k + 1) ≡ stop k = ways.stops.same k (k + 1) lt (omega arith) (omega arith) in
      let rest = through d (k + 1) t e (omega arith) (omega arith) (omega arith) (λ m le high. free m (omega arith) high) ends in
      (suc rest.0, (k + 1, way_next head stop link k (free k (omega arith) (omega arith)) (omega arith), rest.1))

  pub unlinked_end : (k : ℕ) → k < n → IsFirstLink link k (stop k) None → IsEndOf (way head stop link) k (stop k - 1)
  unlinked_end k lt none =
      let ahead : k < stop k = ways.stops.ahead k lt in
      let same : stop (stop k - 1) ≡ stop k = ways.stops.same k (stop k - 1) lt (omega arith) (omega arith) in
      through (stop k - 1 - k) k (stop k - 1) (stop k - 1) (omega arith) lt (omega arith) (λ m le high. none m le (omega arith))
      (zero, (way_last head stop link (stop k - 1) (none (stop k - 1) (omega arith) (omega arith)) (omega arith), refl))

  pub linked_end : (k r e : ℕ) → k < n → IsFirstLink link k (stop k) (Some r) → IsEndOf (way head stop link) (head r) e → IsEndOf (way head stop link) k e
  linked_end k r e lt first ends =
      let from : k ≤ first.0 = first.1 in
      through (first.0 - k) k first.0 e (omega arith) lt first.2 first.4 (suc ends.0, (head r, way_link head stop link first.0 r first.3, ends.1))

  -- along the chain of heads
  pub chain_end : (d r e : ℕ) → r < c → Leads outer d r e → IsEndOf (way head stop link) (head r) (stop (head e) - 1) × (e < c)
  chain_end zero r e lt leads = (
    subst (λ (x : ℕ). IsEndOf (way head stop link) (head r) (stop (head x) - 1)) leads.1
        (unlinked_end (head r) (ways.stops.heads r lt) (subst (IsFirstLink link (head r) (stop (head r))) leads.0 (ways.firsts r lt))),
    subst (λ (x : ℕ). x < c) leads.1 lt,
  )
  chain_end (suc d) r e lt leads =
      let first = subst (IsFirstLink link (head r) (stop (head r))) leads.1 (ways.firsts r lt) in
      let rest = chain_end d leads.0 e (ways.links first.0 leads.0 first.3).1 leads.2 in
      (linked_end (head r) leads.0 (stop (head e) - 1) (ways.stops.heads r lt) first rest.0, rest.1)

-- ONE RUN
module _ (n c : ℕ) (head stop : ℕ → ℕ) (stops : AreStops n c head stop) where
  apart : (k r s : ℕ) → r < s → s < c → k < stop (head r) → head s ≤ k → ⊥
  apart k r s lt low to from =
      let rise : head r < head s = stops.rising r s lt low in
      let next : stop (head r) ≤ head s = stops.next (head r) s low rise in
      omega (arith, to, from, next)

  pub one_run : (k r s : ℕ) → r < c → s < c → head r ≤ k → k < stop (head r) → head s ≤ k → k < stop (head s) → r ≡ s
  one_run k r s lr ls fr tr fs ts =
      ⊎_elim (λ same. same) (λ o. ⊎_elim (λ below. absurd (apart k r s below ls tr fs)) (λ above. absurd (apart k s r above lr ts fr)) o) (cases_order r s)
