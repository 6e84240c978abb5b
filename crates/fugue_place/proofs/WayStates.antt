-- What ways keep, from one state to the next.
use Rattle.std.proofs.Common.{◌≡◌, ℕ, ◌+◌, ◌-◌, ◌^◌, ◌<◌, ◌≤◌, ◌⊎◌, inl, inr, ⊎_elim, List, length, get_or, Option, Some, None, refl, sym, ap, ◌∙◌, subst, arith}
use Rattle.std.proofs.lemmas.Bool.{cases_lt}
use Rattle.fugue_place.specs.declared.child.Side.{Side}
use Rattle.fugue_place.specs.declared.child.Side.TheVariants.{Left, Right}
use Rattle.fugue_place.specs.declared.ways.Ways.{Ways}
use Rattle.fugue_place.specs.Chains.{follower, IsEndOf, IsLedBy}
use Rattle.fugue_place.specs.Ways.{head_at, link_at, next_head, stop_on, stop_of, way_of, led_to, next_before, AreInOrder, IsSound, IsFirstLink, KnowsLinks, IsWays, IsSameWays, IsOneMore}
use Rattle.fugue_place.proofs.HeadLaws.{AreBelow, next_ahead, next_within, next_same, next_to, next_stays, next_grows, next_newest}
use Rattle.fugue_place.proofs.MoreWays.{heir_ways, heir_alone, heir_led}
use Rattle.fugue_place.proofs.TableLaws.{chains_same}
use Rattle.fugue_place.proofs.WayLaws.{AreStops, AreWays, first_same, unlinked_end, linked_end, chain_end}

-- where runs stop
pub stops_on : (end : Side) (heads : List ℕ) (n : ℕ) → AreInOrder heads → AreBelow heads n → AreStops n (length heads) (λ r. get_or heads r 0) (stop_on end heads n)
stops_on Left heads n order below = record {
  ahead = λ k lt. omega arith;
  within = λ k lt. omega arith;
  same = λ k x lt from to. let is : x ≡ k = omega arith in ap (λ (y : ℕ). y + 1) is;
  next = λ x r low lt. omega arith;
  heads = below;
  rising = order;
}
stops_on Right heads n order below = record {
  ahead = λ k lt. next_ahead heads n k lt;
  within = λ k lt. next_within heads n k below;
  same = λ k x lt from to. next_same heads n k x from to;
  next = λ x r low lt. next_to heads n x r order low lt;
  heads = below;
  rising = order;
}

pub stops_of : (w : Ways) → IsSound w → AreStops w.count (length w.heads.items) (head_at w) (stop_of w)
stops_of w sound = stops_on w.end w.heads.items w.count sound.rising sound.within

pub ways_of : (w : Ways) → IsWays w → AreWays w.count (length w.heads.items) (head_at w) (stop_of w) (link_at w) (follower w.chains.outer.items)
ways_of w kept = record {
  stops = stops_of w kept.sound;
  links = λ k r e. let known = kept.links k r e in let low : k < w.free = known.early in let bound : w.free ≤ w.count = kept.free in (omega (arith, low, bound), known.known);
  firsts = kept.firsts;
}

-- ONE MORE PLACE
-- with an heir more
abbrev pub longer : Ways → Ways
longer w = record { end = w.end; count = w.count + 1; heads = w.heads; links = w.links; free = w.free; chains = w.chains }

stop_longer : (end : Side) (heads : List ℕ) (n k : ℕ) → AreBelow heads n → k < n → (stop_on end heads (n + 1) k ≡ stop_on end heads n k) ⊎ ((stop_on end heads n k ≡ n) × (stop_on end heads (n + 1) k ≡ n + 1))
stop_longer Left heads n k below lt = inl refl
stop_longer Right heads n k below lt =
    ⊎_elim
    (λ (early : next_head heads n k < n). inl (next_stays heads n k early))
    (λ (late : n ≤ next_head heads n k).
    let bound = next_within heads n k below in
    let is : next_head heads n k ≡ n = omega (arith, late, bound) in
    inr (is, next_grows heads n k below is))
    (cases_lt (next_head heads n k) n)

stop_newest : (end : Side) (heads : List ℕ) (n : ℕ) → AreBelow heads n → stop_on end heads (n + 1) n ≡ n + 1
stop_newest Left heads n below = refl
stop_newest Right heads n below = next_newest heads n below

-- the newest place ends the last run
stop_grown : (heads : List ℕ) (n : ℕ) → AreBelow heads n → 0 < n → next_head heads (n + 1) (n - 1) ≡ n + 1
stop_grown heads n below some =
    let ahead = next_ahead heads n (n - 1) (omega (arith, some)) in
    let bound = next_within heads n (n - 1) below in
    next_grows heads n (n - 1) below (omega (arith, some, ahead, bound))

module _ (w : Ways) (kept : IsWays w) (few : w.count + 1 < 2 ^ 32) where
  below : AreBelow w.heads.items w.count
  below = kept.sound.within

  sound : IsSound (longer w)
  sound = record { few = few; rising = kept.sound.rising; within = λ r lt. let low : head_at w r < w.count = kept.sound.within r lt in omega (arith, low) }

  stop_each : (k : ℕ) → k < w.count → (stop_of (longer w) k ≡ stop_of w k) ⊎ ((stop_of w k ≡ w.count) × (stop_of (longer w) k ≡ w.count + 1))
  stop_each k lt = stop_longer w.end w.heads.items w.count k below lt

  stop_new : stop_of (longer w) w.count ≡ w.count + 1
  stop_new = stop_newest w.end w.heads.items w.count below

  more_ways : AreWays (w.count + 1) (length w.heads.items) (head_at w) (stop_of (longer w)) (link_at w) (follower w.chains.outer.items)
  more_ways = heir_ways w.count (length w.heads.items) (head_at w) (stop_of w) (link_at w) (follower w.chains.outer.items) (ways_of w kept) (stop_of (longer w)) (stops_of (longer w) sound) stop_each stop_new

  longer_kept : IsWays (longer w)
  longer_kept = record {
    sound = sound;
    free = let bound : w.free ≤ w.count = kept.free in omega (arith, bound);
    links = λ k r e. let known = kept.links k r e in record { early = known.early; known = known.known };
    chains = kept.chains;
    count = kept.count;
    firsts = more_ways.firsts;
  }

  longer_left : w.end ≡ Left → IsLedBy w.count (way_of w) None (way_of (longer w))
  longer_left e =
      heir_alone w.count (length w.heads.items) (head_at w) (stop_of w) (link_at w) (follower w.chains.outer.items) (ways_of w kept) (stop_of (longer w)) (stops_of (longer w) sound) stop_each stop_new
      (λ k lt. ap (λ (s : Side). stop_on s w.heads.items (w.count + 1) k) e ∙ sym (ap (λ (s : Side). stop_on s w.heads.items w.count k) e))

  longer_right : w.end ≡ Right → 0 < w.count → way_of w (w.count - 1) ≡ None → IsLedBy w.count (way_of w) (Some (w.count - 1)) (way_of (longer w))
  longer_right e some last =
      heir_led w.count (length w.heads.items) (head_at w) (stop_of w) (link_at w) (follower w.chains.outer.items) (ways_of w kept) (stop_of (longer w)) (stops_of (longer w) sound) stop_each stop_new
      some last (ap (λ (s : Side). stop_on s w.heads.items (w.count + 1) (w.count - 1)) e ∙ stop_grown w.heads.items w.count below some)

  pub one_more_left : w.end ≡ Left → IsOneMore w (longer w) None
  one_more_left e = record { ways = longer_kept; end = refl; count = refl; led = longer_left e }

  pub one_more_right : w.end ≡ Right → 0 < w.count → way_of w (w.count - 1) ≡ None → IsOneMore w (longer w) (Some (w.count - 1))
  one_more_right e some last = record { ways = longer_kept; end = refl; count = refl; led = longer_right e some last }

-- ENDS
module _ (w : Ways) (kept : IsWays w) (at : ℕ) (low : at < w.count) (stop : ℕ) (is : stop ≡ stop_of w at) where
  pub stop_order : at ≤ stop
  stop_order = let ahead = (stops_of w kept.sound).ahead at low in omega (arith, is, ahead)

  pub stop_few : stop < 2 ^ 32
  stop_few = let within = (stops_of w kept.sound).within at low in let few = kept.sound.few in omega (arith, is, within, few)

  pub stop_some : 1 ≤ stop
  stop_some = let ahead = (stops_of w kept.sound).ahead at low in omega (arith, is, ahead)

  pub stop_low : stop - 1 < w.count
  stop_low = let within = (stops_of w kept.sound).within at low in let ahead = (stops_of w kept.sound).ahead at low in omega (arith, is, within, ahead)

  pub ends_alone : IsFirstLink (link_at w) at stop None → IsEndOf (way_of w) at (stop - 1)
  ends_alone none =
      subst (λ (x : ℕ). IsEndOf (way_of w) at (x - 1)) (sym is)
      (unlinked_end w.count (length w.heads.items) (head_at w) (stop_of w) (link_at w) (follower w.chains.outer.items) (ways_of w kept) at low (subst (λ (x : ℕ). IsFirstLink (link_at w) at x None) is none))

  module _ (head : ℕ) (first : IsFirstLink (link_at w) at stop (Some head)) where
    pub head_known : head < length w.heads.items
    head_known = (kept.links first.0 head first.3).known

    module _ (last : ℕ) (end : IsEndOf (follower w.chains.outer.items) head last) where
      chain : IsEndOf (way_of w) (head_at w head) (stop_of w (head_at w last) - 1) × (last < length w.heads.items)
      chain = chain_end w.count (length w.heads.items) (head_at w) (stop_of w) (link_at w) (follower w.chains.outer.items) (ways_of w kept) end.0 head last head_known end.1

      pub last_known : last < length w.heads.items
      last_known = chain.1

      pub last_low : head_at w last < w.count
      last_low = kept.sound.within last last_known

      pub ends_chain : IsEndOf (way_of w) at (stop_of w (head_at w last) - 1)
      ends_chain =
          linked_end w.count (length w.heads.items) (head_at w) (stop_of w) (link_at w) (follower w.chains.outer.items) (ways_of w kept) at head (stop_of w (head_at w last) - 1) low
          (subst (λ (x : ℕ). IsFirstLink (link_at w) at x (Some head)) is first) chain.0

-- LINKS
module _ (w : Ways) (kept : IsWays w) where
  -- a late place isn't linked
  pub late_free : (k : ℕ) → w.free ≤ k → link_at w k ≡ None
  late_free k le = at (link_at w k) refl
    where
      at : (o : Option ℕ) → link_at w k ≡ o → o ≡ None
      at None e = refl
      at (Some r) e = let low : k < w.free = (kept.links k r e).early in absurd (omega (arith, le, low))

  pub knows_links : (k : ℕ) → KnowsLinks w k
  knows_links k m r lt e = (kept.links m r e).early

-- behind the bound none is linked
pub free_links : (w : Ways) (from to : ℕ) → KnowsLinks w to → w.free ≤ from → IsFirstLink (link_at w) from to None
free_links w from to known le k low high = at (link_at w k) refl
  where
    at : (o : Option ℕ) → link_at w k ≡ o → o ≡ None
    at None e = refl
    at (Some r) e = let early : k < w.free = known k r high e in absurd (omega (arith, le, low, early))

-- THE SAME
module _ (v w : Ways) (same : IsSameWays v w) where
  same_head : (r : ℕ) → head_at w r ≡ head_at v r
  same_head r = ap (λ (xs : List ℕ). get_or xs r 0) same.heads

  same_stop : (k : ℕ) → stop_of w k ≡ stop_of v k
  same_stop k = λ i. stop_on (same.end i) (same.heads i) (same.count i) k

  pub same_way : (k : ℕ) → way_of w k ≡ way_of v k
  same_way k = λ i. led_to (λ r. get_or (same.heads i) r 0) (same.links k i) (next_before (stop_on (same.end i) (same.heads i) (same.count i) k) k)

  pub same_ways : IsWays v → IsWays w
  same_ways kept = record {
    sound = record {
      few = subst (λ (x : ℕ). x < 2 ^ 32) (sym same.count) kept.sound.few;
      rising = subst AreInOrder (sym same.heads) kept.sound.rising;
      within = subst (λ (x : ℕ). AreBelow w.heads.items x) (sym same.count) (subst (λ (xs : List ℕ). AreBelow xs v.count) (sym same.heads) kept.sound.within);
    };
    free = let bound = kept.free in let count = same.count in let free = same.free in omega (arith, bound, count, free);
    links = λ k r e.
        let known = kept.links k r (sym (same.links k) ∙ e) in
        record { early = subst (λ (x : ℕ). k < x) (sym same.free) known.early; known = subst (λ (xs : List ℕ). r < length xs) (sym same.heads) known.known };
    chains = chains_same v.chains w.chains same.chains kept.chains;
    count = same.chains.count ∙ kept.count ∙ ap length (sym same.heads);
    firsts = λ r lt.
        let first = kept.firsts r (subst (λ (xs : List ℕ). r < length xs) same.heads lt) in
        let stops : stop_of v (head_at v r) ≡ stop_of w (head_at w r) = sym (same_stop (head_at w r) ∙ ap (stop_of v) (same_head r)) in
        subst (λ (xs : List ℕ). IsFirstLink (link_at w) (head_at w r) (stop_of w (head_at w r)) (follower xs r)) (sym same.chains.outer)
        (subst (λ (x : ℕ). IsFirstLink (link_at w) (head_at w r) x (follower v.chains.outer.items r)) stops
        (subst (λ (x : ℕ). IsFirstLink (link_at w) x (stop_of v (head_at v r)) (follower v.chains.outer.items r)) (sym (same_head r))
        (first_same (link_at v) (link_at w) (head_at v r) (stop_of v (head_at v r)) (follower v.chains.outer.items r) (λ k from to. same.links k) first)));
  }
