-- Ways that are ready for one more head, and those with it.
use Rattle.std.proofs.Common.{◌≡◌, ℕ, ◌+◌, ◌^◌, ◌<◌, ◌≤◌, ⊎_elim, List, [], ◌∷◌, ◌++◌, length, get_or, Option, Some, None, nat_eq, cond, refl, sym, ap, ◌∙◌, subst, length-append, arith}
use Rattle.std.specs.Option.{IfSome, IfNone}
use Rattle.std.proofs.lemmas.Bool.{cases_eq, cases_lt, eq-eqb, ne_eqb, cond-true, cond-false}
use Rattle.std.proofs.lemmas.Option.{none-some, same_Some, IfSome_then}
use Rattle.std.proofs.Math.Seq.{get_or-append_seam}
use Rattle.std.proofs.Math.ListN.{get_or-append}
use Rattle.fugue_place.specs.declared.child.Side.{Side}
use Rattle.fugue_place.specs.declared.child.Side.TheVariants.{Left, Right}
use Rattle.fugue_place.specs.declared.chains.Chains.{Chains}
use Rattle.fugue_place.specs.declared.ways.Ways.{Ways}
use Rattle.fugue_place.specs.Chains.{follower, IsChains, IsLedBy, IsSame, HasRoom}
use Rattle.fugue_place.specs.Ways.{head_at, link_at, stop_on, stop_of, AreInOrder, IsSound, IsFirstLink, KnowsLinks, IsWays, IsInRun, IsFirstIn, IsFirstInNone, IsLink, IsReady, IsPrepared, IsSameWays, IsOneMore}
use Rattle.fugue_place.proofs.HeadLaws.{AreBelow, next_before_new, next_new}
use Rattle.fugue_place.proofs.MoreWays.{head_ways, head_led}
use Rattle.fugue_place.proofs.TableLaws.{chains_same}
use Rattle.fugue_place.proofs.WayLaws.{AreStops, AreWays, first_same, one_run}
use Rattle.fugue_place.proofs.WayStates.{stops_of, ways_of}

-- with a head more
stop_old : (end : Side) (heads : List ℕ) (n k : ℕ) → k < n → stop_on end (heads ++ n ∷ []) (n + 1) k ≡ stop_on end heads n k
stop_old Left heads n k lt = refl
stop_old Right heads n k lt = next_before_new heads n k lt

stop_head : (end : Side) (heads : List ℕ) (n : ℕ) → AreBelow heads n → stop_on end (heads ++ n ∷ []) (n + 1) n ≡ n + 1
stop_head Left heads n below = refl
stop_head Right heads n below = next_new heads n below

module _ (heads : List ℕ) (n : ℕ) where
  old_head : (r : ℕ) → r < length heads → get_or (heads ++ n ∷ []) r 0 ≡ get_or heads r 0
  old_head r lt = get_or-append heads (n ∷ []) 0 r lt

  new_head : get_or (heads ++ n ∷ []) (length heads) 0 ≡ n
  new_head = get_or-append_seam heads n [] 0

  order_more : AreInOrder heads → AreBelow heads n → AreInOrder (heads ++ n ∷ [])
  order_more order below i j lt low =
      let count : length (heads ++ n ∷ []) ≡ length heads + 1 = length-append heads (n ∷ []) in
      let first = old_head i (omega (arith, lt, low, count)) in
      ⊎_elim
      (λ (early : j < length heads). let second = old_head j early in let rise = order i j lt early in omega (arith, first, second, rise))
      (λ (late : length heads ≤ j).
      let is : j ≡ length heads = omega (arith, late, low, count) in
      let second : get_or (heads ++ n ∷ []) j 0 ≡ n = ap (λ (x : ℕ). get_or (heads ++ n ∷ []) x 0) is ∙ new_head in
      let under = below i (omega (arith, lt, is)) in
      omega (arith, first, second, under))
      (cases_lt j (length heads))

  below_more : AreBelow heads n → AreBelow (heads ++ n ∷ []) (n + 1)
  below_more below r low =
      let count : length (heads ++ n ∷ []) ≡ length heads + 1 = length-append heads (n ∷ []) in
      ⊎_elim
      (λ (early : r < length heads). let same = old_head r early in let under = below r early in omega (arith, same, under))
      (λ (late : length heads ≤ r).
      let is : r ≡ length heads = omega (arith, late, low, count) in
      let same : get_or (heads ++ n ∷ []) r 0 ≡ n = ap (λ (x : ℕ). get_or (heads ++ n ∷ []) x 0) is ∙ new_head in
      omega (arith, same))
      (cases_lt r (length heads))

module _ (v w d : Ways) (kept : IsWays v) (behind : Option ℕ) (ready : IsReady v w behind) (few : w.count + 1 < 2 ^ 32)
    (end : d.end ≡ w.end) (count : d.count ≡ w.count + 1) (put : d.heads.items ≡ w.heads.items ++ w.count ∷ []) (links : (k : ℕ) → link_at d k ≡ link_at w k)
    (at : Option ℕ) (some : IfSome at (IsFirstIn w behind)) (none : IfNone at (IsFirstInNone w behind))
    (chains : IsChains d.chains) (rows : d.chains.count ≡ w.chains.count + 1) (added : IsLedBy w.chains.count (follower w.chains.outer.items) at (follower d.chains.outer.items))
    (bound : w.free ≤ d.free) (free : IfSome behind (λ k. k < d.free)) (near : d.free ≤ w.count + 1) where
  abbrev n : ℕ
  n = v.count

  abbrev c : ℕ
  c = length v.heads.items

  abbrev more_heads : List ℕ
  more_heads = v.heads.items ++ v.count ∷ []

  counts : d.count ≡ n + 1
  counts = count ∙ ap (λ (x : ℕ). x + 1) ready.count

  ends : d.end ≡ v.end
  ends = end ∙ ready.end

  heads : d.heads.items ≡ more_heads
  heads = put ∙ (λ i. ready.heads i ++ ready.count i ∷ [])

  long : length d.heads.items ≡ c + 1
  long = ap length heads ∙ length-append v.heads.items (v.count ∷ [])

  sound_now : IsSound d
  sound_now = record {
    few = let same = count in omega (arith, same, few);
    rising = subst AreInOrder (sym heads) (order_more v.heads.items n kept.sound.rising kept.sound.within);
    within = subst (λ (x : ℕ). AreBelow d.heads.items x) (sym counts) (subst (λ (xs : List ℕ). AreBelow xs (n + 1)) (sym heads) (below_more v.heads.items n kept.sound.within));
  }

  stops_now : AreStops (n + 1) (c + 1) (head_at d) (stop_of d)
  stops_now = subst (λ (x : ℕ). AreStops x (c + 1) (head_at d) (stop_of d)) counts (subst (λ (x : ℕ). AreStops d.count x (head_at d) (stop_of d)) long (stops_of d sound_now))

  old_head_now : (r : ℕ) → r < c → head_at d r ≡ head_at v r
  old_head_now r lt = ap (λ (xs : List ℕ). get_or xs r 0) heads ∙ old_head v.heads.items n r lt

  new_head_now : head_at d c ≡ n
  new_head_now = ap (λ (xs : List ℕ). get_or xs c 0) heads ∙ new_head v.heads.items n

  stop_now : (k : ℕ) → stop_of d k ≡ stop_on v.end more_heads (n + 1) k
  stop_now k = λ i. stop_on (ends i) (heads i) (counts i) k

  old_stop_now : (k : ℕ) → k < n → stop_of d k ≡ stop_of v k
  old_stop_now k lt = stop_now k ∙ stop_old v.end v.heads.items n k lt

  new_stop_now : stop_of d n ≡ n + 1
  new_stop_now = stop_now n ∙ stop_head v.end v.heads.items n kept.sound.within

  early : (k : ℕ) → behind ≡ Some k → k < n
  early k e = subst (λ (o : Option ℕ). IfSome o (λ k. k < n)) e ready.early

  leads : (k : ℕ) → behind ≡ Some k → link_at d k ≡ Some c
  leads k e = links k ∙ ready.leads k e

  others : (k : ℕ) → (behind ≡ Some k → ⊥) → link_at d k ≡ link_at v k
  others k apart = links k ∙ ready.others k apart

  led : IsLedBy c (follower v.chains.outer.items) at (follower d.chains.outer.items)
  led =
      subst (λ (x : ℕ). IsLedBy x (follower v.chains.outer.items) at (follower d.chains.outer.items)) (ready.chains.count ∙ kept.count)
      (subst (λ (xs : List ℕ). IsLedBy w.chains.count (follower xs) at (follower d.chains.outer.items)) ready.chains.outer added)

  -- heads and runs of the state before, as the state between has them
  between_head : (r : ℕ) → head_at w r ≡ head_at v r
  between_head r = ap (λ (xs : List ℕ). get_or xs r 0) ready.heads

  between_stop : (k : ℕ) → stop_of w k ≡ stop_of v k
  between_stop k = λ i. stop_on (ready.end i) (ready.heads i) (ready.count i) k

  run_before : (k r : ℕ) → IsInRun w k r → (r < c) × (head_at v r ≤ k) × (k < stop_of v (head_at v r))
  run_before k r run = (
    subst (λ (xs : List ℕ). r < length xs) ready.heads run.known,
    subst (λ (x : ℕ). x ≤ k) (between_head r) run.from,
    subst (λ (x : ℕ). k < x) (between_stop (head_at w r) ∙ ap (stop_of v) (between_head r)) run.to,
  )

  run_between : (k r : ℕ) → r < c → head_at v r ≤ k → k < stop_of v (head_at v r) → IsInRun w k r
  run_between k r lt from to = record {
    known = subst (λ (xs : List ℕ). r < length xs) (sym ready.heads) lt;
    from = subst (λ (x : ℕ). x ≤ k) (sym (between_head r)) from;
    to = subst (λ (x : ℕ). k < x) (sym (between_stop (head_at w r) ∙ ap (stop_of v) (between_head r))) to;
  }

  first_before : (k r : ℕ) (o : Option ℕ) → IsFirstLink (link_at w) (head_at w r) k o → IsFirstLink (link_at d) (head_at v r) k o
  first_before k r o first = subst (λ (x : ℕ). IsFirstLink (link_at d) x k o) (between_head r) (first_same (link_at w) (link_at d) (head_at w r) k o (λ m from to. links m) first)

  first_in : (r : ℕ) → at ≡ Some r → (k : ℕ) × (behind ≡ Some k) × (r < c) × (head_at v r ≤ k) × (k < stop_of v (head_at v r)) × IsFirstLink (link_at d) (head_at v r) k None
  first_in r e =
      let it = subst (λ (o : Option ℕ). IfSome o (IsFirstIn w behind)) e some in
      let run = run_before it.0 r it.2 in
      (it.0, it.1, run.0, run.1, run.2, first_before it.0 r None it.3)

  first_in_none : at ≡ None → (k r : ℕ) → behind ≡ Some k → r < c → head_at v r ≤ k → k < stop_of v (head_at v r) → (s : ℕ) × IsFirstLink (link_at d) (head_at v r) k (Some s)
  first_in_none e k r f lt from to =
      let it = subst (λ (o : Option ℕ). IfNone o (IsFirstInNone w behind)) e none k r f (run_between k r lt from to) in
      (it.0, first_before k r (Some it.0) it.1)

  ways_now : AreWays (n + 1) (c + 1) (head_at d) (stop_of d) (link_at d) (follower d.chains.outer.items)
  ways_now =
      head_ways n c (head_at v) (stop_of v) (link_at v) (follower v.chains.outer.items) (ways_of v kept) (head_at d) (stop_of d) (link_at d) (follower d.chains.outer.items) stops_now old_head_now new_head_now old_stop_now new_stop_now behind
      early leads others at led first_in first_in_none

  link_now : (k r : ℕ) → link_at d k ≡ Some r → IsLink d k r
  link_now k r e = record {
    early = at_most behind refl;
    known = subst (λ (x : ℕ). r < x) (sym long) (ways_now.links k r e).1;
  }
    where
      old : link_at v k ≡ Some r → k < d.free
      old f = let low : k < v.free = (kept.links k r f).early in let same = ready.free in omega (arith, low, same, bound)

      at_most : (b : Option ℕ) → behind ≡ b → k < d.free
      at_most None f = old (sym (others k (λ is. none-some k (sym f ∙ is))) ∙ e)
      at_most (Some m) f =
          ⊎_elim
          (λ (here : m ≡ k). subst (λ (x : ℕ). x < d.free) here (subst (λ (o : Option ℕ). IfSome o (λ k. k < d.free)) f free))
          (λ apart. old (sym (others k (λ is. apart (same_Some m k (sym f ∙ is)))) ∙ e))
          (cases_eq m k)

  pub one_more : IsOneMore v d behind
  one_more = record {
    ways = record {
      sound = sound_now;
      free = let same = count in omega (arith, same, near);
      links = link_now;
      chains = chains;
      count = rows ∙ ap (λ (x : ℕ). x + 1) (ready.chains.count ∙ kept.count) ∙ sym long;
      firsts = λ r lt. ways_now.firsts r (subst (λ (x : ℕ). r < x) long lt);
    };
    end = ends;
    count = counts;
    led =
        head_led n c (head_at v) (stop_of v) (link_at v) (follower v.chains.outer.items) (ways_of v kept) (head_at d) (stop_of d) (link_at d) (follower d.chains.outer.items) stops_now old_head_now new_head_now old_stop_now new_stop_now behind
        early leads others;
  }

-- READY
module _ (v w : Ways) (kept : IsWays v) (behind : Option ℕ) (ready : IsReady v w behind) (few : w.count + 1 < 2 ^ 32) where
  pub ready_sound : IsSound w
  ready_sound = record {
    few = omega (arith, few);
    rising = subst AreInOrder (sym ready.heads) kept.sound.rising;
    within = subst (λ (x : ℕ). AreBelow w.heads.items x) (sym ready.count) (subst (λ (xs : List ℕ). AreBelow xs v.count) (sym ready.heads) kept.sound.within);
  }

  pub ready_place : IfSome behind (λ k. (k < w.count) × KnowsLinks w k)
  ready_place = at behind refl
    where
      known : (k : ℕ) → behind ≡ Some k → KnowsLinks w k
      known k is m r lt e =
          let old : link_at v m ≡ Some r = sym (ready.others m (λ f. let same : k ≡ m = same_Some k m (sym is ∙ f) in absurd (omega (arith, lt, same)))) ∙ e in
          subst (λ (x : ℕ). m < x) (sym ready.free) (kept.links m r old).early

      at : (b : Option ℕ) → behind ≡ b → IfSome b (λ k. (k < w.count) × KnowsLinks w k)
      at None e = tt
      at (Some k) e = (subst (λ (x : ℕ). k < x) (sym ready.count) (subst (λ (o : Option ℕ). IfSome o (λ k. k < v.count)) e ready.early), known k e)

  pub ready_chains : IsChains w.chains
  ready_chains = chains_same v.chains w.chains ready.chains kept.chains

  pub ready_rows : (at : Option ℕ) → IfSome at (IsFirstIn w behind) → HasRoom w.chains at
  ready_rows None none = record { few = ready.rows.few; outer = tt; inner = tt; numbers = tt; ends = tt }
  ready_rows (Some r) first =
      let rows = subst (HasRoom w.chains) first.1 ready.rows in
      record { few = rows.few; outer = rows.outer; inner = rows.inner; numbers = rows.numbers; ends = rows.ends }

  pub ready_heads : (at : Option ℕ) → IfSome at (IsFirstIn w behind) → IfSome at (λ r. r < w.chains.count)
  ready_heads at some = IfSome_then at some (λ r first. subst (λ (x : ℕ). r < x) (ap length ready.heads ∙ sym (ready.chains.count ∙ kept.count)) first.2.known)

  pub ready_low : IfSome behind (λ k. k < 2 ^ 32)
  ready_low = IfSome_then behind ready_place (λ k low. let lt = low.0 in omega (arith, lt, few))

  pub ready_bound : w.free ≤ w.count + 1
  ready_bound = let free = ready.free in let count = ready.count in let bound = kept.free in omega (arith, free, count, bound)

  pub ready_near : IfSome behind (λ k. k < w.count + 1)
  ready_near = IfSome_then behind ready_place (λ k low. let lt = low.0 in omega (arith, lt))

-- IN A RUN
-- in its only run another is linked
pub in_linked : (w : Ways) → IsSound w → (at run s : ℕ) → IsInRun w at run → IsFirstLink (link_at w) (head_at w run) at (Some s) → IsFirstInNone w (Some at)
in_linked w sound at run s here first = λ k r e there.
    let is : at ≡ k = same_Some at k e in
    let other = subst (λ (x : ℕ). IsInRun w x r) (sym is) there in
    let one : run ≡ r = one_run w.count (length w.heads.items) (head_at w) (stop_of w) (stops_of w sound) at run r here.known other.known here.from here.to other.from other.to in
    (s, subst (λ (x : ℕ). IsFirstLink (link_at w) (head_at w r) x (Some s)) is (subst (λ (x : ℕ). IsFirstLink (link_at w) (head_at w x) at (Some s)) one first))

-- none was to follow another
pub ready_same : (v w : Ways) → IsReady v w None → IsSameWays v w
ready_same v w ready = record { end = ready.end; count = ready.count; heads = ready.heads; links = λ k. ready.others k (λ e. none-some k e); free = ready.free; chains = ready.chains }

-- the place that was linked is linked as before
pub given_up : (v w d : Ways) (at : ℕ) (was : Option ℕ) → IsPrepared v w (Some at) was → d.end ≡ w.end → d.count ≡ w.count → d.heads.items ≡ w.heads.items → d.free ≡ w.free → IsSame w.chains d.chains
    → ((k : ℕ) → link_at d k ≡ cond (nat_eq at k) was (link_at w k)) → IsSameWays v d
given_up v w d at was prepared end count heads free chains taken = record {
  end = end ∙ prepared.ready.end;
  count = count ∙ prepared.ready.count;
  heads = heads ∙ prepared.ready.heads;
  links = λ k.
      ⊎_elim
      (λ (here : at ≡ k). taken k ∙ cond-true (nat_eq at k) was (link_at w k) (eq-eqb at k here) ∙ prepared.was k (ap (λ (x : ℕ). Some x) here))
      (λ apart. taken k ∙ cond-false (nat_eq at k) was (link_at w k) (ne_eqb at k apart) ∙ prepared.ready.others k (λ e. apart (same_Some at k e)))
      (cases_eq at k);
  free = free ∙ prepared.ready.free;
  chains = same_then v.chains w.chains d.chains prepared.ready.chains chains;
}
  where
    same_then : (b c d : Chains) → IsSame b c → IsSame c d → IsSame b d
    same_then b c d s t = record { count = t.count ∙ s.count; outer = t.outer ∙ s.outer; inner = t.inner ∙ s.inner; numbers = t.numbers ∙ s.numbers; ends = t.ends ∙ s.ends }
