-- What holds of the peers while a history is made: nothing waits, what each holds is good and was made by one of them, and all
-- hold together no more events than edits were made.
use Rattle.std.proofs.Common.{◌≡◌, ◌≢◌, ℕ, zero, suc, ◌+◌, ◌<◌, ◌≤◌, true, false, ⊎_elim, List, [], length, set, arith, refl, sym, ap, ◌∙◌, subst}
use Rattle.std.proofs.lemmas.List.{length-set}
use Rattle.ew_model.specs.declared.id.Id.{Id}
use Rattle.ew_model.specs.declared.event.Event.{Event}
use Rattle.ew_model.specs.Ancestors.{is_held}
use Rattle.ew_model.specs.Arrival.{arrive, desk_of, most_judgements}
use Rattle.ew_model.specs.Edits.{count_of}
use Rattle.ew_model.specs.Ids.{id_eq, name_eq}
use Rattle.ew_model.specs.Kept.{ReplicaState}
use Rattle.ew_model.specs.Limits.{LimitNumbers}
use Rattle.ew_model.specs.Sets.{Among}
use Rattle.ew_model.specs.Verdicts.{IsGood}
use Rattle.ew_model.proofs.CoverLaws.{held_of}
use Rattle.ew_model.proofs.GoodLaws.{good_laid_out}
use Rattle.ew_model.proofs.IdLaws.{is_same_id, names_equal}
use Rattle.ew_model.proofs.KeptLaws.{judgements_keep}
use Rattle.ew_model.proofs.MergeSteps.{IsTakenIn}
use Rattle.ew_model.proofs.SubgraphLaws.{one_event}
use Rattle.peer_definitions.specs.Making.{agent_of, gives, peer_at, received_by}
use Rattle.generator.proofs.AgentCounts.{IsOfThree, count_less, count_within, length_by_agents}
use Rattle.generator.proofs.Editing.{agents_apart}
use Rattle.generator.proofs.Owned.{elsewhere, equal_or_not, here, within}
use Rattle.generator.proofs.TakenWhole.{taken_whole}

-- the event's agent is a peer's, who holds it
pub record IsAtHome (peers : List ReplicaState) (e : Event) : Type 0 where
  pub peer : ℕ
  pub small : peer < 3
  pub named : e.id.agent ≡ agent_of peer
  pub there : Among e (peer_at peers peer).held

-- what holds of each peer
pub record IsMaker (limits : LimitNumbers) (peers : List ReplicaState) (p : ReplicaState) : Type 0 where
  pub same : p.limits ≡ limits
  pub none : p.waiting ≡ []
  pub good : IsGood p.held
  pub home : (e : Event) → Among e p.held → IsAtHome peers e

-- how many events a peer made
abbrev pub made_by : List ReplicaState → ℕ → ℕ
made_by peers n = count_of (peer_at peers n).held (agent_of n)

abbrev pub made_by_all : List ReplicaState → ℕ
made_by_all peers = made_by peers 0 + made_by peers 1 + made_by peers 2

-- three peers, of whom this holds, after so many edits
pub record AreMakers (limits : LimitNumbers) (t : ℕ) (peers : List ReplicaState) : Type 0 where
  pub three : length peers ≡ 3
  pub each : (n : ℕ) → n < 3 → IsMaker limits peers (peer_at peers n)
  pub few : made_by_all peers ≤ t

same_peer : (n m : ℕ) → n < 3 → m < 3 → agent_of n ≡ agent_of m → n ≡ m
same_peer n m a b e = agents_apart n m a b (subst (λ agent. name_eq (agent_of n) agent ≡ true) e (names_equal.refl (agent_of n)))

module _ (limits : LimitNumbers) (t : ℕ) (peers : List ReplicaState) (are : AreMakers limits t peers) where
  -- one id names one event
  pub one_each : (f g : Event) → IsAtHome peers f → IsAtHome peers g → id_eq f.id g.id ≡ true → f ≡ g
  one_each f g hf hg same =
      let ids : f.id ≡ g.id = (is_same_id f.id g.id).0 same in
      let peer : hg.peer ≡ hf.peer = same_peer hg.peer hf.peer hg.small hf.small (sym hg.named ∙ sym (ap (λ (x : Id). x.agent) ids) ∙ hf.named) in
      let held = (peer_at peers hf.peer).held in
      one_event [] held f g (good_laid_out held (are.each hf.peer hf.small).good) hf.there (subst (λ n. Among g (peer_at peers n).held) peer hg.there) same

  -- what a good history of theirs has of an agent is what that one's peer has at most
  within_own : (xs : List Event) → IsGood xs → ((z : Event) → Among z xs → IsAtHome peers z) → (n : ℕ) → n < 3 → count_of xs (agent_of n) ≤ made_by peers n
  within_own xs good homes n less =
      count_within xs (peer_at peers n).held (agent_of n) good (are.each n less).good
      (λ z m is. let h = homes z m in subst (λ k. Among z (peer_at peers k).held) (same_peer h.peer n h.small less (sym h.named ∙ is)) h.there)

  pub of_three : (z : Event) → IsAtHome peers z → IsOfThree z
  of_three z h = (h.peer, h.small, h.named)

  -- so it isn't long
  pub short : (xs : List Event) → IsGood xs → ((z : Event) → Among z xs → IsAtHome peers z) → length xs ≤ t
  short xs good homes =
      let all = length_by_agents xs (λ z m. of_three z (homes z m)) in
      let first = within_own xs good homes 0 (omega arith) in
      let second = within_own xs good homes 1 (omega arith) in
      let third = within_own xs good homes 2 (omega arith) in
      let few = are.few in
      omega (arith, all, first, second, third, few)

  -- and shorter where it lacks an event of theirs
  pub shorter : (xs : List Event) (x : Event) → IsGood xs → ((z : Event) → Among z xs → IsAtHome peers z) → IsAtHome peers x → is_held xs x.id ≡ false → length xs < t
  shorter xs x good homes home free = at home.peer home.small less
    where
      less : count_of xs (agent_of home.peer) < made_by peers home.peer
      less = subst (λ agent. count_of xs agent < count_of (peer_at peers home.peer).held agent) home.named
          (count_less xs (peer_at peers home.peer).held x.id good (are.each home.peer home.small).good free (held_of (peer_at peers home.peer).held x home.there))

      all : length xs ≡ count_of xs (agent_of 0) + count_of xs (agent_of 1) + count_of xs (agent_of 2)
      all = length_by_agents xs (λ z m. of_three z (homes z m))

      within_each : (n : ℕ) → n < 3 → count_of xs (agent_of n) ≤ made_by peers n
      within_each = within_own xs good homes

      at : (n : ℕ) → n < 3 → count_of xs (agent_of n) < made_by peers n → length xs < t
      at zero small less = let second = within_each 1 (omega arith) in let third = within_each 2 (omega arith) in let few = are.few in omega (arith, all, second, third, few, less)
      at (suc zero) small less = let first = within_each 0 (omega arith) in let third = within_each 2 (omega arith) in let few = are.few in omega (arith, all, first, third, few, less)
      at (suc (suc zero)) small less = let first = within_each 0 (omega arith) in let second = within_each 1 (omega arith) in let few = are.few in omega (arith, all, first, second, few, less)
      at (suc (suc (suc n))) small less = absurd (omega (arith, small))

-- a peer in another's place
module _ (peers : List ReplicaState) (n : ℕ) (p : ReplicaState) (less : n < 3) (three : length peers ≡ 3) (more : (z : Event) → Among z (peer_at peers n).held → Among z p.held) where
  pub itself : peer_at (set peers n p) n ≡ p
  itself = here peers n p (within peers n less three)

  pub home_more : (e : Event) → IsAtHome peers e → IsAtHome (set peers n p) e
  home_more e h = record {
    peer = h.peer;
    small = h.small;
    named = h.named;
    there = ⊎_elim
        (λ (is : h.peer ≡ n). subst (λ k. Among e (peer_at (set peers n p) k).held) (sym is) (subst (λ (q : ReplicaState). Among e q.held) (sym itself) (more e (subst (λ k. Among e (peer_at peers k).held) is h.there))))
        (λ ne. subst (λ (q : ReplicaState). Among e q.held) (sym (elsewhere peers n h.peer p ne)) h.there)
        (equal_or_not h.peer n);
  }

  pub each_more : (limits : LimitNumbers) → ((m : ℕ) → m < 3 → IsMaker limits peers (peer_at peers m)) → IsMaker limits (set peers n p) p → (m : ℕ) → m < 3 → IsMaker limits (set peers n p) (peer_at (set peers n p) m)
  each_more limits each new m small =
      ⊎_elim
      (λ (is : m ≡ n). subst (IsMaker limits (set peers n p)) (sym (ap (peer_at (set peers n p)) is ∙ itself)) new)
      (λ ne. subst (IsMaker limits (set peers n p)) (sym (elsewhere peers n m p ne)) (let old = each m small in record {
        same = old.same;
        none = old.none;
        good = old.good;
        home = λ e k. home_more e (old.home e k);
      }))
      (equal_or_not m n)

  pub made_elsewhere : (m : ℕ) → m ≢ n → made_by (set peers n p) m ≡ made_by peers m
  made_elsewhere m ne = ap (λ (q : ReplicaState). count_of q.held (agent_of m)) (elsewhere peers n m p ne)

  pub made_here : made_by (set peers n p) n ≡ count_of p.held (agent_of n)
  made_here = ap (λ (q : ReplicaState). count_of q.held (agent_of n)) itself

-- what a gift leaves
pub record IsGiven (limits : LimitNumbers) (t giver taker : ℕ) (old new : List ReplicaState) : Type 0 where
  pub are : AreMakers limits t new
  pub took : (z : Event) → Among z (peer_at old giver).held → Among z (peer_at new taker).held
  pub kept : (n : ℕ) → n < 3 → (z : Event) → Among z (peer_at old n).held → Among z (peer_at new n).held
  pub others : (n : ℕ) → n ≢ taker → peer_at new n ≡ peer_at old n
  pub from : (z : Event) → Among z (peer_at new taker).held → IsAtHome old z

module _ (limits : LimitNumbers) (t : ℕ) (peers : List ReplicaState) (are : AreMakers limits t peers) (room : t ≤ limits.events) (giver taker : ℕ) (first : giver < 3) (second : taker < 3) where
  abbrev p : ReplicaState
  p = peer_at peers taker

  abbrev q : ReplicaState
  q = peer_at peers giver

  abbrev new : ReplicaState
  new = received_by p (arrive p.limits p.held p.waiting q.held)

  -- as if the limits and what waits were written out
  abbrev plain : ReplicaState
  plain = record { limits = limits; held = (arrive limits p.held [] q.held).desk.held; waiting = (arrive limits p.held [] q.held).desk.waiting }

  same_new : new ≡ plain
  same_new =
      let own = are.each taker second in
      λ i. record { limits = own.same i; held = (arrive (own.same i) (peer_at peers taker).held (own.none i) (peer_at peers giver).held).desk.held; waiting = (arrive (own.same i) (peer_at peers taker).held (own.none i) (peer_at peers giver).held).desk.waiting }

  taken : IsTakenIn (IsAtHome peers) p.held q.held (arrive limits p.held [] q.held)
  taken =
      taken_whole limits (IsAtHome peers) (one_each limits t peers are)
      (λ held x good homes home free. let less = shorter limits t peers are held x good homes home free in omega (arith, less, room))
      (peer_at peers taker).held (peer_at peers giver).held (are.each taker second).good (are.each giver first).good (are.each taker second).home (are.each giver first).home

  good_new : IsGood plain.held
  unfolding arrive
  good_new =
      let d = desk_of (peer_at peers taker).held [] (peer_at peers giver).held in
      (judgements_keep limits (most_judgements d) d (record { good = (are.each taker second).good; fresh = tt; apart = tt })).good

  pub gift_made : IsGiven limits t giver taker peers (gives giver taker peers)
  unfolding gives
  gift_made = subst (λ (r : ReplicaState). IsGiven limits t giver taker peers (set peers taker r)) (sym same_new) given
    where
      more : (z : Event) → Among z p.held → Among z plain.held
      more z m = taken.old z m

      small : (n : ℕ) → n < 3 → made_by (set peers taker plain) n ≤ made_by peers n
      small n less =
          ⊎_elim
          (λ (is : n ≡ taker).
          let there = made_here peers taker plain second are.three more in
          let fewer = within_own limits t peers are plain.held good_new taken.given taker second in
          subst (λ k. made_by (set peers taker plain) k ≤ made_by peers k) (sym is) (omega (arith, there, fewer)))
          (λ ne. let there = made_elsewhere peers taker plain second are.three more n ne in omega (arith, there))
          (equal_or_not n taker)

      given : IsGiven limits t giver taker peers (set peers taker plain)
      given = record {
        are = record {
          three = length-set peers taker plain ∙ are.three;
          each = each_more peers taker plain second are.three more limits are.each (record {
            same = refl;
            none = taken.waiting;
            good = good_new;
            home = λ e m. home_more peers taker plain second are.three more e (taken.given e m);
          });
          few = let zeroth = small 0 (omega arith) in let one = small 1 (omega arith) in let two = small 2 (omega arith) in let few = are.few in omega (arith, zeroth, one, two, few);
        };
        took = λ z m. subst (λ (r : ReplicaState). Among z r.held) (sym (itself peers taker plain second are.three more)) (taken.new z m);
        kept = λ n less z m.
            ⊎_elim
            (λ (is : n ≡ taker). subst (λ k. Among z (peer_at (set peers taker plain) k).held) (sym is) (subst (λ (r : ReplicaState). Among z r.held) (sym (itself peers taker plain second are.three more)) (more z (subst (λ k. Among z (peer_at peers k).held) is m))))
            (λ ne. subst (λ (r : ReplicaState). Among z r.held) (sym (elsewhere peers taker n plain ne)) m)
            (equal_or_not n taker);
        others = λ n ne. elsewhere peers taker n plain ne;
        from = λ z m. taken.given z (subst (λ (r : ReplicaState). Among z r.held) (itself peers taker plain second are.three more) m);
      }
