-- While there is room no edit of a making is refused, and at the end all peers hold the same events.
use Rattle.std.proofs.Common.{◌≡◌, ℕ, zero, suc, ◌+◌, ◌/◌, ◌%◌, ◌<◌, ◌≤◌, Bool, true, false, cond, ◌&&◌, ◌==◌, ⊎_elim, List, [], ◌∷◌, ◌++◌, length, set, arith, refl, sym, ap, ◌∙◌, subst}
use Rattle.std.proofs.lemmas.Nat.{mod_below}
use Rattle.ew_model.specs.declared.event.Event.{Event}
use Rattle.ew_model.specs.Kept.{ReplicaState}
use Rattle.ew_model.specs.Limits.{LimitNumbers}
use Rattle.ew_model.specs.Sets.{Among}
use Rattle.ew_model.specs.Texts.{text_of}
use Rattle.ew_model.specs.Verdicts.{IsGood}
use Rattle.peer_definitions.specs.Draws.{draw_of, drawn_edit, next_state}
use Rattle.peer_definitions.specs.Making.{Making, after_step, agent_of, agreement_line, drawn_step, edited_peer, gives, history_lines, made, made_steps, neighbours_agree, newcomer, next_step, peer_at, rounded_off, rounded_peers, same_events}
use Rattle.peer_definitions.specs.Making.Made.{Going}
use Rattle.generator.proofs.Accepted.{edit_goes, edit_keeps}
use Rattle.generator.proofs.Agreement.{agree_of_three, tells_same}
use Rattle.generator.proofs.Makers.{AreMakers, IsAtHome, IsGiven, IsMaker, gift_made}
use Rattle.generator.proofs.Owned.{equal_or_not}
use Rattle.generator.specs.Laws.{MadePeersAgree}

-- what so many steps make
pub record IsMade (limits : LimitNumbers) (seed t : ℕ) : Type 0 where
  pub making : Making
  pub is : made_steps limits seed t ≡ Going making
  pub are : AreMakers limits t making.peers

newcomers : LimitNumbers → List ReplicaState
newcomers limits = newcomer limits ∷ newcomer limits ∷ newcomer limits ∷ []

nothing_held : (limits : LimitNumbers) (n : ℕ) → n < 3 → IsMaker limits (newcomers limits) (peer_at (newcomers limits) n)
unfolding peer_at newcomers IsGood
nothing_held limits zero less = record { same = refl; none = refl; good = tt; home = λ e no. absurd no }
nothing_held limits (suc zero) less = record { same = refl; none = refl; good = tt; home = λ e no. absurd no }
nothing_held limits (suc (suc zero)) less = record { same = refl; none = refl; good = tt; home = λ e no. absurd no }
nothing_held limits (suc (suc (suc n))) less = absurd (omega (arith, less))

none_made : (limits : LimitNumbers) (seed : ℕ) → IsMade limits seed 0
unfolding peer_at newcomers
none_made limits seed = record {
  making = record { state = seed; peers = newcomer limits ∷ newcomer limits ∷ newcomer limits ∷ [] };
  is = refl;
  are = record { three = refl; each = nothing_held limits; few = omega arith };
}

-- an edit
drawn : (limits : LimitNumbers) (t : ℕ) (m : Making) → AreMakers limits t m.peers → t < limits.events → (next : Making) × (drawn_step m ≡ Going next) × AreMakers limits (suc t) next.peers
unfolding drawn_step
drawn limits t m are less =
    let x = next_state m.state in
    let n = draw_of x % 3 in
    let small = mod_below (draw_of x) 3 (omega arith) in
    let edit = drawn_edit x (length (text_of (peer_at m.peers n).held)) in (
      record { state = edit.state; peers = set m.peers n (edited_peer (peer_at m.peers n) (agent_of n) edit.edit) },
      edit_goes limits t m.peers are less x n small m refl,
      edit_keeps limits t m.peers are less x n small,
    )

-- and then a gift where it is a peer's turn
turned : (limits : LimitNumbers) (t : ℕ) (m : Making) → AreMakers limits (suc t) m.peers → t < limits.events → (next : Making) × (after_step t (Going m) ≡ Going next) × AreMakers limits (suc t) next.peers
turned limits t m are less = at (t % 64 == 63) refl
  where
    given : Making
    given = record { state = m.state; peers = gives (t / 64 % 3) ((t / 64 % 3 + 1) % 3) m.peers }

    at : (b : Bool) → (t % 64 == 63) ≡ b → (next : Making) × (after_step t (Going m) ≡ Going next) × AreMakers limits (suc t) next.peers
    at true is = (
      given,
      ap (λ b. cond b (Going given) (Going m)) is,
      (gift_made limits (suc t) m.peers are (omega (arith, less)) (t / 64 % 3) ((t / 64 % 3 + 1) % 3) (mod_below (t / 64) 3 (omega arith)) (mod_below (t / 64 % 3 + 1) 3 (omega arith))).are,
    )
    at false is = (m, ap (λ b. cond b (Going given) (Going m)) is, are)

one_more : (limits : LimitNumbers) (seed t : ℕ) → t < limits.events → IsMade limits seed t → IsMade limits seed (suc t)
one_more limits seed t less before =
    let edit = drawn limits t before.making before.are less in
    let turn = turned limits t edit.0 edit.2 less in
    record { making = turn.0; is = ap (next_step t) before.is ∙ ap (after_step t) edit.1 ∙ turn.1; are = turn.2 }

-- so many steps go on while there is room
pub steps_go_on : (limits : LimitNumbers) (seed t : ℕ) → t ≤ limits.events → IsMade limits seed t
steps_go_on limits seed zero h = none_made limits seed
steps_go_on limits seed (suc t) h = one_more limits seed t (omega (arith, h)) (steps_go_on limits seed t (omega (arith, h)))

-- what is at home after a gift was so before
home_before : (limits : LimitNumbers) (t giver taker : ℕ) (old new : List ReplicaState) → IsGiven limits t giver taker old new → (e : Event) → IsAtHome new e → IsAtHome old e
home_before limits t giver taker old new g e h =
    ⊎_elim
    (λ (is : h.peer ≡ taker). g.from e (subst (λ k. Among e (peer_at new k).held) is h.there))
    (λ ne. record { peer = h.peer; small = h.small; named = h.named; there = subst (λ (r : ReplicaState). Among e r.held) (g.others h.peer ne) h.there })
    (equal_or_not h.peer taker)

-- after the last four gifts each holds what any holds
module _ (limits : LimitNumbers) (t : ℕ) (peers : List ReplicaState) (are : AreMakers limits t peers) (room : t ≤ limits.events) where
  first : IsGiven limits t 0 1 peers (gives 0 1 peers)
  first = gift_made limits t peers are room 0 1 (omega arith) (omega arith)

  second : IsGiven limits t 1 2 (gives 0 1 peers) (gives 1 2 (gives 0 1 peers))
  second = gift_made limits t (gives 0 1 peers) first.are room 1 2 (omega arith) (omega arith)

  third : IsGiven limits t 2 0 (gives 1 2 (gives 0 1 peers)) (gives 2 0 (gives 1 2 (gives 0 1 peers)))
  third = gift_made limits t (gives 1 2 (gives 0 1 peers)) second.are room 2 0 (omega arith) (omega arith)

  pub fourth : IsGiven limits t 0 1 (gives 2 0 (gives 1 2 (gives 0 1 peers))) (rounded_peers peers)
  fourth = gift_made limits t (gives 2 0 (gives 1 2 (gives 0 1 peers))) third.are room 0 1 (omega arith) (omega arith)

  -- the last one holds all after two gifts
  all_there : (e : Event) → IsAtHome peers e → Among e (peer_at (gives 1 2 (gives 0 1 peers)) 2).held
  all_there e h = at h.peer h.small h.there
    where
      at : (n : ℕ) → n < 3 → Among e (peer_at peers n).held → Among e (peer_at (gives 1 2 (gives 0 1 peers)) 2).held
      at zero small m = second.took e (first.took e m)
      at (suc zero) small m = second.took e (first.kept 1 (omega arith) e m)
      at (suc (suc zero)) small m = second.kept 2 (omega arith) e (first.kept 2 (omega arith) e m)
      at (suc (suc (suc n))) small m = absurd (omega (arith, small))

  everywhere : (e : Event) → Among e (peer_at (gives 1 2 (gives 0 1 peers)) 2).held → (n : ℕ) → n < 3 → Among e (peer_at (rounded_peers peers) n).held
  everywhere e m zero small = fourth.kept 0 (omega arith) e (third.took e m)
  everywhere e m (suc zero) small = fourth.took e (third.took e m)
  everywhere e m (suc (suc zero)) small = fourth.kept 2 (omega arith) e (third.kept 2 (omega arith) e m)
  everywhere e m (suc (suc (suc n))) small = absurd (omega (arith, small))

  held_by_all : (n k : ℕ) → n < 3 → k < 3 → (e : Event) → Among e (peer_at (rounded_peers peers) n).held → Among e (peer_at (rounded_peers peers) k).held
  held_by_all n k less small e m =
      let last = (fourth.are.each n less).home e m in
      let before = home_before limits t 0 1 _ _ fourth e last in
      let earlier = home_before limits t 2 0 _ _ third e before in
      let early = home_before limits t 1 2 _ _ second e earlier in
      everywhere e (all_there e (home_before limits t 0 1 _ _ first e early)) k small

  same_two : (n k : ℕ) → n < 3 → k < 3 → same_events (peer_at (rounded_peers peers) n).held (peer_at (rounded_peers peers) k).held ≡ true
  same_two n k less small =
      sym (tells_same true _ _ ((λ told. record { there = held_by_all n k less small; back = held_by_all k n small less }), (λ same. refl)))

  pub all_agree : neighbours_agree (rounded_peers peers) ≡ true
  all_agree =
      agree_of_three (rounded_peers peers) fourth.are.three
      ∙ (λ i. same_two 0 1 (omega arith) (omega arith) i && same_two 1 2 (omega arith) (omega arith) i)

pub made_peers_agree : MadePeersAgree
unfolding made
made_peers_agree limits seed count few =
    let steps = steps_go_on limits seed count few in (
      record { state = steps.making.state; peers = rounded_peers steps.making.peers },
      ap rounded_off steps.is,
      ap (λ b. history_lines (peer_at (rounded_peers steps.making.peers) 0).held ++ agreement_line b) (all_agree limits count steps.making.peers steps.are few),
    )
