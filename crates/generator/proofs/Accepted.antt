-- A drawn edit isn't refused while there is room, and leaves makers.
use Rattle.std.proofs.Common.{◌≡◌, ℕ, zero, suc, ◌+◌, ◌%◌, ◌<◌, ◌≤◌, nat_lt, Bool, true, false, cond, not, ◌&&◌, ◌==◌, inl, ⊎_elim, List, [], ◌∷◌, ◌++◌, length, set, Some, None, arith, refl, sym, ap, ◌∙◌, subst}
use Rattle.std.proofs.lemmas.Bool.{and_parts, false≢true, le-ltb, not-true}
use Rattle.std.proofs.lemmas.List.{length-set}
use Rattle.std.proofs.lemmas.Nat.{mod_below}
use Rattle.ew_model.specs.declared.event.Event.{Event}
use Rattle.ew_model.specs.declared.event.Op.{Op}
use Rattle.ew_model.specs.Ancestors.{heads}
use Rattle.ew_model.specs.Edits.{Edit, EditRefusal, edit_refusal, events_of_edit, needed_length, needs_few_heads}
use Rattle.ew_model.specs.Edits.Edit.{Insert, Delete, Mark}
use Rattle.ew_model.specs.Kept.{ReplicaState}
use Rattle.ew_model.specs.Limits.{LimitNumbers}
use Rattle.ew_model.specs.Sets.{Among}
use Rattle.ew_model.specs.Texts.{text_of}
use Rattle.ew_model.specs.Verdicts.{IsGood}
use Rattle.ew_model.proofs.EditEvents.{event_by}
use Rattle.ew_model.proofs.EditLaws.{edits_are_good}
use Rattle.ew_model.proofs.EditNumbers.{count_of-push}
use Rattle.ew_model.proofs.IdLaws.{names_equal}
use Rattle.ew_model.proofs.SetLaws.{among_joined, joined_left, joined_right}
use Rattle.peer_definitions.specs.Draws.{Drawn, draw_of, drawn_edit, next_state}
use Rattle.peer_definitions.specs.Making.{Making, agent_of, edited, edited_peer, peer_at}
use Rattle.peer_definitions.specs.Making.Made.{Going}
use Rattle.generator.proofs.AgentHeads.{three_heads}
use Rattle.generator.proofs.Drawing.{drawn_by, one_event, removes}
use Rattle.generator.proofs.Makers.{AreMakers, IsAtHome, IsMaker, each_more, home_more, itself, made_by, made_elsewhere, made_here, of_three, short}

all_off : (a b c d : Bool) (x y z : EditRefusal) → a ≡ false → c ≡ false → d ≡ false → cond a (Some x) (cond b None (cond c (Some y) (cond d (Some z) None))) ≡ None
all_off true b c d x y z p q r = absurd (false≢true (sym p))
all_off false true c d x y z p q r = refl
all_off false false true d x y z p q r = absurd (false≢true (sym q))
all_off false false false true x y z p q r = absurd (false≢true (sym r))
all_off false false false false x y z p q r = refl

few_off : (edit : Edit) (b : Bool) → b ≡ false → (needs_few_heads edit && b) ≡ false
few_off (Insert at text) b h = h
few_off (Delete at count) b h = h
few_off (Mark label) b h = refl

-- an edit that nothing speaks against
none_against : (limits : LimitNumbers) (history : List Event) (agent : List ℕ) (edit : Edit) → needed_length edit ≤ length (text_of history) → length (heads history) ≤ 16
    → length history + length (events_of_edit history agent edit) ≤ limits.events → edit_refusal limits history agent edit ≡ None
unfolding edit_refusal
none_against limits history agent edit inside few room =
    all_off _ _ _ _ _ _ _ (le-ltb (length (text_of history)) (needed_length edit) inside)
    (few_off edit (nat_lt 16 (length (heads history))) (le-ltb 16 (length (heads history)) few))
    (le-ltb limits.events (length history + length (events_of_edit history agent edit)) room)

-- a drawn index is within the text
drawn_inside : (x len : ℕ) → needed_length (drawn_edit x len).edit ≤ len
drawn_inside x len = at (removes (next_state x) len) refl
  where
    at : (b : Bool) → removes (next_state x) len ≡ b → needed_length (drawn_edit x len).edit ≤ len
    at true is =
        let some = not-true (len == 0) (and_parts (draw_of (next_state x) % 4 == 0) (not (len == 0)) is).1 in
        let more : 0 < len = positive len some in
        let less = mod_below (draw_of (next_state (next_state x))) len more in
        subst (λ (d : Drawn). needed_length d.edit ≤ len) (sym (drawn_by x len true is)) (omega (arith, less))
      where
        positive : (n : ℕ) → (n == 0) ≡ false → 0 < n
        positive zero h = absurd (false≢true (sym h))
        positive (suc n) h = omega arith
    at false is =
        let less = mod_below (draw_of (next_state (next_state x))) (len + 1) (omega arith) in
        subst (λ (d : Drawn). needed_length d.edit ≤ len) (sym (drawn_by x len false is)) (omega (arith, less))

module _ (limits : LimitNumbers) (t : ℕ) (peers : List ReplicaState) (are : AreMakers limits t peers) (room : t < limits.events) (x n : ℕ) (less : n < 3) where
  abbrev p : ReplicaState
  p = peer_at peers n

  abbrev drawn : Drawn
  drawn = drawn_edit x (length (text_of p.held))

  -- nothing speaks against it
  accepted : edit_refusal p.limits p.held (agent_of n) drawn.edit ≡ None
  accepted =
      let q = peer_at peers n in
      let own = are.each n less in
      let one = one_event q.held (agent_of n) x (length (text_of q.held)) in
      let long : length (events_of_edit q.held (agent_of n) (drawn_edit x (length (text_of q.held))).edit) ≡ 1 = ap length one.1 in
      let held = short limits t peers are q.held own.good own.home in
      let heads_few = three_heads q.held own.good (λ z m. of_three limits t peers are z (own.home z m)) in
      none_against q.limits q.held (agent_of n) (drawn_edit x (length (text_of q.held))).edit (drawn_inside x (length (text_of q.held))) (omega (arith, heads_few))
      (subst (λ (l : LimitNumbers). length q.held + length (events_of_edit q.held (agent_of n) (drawn_edit x (length (text_of q.held))).edit) ≤ l.events) (sym own.same) (omega (arith, long, held, room)))

  pub edit_goes : (m : Making) → m.peers ≡ peers → edited m n p drawn (edit_refusal p.limits p.held (agent_of n) drawn.edit) ≡ Going (record { state = drawn.state; peers = set peers n (edited_peer p (agent_of n) drawn.edit) })
  edit_goes m is = ap (edited m n p drawn) accepted ∙ (λ i. Going (record { state = drawn.state; peers = set (is i) n (edited_peer p (agent_of n) drawn.edit) }))

  pub edit_keeps : AreMakers limits (suc t) (set peers n (edited_peer p (agent_of n) drawn.edit))
  edit_keeps = subst (λ (r : ReplicaState). AreMakers limits (suc t) (set peers n r)) (sym same) kept
    where
      q : ReplicaState
      q = peer_at peers n

      own : IsMaker limits peers q
      own = are.each n less

      one : (o : Op) × (events_of_edit q.held (agent_of n) (drawn_edit x (length (text_of q.held))).edit ≡ event_by q.held (agent_of n) o ∷ [])
      one = one_event q.held (agent_of n) x (length (text_of q.held))

      e : Event
      e = event_by q.held (agent_of n) one.0

      new : ReplicaState
      new = record { limits = q.limits; held = q.held ++ e ∷ []; waiting = q.waiting }

      same : edited_peer q (agent_of n) (drawn_edit x (length (text_of q.held))).edit ≡ new
      same = λ i. record { limits = q.limits; held = q.held ++ one.1 i; waiting = q.waiting }

      more : (z : Event) → Among z q.held → Among z new.held
      more z m = joined_left q.held (e ∷ []) z m

      held_few : length q.held ≤ q.limits.events
      held_few = let h = short limits t peers are q.held own.good own.home in subst (λ (l : LimitNumbers). length q.held ≤ l.events) (sym own.same) (omega (arith, h, room))

      good : IsGood new.held
      good =
          subst (λ made. IsGood (q.held ++ made)) one.1
          (edits_are_good q.limits q.held (agent_of n) (drawn_edit x (length (text_of q.held))).edit own.good held_few accepted).0

      itself_there : Among e (peer_at (set peers n new) n).held
      itself_there = subst (λ (r : ReplicaState). Among e r.held) (sym (itself peers n new less are.three more)) (joined_right q.held (e ∷ []) e (inl refl))

      made : made_by (set peers n new) n ≡ made_by peers n + 1
      made = made_here peers n new less are.three more ∙ count_of-push q.held e (agent_of n) true (names_equal.refl (agent_of n))

      few_at : (m : ℕ) → m < 3 → m ≡ n → made_by (set peers n new) 0 + made_by (set peers n new) 1 + made_by (set peers n new) 2 ≤ suc t
      few_at zero small is =
          let here : made_by (set peers n new) 0 ≡ made_by peers 0 + 1 = subst (λ k. made_by (set peers n new) k ≡ made_by peers k + 1) (sym is) made in
          let second = made_elsewhere peers n new less are.three more 1 (λ q. omega (arith, q, is)) in
          let third = made_elsewhere peers n new less are.three more 2 (λ q. omega (arith, q, is)) in
          let few = are.few in
          omega (arith, here, second, third, few)
      few_at (suc zero) small is =
          let here : made_by (set peers n new) 1 ≡ made_by peers 1 + 1 = subst (λ k. made_by (set peers n new) k ≡ made_by peers k + 1) (sym is) made in
          let first = made_elsewhere peers n new less are.three more 0 (λ q. omega (arith, q, is)) in
          let third = made_elsewhere peers n new less are.three more 2 (λ q. omega (arith, q, is)) in
          let few = are.few in
          omega (arith, here, first, third, few)
      few_at (suc (suc zero)) small is =
          let here : made_by (set peers n new) 2 ≡ made_by peers 2 + 1 = subst (λ k. made_by (set peers n new) k ≡ made_by peers k + 1) (sym is) made in
          let first = made_elsewhere peers n new less are.three more 0 (λ q. omega (arith, q, is)) in
          let second = made_elsewhere peers n new less are.three more 1 (λ q. omega (arith, q, is)) in
          let few = are.few in
          omega (arith, here, first, second, few)
      few_at (suc (suc (suc m))) small is = absurd (omega (arith, small))

      kept : AreMakers limits (suc t) (set peers n new)
      kept = record {
        three = length-set peers n new ∙ are.three;
        each = each_more peers n new less are.three more limits are.each (record {
          same = own.same;
          none = own.none;
          good = good;
          home = λ z m.
              ⊎_elim (λ old. home_more peers n new less are.three more z (own.home z old))
              (λ k. ⊎_elim (λ (is : z ≡ e). subst (IsAtHome (set peers n new)) (sym is) (record { peer = n; small = less; named = refl; there = itself_there })) (λ no. absurd no) k)
              (among_joined q.held (e ∷ []) z m);
        });
        few = few_at n less refl;
      }
