-- A gift is a push that is delivered at once, and a drawn edit is a local edit in a net.
use Rattle.std.proofs.Common.{◌≡◌, ℕ, ◌+◌, ◌%◌, ◌<◌, ◌≤◌, Bool, true, false, List, [], ◌∷◌, ◌++◌, length, map, flat_map, set, Option, Some, None, arith, refl, sym, ap, ◌∙◌, subst, append-nil, append_assoc}
use Rattle.std.specs.List.{slice_get}
use Rattle.std.specs.Option.{option_and_then, option_map_or}
use Rattle.ew_model.specs.declared.event.Event.{Event}
use Rattle.ew_model.specs.Arrival.{arrive}
use Rattle.ew_model.specs.Edits.{Edit, EditRefusal, edit_refusal}
use Rattle.ew_model.specs.Edits.Edit.{Insert, Delete, Mark}
use Rattle.ew_model.specs.Kept.{ReplicaState}
use Rattle.ew_model.specs.Limits.{AreLimits, LimitNumbers}
use Rattle.ew_model.specs.Texts.{text_of}
use Rattle.ew_model.proofs.PositionCuts.{last_at}
use Rattle.history_laws.proofs.Parts.{nothing_arrives, parts_are_the_whole}
use Rattle.peer_definitions.specs.declared.net_step.NetStep.{NetStep}
use Rattle.peer_definitions.specs.declared.net_step.NetStep.TheVariants as step
use Rattle.peer_definitions.specs.Answering.{answer_to, event_frames}
use Rattle.peer_definitions.specs.Pieces.{frame_room, pieces}
use Rattle.peer_exchange.proofs.PieceLaws.{frames_are_full}
use Rattle.peer_definitions.specs.declared.frame.Frame.{Frame}
use Rattle.peer_definitions.specs.declared.frame.Frame.TheVariants.{Events}
use Rattle.peer_definitions.specs.Draws.{Drawn, draw_of, drawn_edit, letter, next_state}
use Rattle.peer_definitions.specs.Machine.{Network, Packet, deliver_step, delivery_of, edit_outcome, edit_step, net_step, print_before, put_replica, with_packet, with_peer, with_replies}
use Rattle.peer_definitions.specs.Machine.Refusal.{NoPacket}
use Rattle.peer_definitions.specs.Machine.StepOutcome.{Refused}
use Rattle.peer_definitions.specs.Making.{Making, agent_of, drawn_step, edited, edited_peer, gives, peer_at, received_by}
use Rattle.peer_definitions.specs.Making.Made.{Going}
use Rattle.peer_definitions.specs.Runs.{after_steps, network_left}
use Rattle.std.proofs.lemmas.Nat.{mod_below}
use Rattle.generator.specs.Laws.{EditsAreSteps, GiftsArePushes, IsEditBy, net_of}
use Rattle.generator.proofs.Drawing.{drawn_by, removes}
use Rattle.generator.proofs.NetPeers.{named_peer, put_among, with_named}

-- what frames of events leave of a replica
abbrev received : ReplicaState → List Event → ReplicaState
received r events = received_by r (arrive r.limits r.held r.waiting events)

none_received : (r : ReplicaState) → received r [] ≡ r
none_received r = ap (received_by r) (nothing_arrives r.limits r.held r.waiting)

parts_received : (r : ReplicaState) (xs ys : List Event) → received (received r xs) ys ≡ received r (xs ++ ys)
parts_received r xs ys =
    let parts = parts_are_the_whole r.limits r.held r.waiting xs ys in
    λ i. record { limits = r.limits; held = sym parts.held i; waiting = sym parts.waits i }

pieces_delivered : (name : List ℕ) (r : ReplicaState) (ps : List (List Event)) → (delivery_of name r (map Events ps)).replica ≡ received r (flat_map (λ p. p) ps)
pieces_delivered name r [] = sym (none_received r)
pieces_delivered name r (p ∷ ps) = pieces_delivered name (answer_to r (Events p)).state ps ∙ here
  where
    here : received (answer_to r (Events p)).state (flat_map (λ q. q) ps) ≡ received r (p ++ flat_map (λ q. q) ps)
    here = parts_received r p (flat_map (λ q. q) ps)

-- all events of a peer, in frames
all_delivered : (name : List ℕ) (r : ReplicaState) (limits : LimitNumbers) (events : List Event) → AreLimits limits → (delivery_of name r (event_frames limits events)).replica ≡ received r events
all_delivered name r limits events are =
    pieces_delivered name r (pieces (frame_room limits) events) ∙ ap (received r) (frames_are_full limits events are).whole

-- the last of a list
-- packets that replies make
replies_left : (limits : LimitNumbers) (peers : List ReplicaState) (packets : List Packet) (k : Packet) (printed : List ℕ) (replies : List Frame)
    → (more : List Packet) × (length more ≤ 1) × (network_left (print_before printed (with_replies (net_of limits peers packets) k replies)) ≡ Some (net_of limits peers (packets ++ more)))
replies_left limits peers packets k printed [] = ([], omega arith, ap (λ ks. Some (net_of limits peers ks)) (sym (append-nil packets)))
replies_left limits peers packets k printed (f ∷ frames) = (record { sender = k.receiver; receiver = k.sender; frames = f ∷ frames } ∷ [], omega arith, refl)

module _ (limits : LimitNumbers) (peers : List ReplicaState) (packets : List Packet) (giver taker : ℕ) (three : length peers ≡ 3) (first : giver < 3) (second : taker < 3) (are : AreLimits (peer_at peers giver).limits) where
  abbrev packet : Packet
  packet = record { sender = agent_of giver; receiver = agent_of taker; frames = event_frames (peer_at peers giver).limits (peer_at peers giver).held }

  push_leaves : network_left (net_step (net_of limits peers packets) (step.Push (agent_of giver) (agent_of taker))) ≡ Some (net_of limits peers (packets ++ packet ∷ []))
  unfolding net_step
  push_leaves =
      let net = net_of limits peers packets in
      ap network_left
      (with_named limits peers packets giver (λ p. with_peer net (agent_of taker) (λ q. with_packet net (agent_of giver) (agent_of taker) (event_frames p.replica.limits p.replica.held))) three first
      ∙ with_named limits peers packets taker (λ q. with_packet net (agent_of giver) (agent_of taker) (event_frames (peer_at peers giver).limits (peer_at peers giver).held)) three second)

  given : (delivery_of (agent_of taker) (peer_at peers taker) packet.frames).replica ≡ received (peer_at peers taker) (peer_at peers giver).held
  given = all_delivered (agent_of taker) (peer_at peers taker) (peer_at peers giver).limits (peer_at peers giver).held are

  put_given : put_replica (net_of limits peers (packets ++ packet ∷ [])) (agent_of taker) (delivery_of (agent_of taker) (peer_at peers taker) packet.frames).replica ≡ net_of limits (gives giver taker peers) (packets ++ packet ∷ [])
  unfolding gives
  put_given =
      ap (put_replica (net_of limits peers (packets ++ packet ∷ [])) (agent_of taker)) given
      ∙ put_among limits peers (packets ++ packet ∷ []) taker (received (peer_at peers taker) (peer_at peers giver).held) three second

  delivery_leaves : (more : List Packet) × (length more ≤ 1) × (network_left (net_step (net_of limits peers (packets ++ packet ∷ [])) (step.Deliver (length packets))) ≡ Some (net_of limits (gives giver taker peers) ((packets ++ packet ∷ []) ++ more)))
  unfolding net_step
  delivery_leaves =
      let net = net_of limits peers (packets ++ packet ∷ []) in
      let d = delivery_of (agent_of taker) (peer_at peers taker) packet.frames in
      let rest = replies_left limits (gives giver taker peers) (packets ++ packet ∷ []) packet d.printed d.replies in (
        rest.0,
        rest.1,
        ap (λ (o : Option Packet). network_left (option_map_or (deliver_step net) o (Refused (NoPacket (length packets))))) (last_at packets packet)
            ∙ ap network_left (with_named limits peers (packets ++ packet ∷ []) taker (λ p. let d = delivery_of p.name p.replica packet.frames in print_before d.printed (with_replies (put_replica net (agent_of taker) d.replica) packet d.replies)) three second)
            ∙ ap (λ (n : Network). network_left (print_before d.printed (with_replies n packet d.replies))) put_given
            ∙ rest.2,
      )

  both_left : (more : List Packet) × (length more ≤ 2) × (after_steps (net_of limits peers packets) (step.Push (agent_of giver) (agent_of taker) ∷ step.Deliver (length packets) ∷ []) ≡ Some (net_of limits (gives giver taker peers) (packets ++ more)))
  both_left =
      let rest = delivery_leaves in (
        packet ∷ rest.0,
        (let one = rest.1 in omega (arith, one)),
        ap (option_and_then (λ next. after_steps next (step.Deliver (length packets) ∷ []))) push_leaves
            ∙ ap (option_and_then (λ next. after_steps next [])) rest.2
            ∙ ap (λ ks. Some (net_of limits (gives giver taker peers) ks)) (append_assoc packets (packet ∷ []) rest.0),
      )

pub gifts_are_pushes : GiftsArePushes
gifts_are_pushes limits peers packets giver taker three first second are = both_left limits peers packets giver taker three first second are

-- a step that is a local edit
edit_is : (network : Network) (who : List ℕ) (e : Edit) (s : NetStep) → IsEditBy who e s → net_step network s ≡ edit_step network who e
unfolding net_step
edit_is network who (Insert at text) s is = ap (net_step network) is
edit_is network who (Delete at n) s is = ap (net_step network) is
edit_is network who (Mark label) s is = absurd is

-- a drawn edit is a step
drawn_is_step : (who : List ℕ) (x len : ℕ) → (s : NetStep) × IsEditBy who (drawn_edit x len).edit s
drawn_is_step who x len = at (removes (next_state x) len) refl
  where
    at : (b : Bool) → removes (next_state x) len ≡ b → (s : NetStep) × IsEditBy who (drawn_edit x len).edit s
    at true is =
        let s = step.Del who (draw_of (next_state (next_state x)) % len) 1 in
        (s, subst (λ (d : Drawn). IsEditBy who d.edit s) (sym (drawn_by x len true is)) refl)
    at false is =
        let s = step.Ins who (draw_of (next_state (next_state x)) % (len + 1)) (letter (draw_of (next_state (next_state (next_state x)))) ∷ []) in
        (s, subst (λ (d : Drawn). IsEditBy who d.edit s) (sym (drawn_by x len false is)) refl)

edited_left : (limits : LimitNumbers) (m next : Making) (packets : List Packet) (n : ℕ) (drawn : Drawn) (o : Option EditRefusal) → length m.peers ≡ 3 → n < 3
    → edited m n (peer_at m.peers n) drawn o ≡ Going next
    → network_left (edit_outcome (net_of limits m.peers packets) (named_peer m.peers n) drawn.edit o) ≡ Some (net_of limits next.peers packets)
edited_left limits m next packets n drawn (Some why) three less is = let no : ⊥ = cc in absurd no
edited_left limits m next packets n drawn None three less is =
    let same : record { state = drawn.state; peers = set m.peers n (edited_peer (peer_at m.peers n) (agent_of n) drawn.edit) } ≡ next = cc in
    ap Some (put_among limits m.peers packets n (edited_peer (peer_at m.peers n) (agent_of n) drawn.edit) three less)
    ∙ ap (λ (x : Making). Some (net_of limits x.peers packets)) same

-- the drawn edit of a drawn peer
abbrev pub drawn_peer : Making → ℕ
drawn_peer m = draw_of (next_state m.state) % 3

abbrev pub drawn_for : Making → Drawn
drawn_for m = drawn_edit (next_state m.state) (length (text_of (peer_at m.peers (draw_of (next_state m.state) % 3)).held))

-- the step that it is
pub drawn_step_of : (m : Making) → (s : NetStep) × IsEditBy (agent_of (drawn_peer m)) (drawn_for m).edit s
drawn_step_of m = drawn_is_step (agent_of (drawn_peer m)) (next_state m.state) (length (text_of (peer_at m.peers (draw_of (next_state m.state) % 3)).held))

pub drawn_peer_small : (m : Making) → drawn_peer m < 3
drawn_peer_small m = mod_below (draw_of (next_state m.state)) 3 (omega arith)

pub drawn_leaves : (limits : LimitNumbers) (m next : Making) (packets : List Packet) (s : NetStep) → length m.peers ≡ 3 → IsEditBy (agent_of (drawn_peer m)) (drawn_for m).edit s → drawn_step m ≡ Going next
    → network_left (net_step (net_of limits m.peers packets) s) ≡ Some (net_of limits next.peers packets)
unfolding drawn_step
drawn_leaves limits m next packets s three edits is =
    let n = draw_of (next_state m.state) % 3 in
    let less = mod_below (draw_of (next_state m.state)) 3 (omega arith) in
    let p = peer_at m.peers n in
    let drawn = drawn_edit (next_state m.state) (length (text_of p.held)) in
    let net = net_of limits m.peers packets in
    ap network_left (edit_is net (agent_of n) drawn.edit s edits ∙ with_named limits m.peers packets n (λ q. edit_outcome net q drawn.edit (edit_refusal q.replica.limits q.replica.held q.name drawn.edit)) three less)
    ∙ edited_left limits m next packets n drawn (edit_refusal p.limits p.held (agent_of n) drawn.edit) three less is

pub edits_are_steps : EditsAreSteps
edits_are_steps limits m next packets three is =
    let step = drawn_step_of m in
    (drawn_peer m, (drawn_for m).edit, step.0, drawn_peer_small m, step.1, drawn_leaves limits m next packets step.0 three step.1 is)
