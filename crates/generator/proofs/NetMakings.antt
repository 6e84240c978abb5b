-- What is made is what three peers make in a net.
use Rattle.std.proofs.Common.{◌≡◌, ℕ, zero, suc, ◌+◌, ◌*◌, ◌/◌, ◌%◌, ◌^◌, ◌<◌, ◌≤◌, nat_le, nat_lt, Bool, true, false, cond, ◌&&◌, ◌==◌, ⊎_elim, List, [], ◌∷◌, ◌++◌, length, set, Option, Some, None, arith, refl, sym, ap, ◌∙◌, subst, append_assoc}
use Rattle.std.specs.Char.{IsScalar}
use Rattle.std.specs.List.{AllByRecursion}
use Rattle.std.specs.Option.{option_and_then}
use Rattle.std.specs.Str.{all_scalars}
use Rattle.std.proofs.lemmas.Bool.{and_from, lt-ltb}
use Rattle.std.proofs.lemmas.List.{length-append, length-set}
use Rattle.std.proofs.lemmas.Nat.{mod_below}
use Rattle.std.proofs.Math.Nat.{mod-le}
use Rattle.ew_model.specs.Edits.{Edit}
use Rattle.ew_model.specs.Edits.Edit.{Insert, Delete, Mark}
use Rattle.ew_model.specs.Kept.{ReplicaState}
use Rattle.ew_model.specs.Limits.{AreLimits, LimitNumbers}
use Rattle.ew_model.specs.Names.{is_name}
use Rattle.ew_model.specs.Texts.{text_of}
use Rattle.ew_model.proofs.EntryLaws.{all_joined}
use Rattle.peer_definitions.specs.declared.net_step.NetStep.{NetStep}
use Rattle.peer_definitions.specs.declared.net_step.NetStep.TheVariants as step
use Rattle.peer_definitions.specs.NetScripts.{IsSoundStep}
use Rattle.peer_definitions.specs.Draws.{Drawn, draw_of, drawn_edit, letter, next_state}
use Rattle.peer_definitions.specs.Machine.{Network, Packet, empty_network, net_step}
use Rattle.peer_definitions.specs.Making.{Made, Making, after_step, agent_of, drawn_step, edited, edited_peer, gives, made, made_steps, newcomer, next_step, peer_at, received_by, rounded_off, rounded_peers}
use Rattle.peer_definitions.specs.Making.Made.{Going, Stopped}
use Rattle.peer_definitions.specs.Runs.{after_steps, network_left}
use Rattle.ew_model.specs.Edits.{EditRefusal, edit_refusal}
use Rattle.ew_model.specs.Arrival.{arrive}
use Rattle.generator.specs.Laws.{AreMadeInNet, MakingsAreNets, IsEditBy, is_edit_or_gift, net_of, peers_come}
use Rattle.generator.proofs.Drawing.{addition, drawn_by, removal, removes}
use Rattle.generator.proofs.NetGifts.{drawn_leaves, drawn_step_of, gifts_are_pushes}
use Rattle.generator.proofs.Owned.{elsewhere, equal_or_not, here, within}

-- steps behind others
steps_behind : (a b c : Network) (xs ys : List NetStep) → after_steps a xs ≡ Some b → after_steps b ys ≡ Some c → after_steps a (xs ++ ys) ≡ Some c
steps_behind a b c [] ys p q = let same : a ≡ b = cc in ap (λ (n : Network). after_steps n ys) same ∙ q
steps_behind a b c (s ∷ xs) ys p q = at (network_left (net_step a s)) refl p (λ n rest. steps_behind n b c xs ys rest q)
  where
    at : (o : Option Network) → network_left (net_step a s) ≡ o → option_and_then (λ n. after_steps n xs) o ≡ Some b
        → ((n : Network) → after_steps n xs ≡ Some b → after_steps n (xs ++ ys) ≡ Some c) → after_steps a ((s ∷ xs) ++ ys) ≡ Some c
    at (Some n) is rest on = ap (option_and_then (λ n. after_steps n (xs ++ ys))) is ∙ on n rest
    at None is rest on = let no : ⊥ = cc in absurd no

one_step : (a b : Network) (s : NetStep) → network_left (net_step a s) ≡ Some b → after_steps a (s ∷ []) ≡ Some b
one_step a b s is = ap (option_and_then (λ n. after_steps n [])) is

-- three peers of these limits, made in a net by so many steps at most
record IsNet (limits : LimitNumbers) (most : ℕ) (peers : List ReplicaState) : Type 0 where
  three : length peers ≡ 3
  same : (n : ℕ) → n < 3 → (peer_at peers n).limits ≡ limits
  made : AreMadeInNet limits most peers
  few : length made.packets ≤ most

-- the peers come
same_at_first : (limits : LimitNumbers) (n : ℕ) → n < 3 → (peer_at (newcomer limits ∷ newcomer limits ∷ newcomer limits ∷ []) n).limits ≡ limits
unfolding peer_at
same_at_first limits zero less = refl
same_at_first limits (suc zero) less = refl
same_at_first limits (suc (suc zero)) less = refl
same_at_first limits (suc (suc (suc n))) less = absurd (omega (arith, less))

at_first : (limits : LimitNumbers) → IsNet limits 0 (newcomer limits ∷ newcomer limits ∷ newcomer limits ∷ [])
unfolding net_step
at_first limits = record {
  three = refl;
  same = same_at_first limits;
  made = record { steps = []; packets = []; sound = tt; kinds = tt; few = omega arith; left = refl };
  few = omega arith;
}

-- a peer of these limits in another's place
same_more : (limits : LimitNumbers) (peers : List ReplicaState) (n : ℕ) (p : ReplicaState) → n < 3 → length peers ≡ 3 → p.limits ≡ limits → ((m : ℕ) → m < 3 → (peer_at peers m).limits ≡ limits) → (m : ℕ) → m < 3
    → (peer_at (set peers n p) m).limits ≡ limits
same_more limits peers n p less three is same m small =
    ⊎_elim
    (λ (e : m ≡ n). ap (λ k. (peer_at (set peers n p) k).limits) e ∙ ap (λ (r : ReplicaState). r.limits) (here peers n p (within peers n less three)) ∙ is)
    (λ ne. ap (λ (r : ReplicaState). r.limits) (elsewhere peers n m p ne) ∙ same m small)
    (equal_or_not m n)

-- so many steps more
abbrev went_on : (limits : LimitNumbers) (most more : ℕ) (old new : List ReplicaState) (made : AreMadeInNet limits most old) (steps : List NetStep) (packets : List Packet) → AllByRecursion IsSoundStep steps
    → AllByRecursion (λ s. is_edit_or_gift s ≡ true) steps → length steps ≤ more → after_steps (net_of limits old made.packets) steps ≡ Some (net_of limits new packets) → AreMadeInNet limits (most + more) new
went_on limits most more old new made steps packets sound kinds few left = record {
  steps = made.steps ++ steps;
  packets = packets;
  sound = all_joined IsSoundStep made.steps steps made.sound sound;
  kinds = all_joined (λ s. is_edit_or_gift s ≡ true) made.steps steps made.kinds kinds;
  few = let long = length-append made.steps steps in let first = made.few in omega (arith, long, first, few);
  left = ap (after_steps (empty_network limits)) (sym (append_assoc peers_come made.steps steps))
      ∙ steps_behind (empty_network limits) (net_of limits old made.packets) (net_of limits new packets) (peers_come ++ made.steps) steps made.left left;
}

-- drawn edits are sound
named : (n : ℕ) → n < 3 → is_name (agent_of n) ≡ true
named zero less = refl
named (suc zero) less = refl
named (suc (suc zero)) less = refl
named (suc (suc (suc n))) less = absurd (omega (arith, less))

small_draw : (x : ℕ) → draw_of (next_state x) < 2 ^ 32
unfolding next_state
small_draw x =
    let less : (x * 6364136223846793005 + 1442695040888963407) % 2 ^ 64 < 2 ^ 64 = mod_below (x * 6364136223846793005 + 1442695040888963407) (2 ^ 64) (omega arith) in
    quotient ((x * 6364136223846793005 + 1442695040888963407) % 2 ^ 64) less
  where
    quotient : (y : ℕ) → y < 2 ^ 64 → y / 2 ^ 33 < 2 ^ 32
    quotient y less = omega (arith, less)

low : (ch : ℕ) → ch < 55296 → IsScalar ch
low ch less = ap (λ b. cond b true (nat_le 57344 ch && nat_lt ch 1114112)) (lt-ltb ch 55296 less)

letter_low : (n : ℕ) → letter n < 55296
letter_low n = omega arith

sound_drawn : (who : List ℕ) (x len : ℕ) (s : NetStep) → is_name who ≡ true → IsEditBy who (drawn_edit x len).edit s → IsSoundStep s
sound_drawn who x len s name edits = at (removes (next_state x) len) refl
  where
    drawn_as : (d : Drawn) → drawn_edit x len ≡ d → IsEditBy who d.edit s
    drawn_as d same = subst (λ (e : Drawn). IsEditBy who e.edit s) same edits

    at : (b : Bool) → removes (next_state x) len ≡ b → IsSoundStep s
    at true is =
        let d = draw_of (next_state (next_state x)) in
        let draw = small_draw (next_state x) in
        let index = mod-le d len in
        let one : 1 < 2 ^ 32 = omega arith in
        subst IsSoundStep (sym (drawn_as (removal (next_state x) len) (drawn_by x len true is))) (name, omega (arith, draw, index), one)
    at false is =
        let d = draw_of (next_state (next_state x)) in
        let c = draw_of (next_state (next_state (next_state x))) in
        let draw = small_draw (next_state x) in
        let index = mod-le d (len + 1) in
        let scalar : all_scalars (letter c ∷ []) ≡ true = and_from _ _ (low (letter c) (letter_low c)) refl in
        subst IsSoundStep (sym (drawn_as (addition (next_state x) len) (drawn_by x len false is))) (name, omega (arith, draw, index), scalar)

edit_kind : (who : List ℕ) (e : Edit) (s : NetStep) → IsEditBy who e s → is_edit_or_gift s ≡ true
edit_kind who (Insert at text) s is = ap is_edit_or_gift is
edit_kind who (Delete at n) s is = ap is_edit_or_gift is
edit_kind who (Mark label) s is = absurd is

-- the peers that an edit leaves
edited_peers : (m next : Making) (n : ℕ) (p : ReplicaState) (drawn : Drawn) (o : Option EditRefusal) → edited m n p drawn o ≡ Going next → next.peers ≡ set m.peers n (edited_peer p (agent_of n) drawn.edit)
edited_peers m next n p drawn (Some why) is = let no : ⊥ = cc in absurd no
edited_peers m next n p drawn None is =
    let same : record { state = drawn.state; peers = set m.peers n (edited_peer p (agent_of n) drawn.edit) } ≡ next = cc in
    ap (λ (x : Making). x.peers) (sym same)

by_edit : (limits : LimitNumbers) (most : ℕ) (m next : Making) → IsNet limits most m.peers → drawn_step m ≡ Going next → IsNet limits (most + 1) next.peers
unfolding drawn_step
by_edit limits most m next net is =
    let x = next_state m.state in
    let n = draw_of x % 3 in
    let less = mod_below (draw_of x) 3 (omega arith) in
    let p = peer_at m.peers n in
    let drawn = drawn_edit x (length (text_of p.held)) in
    let peers = edited_peers m next n p drawn (edit_refusal p.limits p.held (agent_of n) drawn.edit) is in
    record {
      three = ap length peers ∙ length-set m.peers n (edited_peer p (agent_of n) drawn.edit) ∙ net.three;
      same = λ k small. ap (λ ps. (peer_at ps k).limits) peers ∙ same_more limits m.peers n (edited_peer p (agent_of n) drawn.edit) less net.three (net.same n less) net.same k small;
      made =
          let step = drawn_step_of m in
          let left = drawn_leaves limits m next net.made.packets step.0 net.three step.1 is in
          went_on limits most 1 m.peers next.peers net.made (step.0 ∷ []) net.made.packets
          (sound_drawn (agent_of n) x (length (text_of p.held)) step.0 (named n less) step.1, tt) (edit_kind (agent_of n) drawn.edit step.0 step.1, tt) (omega arith)
          (one_step (net_of limits m.peers net.made.packets) (net_of limits next.peers net.made.packets) step.0 left);
      few = let few = net.few in omega (arith, few);
    }

by_gift : (limits : LimitNumbers) → AreLimits limits → (most : ℕ) (peers : List ReplicaState) (giver taker : ℕ) → giver < 3 → taker < 3 → most < 2 ^ 32 → IsNet limits most peers
    → IsNet limits (most + 2) (gives giver taker peers)
unfolding gives
by_gift limits are most peers giver taker first second short net =
    let p = peer_at peers taker in
    let new = received_by p (arrive p.limits p.held p.waiting (peer_at peers giver).held) in
    let gift = gifts_are_pushes limits peers net.made.packets giver taker net.three first second (subst AreLimits (sym (net.same giver first)) are) in
    record {
      three = length-set peers taker new ∙ net.three;
      same = same_more limits peers taker new second net.three (net.same taker second) net.same;
      made =
          went_on limits most 2 peers (gives giver taker peers) net.made (step.Push (agent_of giver) (agent_of taker) ∷ step.Deliver (length net.made.packets) ∷ []) (net.made.packets ++ gift.0)
          ((named giver first, named taker second), (let few = net.few in omega (arith, few, short), tt)) (refl, (refl, tt)) (omega arith) gift.2;
      few = let few = net.few in let more = gift.1 in let long = length-append net.made.packets gift.0 in omega (arith, few, more, long);
    }

-- fewer steps are no more than more
raised : (limits : LimitNumbers) (most more : ℕ) (peers : List ReplicaState) → most ≤ more → IsNet limits most peers → IsNet limits more peers
raised limits most more peers less net = record {
  three = net.three;
  same = net.same;
  made = record {
    steps = net.made.steps;
    packets = net.made.packets;
    sound = net.made.sound;
    kinds = net.made.kinds;
    few = let few = net.made.few in omega (arith, few, less);
    left = net.made.left;
  };
  few = let few = net.few in omega (arith, few, less);
}

-- the gift of a step, where it is a peer's turn
by_turn : (limits : LimitNumbers) → AreLimits limits → (most t : ℕ) (m next : Making) → most < 2 ^ 32 → IsNet limits most m.peers → after_step t (Going m) ≡ Going next → IsNet limits (most + 2) next.peers
by_turn limits are most t m next short net is = at (t % 64 == 63) is
  where
    at : (b : Bool) → cond b (Going (record { state = m.state; peers = gives (t / 64 % 3) ((t / 64 % 3 + 1) % 3) m.peers })) (Going m) ≡ Going next → IsNet limits (most + 2) next.peers
    at true e =
        let same : record { state = m.state; peers = gives (t / 64 % 3) ((t / 64 % 3 + 1) % 3) m.peers } ≡ next = cc in
        subst (λ (x : Making). IsNet limits (most + 2) x.peers) same
        (by_gift limits are most m.peers (t / 64 % 3) ((t / 64 % 3 + 1) % 3) (mod_below (t / 64) 3 (omega arith)) (mod_below (t / 64 % 3 + 1) 3 (omega arith)) short net)
    at false e = let same : m ≡ next = cc in subst (λ (x : Making). IsNet limits (most + 2) x.peers) same (raised limits most (most + 2) m.peers (omega arith) net)

-- the steps
by_steps : (limits : LimitNumbers) (seed : ℕ) → AreLimits limits → (t : ℕ) (m : Making) → 3 * t < 2 ^ 31 → made_steps limits seed t ≡ Going m → IsNet limits (3 * t) m.peers
by_steps limits seed are zero m short is =
    let same : record { state = seed; peers = newcomer limits ∷ newcomer limits ∷ newcomer limits ∷ [] } ≡ m = cc in
    subst (λ (x : Making). IsNet limits 0 x.peers) same (at_first limits)
by_steps limits seed are (suc t) m short is = at (made_steps limits seed t) refl is (λ before e. by_steps limits seed are t before (omega (arith, short)) e)
  where
    drawn_at : (before : Making) → IsNet limits (3 * t) before.peers → (x : Made) → drawn_step before ≡ x → after_step t x ≡ Going m → IsNet limits (3 * suc t) m.peers
    drawn_at before net (Stopped why) e rest = let no : ⊥ = cc in absurd no
    drawn_at before net (Going next) e rest =
        raised limits (3 * t + 1 + 2) (3 * suc t) m.peers (omega arith) (by_turn limits are (3 * t + 1) t next m (omega (arith, short)) (by_edit limits (3 * t) before next net e) rest)

    at : (x : Made) → made_steps limits seed t ≡ x → next_step t x ≡ Going m → ((before : Making) → made_steps limits seed t ≡ Going before → IsNet limits (3 * t) before.peers)
        → IsNet limits (3 * suc t) m.peers
    at (Stopped why) e rest on = let no : ⊥ = cc in absurd no
    at (Going before) e rest on = drawn_at before (on before e) (drawn_step before) refl rest

-- and the gifts at the end
by_rounding : (limits : LimitNumbers) → AreLimits limits → (most : ℕ) (peers : List ReplicaState) → most < 2 ^ 31 → IsNet limits most peers → IsNet limits (most + 8) (rounded_peers peers)
by_rounding limits are most peers short net =
    let first = by_gift limits are most peers 0 1 (omega arith) (omega arith) (omega (arith, short)) net in
    let second = by_gift limits are (most + 2) (gives 0 1 peers) 1 2 (omega arith) (omega arith) (omega (arith, short)) first in
    let third = by_gift limits are (most + 2 + 2) (gives 1 2 (gives 0 1 peers)) 2 0 (omega arith) (omega arith) (omega (arith, short)) second in
    let fourth = by_gift limits are (most + 2 + 2 + 2) (gives 2 0 (gives 1 2 (gives 0 1 peers))) 0 1 (omega arith) (omega arith) (omega (arith, short)) third in
    raised limits (most + 2 + 2 + 2 + 2) (most + 8) (rounded_peers peers) (omega arith) fourth

pub makings_are_nets : MakingsAreNets
unfolding made
makings_are_nets limits seed count m are few is = (at (made_steps limits seed count) refl is).made
  where
    short : 3 * count < 2 ^ 31
    short = let most = are.few_events in omega (arith, most, few)

    at : (x : Made) → made_steps limits seed count ≡ x → rounded_off x ≡ Going m → IsNet limits (3 * count + 8) m.peers
    at (Stopped why) e rest = let no : ⊥ = cc in absurd no
    at (Going before) e rest =
        let same : record { state = before.state; peers = rounded_peers before.peers } ≡ m = cc in
        subst (λ (x : Making). IsNet limits (3 * count + 8) x.peers) same (by_rounding limits are (3 * count) before.peers short (by_steps limits seed are count before short e))
