-- What is proved of made histories: what is printed ends with `agree yes`, and they are what steps of a net make.
use Rattle.std.specs.Prelude.{◌≡◌, ◌<◌, ◌≤◌, ◌+◌, ◌*◌, ℕ, suc, Bool, true, false, List, [], ◌∷◌, ◌++◌, length, Some, codes}
use Rattle.std.specs.List.{AllByRecursion}
use Rattle.ew_model.specs.Edits.{Edit}
use Rattle.ew_model.specs.Edits.Edit.{Insert, Delete, Mark}
use Rattle.ew_model.specs.Kept.{ReplicaState}
use Rattle.ew_model.specs.Limits.{AreLimits, LimitNumbers}
use Rattle.carets.specs.declared.caret.Caret.TheVariants.{Root}
use Rattle.peer_definitions.specs.declared.net_step.NetStep.{NetStep}
use Rattle.peer_definitions.specs.declared.net_step.NetStep.TheVariants as step
use Rattle.peer_definitions.specs.NetScripts.{IsSoundStep}
use Rattle.peer_definitions.specs.Machine.{Network, Packet, Peer, empty_network, net_step}
use Rattle.peer_definitions.specs.Making.{Making, agent_of, drawn_step, gives, history_lines, made, peer_at, printed}
use Rattle.peer_definitions.specs.Making.Made.{Going}
use Rattle.peer_definitions.specs.Runs.{after_steps, network_left}

-- Where no more edits are made than a history may have events, none is refused, and what is printed ends with `agree yes`.
abbrev pub MadePeersAgree : Type 0
MadePeersAgree = (limits : LimitNumbers) (seed count : ℕ) → count ≤ limits.events
    → (m : Making) × (made limits seed count ≡ Going m) × (printed m.peers ≡ history_lines (peer_at m.peers 0).held ++ codes "agree yes\n")

-- the peers under their names, from a number on, with their carets at the root
abbrev pub named_from : ℕ → List ReplicaState → List Peer
named_from n [] = []
named_from n (p ∷ peers) = record { name = agent_of n; replica = p; caret = Root } ∷ named_from (suc n) peers

-- a net of the peers p0, p1 and p2, in which these packets were made
abbrev pub net_of : LimitNumbers → List ReplicaState → List Packet → Network
net_of limits peers packets = record { limits = limits; peers = named_from 0 peers; packets = packets }

-- The step of a net is this local edit of a peer. A made history has insertions and deletions alone, so a mark is none of these
-- edits.
abbrev pub IsEditBy : List ℕ → Edit → NetStep → Type 0
IsEditBy who (Insert at text) s = s ≡ step.Ins who at text
IsEditBy who (Delete at n) s = s ≡ step.Del who at n
IsEditBy who (Mark label) s = ⊥

-- A drawn edit that isn't refused is a local edit of one of the peers in a net.
abbrev pub EditsAreSteps : Type 0
EditsAreSteps = (limits : LimitNumbers) (m next : Making) (packets : List Packet) → length m.peers ≡ 3 → drawn_step m ≡ Going next
    → (n : ℕ) × (edit : Edit) × (s : NetStep) × (n < 3) × IsEditBy (agent_of n) edit s × (network_left (net_step (net_of limits m.peers packets) s) ≡ Some (net_of limits next.peers packets))

-- A gift is a push that is delivered at once. It makes two packets at most: the push, and the answer.
abbrev pub GiftsArePushes : Type 0
GiftsArePushes = (limits : LimitNumbers) (peers : List ReplicaState) (packets : List Packet) (giver taker : ℕ) → length peers ≡ 3 → giver < 3 → taker < 3
    → AreLimits (peer_at peers giver).limits
    → (more : List Packet) × (length more ≤ 2) × (after_steps (net_of limits peers packets) (step.Push (agent_of giver) (agent_of taker) ∷ step.Deliver (length packets) ∷ []) ≡ Some (net_of limits (gives giver taker peers) (packets ++ more)))

-- the step is an insertion, a deletion, a push or a delivery
abbrev pub is_edit_or_gift : NetStep → Bool
is_edit_or_gift (step.Ins who at text) = true
is_edit_or_gift (step.Del who at n) = true
is_edit_or_gift (step.Push sender receiver) = true
is_edit_or_gift (step.Deliver n) = true
is_edit_or_gift s = false

-- the three peers come, and nothing else
abbrev pub peers_come : List NetStep
peers_come = step.Peer (agent_of 0) ∷ step.Peer (agent_of 1) ∷ step.Peer (agent_of 2) ∷ []

-- steps that make three peers, and after that at most so many edits, pushes and deliveries, leave these peers
pub record AreMadeInNet (limits : LimitNumbers) (most : ℕ) (peers : List ReplicaState) : Type 0 where
  pub steps : List NetStep
  pub packets : List Packet
  pub sound : AllByRecursion IsSoundStep steps
  pub kinds : AllByRecursion (λ s. is_edit_or_gift s ≡ true) steps
  pub few : length steps ≤ most
  pub left : after_steps (empty_network limits) (peers_come ++ steps) ≡ Some (net_of limits peers packets)

-- What is made, three peers make in a net by local edits and by pushes that are delivered.
abbrev pub MakingsAreNets : Type 0
MakingsAreNets = (limits : LimitNumbers) (seed count : ℕ) (m : Making) → AreLimits limits → count ≤ limits.events → made limits seed count ≡ Going m → AreMadeInNet limits (3 * count + 8) m.peers
