-- What the calls of a net answer: the steps of the machine, its refusals, and what want of memory may leave.
use Rattle.std.specs.Prelude.{◌≡◌, ◌⊎◌, ℕ, List, [], ◌∷◌, ◌++◌, length, slice_get, Result, Ok, Err, Option, Some, None}
use Rattle.std.specs.Global.{Vec}
use Rattle.ew_model.specs.Edits.EditRefusal.{OutOfRange, TooManyHeads, Full}
use Rattle.ew_model.specs.Kept.{ReplicaState}
use Rattle.ew_model.specs.Limits.{LimitNumbers}
use Rattle.ew_model.specs.Texts.{text_of}
use Rattle.carets.specs.declared.caret.Caret.{Caret}
use Rattle.carets.specs.Sides.{caret_in, text_chars}
use Rattle.undo.specs.declared.fault.UndoFault.{UndoFault}
use Rattle.undo.specs.declared.fault.UndoFault.TheVariants as undo
use Rattle.peer_definitions.specs.declared.net_step.NetStep.{NetStep}
use Rattle.peer_definitions.specs.declared.net_step.NetStep.TheVariants as step
use Rattle.peer_definitions.specs.Answering.{answer_to}
use Rattle.peer_exchange.specs.Replies.{IsLeftBy}
use Rattle.peer_definitions.specs.declared.frame.Frame.{Frame}
use Rattle.replica.specs.declared.fault.EditFault.{EditFault}
use Rattle.replica.specs.declared.fault.EditFault.TheVariants as edit
use Rattle.net_core.specs.declared.fault.NetFault.{NetFault}
use Rattle.net_core.specs.declared.fault.NetFault.TheVariants as fault
use Rattle.peer_definitions.specs.Machine.{Network, Packet, Peer, Refusal, empty_network, net_step, peer_of, put_replica}
use Rattle.peer_definitions.specs.Machine.Refusal.{NoPeer, PeerTwice, NoPacket, NoEvent, NoEdit}
use Rattle.peer_definitions.specs.Runs.{net_run}
use Rattle.peer_definitions.specs.Runs.RunOutcome.{Ran, Broke}
use Rattle.peer_definitions.specs.Machine.StepOutcome.{Stepped, Refused}

-- the refusal that a fault tells; none for want of memory
abbrev pub refusal_told : NetFault → Option Refusal
refusal_told (fault.NoPeer name) = Some (NoPeer name)
refusal_told (fault.PeerTwice name) = Some (PeerTwice name)
refusal_told (fault.NoPacket n) = Some (NoPacket n)
refusal_told (fault.NoEvent id) = Some (NoEvent id)
refusal_told (fault.OutOfRange len) = Some (NoEdit (OutOfRange len))
refusal_told (fault.TooManyHeads heads) = Some (NoEdit (TooManyHeads heads))
refusal_told (fault.Full count) = Some (NoEdit (Full count))
refusal_told fault.OutOfMemory = None

-- the fault of a step whose edit has this one
abbrev pub fault_of : EditFault → NetFault
fault_of (edit.OutOfRange len) = fault.OutOfRange len
fault_of (edit.TooManyHeads heads) = fault.TooManyHeads heads
fault_of (edit.Full count) = fault.Full count
fault_of edit.OutOfMemory = fault.OutOfMemory

-- the fault of a step whose undo has this one
abbrev pub fault_of_undo : UndoFault → NetFault
fault_of_undo (undo.NoEvent id) = fault.NoEvent id
fault_of_undo (undo.TooManyHeads heads) = fault.TooManyHeads heads
fault_of_undo (undo.Full count) = fault.Full count
fault_of_undo undo.OutOfMemory = fault.OutOfMemory

-- The caret of a peer is set at an index of its text; else nothing is changed, and the text's length is told, but for want of
-- memory.
abbrev pub SetsCaret : {A : Type 0} → ℕ → Peer → Peer → Result A NetFault → Type 0
SetsCaret at old new (Ok done) = (c : Caret) × (caret_in (text_chars old.replica.held) at ≡ Some c) × (new ≡ record { name = old.name; replica = old.replica; caret = c })
SetsCaret at old new (Err fault.OutOfMemory) = new ≡ old
SetsCaret at old new (Err f) = ((caret_in (text_chars old.replica.held) at ≡ None) × (f ≡ fault.OutOfRange (length (text_of old.replica.held)))) × (new ≡ old)

-- the bytes in the place of the vector
abbrev pub told_bytes : {F : Type 0} → Result (Vec ℕ) F → Result (List ℕ) F
told_bytes (Ok v) = Ok v.items
told_bytes (Err f) = Err f

-- the frames are received up to somewhere: between two of them, or inside one as its answer leaves it
abbrev pub IsLeftIn : ReplicaState → List Frame → ReplicaState → Type 0
IsLeftIn old [] new = new ≡ old
IsLeftIn old (f ∷ frames) new = IsLeftBy f old new ⊎ IsLeftIn (answer_to old f).state frames new

-- the packet that the step hands over, if it does
abbrev pub handed_over : Network → NetStep → Option Packet
handed_over network (step.Deliver n) = slice_get network.packets n
handed_over network s = None

-- all as before, but for the receiver of a packet
abbrev pub IsLeftAt : Network → Option Packet → Network → Type 0
IsLeftAt old None new = new ≡ old
IsLeftAt old (Some k) new =
    (p : Peer) × (r : ReplicaState) × (peer_of old k.receiver ≡ Some p) × IsLeftIn p.replica k.frames r × (new ≡ put_replica old k.receiver r)

-- A step that the machine makes, with the bytes that it prints; or its refusal, which leaves all as before. For want of memory
-- packets and other peers are as before, and the receiver of a delivered packet has received a front of it.
abbrev pub StepsTo : Network → NetStep → Network → Result (List ℕ) NetFault → Type 0
StepsTo old s new (Ok printed) = net_step old s ≡ Stepped new printed
StepsTo old s new (Err fault.OutOfMemory) = IsLeftAt old (handed_over old s) new
StepsTo old s new (Err f) = ((why : Refusal) × (refusal_told f ≡ Some why) × (net_step old s ≡ Refused why)) × (new ≡ old)

-- The run of a script from no peers on: what all lines print, or the first refusal with its line. Where memory is wanting at a
-- line, no earlier one is refused.
abbrev pub RunsTo : LimitNumbers → List (ℕ × NetStep) → Result (List ℕ) (ℕ × NetFault) → Type 0
RunsTo limits steps (Ok printed) = net_run (empty_network limits) steps ≡ Ran printed
RunsTo limits steps (Err (line, fault.OutOfMemory)) =
    (before after : List (ℕ × NetStep)) × (s : NetStep) × (printed : List ℕ) × (steps ≡ before ++ (line, s) ∷ after)
    × (net_run (empty_network limits) before ≡ Ran printed)
RunsTo limits steps (Err (line, f)) = (why : Refusal) × (refusal_told f ≡ Some why) × (net_run (empty_network limits) steps ≡ Broke line why)
