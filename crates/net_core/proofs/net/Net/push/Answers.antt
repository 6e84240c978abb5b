use Rattle.std.proofs.Common.{◌∙◌}
use Rattle.std.proofs.lemmas.Result.{err_from_is_err_and}
use Rattle.ew_model.specs.Kept.{ReplicaState}
use Rattle.peer_definitions.specs.declared.net_step.NetStep.TheVariants as step
use Rattle.peer_definitions.specs.Answering.{event_frames}
use Rattle.peer_definitions.specs.Machine.{Network}
use Rattle.net_core.proofs.PacketResults.{all_make_homes, sent_sound, sent_told}
use Rattle.net_core.proofs.Steps.{no_receiver, no_sender, push_is}
use Rattle.net_core.proofs.Writes.{here, no_peer_told, there}
use Rattle.net_core.proofs.net.Net.push.Goals as goal

pub returns-in_err-sender : goal.returns-in_err-sender
returns-in_err-sender c =
    let now = c.args.self.now in
    let none = c.in_err-sender.ensures.none in
    let told = err_from_is_err_and c.from_residual.result c.from_residual.ensures.1 in
    no_peer_told now (step.Push c.args.from.now c.args.to.now) c.args.from.now told.0 c.from_residual.result told.1 (told.2 ∙ none.0)
    (push_is now c.args.from.now c.args.to.now ∙ no_sender now c.args.from.now c.args.to.now (λ (r : ReplicaState). event_frames r.limits r.held) none.1)

pub returns-in_err-find : goal.returns-in_err-find
returns-in_err-find c =
    let N : Network = record { limits = c.self.inside.limits; peers = c.self.inside.peers.items; packets = c.self.inside.packets.items } in
    let now = c.args.self.now in
    let none = c.in_err-find.ensures.none in
    let told = err_from_is_err_and c.from_residual-in_err-find.result c.from_residual-in_err-find.ensures.1 in
    let p = here N now c.self.view_is c.self.invariant c.args.from.now c.in_ok-sender.sender c.in_ok-sender.ensures.found in
    let is = there N now c.self.view_is c.self.invariant c.args.from.now c.in_ok-sender.sender c.in_ok-sender.ensures.found in
    no_peer_told now (step.Push c.args.from.now c.args.to.now) c.args.to.now told.0 c.from_residual-in_err-find.result told.1 (told.2 ∙ none.0)
    (push_is now c.args.from.now c.args.to.now ∙ no_receiver now c.args.from.now c.args.to.now (λ (r : ReplicaState). event_frames r.limits r.held) p is none.1)

pub add_packet-requires-clause-sound : goal.add_packet-requires-clause-sound
add_packet-requires-clause-sound c =
    let N : Network = record { limits = c.self.inside.limits; peers = c.self.inside.peers.items; packets = c.self.inside.packets.items } in
    let now = c.args.self.now in
    sent_sound N now c.self.view_is c.self.invariant c.args.from.now c.in_ok-sender.sender c.in_ok-sender.ensures.found c.args.to.now
    c.in_ok-find.field-0 c.in_ok-find.ensures.found
    c.index.result.now c.index.ensures (λ (r : ReplicaState). event_frames r.limits r.held) c.in_ok-frames.frames.items c.in_ok-frames.ensures.frames
    (all_make_homes now) c.in_ok-frames.ensures.taken

pub returns : goal.returns
returns c =
    let N : Network = record { limits = c.self.inside.limits; peers = c.self.inside.peers.items; packets = c.self.inside.packets.items } in
    let now = c.args.self.now in
    push_is now c.args.from.now c.args.to.now
    ∙ sent_told N now c.self.view_is c.self.invariant c.args.from.now c.in_ok-sender.sender c.in_ok-sender.ensures.found c.args.to.now
    c.in_ok-find.field-0 c.in_ok-find.ensures.found
    c.index.result.now c.index.ensures (λ (r : ReplicaState). event_frames r.limits r.held) c.in_ok-frames.frames.items c.in_ok-frames.ensures.frames _ _ _
    (cc) c.in_ok-add_packet.ensures.ok
