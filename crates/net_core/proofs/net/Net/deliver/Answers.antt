use Rattle.std.proofs.Common.{◌≡◌, Some, length, sym, ap, ◌∙◌, subst, arith, false-eqb}
use Rattle.std.specs.List.{slice_get}
use Rattle.std.specs.Vec.{vec_len}
use Rattle.std.proofs.lemmas.Bool.{eqb-true}
use Rattle.std.proofs.lemmas.Result.{err_from_is_err_and}
use Rattle.ew_model.specs.Limits.{LimitNumbers}
use Rattle.peer_definitions.specs.declared.net_step.NetStep.TheVariants as step
use Rattle.net_core.specs.Answers.{IsLeftAt}
use Rattle.net_core.specs.Handing.{IsNotHanded}
use Rattle.net_core.specs.Keeping.{IsPacket, IsReached}
use Rattle.peer_definitions.specs.Machine.{Network, Packet}
use Rattle.net_core.proofs.DeliverResults.{handed_at, may_receive, nobody_there, none_told, not_handed, part_left, part_reached, replies_sound, some_told, told_left, whole_left, whole_reached}
use Rattle.ew_model.proofs.ListParts.{none_left}
use Rattle.net_core.proofs.Writes.{no_peer_told, read, with_written}
use Rattle.net_core.proofs.net.Net.deliver.Goals as goal

pub returns-in_err-sender : goal.returns-in_err-sender
returns-in_err-sender g c =
    let S = c.args.self.now in
    let packets = c.deref.ensures.value ∙ ap (λ (n : Network). n.packets) c.self.view_is in
    let told = err_from_is_err_and c.from_residual.result c.from_residual.ensures.1 in
    not_handed S (subst IsReached c.self.view_is c.self.invariant) c.args.number _ told.0 c.from_residual.result (ap (λ ps. slice_get ps c.args.number) (sym packets))
    (subst (IsNotHanded _ c.args.number) (sym told.2) c.in_err-sender.ensures.missing) told.1

pub returns-in_err-place : goal.returns-in_err-place
returns-in_err-place g c =
    let N : Network = record { limits = c.self.inside.limits; peers = c.self.inside.peers.items; packets = c.self.inside.packets.items } in
    let S = c.args.self.now in
    let k : Packet = record { sender = c.sender.inside.sender; receiver = c.sender.inside.receiver; frames = c.sender.inside.frames.items } in
    let at = handed_at S c.args.number k c.deref.result.now (c.deref.ensures.value ∙ ap (λ (n : Network). n.packets) c.self.view_is)
    (c.in_ok-sender.ensures.found ∙ ap Some (sym c.sender.view_is)) in
    let none = c.in_err-place.ensures.none in
    let told = err_from_is_err_and c.from_residual-in_err-place.result c.from_residual-in_err-place.ensures.1 in
    no_peer_told S (step.Deliver c.args.number) k.receiver told.0 c.from_residual-in_err-place.result told.1 (told.2 ∙ none.0) (nobody_there S c.args.number k at none.1)

pub deliver-requires : goal.deliver-requires
deliver-requires g c =
    let N : Network = record { limits = c.self.inside.limits; peers = c.self.inside.peers.items; packets = c.self.inside.packets.items } in
    let S = c.args.self.now in
    let k : Packet = record { sender = c.sender.inside.sender; receiver = c.sender.inside.receiver; frames = c.sender.inside.frames.items } in
    let at = handed_at S c.args.number k c.deref.result.now (c.deref.ensures.value ∙ ap (λ (n : Network). n.packets) c.self.view_is)
    (c.in_ok-sender.ensures.found ∙ ap Some (sym c.sender.view_is)) in
    let found = c.in_ok-place.ensures.found in
    let i = c.in_ok-place.place in
    let old = read N S c.self.view_is c.self.invariant k.receiver i found c.index_mut.result.now c.index_mut.ensures.value in
    let may = may_receive N S c.self.view_is c.self.invariant c.args.number k at i found c.index_mut.result.now old in
    record { taken = may.0; apart = may.1 }

pub invariant_of-self : goal.invariant_of-self
invariant_of-self g c =
    let N : Network = record { limits = c.self.inside.limits; peers = c.self.inside.peers.items; packets = c.self.inside.packets.items } in
    let S = c.args.self.now in
    let k : Packet = record { sender = c.sender.inside.sender; receiver = c.sender.inside.receiver; frames = c.sender.inside.frames.items } in
    let at = handed_at S c.args.number k c.deref.result.now (c.deref.ensures.value ∙ ap (λ (n : Network). n.packets) c.self.view_is)
    (c.in_ok-sender.ensures.found ∙ ap Some (sym c.sender.view_is)) in
    let found = c.in_ok-place.ensures.found in
    let i = c.in_ok-place.place in
    let old = read N S c.self.view_is c.self.invariant k.receiver i found c.index_mut.result.now c.index_mut.ensures.value in
    part_reached N S c.self.view_is c.self.invariant c.args.number k at i found c.deliver.new.peer c.index_mut.result.now old c.deliver.ensures.name c.deliver.ensures.caret
    c.in_err-delivery.ensures.left

pub returns-in_err-delivery : goal.returns-in_err-delivery
returns-in_err-delivery g c =
    let N : Network = record { limits = c.self.inside.limits; peers = c.self.inside.peers.items; packets = c.self.inside.packets.items } in
    let S = c.args.self.now in
    let k : Packet = record { sender = c.sender.inside.sender; receiver = c.sender.inside.receiver; frames = c.sender.inside.frames.items } in
    let at = handed_at S c.args.number k c.deref.result.now (c.deref.ensures.value ∙ ap (λ (n : Network). n.packets) c.self.view_is)
    (c.in_ok-sender.ensures.found ∙ ap Some (sym c.sender.view_is)) in
    let found = c.in_ok-place.ensures.found in
    let i = c.in_ok-place.place in
    let old = read N S c.self.view_is c.self.invariant k.receiver i found c.index_mut.result.now c.index_mut.ensures.value in
    let told = err_from_is_err_and c.from_residual-in_err-delivery.result c.from_residual-in_err-delivery.ensures.1 in
    told_left N S c.self.view_is c.self.invariant c.args.number k at i found _ told.0 c.from_residual-in_err-delivery.result told.1 told.2
    (part_left N S c.self.view_is c.self.invariant c.args.number k at i found c.deliver.new.peer c.index_mut.result.now old c.deliver.ensures.name c.deliver.ensures.caret
    c.in_err-delivery.ensures.left)

pub invariant_of-self-2 : goal.invariant_of-self-2
invariant_of-self-2 g c =
    let N : Network = record { limits = c.self.inside.limits; peers = c.self.inside.peers.items; packets = c.self.inside.packets.items } in
    let S = c.args.self.now in
    let k : Packet = record { sender = c.sender.inside.sender; receiver = c.sender.inside.receiver; frames = c.sender.inside.frames.items } in
    let at = handed_at S c.args.number k c.deref.result.now (c.deref.ensures.value ∙ ap (λ (n : Network). n.packets) c.self.view_is)
    (c.in_ok-sender.ensures.found ∙ ap Some (sym c.sender.view_is)) in
    let found = c.in_ok-place.ensures.found in
    let i = c.in_ok-place.place in
    let old = read N S c.self.view_is c.self.invariant k.receiver i found c.index_mut.result.now c.index_mut.ensures.value in
    whole_reached N S c.self.view_is c.self.invariant c.args.number k at i found c.deliver.new.peer c.index_mut.result.now old c.deliver.ensures.name c.deliver.ensures.caret
    c.in_ok-delivery.ensures.replica

pub invariant_of-self-then-is_empty : goal.invariant_of-self-then-is_empty
invariant_of-self-then-is_empty g c =
    let N : Network = record { limits = c.self.inside.limits; peers = c.self.inside.peers.items; packets = c.self.inside.packets.items } in
    let S = c.args.self.now in
    let k : Packet = record { sender = c.sender.inside.sender; receiver = c.sender.inside.receiver; frames = c.sender.inside.frames.items } in
    let at = handed_at S c.args.number k c.deref.result.now (c.deref.ensures.value ∙ ap (λ (n : Network). n.packets) c.self.view_is)
    (c.in_ok-sender.ensures.found ∙ ap Some (sym c.sender.view_is)) in
    let found = c.in_ok-place.ensures.found in
    let i = c.in_ok-place.place in
    let old = read N S c.self.view_is c.self.invariant k.receiver i found c.index_mut.result.now c.index_mut.ensures.value in
    whole_reached N S c.self.view_is c.self.invariant c.args.number k at i found c.deliver.new.peer c.index_mut.result.now old c.deliver.ensures.name c.deliver.ensures.caret
    c.in_ok-delivery.ensures.replica

pub returns-then-is_empty : goal.returns-then-is_empty
returns-then-is_empty g c =
    let N : Network = record { limits = c.self.inside.limits; peers = c.self.inside.peers.items; packets = c.self.inside.packets.items } in
    let S = c.args.self.now in
    let k : Packet = record { sender = c.sender.inside.sender; receiver = c.sender.inside.receiver; frames = c.sender.inside.frames.items } in
    let at = handed_at S c.args.number k c.deref.result.now (c.deref.ensures.value ∙ ap (λ (n : Network). n.packets) c.self.view_is)
    (c.in_ok-sender.ensures.found ∙ ap Some (sym c.sender.view_is)) in
    let found = c.in_ok-place.ensures.found in
    let i = c.in_ok-place.place in
    let old = read N S c.self.view_is c.self.invariant k.receiver i found c.index_mut.result.now c.index_mut.ensures.value in
    let replies = c.in_ok-delivery.delivery.replies in
    let same_long : length replies.items ≡ vec_len replies = omega (arith, replies.ok.0) in
    none_told N S c.self.view_is c.self.invariant c.args.number k at i found c.deliver.new.peer c.index_mut.result.now old c.deliver.ensures.name c.deliver.ensures.caret
    c.in_ok-delivery.ensures.replica c.in_ok-delivery.delivery.replies.items c.in_ok-delivery.delivery.printed.items c.in_ok-delivery.ensures.replies
    c.in_ok-delivery.ensures.printed (none_left replies.items (same_long ∙ eqb-true _ _ (sym c.if-is_empty.ensures)))

pub add_packet-requires-clause-sound : goal.add_packet-requires-clause-sound
add_packet-requires-clause-sound g c =
    let N : Network = record { limits = c.self.inside.limits; peers = c.self.inside.peers.items; packets = c.self.inside.packets.items } in
    let S = c.args.self.now in
    let k : Packet = record { sender = c.sender.inside.sender; receiver = c.sender.inside.receiver; frames = c.sender.inside.frames.items } in
    let at = handed_at S c.args.number k c.deref.result.now (c.deref.ensures.value ∙ ap (λ (n : Network). n.packets) c.self.view_is)
    (c.in_ok-sender.ensures.found ∙ ap Some (sym c.sender.view_is)) in
    let found = c.in_ok-place.ensures.found in
    let i = c.in_ok-place.place in
    let old = read N S c.self.view_is c.self.invariant k.receiver i found c.index_mut.result.now c.index_mut.ensures.value in
    let new = with_written N S c.self.view_is c.self.invariant k.receiver i found c.deliver.new.peer in
    subst (λ (limits : LimitNumbers). IsPacket limits new.peers (record { sender = k.receiver; receiver = k.sender; frames = c.in_ok-delivery.delivery.replies.items }))
    (sym (ap (λ (n : Network). n.limits) c.self.view_is))
    (replies_sound N S c.self.view_is c.self.invariant c.args.number k at i found c.deliver.new.peer c.index_mut.result.now old c.deliver.ensures.name c.deliver.ensures.caret
    c.in_ok-delivery.ensures.replica c.in_ok-delivery.delivery.replies.items c.in_ok-delivery.ensures.replies c.in_ok-delivery.ensures.taken)

pub returns-in_err-add_packet : goal.returns-in_err-add_packet
returns-in_err-add_packet g c =
    let N : Network = record { limits = c.self.inside.limits; peers = c.self.inside.peers.items; packets = c.self.inside.packets.items } in
    let S = c.args.self.now in
    let k : Packet = record { sender = c.sender.inside.sender; receiver = c.sender.inside.receiver; frames = c.sender.inside.frames.items } in
    let at = handed_at S c.args.number k c.deref.result.now (c.deref.ensures.value ∙ ap (λ (n : Network). n.packets) c.self.view_is)
    (c.in_ok-sender.ensures.found ∙ ap Some (sym c.sender.view_is)) in
    let found = c.in_ok-place.ensures.found in
    let i = c.in_ok-place.place in
    let old = read N S c.self.view_is c.self.invariant k.receiver i found c.index_mut.result.now c.index_mut.ensures.value in
    let told = err_from_is_err_and c.from_residual-in_err-add_packet.result c.from_residual-in_err-add_packet.ensures.1 in
    told_left N S c.self.view_is c.self.invariant c.args.number k at i found _ told.0 c.from_residual-in_err-add_packet.result told.1 told.2
    (subst (IsLeftAt S (Some k)) (sym c.in_err-add_packet.ensures.err)
    (whole_left N S c.self.view_is c.self.invariant c.args.number k at i found c.deliver.new.peer c.index_mut.result.now old c.deliver.ensures.name c.deliver.ensures.caret
    c.in_ok-delivery.ensures.replica))

pub returns : goal.returns
returns g c =
    let N : Network = record { limits = c.self.inside.limits; peers = c.self.inside.peers.items; packets = c.self.inside.packets.items } in
    let S = c.args.self.now in
    let k : Packet = record { sender = c.sender.inside.sender; receiver = c.sender.inside.receiver; frames = c.sender.inside.frames.items } in
    let at = handed_at S c.args.number k c.deref.result.now (c.deref.ensures.value ∙ ap (λ (n : Network). n.packets) c.self.view_is)
    (c.in_ok-sender.ensures.found ∙ ap Some (sym c.sender.view_is)) in
    let found = c.in_ok-place.ensures.found in
    let i = c.in_ok-place.place in
    let old = read N S c.self.view_is c.self.invariant k.receiver i found c.index_mut.result.now c.index_mut.ensures.value in
    let replies = c.in_ok-delivery.delivery.replies in
    let same_long : length replies.items ≡ vec_len replies = omega (arith, replies.ok.0) in
    some_told N S c.self.view_is c.self.invariant c.args.number k at i found c.deliver.new.peer c.index_mut.result.now old c.deliver.ensures.name c.deliver.ensures.caret
    c.in_ok-delivery.ensures.replica c.in_ok-delivery.delivery.replies.items c.in_ok-delivery.delivery.printed.items c.in_ok-delivery.ensures.replies
    c.in_ok-delivery.ensures.printed (λ e. false-eqb _ _ c.if-is_empty.ensures (sym same_long ∙ e))
    ∙ c.in_ok-add_packet.ensures.ok
