use Rattle.std.proofs.Common.{◌<◌, ◌^◌, [], ◌∷◌, ◌++◌, codes, length, sym, ap, ◌∙◌, subst, arith}
use Rattle.std.specs.Prelude.{decimal}
use Rattle.std.proofs.lemmas.List.{length-append}
use Rattle.net_core.specs.Keeping.{IsReached}
use Rattle.peer_definitions.specs.Machine.{Network, Packet, printed_line}
use Rattle.peer_definitions.specs.Machine.StepOutcome.{Stepped}
use Rattle.net_core.proofs.Reaching.{one_more_packet}
use Rattle.net_core.proofs.net.Net.add_packet.Goals as goal

pub invariant_of-self-2 : goal.invariant_of-self-2
invariant_of-self-2 c =
    let now = c.args.self.now in
    let k : Packet = record { sender = c.args.sender; receiver = c.args.receiver; frames = c.args.frames.items } in
    let seen : IsReached now = subst IsReached c.self.view_is c.self.invariant in
    let long = length-append now.packets (k ∷ []) in
    let few : length (now.packets ++ k ∷ []) < 2 ^ 32 = omega (arith, long, c.requires.room) in
    subst IsReached (sym ((λ i. record { limits = c.self.inside.limits; peers = c.self.inside.peers.items; packets = c.in_ok-push.ensures.items i })
    ∙ ap (λ (n : Network). record { limits = n.limits; peers = n.peers; packets = n.packets ++ k ∷ [] }) c.self.view_is))
    (one_more_packet now k seen c.requires.sound few)

pub returns-clause-ok : goal.returns-clause-ok
returns-clause-ok c =
    let now = c.args.self.now in
    let k : Packet = record { sender = c.args.sender; receiver = c.args.receiver; frames = c.args.frames.items } in
    let new = (λ i. record { limits = c.self.inside.limits; peers = c.self.inside.peers.items; packets = c.in_ok-push.ensures.items i })
    ∙ ap (λ (n : Network). record { limits = n.limits; peers = n.peers; packets = n.packets ++ k ∷ [] }) c.self.view_is in
    let printed = c.in_ok-push_packet_line.ensures
    ∙ ap (λ n. c.args.out.items ++ printed_line (codes "packet" ∷ decimal n ∷ c.args.sender ∷ c.args.receiver ∷ [])) c.packets.ensures in
    λ i. Stepped (sym new i) (sym printed i)
