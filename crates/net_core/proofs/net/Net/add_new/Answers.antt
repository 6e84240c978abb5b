use Rattle.std.proofs.Common.{[], ◌∷◌, ◌++◌, sym, ap, ◌∙◌, subst}
use Rattle.net_core.specs.Keeping.{IsReached}
use Rattle.peer_definitions.specs.Machine.{Network}
use Rattle.peer_definitions.specs.Machine.StepOutcome.{Stepped}
use Rattle.net_core.proofs.Reaching.{fit, homely, new_peer, one_more_peer, reached}
use Rattle.net_core.proofs.Steps.{added}
use Rattle.net_core.proofs.net.Net.add_new.Goals as goal

pub invariant_of-self-2 : goal.invariant_of-self-2
invariant_of-self-2 c =
    let now = c.args.self.now in
    let name = c.args.name.now in
    let seen : IsReached now = subst IsReached c.self.view_is c.self.invariant in
    let peers = c.in_ok-push.ensures.items ∙ ap (λ p. c.self.inside.peers.items ++ p ∷ []) c.in_ok-peer.ensures in
    let added : IsReached (record { limits = now.limits; peers = now.peers ++ new_peer now.limits name ∷ []; packets = now.packets }) =
    reached _ (one_more_peer now name (homely now seen) c.requires) (fit now seen) in
    subst IsReached (sym ((λ i. record { limits = c.self.inside.limits; peers = peers i; packets = c.self.inside.packets.items })
    ∙ ap (λ (n : Network). record { limits = n.limits; peers = n.peers ++ new_peer n.limits name ∷ []; packets = n.packets }) c.self.view_is)) added

pub returns : goal.returns
returns c =
    let now = c.args.self.now in
    let name = c.args.name.now in
    let peers = c.in_ok-push.ensures.items ∙ ap (λ p. c.self.inside.peers.items ++ p ∷ []) c.in_ok-peer.ensures in
    let new = (λ i. record { limits = c.self.inside.limits; peers = peers i; packets = c.self.inside.packets.items })
    ∙ ap (λ (n : Network). record { limits = n.limits; peers = n.peers ++ new_peer n.limits name ∷ []; packets = n.packets }) c.self.view_is in
    added now name c.requires ∙ (λ i. Stepped (sym new i) (sym c.in_ok-out.ensures i))
