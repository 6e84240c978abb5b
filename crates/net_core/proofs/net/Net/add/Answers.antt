use Rattle.std.proofs.Common.{List, refl, sym, ap, ◌∙◌}
use Rattle.peer_definitions.specs.declared.net_step.NetStep.TheVariants as step
use Rattle.net_core.specs.declared.fault.NetFault.TheVariants as fault
use Rattle.peer_definitions.specs.Machine.{Network, Peer, peer_among}
use Rattle.peer_definitions.specs.Machine.Refusal.{PeerTwice}
use Rattle.ew_model.proofs.ListParts.{element_there}
use Rattle.net_core.proofs.Steps.{refused, twice}
use Rattle.net_core.proofs.net.Net.add.Goals as goal

pub returns-in-Some : goal.returns-in-Some
returns-in-Some c =
    let now = c.args.self.now in
    let name = c.args.name.now in
    let found = c.in-Some.ensures.found in
    let peers = c.deref.ensures.value ∙ ap (λ (n : Network). n.peers) c.self.view_is in
    let p = element_there c.deref.result.now c.in-Some.field-0 found.0 in
    refused now now (step.Peer name) (fault.PeerTwice name) (PeerTwice name) refl
    (twice now name p.0 (ap (λ (ps : List Peer). peer_among ps name) (sym peers) ∙ found.1 ∙ p.1)) refl

pub add_new-requires : goal.add_new-requires
add_new-requires c =
    let peers = c.deref.ensures.value ∙ ap (λ (n : Network). n.peers) c.self.view_is in
    ap (λ (ps : List Peer). peer_among ps c.args.name.now) (sym peers) ∙ c.in-None.ensures.none
