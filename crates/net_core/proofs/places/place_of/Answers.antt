use Rattle.std.proofs.Common.{◌≡◌, true, get_or, sym, ap, ◌∙◌}
use Rattle.ew_model.specs.Ids.{name_eq}
use Rattle.peer_definitions.specs.Machine.{Peer}
use Rattle.net_core.proofs.PeerPlaces.{find_here}
use Rattle.net_core.proofs.places.place_of.Goals as goal

pub returns-then-is_named-clause-found : goal.returns-then-is_named-clause-found
returns-then-is_named-clause-found c =
    let passes : name_eq (get_or c.args.peers.now c.loop-i.i c.index-peers-i.result).name c.args.name.now ≡ true =
    ap (λ (p : Peer). name_eq p.name c.args.name.now) (sym c.index-peers-i.is) ∙ sym c.is_named.ensures ∙ c.if-is_named.true in (
      c.loop-i-test.true,
      c.loop-i.invariant ∙ find_here (λ (p : Peer). name_eq p.name c.args.name.now) c.args.peers.now c.loop-i.i c.index-peers-i.result c.loop-i-test.true passes,
    )
