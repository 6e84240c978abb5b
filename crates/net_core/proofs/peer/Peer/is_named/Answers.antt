use Rattle.std.proofs.Common.{ap, ◌∙◌}
use Rattle.ew_model.specs.Ids.{name_eq}
use Rattle.peer_definitions.specs.Machine.{Peer}
use Rattle.net_core.proofs.PeerPlaces.{named_test}
use Rattle.net_core.proofs.peer.Peer.is_named.Goals as goal

pub returns : goal.returns
returns c = named_test c.self.inside.name c.args.name.now c.is.result c.is.ensures ∙ ap (λ (p : Peer). name_eq p.name c.args.name.now) c.self.view_is
