use Rattle.std.proofs.Common.{◌≤◌, drop, length, take, sym, ◌∙◌, subst}
use Rattle.std.specs.List.{AllByRecursion}
use Rattle.ew_model.specs.declared.event.Event.{Event}
use Rattle.ew_model.specs.Sound.{AreSound, IsSound}
use Rattle.event_graph.proofs.Tails.{all_first}
use Rattle.peer_exchange.proofs.Lengths.{all_drop}
use Rattle.net_core.proofs.Deliveries.{few_parents}
use Rattle.net_core.proofs.peer.Peer.some_frames.Goals as goal

pub in_frames-requires : goal.in_frames-requires
in_frames-requires c =
    let skip = c.args.skip in
    let count = c.args.count in
    let few = λ (e : Event). length e.parents ≤ 16 in
    let events = c.in_ok-events.ensures in
    let held = c.graph-2.ensures.graph in
    let good = c.graph-2.ensures.kept.orderly.good in
    let graph = c.graph-2.result.now in
    record {
      sound = subst AreSound (sym events) (subst (λ es. AreSound (take count (drop skip es))) (c.graph.ensures.graph ∙ sym held)
          (all_first IsSound count _ (all_drop IsSound skip _ c.count-sound.ensures.sound)));
      few = subst (AllByRecursion few) (sym events) (subst (λ es. AllByRecursion few (take count (drop skip es))) (sym held)
          (all_first few count _ (all_drop few skip _ (few_parents c.self.inside.replica.held good))));
    }
