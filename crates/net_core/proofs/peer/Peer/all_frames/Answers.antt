use Rattle.std.proofs.Common.{◌≤◌, length, sym, ◌∙◌, subst}
use Rattle.std.specs.List.{AllByRecursion}
use Rattle.ew_model.specs.declared.event.Event.{Event}
use Rattle.ew_model.specs.Sound.{AreSound}
use Rattle.net_core.proofs.Deliveries.{few_parents}
use Rattle.net_core.proofs.peer.Peer.all_frames.Goals as goal

pub in_frames-requires : goal.in_frames-requires
in_frames-requires c =
    let few = λ (e : Event). length e.parents ≤ 16 in
    let events = c.in_ok-events.ensures.events in
    record {
      sound = subst AreSound (c.graph.ensures.graph ∙ sym events) c.count-sound.ensures.sound;
      few = subst (AllByRecursion few) (sym events) (few_parents c.self.inside.replica.held c.graph.ensures.kept.orderly.good);
    }
