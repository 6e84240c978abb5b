use Rattle.std.proofs.Common.{[], ◌∷◌, sym, subst}
use Rattle.std.specs.List.{AllByRecursion}
use Rattle.peer_exchange.proofs.Lengths.{sent_taken}
use Rattle.peer_definitions.specs.Answering.{event_frames}
use Rattle.peer_frames.specs.Laws.{IsTaken}
use Rattle.peer_definitions.specs.declared.frame.Frame.TheVariants.{Done}
use Rattle.net_core.proofs.Deliveries.{all_before}
use Rattle.net_core.proofs.frames.in_frames.Goals as goal

pub returns-clause-taken : goal.returns-clause-taken
returns-clause-taken c =
    let limits = c.args.limits.now in
    let events = c.args.events.items in
    subst (AllByRecursion (IsTaken limits)) (sym c.in_ok-frames.ensures)
    (all_before (IsTaken limits) (event_frames limits events) (Done ∷ []) (sent_taken limits events c.events-most.ensures.range c.requires.sound c.requires.few))
