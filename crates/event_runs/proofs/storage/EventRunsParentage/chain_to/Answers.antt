use Rattle.std.proofs.Common.{◌<◌, length, arith}
use Rattle.std.proofs.lemmas.List.{length-map}
use Rattle.event_runs.specs.BareEvents.{BareEvent, parents_in}
use Rattle.event_runs.proofs.storage.EventRunsParentage.chain_to.Goals as goal

pub chain_at-requires : goal.chain_at-requires
chain_at-requires c =
    let long = length-map c.args.self.now (λ (e : BareEvent). e.parents) in
    let there : c.args.lv < length (parents_in c.args.self.now) = c.requires in
    omega (arith, there, long)
