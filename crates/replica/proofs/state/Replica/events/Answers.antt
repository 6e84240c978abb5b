use Rattle.std.proofs.Common.{◌<◌, ◌^◌, length, arith}
use Rattle.ew_model.proofs.WritableLaws.{good_is_writable}
use Rattle.replica.proofs.state.Replica.events.Goals as goal

pub returns-clause-writable : goal.returns-clause-writable
returns-clause-writable c =
    let kept = c.self.invariant.0.kept in
    let few : length c.self.inside.graph < 2 ^ 32 = omega (arith, kept.few, c.events-most.ensures.range.few_events, c.events-most.ensures.value) in
    rw (← c.self.view_is) (good_is_writable c.self.inside.graph kept.orderly.good few)
