use Rattle.std.proofs.Common.{◌∙◌, refl}
use Rattle.replica.specs.Desks.{desk_of_replica}
use Rattle.replica.proofs.Received.{reaches_next, reaches_none}
use Rattle.replica.proofs.RoundCounts.{counted_just, counted_most, counted_on, none_counted}
use Rattle.replica.proofs.state.Replica.receive_all.Goals as goal

pub loop-init : goal.loop-init
loop-init g c =
    let d = desk_of_replica c.args.self.now c.args.events.now c.args.progress.now in
    record {
      limits = refl;
      begun = c.requires.begun;
      reaches = reaches_none c.args.self.now.limits d c.args.progress.now;
      counted = none_counted c.args.self.now.limits d c.args.steps.now;
    }

pub loop-preserved : goal.loop-preserved
loop-preserved g c =
    let events = c.args.events.now in
    let before = c.loop.invariant in
    let after = c.in_ok-round.ensures in
    let from = desk_of_replica c.args.self.now events c.args.progress.now in
    let to = desk_of_replica c.loop.self events c.loop.progress in
    let next = desk_of_replica c.round.new.self events c.round.new.progress in
    record {
      limits = after.limits ∙ before.limits;
      begun = after.begun;
      reaches =
          reaches_next c.args.self.now.limits c.loop.self.limits from to next c.args.progress.now c.loop.progress c.round.new.progress before.limits before.reaches after.reaches;
      counted =
          counted_on c.args.self.now.limits c.loop.self.limits from to next c.args.steps.now c.loop.steps c.round.new.steps before.limits before.counted (after.next c.if-branch.true) (after.fewer c.if-branch.true) after.most;
    }

pub returns-clause-reaches : goal.returns-clause-reaches
returns-clause-reaches g c =
    let events = c.args.events.now in
    let before = c.loop.invariant in
    reaches_next c.args.self.now.limits c.loop.self.limits (desk_of_replica c.args.self.now events c.args.progress.now) (desk_of_replica c.loop.self events c.loop.progress) (desk_of_replica c.round.new.self events c.round.new.progress)
    c.args.progress.now c.loop.progress c.round.new.progress before.limits before.reaches c.in_ok-round.ensures.reaches

pub returns-clause-touches : goal.returns-clause-touches
returns-clause-touches g c anew none =
    let events = c.args.events.now in
    let before = c.loop.invariant in
    counted_just c.args.self.now.limits c.loop.self.limits (desk_of_replica c.args.self.now events c.args.progress.now) (desk_of_replica c.loop.self events c.loop.progress) c.args.steps.now c.loop.steps c.round.new.steps
    before.limits before.counted (c.in_ok-round.ensures.touches anew c.if-branch.false) none

pub returns-clause-most : goal.returns-clause-most
returns-clause-most g c =
    let events = c.args.events.now in
    let before = c.loop.invariant in
    counted_most c.args.self.now.limits c.loop.self.limits (desk_of_replica c.args.self.now events c.args.progress.now) (desk_of_replica c.loop.self events c.loop.progress) c.args.steps.now c.loop.steps c.round.new.steps
    before.limits before.counted c.in_ok-round.ensures.most

pub returns-in_err-round-clause-most : goal.returns-in_err-round-clause-most
returns-in_err-round-clause-most g c =
    let events = c.args.events.now in
    let before = c.loop.invariant in
    counted_most c.args.self.now.limits c.loop.self.limits (desk_of_replica c.args.self.now events c.args.progress.now) (desk_of_replica c.loop.self events c.loop.progress) c.args.steps.now c.loop.steps c.round.new.steps
    before.limits before.counted c.in_err-round.ensures.most
