use Rattle.std.specs.Cow.{cow_value}
use Rattle.std.specs.declared.borrow.Cow.TheVariants.{Owned}
use Rattle.replica.proofs.OfferedPlaces.{event_there, none_there}
use Rattle.replica.proofs.offered.held_at.Goals as goal

pub returns-in_default : goal.returns-in_default
returns-in_default c = none_there cow_value c.args.graph.now c.args.positions.now c.args.place c.requires c.in_default.ensures.lookup.0

pub returns : goal.returns
returns c =
    event_there cow_value c.args.graph.now c.args.positions.now c.args.place c.in-Some.position.now (Owned c.in_ok-e.e) c.requires c.in-Some.ensures.lookup.0 c.in-Some.ensures.lookup.3.0 c.in-Some.ensures.lookup.1 c.in_ok-e.ensures
