use Rattle.fugue_place.proofs.led.enlist_behind.Goals as goal

pub give_up-requires : goal.give_up-requires
give_up-requires c = (c.args.ways.now, c.requires.ways, c.in_ok-before.ensures.ok)

pub returns-in-Ok-clause-ways : goal.returns-in-Ok-clause-ways
returns-in-Ok-clause-ways c = c.in_ok-before.ensures.ok.ready

pub returns-in-Err-clause-same_ways : goal.returns-in-Err-clause-same_ways
returns-in-Err-clause-same_ways c = c.give_up.ensures c.args.ways.now c.in_ok-before.ensures.ok
