use Rattle.fugue_place.proofs.CmpLaws.{spots_by}
use Rattle.fugue_place.proofs.IndexLaws.{range_first, range_none}
use Rattle.fugue_place.proofs.line.first_between.Goals as goal

pub returns-in-Some-clause-some : goal.returns-in-Some-clause-some
returns-in-Some-clause-some c =
    range_first c.args.spots.now c.args.from c.args.to c.range-found.result _ spots_by (c.range-found.ensures.in_range tt) c.in-Some.field-0-0.now c.in-Some.place.now c.next.new.self c.in-Some.ensures.steps

pub returns-in-None-clause-none : goal.returns-in-None-clause-none
returns-in-None-clause-none c =
    range_none c.args.spots.now c.args.from c.args.to c.range-found.result _ spots_by (c.range-found.ensures.in_range tt) c.in-None.ensures.steps.0
