use Rattle.fugue_place.proofs.LinkLaws.{link_first, link_none}
use Rattle.fugue_place.proofs.links.first_link.Goals as goal

pub returns-in-Some : goal.returns-in-Some
returns-in-Some c =
    link_first c.args.links.now c.args.from c.args.to c.range-found.result (c.range-found.ensures.in_range tt) c.in-Some.field-0-0.now c.in-Some.head.now c.next.new.self c.in-Some.ensures.steps

pub returns-in-None : goal.returns-in-None
returns-in-None c = link_none c.args.links.now c.args.from c.args.to c.range-found.result (c.range-found.ensures.in_range tt) c.in-None.ensures.steps.0
