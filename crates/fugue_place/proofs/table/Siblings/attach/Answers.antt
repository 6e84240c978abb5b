use Rattle.fugue_place.proofs.PathLaws.{has_agent}
use Rattle.fugue_place.proofs.table.Siblings.attach.Goals as goal

pub attach_heir-requires-clause-may : goal.attach_heir-requires-clause-may
attach_heir-requires-clause-may c = record {
  event = c.requires.event;
  new = c.requires.new;
  parent = c.requires.parent;
  unused = c.requires.unused;
  agent = has_agent c.args.id.agent c.as_slice-agent.ensures.name;
}

pub attach_other-requires : goal.attach_other-requires
attach_other-requires c = record {
  may = record {
    event = c.requires.event;
    new = c.requires.new;
    parent = c.requires.parent;
    unused = c.requires.unused;
    agent = has_agent c.args.id.agent c.as_slice-agent.ensures.name;
  };
}
