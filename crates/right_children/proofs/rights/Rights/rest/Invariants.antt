use Rattle.right_children.specs.Chains.{AreLinked}
use Rattle.right_children.specs.Rights.{counted, IsWhole}
use Rattle.right_children.proofs.RestingRights.{AreReset}
use Rattle.right_children.proofs.rights.Rights.rest.Given as goal

-- the parents of the events below the position are seen to
abbrev pub invariant-loop-position : goal.invariant-loop-position
invariant-loop-position l = record {
  whole : IsWhole l.self;
  linked : AreLinked (counted l.self).parent_at l.position l.linked;
  reset : AreReset (counted l.fn.self) (counted l.self) l.fn.from l.position;
}
