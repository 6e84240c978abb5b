use Rattle.ew_model.proofs.GoodLaws.{equal_sets_agree}
use Rattle.replica.proofs.state.Replica.agrees.Goals as goal

-- both histories are good, so equal events show equal text
pub returns-clause-text : goal.returns-clause-text
returns-clause-text c = λ t.
    rw (← c.self.view_is, ← c.other.view_is)
    (equal_sets_agree c.self.inside.graph c.other.inside.graph c.self.invariant.0.kept.orderly.good c.other.invariant.0.kept.orderly.good (c.agrees.ensures.0 t)).whole
