use Rattle.std.proofs.Common.{◌≡◌, Some, cond, subst}
use Rattle.std.specs.BTreeMap.{get, is_at}
use Rattle.std.specs.declared.cmp.Ordering.{Ordering}
use Rattle.ew_model.specs.declared.node.Node.{Node}
use Rattle.fugue_place.proofs.CmpLaws.{nodes_by}
use Rattle.fugue_place.proofs.places.Places.keep.Goals as goal

pub returns-clause-ok : goal.returns-clause-ok
returns-clause-ok c = λ v.
    subst (λ (cmp : Node → Node → Ordering). get cmp c.insert.new.self v ≡ cond (is_at (cmp c.args.node) v) (Some c.args.place) (get cmp c.args.self.now.others v)) nodes_by
    (c.in_ok-insert.ensures.updates.0 v)
