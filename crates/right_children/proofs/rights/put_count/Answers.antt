use Rattle.std.proofs.Common.{◌≡◌, Some, cond, subst}
use Rattle.std.specs.BTreeMap.{get, is_at}
use Rattle.std.specs.declared.cmp.Ordering.{Ordering}
use Rattle.ew_model.specs.declared.node.Node.{Node}
use Rattle.fugue_place.proofs.CmpLaws.{nodes_by}
use Rattle.right_children.proofs.rights.put_count.Goals as goal

pub returns-in-Ok-clause-ok : goal.returns-in-Ok-clause-ok
returns-in-Ok-clause-ok c = λ v.
    subst (λ (cmp : Node → Node → Ordering). get cmp c.insert.new.self v ≡ cond (is_at (cmp c.args.node) v) (Some c.args.count) (get cmp c.args.counts.now v)) nodes_by
    (c.in-Ok.ensures.updates.0 v)
