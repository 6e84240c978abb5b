use Rattle.std.proofs.Common.{◌||◌, nat_eq, heap_items, ap, ◌∙◌}
use Rattle.ew_model.specs.Graph.{is_named}
use Rattle.ancestors.proofs.PendingLists.{with_one}
use Rattle.ancestors.proofs.pending.Pending.put.Goals as goal

pub returns : goal.returns
returns c = λ q.
    with_one c.args.position (heap_items c.self.inside.positions) (heap_items c.push.new.self) c.in_ok-push.ensures.permutation q
    ∙ ap (λ ps. is_named nat_eq ps q || nat_eq q c.args.position) c.self.view_is
