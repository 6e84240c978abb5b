use Rattle.std.proofs.Common.{get_or, refl, subst}
use Rattle.std.proofs.lemmas.Option.{slice_get-get_or}
use Rattle.ew_model.specs.declared.node.Node.{Node}
use Rattle.fugue_place.specs.Attachments.{side_of, path_of}
use Rattle.fugue_place.specs.Subtrees.{node_at, tree_nodes, EndsBelow}
use Rattle.fugue_place.specs.Ways.{way_of}
use Rattle.fugue_place.proofs.DescentLaws.{chain_ends}
use Rattle.fugue_place.proofs.FoundLaws.{attached_here}
use Rattle.fugue_place.proofs.PlaceLaws.{node_at_is}
use Rattle.fugue_place.proofs.search.outermost_node.Goals as goal

pub returns-clause-there : goal.returns-clause-there
returns-clause-there c = attached_here c.args.children.now.items c.get.result.node c.end_of.result (c.get.result, c.get.ensures, refl)

pub returns-clause-ends : goal.returns-clause-ends
returns-clause-ends c = λ b base.
    let xs = c.args.children.now.items in
    let outward = c.requires.ways in
    let here = slice_get-get_or xs c.args.from c.get.result c.requires.within in
    subst (λ (v : Node). EndsBelow (side_of c.args.end) (tree_nodes b xs) (path_of xs (node_at xs c.args.from)) (path_of xs v))
    (node_at_is xs c.end_of.result c.get.result c.get.ensures)
    (chain_ends xs c.requires.attached c.args.end (way_of c.args.ways.now) outward.outermost c.args.from c.end_of.result (get_or xs c.args.from c.get.result) here c.end_of.ensures.end b base)
