use Rattle.std.proofs.Common.{Bool, map, ap, arith}
use Rattle.std.proofs.lemmas.List.{length-map}
use Rattle.ew_model.specs.declared.node.Node.{Node}
use Rattle.character_runs.specs.Loose.{loose_in}
use Rattle.advance_retreat.specs.declared.target.Target.{Target}
use Rattle.advance_retreat.specs.Refusals.{is_told}
use Rattle.advance_retreat.specs.Hanging.{InTree}
use Rattle.advance_retreat.proofs.LooseEvents.{told_nodes}
use Rattle.advance_retreat.proofs.tree.Tree.runs.Goals as goal

pub returns-clause-few : goal.returns-clause-few
returns-clause-few c = λ ts.
    let few = c.runs.ensures.few (map (λ (t : Target). t.node) ts) in
    let long = length-map ts (λ (t : Target). t.node) in
    let told = ap (λ (among : Node → Bool). loose_in among c.self.inside.characters.runs) (told_nodes ts) in
    let read = ap (λ (s : InTree). loose_in (is_told ts) s.runs) c.self.view_is in
    omega (arith, few, long, told, read)
