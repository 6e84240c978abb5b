use Rattle.std.proofs.Common.{◌≡◌, Option, None, nat_eq, if◌then◌else◌, unwrap_or, sym, ap, ◌∙◌}
use Rattle.ew_model.specs.declared.node.Node.{Node}
use Rattle.right_children.specs.Chains.{parent_in}
use Rattle.right_children.specs.Parents.{parent_at}
use Rattle.right_children.proofs.ChainLaws.{below_none, none_told}
use Rattle.right_children.proofs.parents.Parents.put.Goals as goal

pub returns-in-None-clause-ok : goal.returns-in-None-clause-ok
returns-in-None-clause-ok c = λ n.
    let p = c.args.self.now in
    let none : parent_at p c.args.position ≡ None =
    ap (λ (o : Option (Option Node)). unwrap_or o (parent_in p.chains c.args.position)) c.requires.new ∙ below_none p.chains c.args.position c.requires.below in
    none_told (parent_at p) c.args.position none n ∙ ap (λ (v : Option Node). if nat_eq c.args.position n then v else parent_at p n) (sym c.in-None.is)
