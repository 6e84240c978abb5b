use Rattle.std.proofs.Common.{Option, IfSome, subst}
use Rattle.walker_record.specs.Stretches.{Stretch}
use Rattle.order_tree.specs.Pairs.{AreGivenIn}
use Rattle.order_tree.specs.declared.about.Relabelled.{Relabelled}
use Rattle.character_runs.proofs.runs.Runs.relabel_about.Goals as goal

pub note_each-requires : goal.note_each-requires
note_each-requires g c =
    let ps = c.args.self.now.tree.pairs in
    let qs = c.relabel_about.new.self.pairs in
    let given = subst (λ (o : Option (Relabelled Stretch)). IfSome o (λ r. AreGivenIn ps qs r.given.items)) c.in-Some.is c.in_ok-about.ensures.given in
    (ps, qs, c.requires.laid, c.facts.ensures.rising, c.relabel_about.ensures.runs, given)

pub returns-clause-laid : goal.returns-clause-laid
returns-clause-laid g c =
    let ps = c.args.self.now.tree.pairs in
    let qs = c.relabel_about.new.self.pairs in
    let given = subst (λ (o : Option (Relabelled Stretch)). IfSome o (λ r. AreGivenIn ps qs r.given.items)) c.in-Some.is c.in_ok-about.ensures.given in
    c.note_each.ensures ps qs c.requires.laid c.facts.ensures.rising c.relabel_about.ensures.runs given
