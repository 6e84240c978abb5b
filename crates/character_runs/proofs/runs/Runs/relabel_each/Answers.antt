use Rattle.character_runs.proofs.Renamed.{all_given}
use Rattle.character_runs.proofs.runs.Runs.relabel_each.Goals as goal

pub note_each-requires : goal.note_each-requires
note_each-requires g c =
    let ps = c.args.self.now.tree.pairs in
    let qs = c.relabel.new.self.pairs in
    (ps, qs, c.requires, c.facts.ensures.rising, c.relabel.ensures.runs, all_given ps qs c.in_ok-given.given.items c.relabel.ensures.runs c.in_ok-given.ensures.given)

pub returns-clause-laid : goal.returns-clause-laid
returns-clause-laid g c =
    let ps = c.args.self.now.tree.pairs in
    let qs = c.relabel.new.self.pairs in
    c.note_each.ensures ps qs c.requires c.facts.ensures.rising c.relabel.ensures.runs (all_given ps qs c.in_ok-given.given.items c.relabel.ensures.runs c.in_ok-given.ensures.given)
