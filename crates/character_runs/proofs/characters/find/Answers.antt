use Rattle.std.proofs.Common.{◌∙◌}
use Rattle.character_runs.specs.Cursors.{settled}
use Rattle.character_runs.proofs.Settled.{settled_same}
use Rattle.character_runs.proofs.characters.find.Goals as goal

pub returns-in-Some-clause-held : goal.returns-in-Some-clause-held
returns-in-Some-clause-held g c = c.in-Some.ensures.held (settled c.args.runs.now.tree.pairs c.args.cursor.now) c.requires.cursor

pub returns-clause-same : goal.returns-clause-same
returns-clause-same g c =
    let qs = c.settle.new.runs.tree.pairs in
    let found = c.visible_at-found.ensures in
    settled_same qs c.behind.result c.facts.ensures.rising (c.behind.ensures qs found.place found.held found.before) ∙ c.settle.ensures.pairs
