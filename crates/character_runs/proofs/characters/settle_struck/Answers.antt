use Rattle.std.proofs.Common.{ℕ, List, Contains, sym, ◌∙◌, subst}
use Rattle.walker_record.specs.Stretches.{Stretch}
use Rattle.character_runs.proofs.Settled.{changed_same}
use Rattle.character_runs.proofs.characters.settle_struck.Goals as goal

pub returns-then-is_some-clause-end : goal.returns-then-is_some-clause-end
returns-then-is_some-clause-end g c =
    let cursor = c.args.cursor.now in
    let now = c.settle.ensures.pairs in
    changed_same cursor.label cursor.run c.settle.new.runs.tree.pairs c.facts.ensures.rising (subst (λ (xs : List (ℕ × Stretch)). Contains xs (cursor.label, cursor.run)) (sym now) c.requires.cursor.held) ∙ now
