use Rattle.std.proofs.Common.{◌≡◌, ◌<◌, true, refl, ap, ◌∙◌, sym, subst}
use Rattle.walker_record.specs.Stretches.{Stretch, is_continued}
use Rattle.character_runs.specs.Cursors.{StandsAhead, struck_with}
use Rattle.character_runs.proofs.StruckFirsts.{ahead_stands}
use Rattle.character_runs.proofs.runs.Runs.struck_ahead.Goals as goal

pub returns-then-joinable-clause-ahead : goal.returns-then-joinable-clause-ahead
returns-then-joinable-clause-ahead g c =
    let ps = c.args.self.now.tree.pairs in
    let struck : Stretch = c.in_ok-label.run'.now in
    let own = c.in_ok-label.label in
    let truth = c.if-not-strikes_first.ensures in
    let goes : is_continued struck (struck_with c.args.found.run.from 0) ≡ true = ap (is_continued struck) (sym c.struck_first-one.ensures) ∙ sym c.joinable.ensures ∙ c.if-joinable.true in
    let some : 0 < struck.len = subst (λ (r : Stretch). 0 < r.len) c.run.view_is c.if-run-gt0.true in
    subst (λ (r : Stretch). StandsAhead ps (record { label = own; run = r }) c.args.found.label c.args.found.run) (sym c.run.view_is)
    (ahead_stands ps c.args.found.label own c.args.found.run struck c.facts.ensures.rising c.requires c.in_ok-label.ensures.some goes some (truth.long refl) (truth.prepared refl))
