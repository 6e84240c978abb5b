use Rattle.std.proofs.Common.{◌<◌, subst}
use Rattle.walker_record.specs.Stretches.{Stretch}
use Rattle.character_runs.proofs.PartedRuns.{same_run}
use Rattle.character_runs.proofs.VisiblePlaces.{inside_run}
use Rattle.character_runs.proofs.runs.Runs.visible_at.Goals as goal

pub returns-clause-inside : goal.returns-clause-inside
returns-clause-inside g c =
    let ps = c.args.self.now.tree.pairs in
    let rising = c.facts.ensures.rising in
    let label = c.find_visible-visible.result.label in
    let offset = c.find_visible-visible.result.place in
    let is = c.find_visible-visible.ensures.place in
    subst (λ (r : Stretch). offset < r.len) (same_run ps label is.run c.find_visible-visible.result.run.now rising is.held c.find_visible-visible.ensures.run)
    (inside_run ps c.args.at label offset rising is)
