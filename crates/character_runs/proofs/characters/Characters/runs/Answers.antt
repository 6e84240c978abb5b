use Rattle.std.proofs.Common.{◌≡◌, length, ap, sym, ◌∙◌, subst, arith}
use Rattle.character_runs.specs.Cursors.{settled}
use Rattle.character_runs.specs.Laid.{InRuns, records_in}
use Rattle.character_runs.specs.Loose.{loose_in, is_one}
use Rattle.fugue_place.specs.Attachments.{node_eq}
use Rattle.character_runs.proofs.FewRuns.{few_runs}
use Rattle.character_runs.proofs.LooseEntries.{long_runs}
use Rattle.character_runs.proofs.RunsAt.{by_runs}
use Rattle.character_runs.proofs.Settled.{settled_long, settled_rising}
use Rattle.character_runs.proofs.characters.Characters.runs.Goals as goal

pub returns-clause-value : goal.returns-clause-value
returns-clause-value c =
    let ps = c.self.inside.runs.tree.pairs in
    let at = c.self.inside.cursor in
    c.count.ensures.value ∙ sym (settled_long ps at) ∙ sym (long_runs (settled ps at)) ∙ ap (λ (s : InRuns). length s.runs) c.self.view_is

pub returns-clause-kept : goal.returns-clause-kept
returns-clause-kept c = subst (λ (s : InRuns). s.records ≡ records_in s.runs) c.self.view_is (sym (by_runs (settled c.self.inside.runs.tree.pairs c.self.inside.cursor)))

pub returns-clause-few : goal.returns-clause-few
returns-clause-few c = λ vs.
    let ps = c.self.inside.runs.tree.pairs in
    let at = c.self.inside.cursor in
    let all = few_runs (settled ps at) c.self.inside.runs.labels c.self.invariant.counted.labelled (settled_rising ps at c.count.ensures.rising) vs in
    let same = ap (λ (s : InRuns). loose_in (is_one node_eq vs) s.runs) c.self.view_is in
    let long = long_runs (settled ps at) in
    let told = settled_long ps at in
    let value = c.count.ensures.value in
    omega (arith, all, same, long, told, value)
