use Rattle.std.proofs.Common.{◌-◌, min, ap, ◌∙◌, subst, arith}
use Rattle.walker_record.specs.Stretches.{HasNumbers, node_on}
use Rattle.walker_record.specs.StretchLaws.{fewer_numbers, further_numbers}
use Rattle.character_runs.specs.declared.runs.Counted.{Counted}
use Rattle.character_runs.proofs.runs.Counted.count.Goals as goal

pub returns-clause-numbers : goal.returns-clause-numbers
returns-clause-numbers c =
    let run = c.args.self.now.run in
    let place = c.args.self.now.spot.offset in
    let is = c.min.ensures ∙ ap (λ (x : Counted). min c.args.most (x.run.len - x.spot.offset)) c.self.view_is in
    fewer_numbers (node_on run.from place) (run.len - place) c.min.result (omega (arith, is))
    (further_numbers run.from run.len place (omega (arith, c.requires)) (subst (λ (x : Counted). HasNumbers x.run.from x.run.len) c.self.view_is c.self.invariant))
