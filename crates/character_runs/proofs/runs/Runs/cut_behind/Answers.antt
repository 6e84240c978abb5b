use Rattle.std.proofs.Common.{Option, IfSome, Contains, subst, sym}
use Rattle.character_runs.specs.declared.runs.Spot.{Spot}
use Rattle.character_runs.specs.declared.runs.reading.Found.{Found}
use Rattle.character_runs.specs.Laid.{Stands, IsOffset}
use Rattle.character_runs.proofs.FoundCuts.{found_stands}
use Rattle.character_runs.proofs.runs.Runs.cut_behind.Goals as goal

pub returns-in_default-clause-last : goal.returns-in_default-clause-last
returns-in_default-clause-last g c label n s = absurd (c.in_default.ensures.none label n s)

pub returns-in-Some-2-clause-spot : goal.returns-in-Some-2-clause-spot
returns-in-Some-2-clause-spot g c =
    let qs = c.end_found.new.self.tree.pairs in
    let ended = c.in-Some-2.ended in
    let held = subst (λ (o : Option Found). IfSome o (λ f. Contains qs (f.label, f.run))) c.in-Some-2.is c.in_ok-ended.ensures.held in
    let is = subst (λ (o : Option Found). IfSome o (λ f. IsOffset f.run c.args.node f.offset)) c.in-Some-2.is c.in_ok-ended.ensures.offset in
    subst (λ (s : Spot). Stands qs s.label s.offset c.args.node) (sym c.spot.ensures) (found_stands qs ended.label ended.offset ended.run c.args.node held is)
