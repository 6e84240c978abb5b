use Rattle.std.proofs.Common.{◌≡◌, Contains}
use Rattle.character_runs.specs.declared.runs.reading.Found.{Found}
use Rattle.character_runs.specs.Laid.{IsOffset}
use Rattle.character_runs.proofs.Changing.{first_node, only_long}
use Rattle.character_runs.proofs.FoundCuts.{found_stands}
use Rattle.character_runs.proofs.Standings.{if_some_both}
use Rattle.character_runs.proofs.runs.Runs.lone.Goals as goal

pub returns-clause-node : goal.returns-clause-node
returns-clause-node g c =
    let qs = c.end_found.new.self.tree.pairs in
    let v = c.args.node in
    let begins = c.end_found.ensures.begun v c.in_ok-begun.ensures.first in
    if_some_both c.in_ok-lone.lone (λ (f : Found). Contains qs (f.label, f.run)) (λ f. IsOffset f.run v f.offset) (λ f. f.run.from ≡ v)
    (λ f held is. first_node qs v f.label f.offset (found_stands qs f.label f.offset f.run v held is) begins)
    c.in_ok-lone.ensures.held c.in_ok-lone.ensures.offset

pub returns-clause-alone : goal.returns-clause-alone
returns-clause-alone g c =
    let qs = c.end_found.new.self.tree.pairs in
    let v = c.args.node in
    let begins = c.end_found.ensures.begun v c.in_ok-begun.ensures.first in
    if_some_both c.in_ok-lone.lone (λ (f : Found). Contains qs (f.label, f.run)) (λ f. IsOffset f.run v f.offset) (λ f. f.run.len ≡ 1)
    (λ f held is. only_long qs v f.label f.offset (found_stands qs f.label f.offset f.run v held is) begins c.in_ok-lone.ensures.last)
    c.in_ok-lone.ensures.held c.in_ok-lone.ensures.offset
