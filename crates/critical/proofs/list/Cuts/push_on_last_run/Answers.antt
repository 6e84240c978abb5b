use Rattle.std.proofs.Common.{◌≡◌, ◌∙◌, ◌-◌, length, ap, sym, arith}
use Rattle.std.proofs.lemmas.Result.{on_ok_weaker}
use Rattle.critical.specs.KeptCuts.{KeptCuts, with_chain}
use Rattle.critical.proofs.Chains.{chain_kept}
use Rattle.critical.proofs.list.Cuts.push_on_last_run.Goals as goal

pub returns-clause-ok : goal.returns-clause-ok
returns-clause-ok c =
    on_ok_weaker c.keep_chain.result
    (λ made history good stands front.
    let now : KeptCuts = c.args.self.now in
    let count : now.count ≡ length history = ap (λ (v : KeptCuts). v.count) stands in
    made ∙ ap (λ (v : KeptCuts). with_chain v c.args.count) stands ∙ sym (chain_kept c.args.count history (now.count - 1) good (omega (arith, count, c.requires.some)) front))
    c.keep_chain.ensures.ok
