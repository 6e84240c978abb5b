use Rattle.std.proofs.Common.{◌≡◌, ◌∙◌, ◌-◌, length, ap, sym, arith}
use Rattle.critical.specs.KeptCuts.{KeptCuts, with_count}
use Rattle.critical.proofs.Chains.{chain_apart}
use Rattle.critical.proofs.list.Cuts.push_apart_run.Goals as goal

pub returns-clause-cuts : goal.returns-clause-cuts
returns-clause-cuts c history good stands others =
    let now : KeptCuts = c.args.self.now in
    let count : now.count ≡ length history = ap (λ (v : KeptCuts). v.count) stands in
    c.count_chain.ensures ∙ ap (λ (v : KeptCuts). with_count v c.args.count) stands ∙ sym (chain_apart c.args.count history (now.count - 1) good (omega (arith, count, c.requires.some)) others)
