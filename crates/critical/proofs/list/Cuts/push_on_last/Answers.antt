use Rattle.std.proofs.Common.{◌≡◌, ◌∙◌, ◌-◌, ◌∷◌, [], suc, sym, ap, length, arith}
use Rattle.std.proofs.lemmas.Result.{on_ok_weaker}
use Rattle.critical.specs.KeptCuts.{KeptCuts, with_whole}
use Rattle.critical.proofs.CutsKept.{whole_kept}
use Rattle.critical.proofs.list.Cuts.push_on_last.Goals as goal
use Rattle.ew_model.proofs.PositionFrontier.{one_parent}

pub returns-clause-ok : goal.returns-clause-ok
returns-clause-ok c =
    on_ok_weaker c.keep_whole.result
    (λ made history good stands front reduced.
    let now : KeptCuts = c.args.self.now in
    let inside : c.self.inside.count ≡ now.count = ap (λ (v : KeptCuts). v.count) c.self.view_is in
    let count : now.count ≡ length history = ap (λ (v : KeptCuts). v.count) stands in
    let last = now.count - 1 in
    let same : (c.self.inside.count - 1) ∷ [] ≡ last ∷ [] = ap (λ n. (n - 1) ∷ []) inside in
    let end : suc last ≡ length history = omega (arith, count, c.requires.some) in
    made (λ k long m. ap (λ n. n ∷ []) (omega (arith, inside, long)))
    ∙ (λ i. with_whole (stands i) (same i)) ∙ sym (whole_kept history (last ∷ []) good (one_parent (length history) last (omega (arith, end))) reduced end (sym front)))
    c.keep_whole.ensures.ok
