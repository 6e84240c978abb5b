use Rattle.std.proofs.Common.{◌≡◌, ◌∙◌, ℕ, List, length, ap, subst, arith}
use Rattle.critical.specs.KeptCuts.{KeptCuts}
use Rattle.critical.specs.Searches.{IsGreatestTo}
use Rattle.critical.proofs.InnerCuts.{latest_whole, latest_inner}
use Rattle.critical.proofs.list.Cuts.latest.Goals as goal

pub returns-then-at_most-self : goal.returns-then-at_most-self
returns-then-at_most-self c history stands =
    let count : c.self.inside.count ≡ length history = ap (λ (v : KeptCuts). v.count) (c.self.view_is ∙ stands) in
    count ∙ latest_whole history c.args.at_most (omega (arith, count))

pub returns-else-at_most-self : goal.returns-else-at_most-self
returns-else-at_most-self c history stands =
    let count : c.self.inside.count ≡ length history = ap (λ (v : KeptCuts). v.count) (c.self.view_is ∙ stands) in
    latest_inner history c.args.at_most c.greatest_to.result (omega (arith, count))
    (subst (λ (cuts : List ℕ). IsGreatestTo cuts c.args.at_most c.greatest_to.result) (ap (λ (v : KeptCuts). v.cuts) stands) c.greatest_to.ensures)
