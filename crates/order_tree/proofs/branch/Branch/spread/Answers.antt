use Rattle.std.proofs.Common.{◌≡◌, ℕ, ◌+◌, ◌-◌, ◌*◌, ◌<◌, ◌++◌, List, length, arith, ap, ◌∙◌, subst}
use Rattle.order_tree.specs.Pairs.{runs}
use Rattle.order_tree.specs.Parts.{first_or_zero}
use Rattle.order_tree.specs.Relabels.{renamed}
use Rattle.order_tree.proofs.PartLists.{first_positive}
use Rattle.order_tree.proofs.SpreadLaws.{runs-relabelled}
use Rattle.order_tree.proofs.WholeEdits.{some_held}
use Rattle.order_tree.proofs.AboutLaws.{small_reached, spread_all}
use Rattle.order_tree.proofs.branch.Branch.spread.Goals as goal

pub relabel-requires-clause-small : goal.relabel-requires-clause-small
relabel-requires-clause-small g c =
    let low = c.first-low.result - 1 in
    let ps = c.args.self.now.pairs in
    let step = c.in-Some.step in
    let fits : low + (length ps + 1) * step < c.args.most + 1 = subst (λ (n : ℕ). low + (n + 1) * step < c.args.most + 1) c.requires.count c.in-Some.ensures.fits in
    omega (arith, small_reached step low (c.args.most + 1) ps fits, c.ranges.most.fits)

pub returns-clause-tried : goal.returns-clause-tried
returns-clause-tried g c =
    let low = c.first-low.result - 1 in
    let ps = c.args.self.now.pairs in
    let step = c.in-Some.step in
    let fits : low + (length ps + 1) * step < c.args.most + 1 = subst (λ (n : ℕ). low + (n + 1) * step < c.args.most + 1) c.requires.count c.in-Some.ensures.fits in
    let positive = first_positive ps (some_held ps c.args.label c.requires.held) c.requires.rising in
    let first : low + 1 ≡ first_or_zero ps = omega (arith, positive, c.first-low.ensures) in
    let given = c.relabel.ensures.given ∙ ap (λ (ls : List (ℕ × (ℕ × _))). ls ++ renamed step low ps) c.in-Ok.ensures.items in
    spread_all (c.args.most + 1) c.args.label step low ps c.relabel.new.self.pairs c.relabel.new.given.items c.relabel.ensures.pairs given c.requires.held first c.in-Some.ensures.wide fits

pub returns-clause-runs : goal.returns-clause-runs
returns-clause-runs g c =
    ap (λ (ps : List (ℕ × _)). runs ps) c.relabel.ensures.pairs ∙ runs-relabelled c.in-Some.step (c.first-low.result - 1) c.args.self.now.pairs
