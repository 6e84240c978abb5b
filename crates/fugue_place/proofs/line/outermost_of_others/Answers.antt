use Rattle.std.proofs.Common.{subst, sym}
use Rattle.std.specs.BTreeMap.{get}
use Rattle.fugue_place.specs.declared.child.Side.{Side}
use Rattle.fugue_place.specs.Heirs.{IsBestOfOthers}
use Rattle.fugue_place.specs.Spots.{spot_cmp}
use Rattle.fugue_place.proofs.IndexLaws.{first_best, last_best}
use Rattle.fugue_place.proofs.line.outermost_of_others.Goals as goal

pub returns-in-Left : goal.returns-in-Left
returns-in-Left c = λ children index.
    subst (λ (s : Side). IsBestOfOthers c.args.line.now s children c.first_between.result) (sym c.in-Left.is)
    (first_best children (get spot_cmp c.args.spots.now) index c.args.line.now c.ahead-from.result c.behind-to.result c.ahead-from.ensures c.behind-to.ensures c.first_between.result
    c.first_between.ensures.some c.first_between.ensures.none)

pub returns-in-Right : goal.returns-in-Right
returns-in-Right c = λ children index.
    subst (λ (s : Side). IsBestOfOthers c.args.line.now s children c.last_between.result) (sym c.in-Right.is)
    (last_best children (get spot_cmp c.args.spots.now) index c.args.line.now c.ahead-from.result c.behind-to.result c.ahead-from.ensures c.behind-to.ensures c.last_between.result
    c.last_between.ensures.some c.last_between.ensures.none)
