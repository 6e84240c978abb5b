use Rattle.std.proofs.Common.{sym, ap, ◌∙◌}
use Rattle.carets.specs.Sides.{side}
use Rattle.caret_places.proofs.Standing.{found_side, missing_side}
use Rattle.caret_places.proofs.indexes.index_in.Goals as goal

pub returns-in-Some : goal.returns-in-Some
returns-in-Some c =
    found_side c.args.graph.now c.in-Behind.id c.in-Some.position 0 c.args.sides.now (sym c.in-Some.ensures.value) c.requires.sides
    ∙ ap (side c.args.graph.now) (sym c.in-Behind.is)

pub returns-in-None : goal.returns-in-None
returns-in-None c =
    sym (missing_side c.args.graph.now c.in-Behind.id c.requires.good (sym c.in-None.ensures.value))
    ∙ ap (side c.args.graph.now) (sym c.in-Behind.is)
