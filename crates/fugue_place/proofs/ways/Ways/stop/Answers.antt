use Rattle.std.proofs.Common.{ap, sym, ◌∙◌}
use Rattle.fugue_place.specs.declared.child.Side.{Side}
use Rattle.fugue_place.specs.Ways.{stop_on}
use Rattle.fugue_place.proofs.ways.Ways.stop.Goals as goal

pub returns-in-Left : goal.returns-in-Left
returns-in-Left c = let w = c.args.self.now in ap (λ (s : Side). stop_on s w.heads.items w.count c.args.at) (sym c.in-Left.is)

pub returns-in-Right : goal.returns-in-Right
returns-in-Right c = let w = c.args.self.now in c.next_head.ensures ∙ ap (λ (s : Side). stop_on s w.heads.items w.count c.args.at) (sym c.in-Right.is)
