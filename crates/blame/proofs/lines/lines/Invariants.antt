use Rattle.blame.proofs.Parts.{IsOpen}
use Rattle.blame.proofs.lines.lines.Given as goal
use Rattle.ew_model.specs.Texts.{text_chars}

abbrev pub invariant-loop-at : goal.invariant-loop-at
invariant-loop-at l = IsOpen l.columns (text_chars l.graph) l.out.items l.from l.at l.first l.last
