use Rattle.advance_retreat.proofs.RunLaws.{place_of}
use Rattle.advance_retreat.proofs.runs.place_near.Goals as goal

pub returns-then-has_at : goal.returns-then-has_at
returns-then-has_at c = place_of c.args.runs.now c.args.lv c.args.near c.requires (c.has_at.ensures.yes c.if-has_at.true)

pub returns-then-has_at-2 : goal.returns-then-has_at-2
returns-then-has_at-2 c = place_of c.args.runs.now c.args.lv _ c.requires (c.has_at-2.ensures.yes c.if-has_at-2.true)

pub returns-then-has_at-3 : goal.returns-then-has_at-3
returns-then-has_at-3 c = place_of c.args.runs.now c.args.lv _ c.requires (c.has_at-3.ensures.yes c.if-has_at-3.true)
