use Rattle.fugue_place.specs.Chains.{follower, entry_at, KeepsLinks}
use Rattle.fugue_place.proofs.ChainLaws.{IsInnerPart}
use Rattle.fugue_place.proofs.chains.Chains.renumber_inner_part.Given as goal

abbrev pub invariant-loop-k : goal.invariant-loop-k
invariant-loop-k l =
    KeepsLinks l.fn.self l.self
    × IsInnerPart l.fn.new (follower l.fn.self.outer.items) (entry_at l.fn.self.numbers.items) l.fn.at (entry_at l.self.numbers.items) l.first

abbrev pub decreases-loop-k : goal.decreases-loop-k
decreases-loop-k l = l.first
