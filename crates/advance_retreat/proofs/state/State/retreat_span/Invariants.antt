use Rattle.std.proofs.Common.{IfSome, ◌≡◌, ℕ, ◌+◌, ◌-◌, ◌≤◌, List, reverse}
use Rattle.std.specs.List.{range_with_len}
use Rattle.ew_model.specs.Tree.{Applied}
use Rattle.advance_retreat.specs.Conditions.{MayRetreatEach, Retreated}
use Rattle.advance_retreat.specs.declared.line.Way.TheVariants.{Down}
use Rattle.advance_retreat.specs.Lines.{IsLineFrom}
use Rattle.advance_retreat.specs.Standing.{StandsFor}
use Rattle.advance_retreat.proofs.state.State.retreat_span.Given as goal

-- the moves so far were made, and the rest may be made
abbrev pub invariant-loop-at : goal.invariant-loop-at
invariant-loop-at g l = record {
  low : l.fn.from ≤ l.at;
  high : l.at ≤ l.fn.to;
  stands : (b : ℕ) (events : List (Applied ℕ)) (prepared : List ℕ) → StandsFor l.fn.self b events prepared → MayRetreatEach events prepared (reverse (range_with_len l.fn.from (l.fn.to - l.fn.from)))
      → Retreated l.self b events prepared (reverse (range_with_len l.fn.from (l.fn.to - l.fn.from))) (reverse (range_with_len l.fn.from (l.at - l.fn.from)));
  line : IfSome l.line (IsLineFrom Down l.self.targets (l.at - 1) (l.at - l.fn.from));
  lost : l.self.lost ≡ l.fn.self.lost;
  steps : l.steps + l.at ≡ l.fn.steps + l.fn.to;
}

abbrev pub decreases-loop-at : goal.decreases-loop-at
decreases-loop-at g l = l.at
