use Rattle.std.proofs.Common.{IfSome, ◌≡◌, ℕ, ◌+◌, ◌-◌, ◌≤◌, List}
use Rattle.std.specs.List.{range_with_len}
use Rattle.ew_model.specs.Tree.{Applied}
use Rattle.advance_retreat.specs.Conditions.{MayAdvanceEach, Advanced}
use Rattle.advance_retreat.specs.declared.line.Way.TheVariants.{Up}
use Rattle.advance_retreat.specs.Lines.{IsLineFrom}
use Rattle.advance_retreat.specs.Standing.{StandsFor}
use Rattle.advance_retreat.proofs.state.State.advance_span.Given as goal

-- the moves so far were made, and the rest may be made
abbrev pub invariant-loop-at : goal.invariant-loop-at
invariant-loop-at g l = record {
  low : l.fn.from ≤ l.at;
  high : l.at ≤ l.fn.to;
  stands : (b : ℕ) (events : List (Applied ℕ)) (prepared : List ℕ) → StandsFor l.fn.self b events prepared → MayAdvanceEach events prepared (range_with_len l.fn.from (l.fn.to - l.fn.from))
      → Advanced l.self b events prepared (range_with_len l.fn.from (l.fn.to - l.fn.from)) (range_with_len l.at (l.fn.to - l.at));
  line : IfSome l.line (IsLineFrom Up l.self.targets l.at (l.fn.to - l.at));
  lost : l.self.lost ≡ l.fn.self.lost;
  steps : l.steps + l.fn.from ≡ l.fn.steps + l.at;
}

abbrev pub decreases-loop-at : goal.decreases-loop-at
decreases-loop-at g l = l.fn.to - l.at
