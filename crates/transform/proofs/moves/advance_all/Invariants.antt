use Rattle.std.proofs.Common.{◌≡◌, ℕ, ◌+◌, ◌≤◌, List, take, length}
use Rattle.ew_model.specs.Tree.{Applied}
use Rattle.advance_retreat.specs.Standing.{StandsFor}
use Rattle.advance_retreat.specs.Conditions.{MayAdvanceEach, Advanced}
use Rattle.ancestors.specs.Spans.{positions_of}
use Rattle.transform.proofs.moves.advance_all.Given as goal

-- the spans behind these were put in, and these may be
abbrev pub invariant-loop-left : goal.invariant-loop-left
invariant-loop-left g l = record {
  within : l.left ≤ length l.items;
  stands : (b : ℕ) (events : List (Applied ℕ)) (prepared : List ℕ) → StandsFor l.fn.state b events prepared → MayAdvanceEach events prepared (positions_of l.fn.spans)
      → Advanced l.state b events prepared (positions_of l.fn.spans) (positions_of (take l.left l.items));
  steps : l.steps + length (positions_of (take l.left l.items)) ≡ l.fn.steps + length (positions_of l.fn.spans);
}

abbrev pub decreases-loop-left : goal.decreases-loop-left
decreases-loop-left g l = l.left
