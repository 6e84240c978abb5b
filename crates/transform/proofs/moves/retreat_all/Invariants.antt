use Rattle.std.proofs.Common.{◌≡◌, ℕ, ◌+◌, List, drop, length, reverse}
use Rattle.ew_model.specs.Tree.{Applied}
use Rattle.advance_retreat.specs.Standing.{StandsFor}
use Rattle.advance_retreat.specs.Conditions.{MayRetreatEach, Retreated}
use Rattle.ancestors.specs.Spans.{positions_of}
use Rattle.transform.proofs.moves.retreat_all.Given as goal

-- the spans so far were taken out, and the rest may be
abbrev pub invariant-loop-span : goal.invariant-loop-span
invariant-loop-span g l = record {
  stands : (b : ℕ) (events : List (Applied ℕ)) (prepared : List ℕ) → StandsFor l.fn.state b events prepared → MayRetreatEach events prepared (reverse (positions_of l.fn.spans))
      → Retreated l.state b events prepared (reverse (positions_of l.fn.spans)) (reverse (positions_of (drop l.span-index l.span-items)));
  steps : l.steps + length (positions_of (drop l.span-index l.span-items)) ≡ l.fn.steps + length (positions_of l.fn.spans);
}
