use Rattle.std.proofs.Common.{ℕ, List, ◌++◌, sym, ap, ◌∙◌, arith}
use Rattle.character_runs.specs.EventPositions.{event_positions}
use Rattle.character_runs.specs.Laid.{records_of}
use Rattle.character_runs.proofs.EventPositions.{positions_more}
use Rattle.character_runs.proofs.runs.event_positions.positions_of_each.Goals as goal

pub loop-k-preserved : goal.loop-k-preserved
loop-k-preserved c =
    let g = c.index.result.now in
    c.in_ok-add_positions.ensures
    ∙ ap (λ (xs : List ℕ). xs ++ event_positions (records_of g.1.1)) c.loop-k.invariant
    ∙ sym (positions_more c.args.given.now.items c.loop-k.k g (omega (arith, c.loop-k-test.true, c.len-k-end.ensures)) c.index.ensures)
