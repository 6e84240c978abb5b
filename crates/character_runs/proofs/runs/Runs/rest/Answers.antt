use Rattle.std.proofs.Common.{ap, ◌∙◌}
use Rattle.character_runs.specs.Laid.{chars_in}
use Rattle.character_runs.proofs.RestedRuns.{down_begun, down_held, down_on, down_next, down_end, down_falls, rested_chars}
use Rattle.character_runs.proofs.runs.Runs.rest.Goals as goal

pub loop-next-init : goal.loop-next-init
loop-next-init g c =
    let old = c.args.self.now.tree.pairs in
    record {
      counted = c.rest_run-count.ensures.counted;
      rising = c.rest_run-count.ensures.rising;
      down = down_on old old c.rest_run-count.new.self.tree.pairs c.in-Some.last c.last_run.ensures.rising c.rest_run-count.ensures.rising (down_begun old c.in-Some.last c.in-Some.ensures.some) c.rest_run-count.ensures.pairs;
      loose = c.rest_run-count.ensures.loose;
    }

pub rest_run-count-requires-in-Some-run_ahead-clause-held : goal.rest_run-count-requires-in-Some-run_ahead-clause-held
rest_run-count-requires-in-Some-run_ahead-clause-held g c =
    let old = c.args.self.now.tree.pairs in
    let now = c.loop-next.self.tree.pairs in
    down_held old now c.in-Some-run_ahead.next (down_next old now c.loop-next.label c.loop-next.invariant.down c.in-Some-run_ahead.next c.in-Some-run_ahead.ensures.some)

pub loop-next-smaller : goal.loop-next-smaller
loop-next-smaller g c =
    down_falls c.args.self.now.tree.pairs c.loop-next.self.tree.pairs c.loop-next.label c.loop-next.invariant.down c.in-Some-run_ahead.next c.in-Some-run_ahead.ensures.some

pub loop-next-preserved : goal.loop-next-preserved
loop-next-preserved g c =
    let old = c.args.self.now.tree.pairs in
    let now = c.loop-next.self.tree.pairs in
    let made = c.rest_run-count-in-Some-run_ahead.ensures in
    let next = c.in-Some-run_ahead.next in
    record {
      counted = made.counted;
      rising = made.rising;
      down = down_on old now c.rest_run-count-in-Some-run_ahead.new.self.tree.pairs next c.loop-next.invariant.rising made.rising (down_next old now c.loop-next.label c.loop-next.invariant.down next c.in-Some-run_ahead.ensures.some) made.pairs;
      loose = λ among. made.loose among ∙ c.loop-next.invariant.loose among;
    }

pub returns-clause-chars : goal.returns-clause-chars
returns-clause-chars g c =
    let old = c.args.self.now.tree.pairs in
    ap chars_in (down_end old c.loop-next.self.tree.pairs c.loop-next.label c.loop-next.invariant.down c.in_default-run_ahead.ensures.none) ∙ rested_chars old
