use Rattle.std.proofs.Common.{◌≡◌, ◌∙◌, ◌+◌, suc, true, false, cond, length, sym, ap, arith}
use Rattle.critical.specs.Spans.{ends_before}
use Rattle.critical.proofs.SpanChanges.{counted, few_spans}
use Rattle.critical.proofs.spans.runs_before.Goals as goal

pub overflow_cast-count : goal.overflow_cast-count
overflow_cast-count c = let few = few_spans c.args.spans.now 0 c.args.end c.requires.rising c.requires.ends (omega arith) in omega (arith, few, c.ranges.end.fits)

pub overflow_add-result : goal.overflow_add-result
overflow_add-result c = let few = few_spans c.args.spans.now 0 c.args.end c.requires.rising c.requires.ends (omega arith) in omega (arith, few, c.ranges.end.fits)

pub returns-then-ends_before-clause-runs : goal.returns-then-ends_before-clause-runs
returns-then-ends_before-clause-runs c =
    let spans = c.args.spans.now in
    let ends : ends_before spans c.args.end ≡ true = sym c.ends_before.ensures ∙ c.if-ends_before.true in
    sym (counted spans 0 c.args.end c.requires.rising c.requires.ends ∙ ap (λ b. cond b (length spans) (suc (length spans))) ends)

pub returns-then-ends_before-clause-few : goal.returns-then-ends_before-clause-few
returns-then-ends_before-clause-few c low rise under = let few = few_spans c.args.spans.now low c.args.end rise c.requires.ends (omega (arith, under)) in omega (arith, few)

pub returns-else-ends_before-clause-runs : goal.returns-else-ends_before-clause-runs
returns-else-ends_before-clause-runs c =
    let spans = c.args.spans.now in
    let ends : ends_before spans c.args.end ≡ false = sym c.ends_before.ensures ∙ c.if-ends_before.false in
    let more : length spans + 1 ≡ suc (length spans) = omega arith in
    more ∙ sym (counted spans 0 c.args.end c.requires.rising c.requires.ends ∙ ap (λ b. cond b (length spans) (suc (length spans))) ends)

pub returns-else-ends_before-clause-few : goal.returns-else-ends_before-clause-few
returns-else-ends_before-clause-few c low rise under = let few = few_spans c.args.spans.now low c.args.end rise c.requires.ends (omega (arith, under)) in omega (arith, few)
