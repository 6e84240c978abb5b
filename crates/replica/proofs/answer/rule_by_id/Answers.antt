use Rattle.std.proofs.Common.{sym, ◌∙◌, true≢false}
use Rattle.replica.proofs.AnswerRows.{repeated, clashing}
use Rattle.replica.proofs.answer.rule_by_id.Goals as goal

pub returns-then-same : goal.returns-then-same
returns-then-same c = repeated c.args.e.now c.args.waiting.now (c.same.ensures.0 c.if-same.true)

pub returns-else-same : goal.returns-else-same
returns-else-same c = clashing c.args.e.now c.args.waiting.now (λ q. true≢false (sym (c.same.ensures.1 q) ∙ c.if-same.false))
