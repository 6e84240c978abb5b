use Rattle.std.proofs.Common.{refl}
use Rattle.opened_files.proofs.Reading.{holds_refused, open_not_refused, takes_none}
use Rattle.line_plans.proofs.Readings.{plans_opened}
use Rattle.line_plans.proofs.Replies.{causes_of_source, keeps_same, failed_loads_of_source, opened_edits, reads_open, refused_edits, source_keeps}
use Rattle.command_texts.specs.Reasons.{refusal_view}
use Rattle.line_plans.proofs.edit.edit.Goals as goal

pub take_input-requires-clause-limits : goal.take_input-requires-clause-limits
take_input-requires-clause-limits g c = (rw c.in-Open.is at c.in_ok-why.ensures.fresh).0

pub returns-in_err-why-clause-few : goal.returns-in_err-why-clause-few
returns-in_err-why-clause-few g c = takes_none _ (g.S.Source.seen c.args.input.now).left _ refl

pub returns-in_err-why-clause-untouched : goal.returns-in_err-why-clause-untouched
returns-in_err-why-clause-untouched g c = holds_refused c.args.name.now c.args.limits.now (g.H.Shelf.seen c.args.shelf.now).files _ refl

pub returns-in-Refused-clause-few : goal.returns-in-Refused-clause-few
returns-in-Refused-clause-few g c = takes_none _ (g.S.Source.seen c.args.input.now).left _ refl

pub returns-in-Refused-clause-untouched : goal.returns-in-Refused-clause-untouched
returns-in-Refused-clause-untouched g c = holds_refused c.args.name.now c.args.limits.now (g.H.Shelf.seen c.args.shelf.now).files _ refl

pub returns-in-Open-clause-told : goal.returns-in-Open-clause-told
returns-in-Open-clause-told g c =
    plans_opened c.args.name.now c.args.agent c.args.limits.now c.in-Open.replica (g.H.Shelf.seen c.args.shelf.now).files (g.S.Source.seen c.args.input.now).left c.take_input.result (rw c.in-Open.is at c.in_ok-why.ensures.fresh).0 (rw c.in-Open.is at c.in_ok-why.ensures.told) c.take_input.ensures.told

pub returns-in-Open-clause-untouched : goal.returns-in-Open-clause-untouched
returns-in-Open-clause-untouched g c =
    open_not_refused c.args.name.now c.args.limits.now c.in-Open.replica.held (g.H.Shelf.seen c.args.shelf.now).files _ (rw c.in-Open.is at c.in_ok-why.ensures.told)

pub returns-in_err-why-clause-kept : goal.returns-in_err-why-clause-kept
returns-in_err-why-clause-kept g c = keeps_same (g.S.Source.seen c.args.input.now) _

pub returns-in-Open-clause-kept : goal.returns-in-Open-clause-kept
returns-in-Open-clause-kept g c = source_keeps _ _ _ _ c.take_input.result c.take_input.ensures.cause

pub returns-in-Refused-clause-some : goal.returns-in-Refused-clause-some
returns-in-Refused-clause-some g c =
    refused_edits c.args.name.now c.args.limits.now c.args.agent (refusal_view c.in-Refused.why) (rw c.in-Refused.is at c.in_ok-why.ensures.some)

pub returns-in-Open-clause-some : goal.returns-in-Open-clause-some
returns-in-Open-clause-some g c =
    opened_edits c.args.name.now c.args.limits.now c.args.agent c.in-Open.replica.held c.take_input.result (rw c.in-Open.is at c.in_ok-why.ensures.some) c.take_input.ensures.some

pub returns-in-Open-clause-cause : goal.returns-in-Open-clause-cause
returns-in-Open-clause-cause g c = causes_of_source _ _ _ _ c.take_input.result c.in_ok-why.ensures.cause c.take_input.ensures.cause

pub returns-in-Open-clause-failed_loads : goal.returns-in-Open-clause-failed_loads
returns-in-Open-clause-failed_loads g c = failed_loads_of_source _ _ _ _ c.take_input.result c.in_ok-why.ensures.failed_loads c.take_input.ensures.cause

pub returns-in-Open-clause-refused : goal.returns-in-Open-clause-refused
returns-in-Open-clause-refused g c = reads_open _ _ c.take_input.result c.take_input.ensures.found c.take_input.ensures.good
