use Rattle.std.proofs.Common.{refl, Ok}
use Rattle.opened_files.specs.declared.reply.Reply.TheVariants as reply_is
use Rattle.ew_outside.specs.declared.fault.Fault.TheVariants as fault_is
use Rattle.command_texts.specs.Reasons.{refusal_view}
use Rattle.serve_plans.proofs.Ends.{none_within, reads_all, reads_none, reads_within}
use Rattle.serve_plans.proofs.Opening.{fresh_found, refused_plans, stopped_plans}
use Rattle.serve_plans.proofs.Prompt.{prompt_none, reads_on, sends_replies}
use Rattle.serve_plans.proofs.Served.{plans_some, serves_told, talk_takes}
use Rattle.serve_plans.proofs.Takes.{load_takes, session_takes}
use Rattle.serve_plans.proofs.serve.serve.Goals as goal

pub returns-in-Err-clause-some : goal.returns-in-Err-clause-some
returns-in-Err-clause-some g c = stopped_plans c.args.name.now c.args.limits.now (g.K.Sink.seen c.args.out.now).taken (g.K.Sink.seen c.args.out.now).flushed c.in-Err.fault

pub returns-in-Err-clause-prompt : goal.returns-in-Err-clause-prompt
returns-in-Err-clause-prompt g c = prompt_none c.args.name.now c.args.limits.now (g.H.Shelf.seen c.args.shelf.now).files (g.S.Source.seen c.args.input.now).left
    (g.K.Sink.seen c.args.out.now).taken

pub returns-in-Ok-Refused-clause-some : goal.returns-in-Ok-Refused-clause-some
returns-in-Ok-Refused-clause-some g c = refused_plans c.args.name.now c.args.limits.now (g.K.Sink.seen c.args.out.now).taken (g.K.Sink.seen c.args.out.now).flushed
    (reply_is.Refuses c.in-Ok-Refused.why) (refusal_view c.in-Ok-Refused.why) refl
    (rw c.in-Ok-Refused.field-0-is at (rw c.in-Ok-Refused.is at c.open.ensures.some))

pub returns-in-Ok-Refused-clause-prompt : goal.returns-in-Ok-Refused-clause-prompt
returns-in-Ok-Refused-clause-prompt g c = prompt_none c.args.name.now c.args.limits.now (g.H.Shelf.seen c.args.shelf.now).files (g.S.Source.seen c.args.input.now).left
    (g.K.Sink.seen c.args.out.now).taken

pub returns-in-Ok-Open-clause-told : goal.returns-in-Ok-Open-clause-told
returns-in-Ok-Open-clause-told g c = serves_told c.args.name.now c.args.limits.now c.in-Ok-Open.replica
    (fresh_found c.args.limits.now c.open.result c.in-Ok-Open.field-0 c.in-Ok-Open.replica c.in-Ok-Open.is c.in-Ok-Open.field-0-is c.open.ensures.fresh)
    (g.S.Source.seen c.args.input.now).left (g.S.Source.seen c.serve_events.new.input).left (g.K.Sink.seen c.args.out.now).taken (g.K.Sink.seen c.serve_events.new.out).taken
    (g.K.Sink.seen c.args.out.now).flushed (g.K.Sink.seen c.serve_events.new.out).flushed (g.H.Shelf.seen c.args.shelf.now).files c.serve_events.result
    (rw c.in-Ok-Open.field-0-is at (rw c.in-Ok-Open.is at c.open.ensures.told)) c.serve_events.ensures.told

pub returns-in-Ok-Open-clause-some : goal.returns-in-Ok-Open-clause-some
returns-in-Ok-Open-clause-some g c = plans_some c.args.name.now c.args.limits.now c.in-Ok-Open.replica
    (fresh_found c.args.limits.now c.open.result c.in-Ok-Open.field-0 c.in-Ok-Open.replica c.in-Ok-Open.is c.in-Ok-Open.field-0-is c.open.ensures.fresh)
    (g.S.Source.seen c.args.input.now).left (g.S.Source.seen c.serve_events.new.input).left (g.K.Sink.seen c.args.out.now).taken (g.K.Sink.seen c.serve_events.new.out).taken
    (g.K.Sink.seen c.args.out.now).flushed (g.K.Sink.seen c.serve_events.new.out).flushed c.serve_events.result
    (rw c.in-Ok-Open.field-0-is at (rw c.in-Ok-Open.is at c.open.ensures.some)) c.serve_events.ensures.told

pub returns-in-Ok-Open-clause-replies : goal.returns-in-Ok-Open-clause-replies
returns-in-Ok-Open-clause-replies g c = sends_replies c.args.name.now c.args.limits.now c.in-Ok-Open.replica
    (fresh_found c.args.limits.now c.open.result c.in-Ok-Open.field-0 c.in-Ok-Open.replica c.in-Ok-Open.is c.in-Ok-Open.field-0-is c.open.ensures.fresh)
    (g.S.Source.seen c.serve_events.new.input).left (g.K.Sink.seen c.args.out.now).taken (g.K.Sink.seen c.serve_events.new.out).taken (g.H.Shelf.seen c.args.shelf.now).files
    (g.S.Source.seen c.args.input.now).left (g.K.Sink.seen c.args.out.now).flushed (g.K.Sink.seen c.serve_events.new.out).flushed c.serve_events.result
    (rw c.in-Ok-Open.field-0-is at (rw c.in-Ok-Open.is at c.open.ensures.told)) c.serve_events.ensures.told

pub returns-in-Ok-Open-clause-prompt : goal.returns-in-Ok-Open-clause-prompt
returns-in-Ok-Open-clause-prompt g c = reads_on c.args.name.now c.args.limits.now c.in-Ok-Open.replica
    (fresh_found c.args.limits.now c.open.result c.in-Ok-Open.field-0 c.in-Ok-Open.replica c.in-Ok-Open.is c.in-Ok-Open.field-0-is c.open.ensures.fresh)
    (g.S.Source.seen c.serve_events.new.input).left (g.K.Sink.seen c.args.out.now).taken (g.K.Sink.seen c.serve_events.new.out).taken (g.H.Shelf.seen c.args.shelf.now).files
    (g.S.Source.seen c.args.input.now).left (rw c.in-Ok-Open.field-0-is at (rw c.in-Ok-Open.is at c.open.ensures.told)) c.serve_events.ensures.prompt

pub returns-in-Ok-Open-clause-end : goal.returns-in-Ok-Open-clause-end
returns-in-Ok-Open-clause-end g c = reads_all c.args.name.now c.args.limits.now c.in-Ok-Open.replica (g.S.Source.seen c.args.input.now).left
    (g.S.Source.seen c.serve_events.new.input).left (g.K.Sink.seen c.args.out.now).taken (g.K.Sink.seen c.serve_events.new.out).taken (g.K.Sink.seen c.args.out.now).flushed
    (g.K.Sink.seen c.serve_events.new.out).flushed c.serve_events.result c.serve_events.ensures.told

pub returns-in-Ok-Open-clause-few : goal.returns-in-Ok-Open-clause-few
returns-in-Ok-Open-clause-few g c = talk_takes c.args.name.now c.args.limits.now c.in-Ok-Open.replica (g.S.Source.seen c.args.input.now).left
    (g.S.Source.seen c.serve_events.new.input).left (g.K.Sink.seen c.args.out.now).taken (g.K.Sink.seen c.serve_events.new.out).taken (g.K.Sink.seen c.args.out.now).flushed
    (g.K.Sink.seen c.serve_events.new.out).flushed c.serve_events.result c.serve_events.ensures.told

pub returns-in-Err-clause-most : goal.returns-in-Err-clause-most
returns-in-Err-clause-most g c =
    load_takes c.args.name.now c.args.limits.now (g.H.Shelf.seen c.args.shelf.now).files (g.S.Source.seen c.args.input.now).left c.args.steps.now c.open.new.steps
    c.open.ensures.most

pub returns-in-Ok-Refused-clause-most : goal.returns-in-Ok-Refused-clause-most
returns-in-Ok-Refused-clause-most g c =
    load_takes c.args.name.now c.args.limits.now (g.H.Shelf.seen c.args.shelf.now).files (g.S.Source.seen c.args.input.now).left c.args.steps.now c.open.new.steps
    c.open.ensures.most

pub returns-in-Ok-Open-clause-most : goal.returns-in-Ok-Open-clause-most
returns-in-Ok-Open-clause-most g c =
    session_takes c.args.name.now c.args.limits.now c.in-Ok-Open.replica (g.H.Shelf.seen c.args.shelf.now).files (g.S.Source.seen c.args.input.now).left
    c.args.steps.now c.open.new.steps c.serve_events.new.steps
    (fresh_found c.args.limits.now c.open.result c.in-Ok-Open.field-0 c.in-Ok-Open.replica c.in-Ok-Open.is c.in-Ok-Open.field-0-is c.open.ensures.fresh)
    (rw c.in-Ok-Open.field-0-is at (rw c.in-Ok-Open.is at c.open.ensures.told)) c.open.ensures.most c.serve_events.ensures.most

pub returns-in-Ok-Refused-clause-within : goal.returns-in-Ok-Refused-clause-within
returns-in-Ok-Refused-clause-within g c = none_within c.args.limits.now (g.S.Source.seen c.args.input.now).left
    (Ok (reply_is.Refuses c.in-Ok-Refused.why))

pub returns-in-Ok-Open-clause-within : goal.returns-in-Ok-Open-clause-within
returns-in-Ok-Open-clause-within g c = reads_within c.args.name.now c.args.limits.now c.in-Ok-Open.replica (g.S.Source.seen c.args.input.now).left
    (g.S.Source.seen c.serve_events.new.input).left (g.K.Sink.seen c.args.out.now).taken (g.K.Sink.seen c.serve_events.new.out).taken (g.K.Sink.seen c.args.out.now).flushed
    (g.K.Sink.seen c.serve_events.new.out).flushed c.serve_events.result c.serve_events.ensures.told

pub returns-in-Ok-Open-clause-refused : goal.returns-in-Ok-Open-clause-refused
returns-in-Ok-Open-clause-refused g c = reads_none c.args.name.now c.args.limits.now c.in-Ok-Open.replica (g.S.Source.seen c.args.input.now).left
    (g.S.Source.seen c.serve_events.new.input).left (g.K.Sink.seen c.args.out.now).taken (g.K.Sink.seen c.serve_events.new.out).taken (g.K.Sink.seen c.args.out.now).flushed
    (g.K.Sink.seen c.serve_events.new.out).flushed (g.S.Source.seen c.args.input.now) (g.S.Source.seen c.serve_events.new.input) c.serve_events.result
    c.serve_events.ensures.told
