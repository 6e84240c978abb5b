use Rattle.std.proofs.Common.{refl, inl, None, sym}
use Rattle.std.proofs.lemmas.Bool.{false≢true}
use Rattle.std.proofs.KnownBytes.{Appends-nil}
use Rattle.command_table.specs.Refusals.{not_taken}
use Rattle.command_table.specs.Sessions.{closed_by}
use Rattle.command_table.specs.Table.{refuses}
use Rattle.command_table.specs.Reads.{LeavesInput, shape_of}
use Rattle.opened_files.proofs.Reading.{takes_none}
use Rattle.command_reader.specs.Words.{line_view}
use Rattle.command_runs.proofs.Lines.{asks_most, asks_none, command_causes, command_keeps, command_known, command_reads, command_some, file_refused, loads_one, no_front, none_made, not_of_sink, one_all, one_front, one_refused, session_known, session_reads, taken_line}
use Rattle.command_runs.proofs.plan.plan.Goals as goal

pub returns-in-Some-Does-clause-told : goal.returns-in-Some-Does-clause-told
returns-in-Some-Does-clause-told g c = rw c.in-Some-Does.is (rw c.in-Some-Does.field-0-is (λ journal. command_known _ c.args.limits.now (g.H.Shelf.seen c.args.shelf.now) journal (g.S.Source.seen c.args.input.now) (g.K.Sink.seen c.args.out.now) c.plan_command.result c.plan_command.ensures.told c.plan_command.ensures.alone))

pub returns-in-Some-Does-clause-some : goal.returns-in-Some-Does-clause-some
returns-in-Some-Does-clause-some g c = rw c.in-Some-Does.is (rw c.in-Some-Does.field-0-is (command_some _ c.args.limits.now (g.K.Sink.seen c.args.out.now) c.plan_command.result c.plan_command.ensures.some))

pub returns-in-Some-Does-clause-heard : goal.returns-in-Some-Does-clause-heard
returns-in-Some-Does-clause-heard g c = rw c.in-Some-Does.is (rw c.in-Some-Does.field-0-is (tt))

pub returns-in-Some-Does-clause-sends : goal.returns-in-Some-Does-clause-sends
returns-in-Some-Does-clause-sends g c = rw c.in-Some-Does.is (rw c.in-Some-Does.field-0-is ((refl, not_of_sink _ _ _ _ c.plan_command.result c.plan_command.ensures.cause)))

pub returns-in-Some-Does-clause-line : goal.returns-in-Some-Does-clause-line
returns-in-Some-Does-clause-line g c = rw c.in-Some-Does.is (taken_line (line_view c.in-Some-Does.field-0) c.plan_command.result c.plan_command.ensures.plan)

pub returns-in-Some-Does-clause-same : goal.returns-in-Some-Does-clause-same
returns-in-Some-Does-clause-same g c = c.plan_command.ensures.same

pub returns-in-Some-Does-clause-read : goal.returns-in-Some-Does-clause-read
returns-in-Some-Does-clause-read g c = rw c.in-Some-Does.is (rw c.in-Some-Does.field-0-is (command_reads _ c.args.limits.now (g.S.Source.seen c.args.input.now) (g.S.Source.seen c.plan_command.new.input) c.plan_command.result c.plan_command.ensures.read))

pub returns-in-Some-Does-clause-unread : goal.returns-in-Some-Does-clause-unread
returns-in-Some-Does-clause-unread g c = rw c.in-Some-Does.is (rw c.in-Some-Does.field-0-is c.plan_command.ensures.quiet)

pub returns-in-Some-Does-clause-cause : goal.returns-in-Some-Does-clause-cause
returns-in-Some-Does-clause-cause g c = command_causes _ _ _ _ _ c.plan_command.result c.plan_command.ensures.cause

pub returns-in-Some-Does-clause-misses : goal.returns-in-Some-Does-clause-misses
returns-in-Some-Does-clause-misses g c = rw c.in-Some-Does.is (rw c.in-Some-Does.field-0-is (c.plan_command.ensures.misses))

pub returns-in-Some-Does-clause-few : goal.returns-in-Some-Does-clause-few
returns-in-Some-Does-clause-few g c = c.plan_command.ensures.few

pub returns-in-Some-Does-clause-kept : goal.returns-in-Some-Does-clause-kept
returns-in-Some-Does-clause-kept g c = command_keeps _ _ (g.K.Sink.seen c.args.out.now).taken c.plan_command.result c.plan_command.ensures.kept

pub returns-in-Some-Does-clause-untouched : goal.returns-in-Some-Does-clause-untouched
returns-in-Some-Does-clause-untouched g c = rw c.in-Some-Does.is (rw c.in-Some-Does.field-0-is (c.plan_command.ensures.untouched))

pub returns-in-Some-Does-clause-front : goal.returns-in-Some-Does-clause-front
returns-in-Some-Does-clause-front g c = rw c.in-Some-Does.is (rw c.in-Some-Does.field-0-is (c.plan_command.ensures.front))

pub returns-in-Some-Does-clause-loads : goal.returns-in-Some-Does-clause-loads
returns-in-Some-Does-clause-loads g c = rw c.in-Some-Does.is (rw c.in-Some-Does.field-0-is (c.plan_command.ensures.loads))

pub returns-in-Some-Does-clause-failed_loads : goal.returns-in-Some-Does-clause-failed_loads
returns-in-Some-Does-clause-failed_loads g c = c.plan_command.ensures.failed_loads

pub returns-in-Some-Does-clause-most : goal.returns-in-Some-Does-clause-most
returns-in-Some-Does-clause-most g c = rw c.in-Some-Does.is (rw c.in-Some-Does.field-0-is (c.plan_command.ensures.most))

pub returns-in-Some-Serves-clause-told : goal.returns-in-Some-Serves-clause-told
returns-in-Some-Serves-clause-told g c = rw c.in-Some-Serves.is (rw c.in-Some-Serves.field-0-is (λ journal. session_known _ c.args.limits.now (g.H.Shelf.seen c.args.shelf.now) journal (g.S.Source.seen c.args.input.now) (g.K.Sink.seen c.args.out.now) (g.K.Sink.seen c.serve.new.out) c.serve.result c.serve.ensures.told))

pub returns-in-Some-Serves-clause-some : goal.returns-in-Some-Serves-clause-some
returns-in-Some-Serves-clause-some g c = rw c.in-Some-Serves.is (rw c.in-Some-Serves.field-0-is (c.serve.ensures.some))

pub returns-in-Some-Serves-clause-heard : goal.returns-in-Some-Serves-clause-heard
returns-in-Some-Serves-clause-heard g c = rw c.in-Some-Serves.is (rw c.in-Some-Serves.field-0-is ((c.serve.ensures.replies, c.serve.ensures.prompt, c.serve.ensures.within)))

pub returns-in-Some-Serves-clause-sends : goal.returns-in-Some-Serves-clause-sends
returns-in-Some-Serves-clause-sends g c = rw c.in-Some-Serves.is (rw c.in-Some-Serves.field-0-is (tt))

pub returns-in-Some-Serves-clause-line : goal.returns-in-Some-Serves-clause-line
returns-in-Some-Serves-clause-line g c = rw c.in-Some-Serves.is (taken_line (line_view c.in-Some-Serves.field-0) c.serve.result c.serve.ensures.plan)

pub returns-in-Some-Serves-clause-same : goal.returns-in-Some-Serves-clause-same
returns-in-Some-Serves-clause-same g c = c.serve.ensures.same

pub returns-in-Some-Serves-clause-read : goal.returns-in-Some-Serves-clause-read
returns-in-Some-Serves-clause-read g c = rw c.in-Some-Serves.is (rw c.in-Some-Serves.field-0-is (session_reads c.in-Some-Serves.file.now c.args.limits.now (g.S.Source.seen c.args.input.now) (g.S.Source.seen c.serve.new.input) c.serve.result c.serve.ensures.end))

pub returns-in-Some-Serves-clause-unread : goal.returns-in-Some-Serves-clause-unread
returns-in-Some-Serves-clause-unread g c = rw c.in-Some-Serves.is (rw c.in-Some-Serves.field-0-is ((λ none. absurd (false≢true (sym none)))))

pub returns-in-Some-Serves-clause-cause : goal.returns-in-Some-Serves-clause-cause
returns-in-Some-Serves-clause-cause g c = c.serve.ensures.cause

pub returns-in-Some-Serves-clause-misses : goal.returns-in-Some-Serves-clause-misses
returns-in-Some-Serves-clause-misses g c = rw c.in-Some-Serves.is (rw c.in-Some-Serves.field-0-is (c.serve.ensures.misses))

pub returns-in-Some-Serves-clause-few : goal.returns-in-Some-Serves-clause-few
returns-in-Some-Serves-clause-few g c = c.serve.ensures.few

pub returns-in-Some-Serves-clause-kept : goal.returns-in-Some-Serves-clause-kept
returns-in-Some-Serves-clause-kept g c = c.serve.ensures.kept

pub returns-in-Some-Serves-clause-untouched : goal.returns-in-Some-Serves-clause-untouched
returns-in-Some-Serves-clause-untouched g c = rw c.in-Some-Serves.is (rw c.in-Some-Serves.field-0-is (one_refused c.in-Some-Serves.file.now c.args.limits.now (g.H.Shelf.seen c.args.shelf.now).files _ c.serve.ensures.untouched))

pub returns-in-Some-Serves-clause-front : goal.returns-in-Some-Serves-clause-front
returns-in-Some-Serves-clause-front g c = rw c.in-Some-Serves.is (rw c.in-Some-Serves.field-0-is (one_front _ _ _ c.serve.ensures.loads))

pub returns-in-Some-Serves-clause-loads : goal.returns-in-Some-Serves-clause-loads
returns-in-Some-Serves-clause-loads g c = rw c.in-Some-Serves.is (rw c.in-Some-Serves.field-0-is (loads_one c.in-Some-Serves.file.now c.args.limits.now (g.H.Shelf.seen c.args.shelf.now).files _ _ c.serve.result c.serve.ensures.loads))

pub returns-in-Some-Serves-clause-failed_loads : goal.returns-in-Some-Serves-clause-failed_loads
returns-in-Some-Serves-clause-failed_loads g c = c.serve.ensures.failed_loads

pub returns-in-Some-Serves-clause-most : goal.returns-in-Some-Serves-clause-most
returns-in-Some-Serves-clause-most g c = rw c.in-Some-Serves.is (rw c.in-Some-Serves.field-0-is (c.serve.ensures.most))

pub returns-in-None-clause-told : goal.returns-in-None-clause-told
returns-in-None-clause-told g c = rw c.in-None.is ((λ told files journal bytes meaning at known means. (refl, (Appends-nil _, inl refl))))

pub returns-in-None-clause-some : goal.returns-in-None-clause-some
returns-in-None-clause-some g c = rw c.in-None.is ((closed_by (refuses not_taken), refl, (refl, (Appends-nil _, inl refl))))

pub returns-in-None-clause-heard : goal.returns-in-None-clause-heard
returns-in-None-clause-heard g c = rw c.in-None.is (tt)

pub returns-in-None-clause-sends : goal.returns-in-None-clause-sends
returns-in-None-clause-sends g c = rw c.in-None.is ((refl, tt))

pub returns-in-None-clause-line : goal.returns-in-None-clause-line
returns-in-None-clause-line g c = rw c.in-None.is (refl)

pub returns-in-None-clause-read : goal.returns-in-None-clause-read
returns-in-None-clause-read g c = rw c.in-None.is ((λ zero. absurd cc))

pub returns-in-None-clause-unread : goal.returns-in-None-clause-unread
returns-in-None-clause-unread g c = rw c.in-None.is (λ none. refl)

pub returns-in-None-clause-cause : goal.returns-in-None-clause-cause
returns-in-None-clause-cause g c = (refl, refl, refl)

pub returns-in-None-clause-few : goal.returns-in-None-clause-few
returns-in-None-clause-few g c = takes_none _ (g.S.Source.seen c.args.input.now).left _ refl

pub returns-in-None-clause-kept : goal.returns-in-None-clause-kept
returns-in-None-clause-kept g c = tt

pub returns-in-None-clause-untouched : goal.returns-in-None-clause-untouched
returns-in-None-clause-untouched g c = rw c.in-None.is (file_refused (shape_of None) c.args.limits.now (g.H.Shelf.seen c.args.shelf.now).files (LeavesInput (g.S.Source.seen c.args.input.now) (g.S.Source.seen c.args.input.now)) refl)

pub returns-in-None-clause-front : goal.returns-in-None-clause-front
returns-in-None-clause-front g c = rw c.in-None.is (no_front _)

pub returns-in-None-clause-loads : goal.returns-in-None-clause-loads
returns-in-None-clause-loads g c = rw c.in-None.is (refl)

pub returns-in-Some-Does-clause-all : goal.returns-in-Some-Does-clause-all
returns-in-Some-Does-clause-all g c = rw c.in-Some-Does.is (rw c.in-Some-Does.field-0-is c.plan_command.ensures.all)

pub returns-in-Some-Does-clause-makes : goal.returns-in-Some-Does-clause-makes
returns-in-Some-Does-clause-makes g c = rw c.in-Some-Does.is (rw c.in-Some-Does.field-0-is c.plan_command.ensures.makes)

pub returns-in-Some-Does-clause-asked : goal.returns-in-Some-Does-clause-asked
returns-in-Some-Does-clause-asked g c = rw c.in-Some-Does.is (rw c.in-Some-Does.field-0-is c.plan_command.ensures.asked)

pub returns-in-Some-Does-clause-refused : goal.returns-in-Some-Does-clause-refused
returns-in-Some-Does-clause-refused g c = rw c.in-Some-Does.is (rw c.in-Some-Does.field-0-is c.plan_command.ensures.refused)

pub returns-in-Some-Serves-clause-all : goal.returns-in-Some-Serves-clause-all
returns-in-Some-Serves-clause-all g c = rw c.in-Some-Serves.is (rw c.in-Some-Serves.field-0-is (one_all c.in-Some-Serves.file.now _ _ c.serve.result c.serve.ensures.loads))

pub returns-in-Some-Serves-clause-makes : goal.returns-in-Some-Serves-clause-makes
returns-in-Some-Serves-clause-makes g c = rw c.in-Some-Serves.is (rw c.in-Some-Serves.field-0-is (none_made _ _ c.serve.result))

pub returns-in-Some-Serves-clause-asked : goal.returns-in-Some-Serves-clause-asked
returns-in-Some-Serves-clause-asked g c = rw c.in-Some-Serves.is (rw c.in-Some-Serves.field-0-is (asks_most _ _ _ c.serve.ensures.asked))

pub returns-in-Some-Serves-clause-refused : goal.returns-in-Some-Serves-clause-refused
returns-in-Some-Serves-clause-refused g c = λ needs. c.serve.ensures.refused

pub returns-in-None-clause-all : goal.returns-in-None-clause-all
returns-in-None-clause-all g c = tt

pub returns-in-None-clause-makes : goal.returns-in-None-clause-makes
returns-in-None-clause-makes g c = rw c.in-None.is (λ makes. absurd (false≢true makes))

pub returns-in-None-clause-asked : goal.returns-in-None-clause-asked
returns-in-None-clause-asked g c = rw c.in-None.is (asks_none _ _)

pub returns-in-None-clause-refused : goal.returns-in-None-clause-refused
returns-in-None-clause-refused g c = λ needs bad. refl

pub returns-in-None-clause-ends : goal.returns-in-None-clause-ends
returns-in-None-clause-ends g c = inl refl
