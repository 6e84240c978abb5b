use Rattle.command_table.specs.Scripts.{MeansNet}
use Rattle.command_table.specs.Reads.{LeavesInput, shape_of}
use Rattle.command_table.specs.Table.{does, edit, net, MeansTo, net_reply, reply_to}
use Rattle.command_reader.specs.Words.{command_view}
use Rattle.command_runs.proofs.Lines.{asks_most, asks_none, causes_of_shelf, file_refused, loads_none, loads_one, may_plan, no_front, none_all, none_made, none_refused, one_all, one_front, one_refused, plans_by, plans_read, reads_same}
use Rattle.std.proofs.Common.{refl, inl, Some}
use Rattle.std.proofs.lemmas.Bool.{false≢true}
use Rattle.opened_files.proofs.Reading.{takes_none}
use Rattle.line_plans.proofs.Replies.{causes_of_source, keeps_same, failed_loads_of_source, source_keeps}
use Rattle.command_runs.proofs.plan.plan_command.Goals as goal

pub returns-in_default-clause-told : goal.returns-in_default-clause-told
returns-in_default-clause-told g c = plans_by (MeansTo (command_view c.args.command)) (reply_to (command_view c.args.command) c.args.limits.now) (g.H.Shelf.seen c.args.shelf.now).files (g.S.Source.seen c.args.input.now).left c.plan_unread.result c.plan_unread.ensures.told

pub returns-in_default-clause-cause : goal.returns-in_default-clause-cause
returns-in_default-clause-cause g c = causes_of_shelf _ _ _ _ c.plan_unread.result refl c.plan_unread.ensures.cause

pub returns-in-Edit-clause-told : goal.returns-in-Edit-clause-told
returns-in-Edit-clause-told g c = rw c.in-Edit.is c.edit.ensures.told

pub returns-in_default-clause-alone : goal.returns-in_default-clause-alone
returns-in_default-clause-alone g c = λ _. c.plan_unread.ensures.told

pub returns-in_default-clause-few : goal.returns-in_default-clause-few
returns-in_default-clause-few g c = takes_none _ (g.S.Source.seen c.args.input.now).left _ refl

pub returns-in_default-clause-untouched : goal.returns-in_default-clause-untouched
returns-in_default-clause-untouched g c = file_refused (shape_of (Some (does (command_view c.args.command)))) c.args.limits.now (g.H.Shelf.seen c.args.shelf.now).files _ refl

pub returns-in-Edit-clause-untouched : goal.returns-in-Edit-clause-untouched
returns-in-Edit-clause-untouched g c = rw c.in-Edit.is (one_refused c.in-Edit.file.now c.args.limits.now (g.H.Shelf.seen c.args.shelf.now).files _ c.edit.ensures.untouched)

pub returns-in-Edit-clause-front : goal.returns-in-Edit-clause-front
returns-in-Edit-clause-front g c = rw c.in-Edit.is (one_front c.in-Edit.file.now _ _ c.edit.ensures.loads)

pub returns-in-Edit-clause-loads : goal.returns-in-Edit-clause-loads
returns-in-Edit-clause-loads g c = rw c.in-Edit.is (loads_one c.in-Edit.file.now c.args.limits.now (g.H.Shelf.seen c.args.shelf.now).files _ _ c.edit.result c.edit.ensures.loads)

pub returns-in_default-clause-kept : goal.returns-in_default-clause-kept
returns-in_default-clause-kept g c = keeps_same (g.S.Source.seen c.args.input.now) c.plan_unread.result

pub returns-in-Edit-clause-some : goal.returns-in-Edit-clause-some
returns-in-Edit-clause-some g c = rw c.in-Edit.is (may_plan (edit c.in-Edit.file.now c.in-Edit.agent) c.args.limits.now c.edit.result c.edit.ensures.some)

pub returns-in-Edit-clause-most : goal.returns-in-Edit-clause-most
returns-in-Edit-clause-most g c = rw c.in-Edit.is c.edit.ensures.most

pub returns-in-Net-clause-told : goal.returns-in-Net-clause-told
returns-in-Net-clause-told g c =
    rw c.in-Net.is (plans_read MeansNet (net_reply c.args.limits.now) (g.H.Shelf.seen c.args.shelf.now).files (g.S.Source.seen c.args.input.now).left c.net.result c.net.ensures.told)

pub returns-in-Net-clause-some : goal.returns-in-Net-clause-some
returns-in-Net-clause-some g c = rw c.in-Net.is (may_plan net c.args.limits.now c.net.result c.net.ensures.some)

pub returns-in-Net-clause-cause : goal.returns-in-Net-clause-cause
returns-in-Net-clause-cause g c = causes_of_source _ _ _ _ c.net.result refl c.net.ensures.cause

pub returns-in-Net-clause-kept : goal.returns-in-Net-clause-kept
returns-in-Net-clause-kept g c = source_keeps _ _ _ _ c.net.result c.net.ensures.cause

pub returns-in-Net-clause-untouched : goal.returns-in-Net-clause-untouched
returns-in-Net-clause-untouched g c = rw c.in-Net.is (none_refused c.args.limits.now (g.H.Shelf.seen c.args.shelf.now).files (LeavesInput (g.S.Source.seen c.args.input.now) (g.S.Source.seen c.net.new.input)))

pub returns-in-Net-clause-front : goal.returns-in-Net-clause-front
returns-in-Net-clause-front g c = rw c.in-Net.is (no_front _)

pub returns-in-Net-clause-loads : goal.returns-in-Net-clause-loads
returns-in-Net-clause-loads g c = rw c.in-Net.is (loads_none c.args.limits.now (g.H.Shelf.seen c.args.shelf.now).files _ c.net.result)

pub returns-in-Net-clause-failed_loads : goal.returns-in-Net-clause-failed_loads
returns-in-Net-clause-failed_loads g c = failed_loads_of_source _ _ _ _ c.net.result refl c.net.ensures.cause

pub returns-in-Edit-clause-all : goal.returns-in-Edit-clause-all
returns-in-Edit-clause-all g c = rw c.in-Edit.is (one_all c.in-Edit.file.now _ _ c.edit.result c.edit.ensures.loads)

pub returns-in-Net-clause-all : goal.returns-in-Net-clause-all
returns-in-Net-clause-all g c = rw c.in-Net.is (none_all _ c.net.result)

pub returns-in_default-clause-all : goal.returns-in_default-clause-all
returns-in_default-clause-all g c = c.plan_unread.ensures.all

pub returns-in-Edit-clause-makes : goal.returns-in-Edit-clause-makes
returns-in-Edit-clause-makes g c = rw c.in-Edit.is (none_made _ _ c.edit.result)

pub returns-in-Net-clause-makes : goal.returns-in-Net-clause-makes
returns-in-Net-clause-makes g c = rw c.in-Net.is (none_made _ _ c.net.result)

pub returns-in_default-clause-makes : goal.returns-in_default-clause-makes
returns-in_default-clause-makes g c = c.plan_unread.ensures.makes

pub returns-in-Edit-clause-asked : goal.returns-in-Edit-clause-asked
returns-in-Edit-clause-asked g c = rw c.in-Edit.is (asks_most _ _ _ c.edit.ensures.asked)

pub returns-in-Net-clause-asked : goal.returns-in-Net-clause-asked
returns-in-Net-clause-asked g c = rw c.in-Net.is (asks_none _ _)

pub returns-in_default-clause-asked : goal.returns-in_default-clause-asked
returns-in_default-clause-asked g c = c.plan_unread.ensures.asked

pub returns-in_default-clause-ends : goal.returns-in_default-clause-ends
returns-in_default-clause-ends g c = inl refl

pub returns-in-Edit-clause-refused : goal.returns-in-Edit-clause-refused
returns-in-Edit-clause-refused g c = λ needs. c.edit.ensures.refused

pub returns-in-Net-clause-refused : goal.returns-in-Net-clause-refused
returns-in-Net-clause-refused g c = rw c.in-Net.is (λ needs. absurd (false≢true needs))

pub returns-in_default-clause-refused : goal.returns-in_default-clause-refused
returns-in_default-clause-refused g c = λ needs. reads_same (g.S.Source.seen c.args.input.now) c.plan_unread.result
