use Rattle.std.proofs.Common.{subst}
use Rattle.opened_files.specs.Touches.{TouchesAtMost, merge_touches}
use Rattle.command_table.specs.Table.{merge_reply}
use Rattle.opened_files.proofs.Touches.{opened_touched}
use Rattle.line_plans.proofs.Loads.{all_both, asked_both, both_front, first_front, loads_opened, loads_refused}
use Rattle.line_plans.proofs.Merges.{both_opened, later_causes, later_failed_loads, later_misses, opened_merges, refused_merges}
use Rattle.command_texts.specs.Reasons.{refusal_view}
use Rattle.line_plans.proofs.merge.merge.Goals as goal

pub returns-in_err-why-clause-front : goal.returns-in_err-why-clause-front
returns-in_err-why-clause-front g c = first_front c.args.name.now c.args.other.now _ _ c.in_err-why.ensures.loads

pub returns-in-Refused-clause-front : goal.returns-in-Refused-clause-front
returns-in-Refused-clause-front g c = first_front c.args.name.now c.args.other.now _ _ c.in_ok-why.ensures.loads

pub returns-in-Refused-clause-loads : goal.returns-in-Refused-clause-loads
returns-in-Refused-clause-loads g c =
    loads_refused c.args.name.now c.args.other.now c.args.limits.now (refusal_view c.in-Refused.why) (g.H.Shelf.seen c.args.shelf.now).files _ _ (rw c.in-Refused.is at c.in_ok-why.ensures.told) c.in_ok-why.ensures.loads

pub returns-in-Open-clause-told : goal.returns-in-Open-clause-told
returns-in-Open-clause-told g c =
    both_opened (merge_reply c.args.name.now c.args.limits.now) c.args.name.now c.args.other.now c.args.limits.now c.in-Open.replica.held (g.H.Shelf.seen c.args.shelf.now).files (g.H.Shelf.seen c.open.new.shelf).files c.take_other.result c.in_ok-why.ensures.same (rw c.in-Open.is at c.in_ok-why.ensures.told) c.take_other.ensures.told

pub returns-in-Open-clause-cause : goal.returns-in-Open-clause-cause
returns-in-Open-clause-cause g c = later_causes _ _ _ c.take_other.result c.in_ok-why.ensures.cause c.take_other.ensures.cause

pub returns-in-Open-clause-misses : goal.returns-in-Open-clause-misses
returns-in-Open-clause-misses g c = later_misses _ _ _ c.take_other.result (rw c.in-Open.is at c.in_ok-why.ensures.misses) c.take_other.ensures.misses

pub returns-in-Open-clause-failed_loads : goal.returns-in-Open-clause-failed_loads
returns-in-Open-clause-failed_loads g c = later_failed_loads _ _ _ c.take_other.result c.in_ok-why.ensures.failed_loads c.take_other.ensures.failed_loads

pub returns-in-Open-clause-front : goal.returns-in-Open-clause-front
returns-in-Open-clause-front g c = both_front c.args.name.now c.args.other.now _ _ _ c.in_ok-why.ensures.loads c.take_other.ensures.loads

pub returns-in-Open-clause-loads : goal.returns-in-Open-clause-loads
returns-in-Open-clause-loads g c =
    loads_opened c.args.name.now c.args.other.now c.args.limits.now c.in-Open.replica.held (g.H.Shelf.seen c.args.shelf.now).files _ _ _ c.take_other.result (rw c.in-Open.is at c.in_ok-why.ensures.told) c.in_ok-why.ensures.loads c.take_other.ensures.loads

pub returns-in-Refused-clause-some : goal.returns-in-Refused-clause-some
returns-in-Refused-clause-some g c =
    refused_merges c.args.name.now c.args.limits.now c.args.other.now (refusal_view c.in-Refused.why) (rw c.in-Refused.is at c.in_ok-why.ensures.some)

pub returns-in-Open-clause-some : goal.returns-in-Open-clause-some
returns-in-Open-clause-some g c =
    opened_merges c.args.name.now c.args.limits.now c.args.other.now c.in-Open.replica.held c.take_other.result (rw c.in-Open.is at c.in_ok-why.ensures.some) c.take_other.ensures.some

pub returns-in-Open-clause-most : goal.returns-in-Open-clause-most
returns-in-Open-clause-most g c =
    let others = merge_touches c.args.other.now c.args.limits.now in
    let held = c.in-Open.replica.held in
    let later = subst (λ files. TouchesAtMost (λ m. others m held) files c.open.new.steps c.take_other.new.steps) c.in_ok-why.ensures.same c.take_other.ensures.most in
    opened_touched c.args.name.now c.args.limits.now others held (g.H.Shelf.seen c.args.shelf.now).files c.args.steps.now c.open.new.steps c.take_other.new.steps (rw c.in-Open.is at c.in_ok-why.ensures.told) c.in_ok-why.ensures.most later

pub returns-in-Open-clause-all : goal.returns-in-Open-clause-all
returns-in-Open-clause-all g c = all_both c.args.name.now c.args.other.now _ _ _ c.take_other.result c.in_ok-why.ensures.loads c.take_other.ensures.loads

pub returns-in-Open-clause-asked : goal.returns-in-Open-clause-asked
returns-in-Open-clause-asked g c = asked_both _ _ _ _ c.in_ok-why.ensures.asked c.take_other.ensures.asked
