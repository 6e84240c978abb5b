use Rattle.std.proofs.Common.{◌≡◌, ◌∙◌, ◌+◌, ◌++◌, suc, List, length, sym, ap, subst, arith}
use Rattle.event_file.specs.declared.id_runs.IdRun.{IdRun}
use Rattle.event_file.specs.IdRuns.{short_run, short_ids, AreIdRuns, IsBehind}
use Rattle.event_file.proofs.IdRuns.{more_in, started_in}
use Rattle.event_file.proofs.id_runs.put.Goals.{After-lengthen_last, After-push_reserved}
use Rattle.event_file.proofs.id_runs.put.Goals as goal

joined : (c : After-lengthen_last) → (short_ids c.lengthen_last.new.runs.items ≡ short_ids c.args.runs.now.items ++ short_run c.args.first.agent c.args.first.seq (suc c.args.more)) × AreIdRuns 0 c.lengthen_last.new.runs.items
joined c =
    let runs = c.args.runs.now.items in
    let behind = subst (λ (rs : List IdRun). IsBehind rs c.args.first) c.deref-2.ensures.value (c.goes_on.ensures c.if-goes_on.true) in
    let made = more_in runs 0 c.args.first c.args.more c.requires.runs behind c.requires.fits in
    (ap short_ids c.lengthen_last.ensures ∙ made.0, subst (AreIdRuns 0) (sym c.lengthen_last.ensures) made.1)

apart : (c : After-push_reserved) → (short_ids c.push_reserved.new.self.items ≡ short_ids c.args.runs.now.items ++ short_run c.args.first.agent c.args.first.seq (suc c.args.more)) × AreIdRuns 0 c.push_reserved.new.self.items
apart c =
    let runs = c.args.runs.now.items in
    let count = c.count-start.ensures ∙ ap (λ (rs : List IdRun). length (short_ids rs)) c.deref.ensures.value in
    let made = started_in runs 0 c.count-start.result c.args.first c.args.more c.requires.runs (omega (arith, count)) c.requires.fits in
    (ap short_ids c.push_reserved.ensures.items ∙ made.0, subst (AreIdRuns 0) (sym c.push_reserved.ensures.items) made.1)

pub returns-then-goes_on-clause-ids : goal.returns-then-goes_on-clause-ids
returns-then-goes_on-clause-ids c = (joined c).0

pub returns-then-goes_on-clause-runs : goal.returns-then-goes_on-clause-runs
returns-then-goes_on-clause-runs c = (joined c).1

pub returns-else-goes_on-clause-ids : goal.returns-else-goes_on-clause-ids
returns-else-goes_on-clause-ids c = (apart c).0

pub returns-else-goes_on-clause-runs : goal.returns-else-goes_on-clause-runs
returns-else-goes_on-clause-runs c = (apart c).1
