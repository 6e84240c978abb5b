use Rattle.std.proofs.Common.{◌≡◌, ◌+◌, ◌∷◌, ◌∙◌, drop, refl, ap, sym, subst, arith}
use Rattle.std.proofs.lemmas.List.{drop_all, drop_more}
use Rattle.std.proofs.lemmas.Result.{err_from_is_err_and}
use Rattle.ew_outside.specs.declared.fault.Fault.TheVariants.{OutOfMemory}
use Rattle.script_reader.specs.Meaning.{edit_meant, numbered_edits}
use Rattle.replica.specs.Answers.{EditsBy}
use Rattle.journal_plans.specs.declared.stop.Stop.TheVariants.{Fault}
use Rattle.journal_plans.proofs.Batches.{tells_itself, tells_then}
use Rattle.journal_plans.proofs.Edits.{done_ends, done_keeps, fresh_next, halted_keeps, next_kept, none_so_far, refused_ends, refused_keeps, stopped_keeps}
use Rattle.journal_plans.proofs.watch.keep_edits.Goals as goal

pub loop-line-init : goal.loop-line-init
loop-line-init g c = record {
  so_far = none_so_far g.D.Disk.may_leave g.D.Disk.moment g.D.Disk.left_since c.args.agent c.args.limits.now (numbered_edits c.args.edits.now) c.args.opened.now c.args.disk.now
      (g.D.Disk.seen c.args.disk.now).bytes (g.K.Sink.seen c.args.out.now) c.requires.fresh.journal (g.met.D.Disk.only_now c.args.disk.now);
  fresh = c.requires.fresh;
  ready = c.requires.ready;
  tells = tells_itself (g.D.Disk.seen c.args.disk.now).bytes;
  disk = refl;
  sink = refl;
  steps = refl;
}

pub returns-in_err-refuse_line-clause-kept : goal.returns-in_err-refuse_line-clause-kept
returns-in_err-refuse_line-clause-kept g c =
    let edits = c.args.edits.now in
    let k = c.loop-line.line-index in
    let item = c.loop-line-item.result in
    let left : numbered_edits (drop k edits) ≡ record { line = item.0; item = edit_meant item.1 } ∷ numbered_edits (drop (k + 1) edits) =
    ap numbered_edits (drop_more edits k item c.loop-line-test.true ∙ ap (λ x. x ∷ drop (k + 1) edits) (sym c.loop-line-item.is)) in
    let p = err_from_is_err_and c.from_residual.result c.from_residual.ensures.1 in
    rw (p.1, p.2)
    (halted_keeps g.D.Disk.may_leave g.D.Disk.moment g.D.Disk.left_since c.args.agent c.args.limits.now (numbered_edits edits) c.args.opened.now c.args.disk.now (g.D.Disk.seen c.args.disk.now).bytes (g.K.Sink.seen c.args.out.now)
    c.loop-line.opened c.loop-line.disk (g.D.Disk.seen c.loop-line.disk).bytes (g.K.Sink.seen c.loop-line.out) item.0 (edit_meant item.1) (numbered_edits (drop (k + 1) edits)) (numbered_edits (drop k edits)) c.do_edit.new.replica left c.loop-line.invariant.so_far (Fault OutOfMemory) c.loop-line.invariant.fresh.journal (g.met.D.Disk.only_now c.loop-line.disk))

pub returns-in-Err-clause-ends : goal.returns-in-Err-clause-ends
returns-in-Err-clause-ends g c =
    let edits = c.args.edits.now in
    let k = c.loop-line.line-index in
    let item = c.loop-line-item.result in
    let left : numbered_edits (drop k edits) ≡ record { line = item.0; item = edit_meant item.1 } ∷ numbered_edits (drop (k + 1) edits) =
    ap numbered_edits (drop_more edits k item c.loop-line-test.true ∙ ap (λ x. x ∷ drop (k + 1) edits) (sym c.loop-line-item.is)) in
    let by = subst (EditsBy c.args.agent (edit_meant item.1) c.loop-line.opened.replica c.do_edit.new.replica) c.in-Err.is c.do_edit.ensures.done in
    refused_ends g.D.Disk.may_leave g.D.Disk.moment g.D.Disk.left_since c.args.agent c.args.limits.now (numbered_edits edits) c.args.opened.now c.args.disk.now (g.D.Disk.seen c.args.disk.now).bytes (g.K.Sink.seen c.args.out.now)
    c.loop-line.opened c.loop-line.disk (g.D.Disk.seen c.loop-line.disk).bytes (g.K.Sink.seen c.loop-line.out) item.0 (edit_meant item.1) (numbered_edits (drop (k + 1) edits)) (numbered_edits (drop k edits)) c.do_edit.new.replica left c.loop-line.invariant.so_far c.in_ok-refuse_line.field-0 c.in-Err.fault by c.in_ok-refuse_line.ensures.told

pub returns-in-Err-clause-kept : goal.returns-in-Err-clause-kept
returns-in-Err-clause-kept g c =
    let edits = c.args.edits.now in
    let k = c.loop-line.line-index in
    let item = c.loop-line-item.result in
    let left : numbered_edits (drop k edits) ≡ record { line = item.0; item = edit_meant item.1 } ∷ numbered_edits (drop (k + 1) edits) =
    ap numbered_edits (drop_more edits k item c.loop-line-test.true ∙ ap (λ x. x ∷ drop (k + 1) edits) (sym c.loop-line-item.is)) in
    let by = subst (EditsBy c.args.agent (edit_meant item.1) c.loop-line.opened.replica c.do_edit.new.replica) c.in-Err.is c.do_edit.ensures.done in
    refused_keeps g.D.Disk.may_leave g.D.Disk.moment g.D.Disk.left_since c.args.agent c.args.limits.now (numbered_edits edits) c.args.opened.now c.args.disk.now (g.D.Disk.seen c.args.disk.now).bytes (g.K.Sink.seen c.args.out.now)
    c.loop-line.opened c.loop-line.disk (g.D.Disk.seen c.loop-line.disk).bytes (g.K.Sink.seen c.loop-line.out) item.0 (edit_meant item.1) (numbered_edits (drop (k + 1) edits)) (numbered_edits (drop k edits)) c.do_edit.new.replica left c.loop-line.invariant.so_far c.in_ok-refuse_line.field-0 c.in-Err.fault by c.in_ok-refuse_line.ensures.told

pub returns-in_err-keep_made-clause-kept : goal.returns-in_err-keep_made-clause-kept
returns-in_err-keep_made-clause-kept g c =
    let edits = c.args.edits.now in
    let k = c.loop-line.line-index in
    let item = c.loop-line-item.result in
    let left : numbered_edits (drop k edits) ≡ record { line = item.0; item = edit_meant item.1 } ∷ numbered_edits (drop (k + 1) edits) =
    ap numbered_edits (drop_more edits k item c.loop-line-test.true ∙ ap (λ x. x ∷ drop (k + 1) edits) (sym c.loop-line-item.is)) in
    let p = err_from_is_err_and c.from_residual-in_err-keep_made.result c.from_residual-in_err-keep_made.ensures.1 in
    let done = c.in_default.ensures.done in
    rw (p.1, p.2)
    (stopped_keeps g.D.Disk.may_leave g.D.Disk.moment g.D.Disk.left_since c.args.agent c.args.limits.now (numbered_edits edits) c.args.opened.now c.args.disk.now (g.D.Disk.seen c.args.disk.now).bytes (g.K.Sink.seen c.args.out.now)
    c.loop-line.opened c.loop-line.disk (g.D.Disk.seen c.loop-line.disk).bytes (g.K.Sink.seen c.loop-line.out) item.0 (edit_meant item.1) (numbered_edits (drop (k + 1) edits)) (numbered_edits (drop k edits)) c.do_edit.new.replica left c.loop-line.invariant.so_far c.in_default.field-0 c.count-before.result c.count-before.ensures done c.keep_made.new.opened c.keep_made.new.disk (g.D.Disk.seen c.keep_made.new.disk).bytes (g.K.Sink.seen c.keep_made.new.out) c.in_err-keep_made.field-0.0 c.in_err-keep_made.ensures.kept)

pub loop-line-preserved : goal.loop-line-preserved
loop-line-preserved g c =
    let edits = c.args.edits.now in
    let k = c.loop-line.line-index in
    let item = c.loop-line-item.result in
    let left : numbered_edits (drop k edits) ≡ record { line = item.0; item = edit_meant item.1 } ∷ numbered_edits (drop (k + 1) edits) =
    ap numbered_edits (drop_more edits k item c.loop-line-test.true ∙ ap (λ x. x ∷ drop (k + 1) edits) (sym c.loop-line-item.is)) in
    let done = c.in_default.ensures.done in
    record {
      so_far = next_kept g.D.Disk.may_leave g.D.Disk.moment g.D.Disk.left_since c.args.agent c.args.limits.now (numbered_edits edits) c.args.opened.now c.args.disk.now (g.D.Disk.seen c.args.disk.now).bytes (g.K.Sink.seen c.args.out.now)
          c.loop-line.opened c.loop-line.disk (g.D.Disk.seen c.loop-line.disk).bytes (g.K.Sink.seen c.loop-line.out) item.0 (edit_meant item.1) (numbered_edits (drop (k + 1) edits)) (numbered_edits (drop k edits)) c.do_edit.new.replica left c.loop-line.invariant.so_far c.in_default.field-0 c.count-before.result c.count-before.ensures done c.keep_made.new.opened c.keep_made.new.disk (g.D.Disk.seen c.keep_made.new.disk).bytes (g.K.Sink.seen c.keep_made.new.out) c.keep_made.ensures.replica c.in_ok-keep_made.ensures.kept;
      fresh = fresh_next c.args.agent c.args.limits.now (edit_meant item.1) c.in_default.field-0 c.loop-line.opened c.keep_made.new.opened c.do_edit.new.replica c.loop-line.invariant.fresh done c.keep_made.ensures.replica c.keep_made.ensures.limits c.in_ok-keep_made.ensures.counted;
      ready = c.in_ok-keep_made.ensures.ready;
      tells = tells_then _ _ _ c.loop-line.invariant.tells c.keep_made.ensures.tells;
      disk = c.in_ok-keep_made.ensures.cause.0 ∙ c.loop-line.invariant.disk;
      sink = c.in_ok-keep_made.ensures.cause.1 ∙ c.loop-line.invariant.sink;
      steps = c.do_edit.ensures.steps ∙ c.loop-line.invariant.steps;
    }

pub returns-clause-ends : goal.returns-clause-ends
returns-clause-ends g c =
    done_ends g.D.Disk.may_leave g.D.Disk.moment g.D.Disk.left_since c.args.agent c.args.limits.now (numbered_edits c.args.edits.now) c.args.opened.now c.args.disk.now (g.D.Disk.seen c.args.disk.now).bytes (g.K.Sink.seen c.args.out.now)
    c.loop-line.opened c.loop-line.disk (g.D.Disk.seen c.loop-line.disk).bytes (g.K.Sink.seen c.loop-line.out) (numbered_edits (drop c.loop-line.line-index c.args.edits.now))
    (ap numbered_edits (drop_all c.loop-line.line-index c.args.edits.now (omega (arith, c.loop-line-test.false)))) c.loop-line.invariant.so_far

pub returns-clause-kept : goal.returns-clause-kept
returns-clause-kept g c =
    done_keeps g.D.Disk.may_leave g.D.Disk.moment g.D.Disk.left_since c.args.agent c.args.limits.now (numbered_edits c.args.edits.now) c.args.opened.now c.args.disk.now (g.D.Disk.seen c.args.disk.now).bytes (g.K.Sink.seen c.args.out.now)
    c.loop-line.opened c.loop-line.disk (g.D.Disk.seen c.loop-line.disk).bytes (g.K.Sink.seen c.loop-line.out) (numbered_edits (drop c.loop-line.line-index c.args.edits.now))
    (ap numbered_edits (drop_all c.loop-line.line-index c.args.edits.now (omega (arith, c.loop-line-test.false)))) c.loop-line.invariant.so_far
