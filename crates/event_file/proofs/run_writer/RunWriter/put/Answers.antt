use Rattle.std.proofs.Common.{◌∙◌, sym}
use Rattle.std.proofs.lemmas.Bool.{cond-true, cond-false}
use Rattle.std.proofs.lemmas.Result.{on_ok_weaker}
use Rattle.event_file.specs.LastRuns.{goes_on_last, longer_put, begun_put}
use Rattle.event_file.proofs.RunWriting.{put_next}
use Rattle.event_file.proofs.run_writer.RunWriter.put.Goals as goal

pub returns-then-goes_on-clause-put : goal.returns-then-goes_on-clause-put
returns-then-goes_on-clause-put c =
    let w = c.args.self.now in
    let goes = goes_on_last w c.args.agent c.args.seq c.args.parents.now c.args.op.now in
    on_ok_weaker c.make_longer.result
    (λ longer history n writable put named. put_next history n w c.make_longer.new.self c.args.agent c.args.seq c.args.parents.now c.args.op.now writable put named
    (longer ∙ sym (cond-true goes (longer_put w c.args.op.now) (begun_put w c.args.agent c.args.seq c.args.parents.now c.args.op.now) (sym c.goes_on.ensures ∙ c.if-goes_on.true))))
    c.make_longer.ensures.ok

pub returns-else-goes_on-clause-put : goal.returns-else-goes_on-clause-put
returns-else-goes_on-clause-put c =
    let w = c.args.self.now in
    let goes = goes_on_last w c.args.agent c.args.seq c.args.parents.now c.args.op.now in
    on_ok_weaker c.begin.result
    (λ begun history n writable put named. put_next history n w c.begin.new.self c.args.agent c.args.seq c.args.parents.now c.args.op.now writable put named
    (begun ∙ sym (cond-false goes (longer_put w c.args.op.now) (begun_put w c.args.agent c.args.seq c.args.parents.now c.args.op.now) (sym c.goes_on.ensures ∙ c.if-goes_on.false))))
    c.begin.ensures.ok
