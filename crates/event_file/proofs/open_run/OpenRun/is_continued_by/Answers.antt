use Rattle.std.proofs.Common.{◌≡◌, ◌+◌, ◌-◌, ℕ, ap, ◌∙◌, arith, ◌&&◌}
use Rattle.ew_model.specs.declared.id.Id.{Id}
use Rattle.file_words.specs.FileRuns.{ops_count, takes_step, first_op, is_next_id, are_only, continues}
use Rattle.event_file.specs.OpenRuns.{Opened}
use Rattle.event_file.specs.Runs.{ops_as}
use Rattle.event_file.proofs.open_run.OpenRun.is_continued_by.Goals as goal

pub returns : goal.returns
returns c =
    let i = c.self.inside in
    let n = ops_count (ops_as i.ops) in
    let inv = c.self.invariant in
    let same : i.seq + (c.count.result - 1) ≡ i.seq + n - 1 = omega (arith, c.count.ensures, inv) in
    let last : ℕ → Id = λ k. record { agent = i.last.agent; seq = k } in
    c.goes_on.ensures
    ∙ ap (λ k. is_next_id (last k) c.args.id.now && are_only c.args.parents.now (last k) && takes_step (ops_as i.ops) (first_op c.args.kind c.args.at)) same
    ∙ ap (λ (o : Opened). continues o.run (record { id = c.args.id.now; parents = c.args.parents.now; op = first_op c.args.kind c.args.at })) c.self.view_is
