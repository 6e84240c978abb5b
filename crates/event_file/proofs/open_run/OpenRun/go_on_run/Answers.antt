use Rattle.std.proofs.Common.{◌+◌, ℕ, length, ap, sym, ◌∙◌}
use Rattle.ew_model.specs.declared.id.Id.{Id}
use Rattle.ew_model.specs.declared.event.Op.{Op}
use Rattle.file_words.specs.FileRuns.{ops_in}
use Rattle.file_words.proofs.FileRuns.{ops_long}
use Rattle.event_file.specs.declared.run_ops.RunOps.{RunOps}
use Rattle.event_file.specs.OpenRuns.{Opened, id_behind}
use Rattle.event_file.specs.Runs.{ops_as}
use Rattle.event_file.proofs.open_run.OpenRun.go_on_run.Goals as goal

pub returns-clause-all : goal.returns-clause-all
returns-clause-all c =
    let i = c.self.inside in
    let ops = ops_in (ops_as c.replace.result) in
    let same = ap (λ (r : RunOps). ops_in (ops_as r)) c.replace.ensures.value in
    let count = c.count-count.ensures ∙ sym (ops_long (ops_as i.rest)) ∙ ap (length {A = Op}) (sym same) in
    let last : ℕ → Id = λ n. record { agent = i.last.agent; seq = i.last.seq + n } in
    record {
      all = ap (λ (o : Opened). o.rest) (sym c.self.view_is) ∙ sym same;
      done = ap (λ (r : RunOps). ops_in (ops_as r)) c.replace.ensures.after;
      same = ap (λ (o : Opened). o.run) c.self.view_is;
      last = ap last count ∙ ap (λ (o : Opened). id_behind (length ops) o.last) c.self.view_is;
    }
