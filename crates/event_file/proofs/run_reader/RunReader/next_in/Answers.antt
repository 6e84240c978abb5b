use Rattle.std.proofs.Common.{◌∙◌, ◌<◌, ◌-◌, Some, Ok, refl, sym, ap, subst, arith, List, ℕ}
use Rattle.event_file.specs.Faults.{IsFault}
use Rattle.event_file.specs.Progress.{Known}
use Rattle.event_file.specs.Rest.{Rest, RunsRest, run_rest, runs_rest, IsNext}
use Rattle.ew_model.specs.declared.event.Event.{Event}
use Rattle.file_words.specs.FileRuns.{ops_count, ops_in}
use Rattle.event_file.specs.Runs.{ops_as, run_as}
use Rattle.event_file.proofs.RunRest.{step_next_of, run_done, run_end_fault, run_record_fault, count_step, few_after, record_opened}
use Rattle.event_file.proofs.run_reader.RunReader.next_in.Goals as goal

pub returns-then-not-is_done-clause-next : goal.returns-then-not-is_done-clause-next
returns-then-not-is_done-clause-next c =
    let i = c.self.inside in
    let e = c.in_ok-event.event in
    let new = run_rest i.progress c.next_of.new.opened i.left i.len i.input.left.now in
    subst (λ (r : RunsRest). IsNext (Ok (Some e)) r.rest new) c.self.view_is (step_next_of i.progress i.last_run c.next_of.new.opened i.left i.len i.input.left.now e c.in_ok-event.ensures.ok)

pub returns-in-Err-clause-next : goal.returns-in-Err-clause-next
returns-in-Err-clause-next c =
    let i = c.self.inside in
    let none = c.is_done.ensures.0 c.if-not-is_done.false in
    (subst (IsFault c.fault_of.result) (ap (λ (r : RunsRest). r.rest.found) c.self.view_is) (run_end_fault c.in-Err.stop c.fault_of.result i.progress i.last_run i.left i.len i.input.left.now none c.if-self-eq0.true c.in-Err.ensures c.fault_of.ensures), refl)

pub returns-then-self-eq0-clause-next : goal.returns-then-self-eq0-clause-next
returns-then-self-eq0-clause-next c =
    let i = c.self.inside in
    let none = c.is_done.ensures.0 c.if-not-is_done.false in
    let d = run_done i.progress i.last_run i.left i.len i.input.left.now none c.if-self-eq0.true c.in_default.ensures in
    (ap (λ (r : RunsRest). r.rest.found) (sym c.self.view_is) ∙ d.0, ap (λ (r : RunsRest). r.rest.records) (sym c.self.view_is) ∙ d.1, refl)

pub returns-in-Err-next_run-clause-next : goal.returns-in-Err-next_run-clause-next
returns-in-Err-next_run-clause-next c =
    let i = c.self.inside in
    let fault = c.fault_of-in-Err-next_run.result in
    let none = c.is_done.ensures.0 c.if-not-is_done.false in
    let more : 0 < i.left = omega (arith, c.if-self-eq0.false) in
    let rest : Known → List ℕ → Rest = λ k b. run_rest k i.last_run i.left i.len b in (
      subst (IsFault fault) (ap (λ (r : RunsRest). r.rest.found) c.self.view_is) (run_record_fault c.in-Err-next_run.stop fault i.progress i.last_run i.left i.len i.input.left.now none more c.in-Err-next_run.ensures.exact c.fault_of-in-Err-next_run.ensures),
      ap (λ k. rest k c.next_run.new.input.left.now) c.in-Err-next_run.ensures.err.0 ∙ ap (rest i.progress) c.in-Err-next_run.ensures.err.1 ∙ ap (λ (r : RunsRest). r.rest) c.self.view_is,
    )

pub new-requires-clause-number : goal.new-requires-clause-number
new-requires-clause-number c =
    let n = count_step (ops_as c.again-rest.result) (ops_as c.take_first.new.self) c.in-Some.op c.in-Some.ensures.some in
    let size = ap ops_count c.again-rest.ensures in
    let fits = c.in-Ok.ensures.sound.fits in
    omega (arith, n, size, fits)

pub invariant_of-self-in-Ok : goal.invariant_of-self-in-Ok
invariant_of-self-in-Ok c =
    let i = c.self.inside in
    let run = c.in-Ok.run' in
    let less = few_after i.progress c.next_run.new.self run.id (ops_count (ops_as run.ops)) i.left c.self.invariant c.in-Ok.ensures.sound.few c.in-Ok.ensures.kept in
    omega (arith, less, c.count.ensures)

pub returns-in-Some-clause-next : goal.returns-in-Some-clause-next
returns-in-Some-clause-next c =
    let i = c.self.inside in
    let run = c.in-Ok.run' in
    let none = c.is_done.ensures.0 c.if-not-is_done.false in
    let more : 0 < i.left = omega (arith, c.if-self-eq0.false) in
    let e : Event = record { id = run.id; parents = run.parents; op = c.in-Some.op } in
    let new = run_rest c.next_run.new.self (Some c.new.result) (i.left - c.count.result) i.len c.next_run.new.input.left.now in
    subst (λ (r : RunsRest). IsNext (Ok (Some e)) r.rest new) c.self.view_is
    (record_opened i.progress c.next_run.new.self i.last_run c.new.result i.left i.len c.count.result i.input.left.now c.next_run.new.input.left.now (run_as run) c.in-Some.op (ops_as c.take_first.new.self) none more
    c.in-Ok.ensures.sound.few c.count.ensures c.in-Ok.ensures.exact c.in-Ok.ensures.kept (ap ops_in (sym c.again-rest.ensures) ∙ c.in-Some.ensures.some) c.new.ensures)

pub returns-in-Err-next_run-clause-err : goal.returns-in-Err-next_run-clause-err
returns-in-Err-next_run-clause-err c =
    let i = c.self.inside in
    let all : Known → List ℕ → RunsRest = λ k b. runs_rest k i.last_run i.left i.len b in
    ap (λ k. all k c.next_run.new.input.left.now) c.in-Err-next_run.ensures.err.0 ∙ ap (all i.progress) c.in-Err-next_run.ensures.err.1 ∙ c.self.view_is
