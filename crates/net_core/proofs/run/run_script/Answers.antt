use Rattle.std.proofs.Common.{◌≡◌, ◌+◌, ◌≤◌, [], ◌++◌, length, take, sym, ap, ◌∙◌, subst, arith}
use Rattle.std.proofs.lemmas.Bool.{cond-true}
use Rattle.std.proofs.lemmas.List.{take_all}
use Rattle.net_core.specs.Answers.{StepsTo, told_bytes}
use Rattle.peer_definitions.specs.Runs.{net_run}
use Rattle.peer_definitions.specs.Runs.RunOutcome.{Ran}
use Rattle.peer_definitions.specs.Machine.{Network, empty_network, net_step}
use Rattle.peer_definitions.specs.Machine.StepOutcome.{Stepped}
use Rattle.net_core.proofs.RunResults.{few_more, no_memory, ran_on, told_run}
use Rattle.net_core.proofs.Running.{HasRun, begins, has_run}
use Rattle.net_core.proofs.run.run_script.Goals as goal

pub step-requires : goal.step-requires
step-requires g c = omega (arith, c.loop-line.invariant.few, c.loop-line-test.true, c.requires)

pub returns-in-Err : goal.returns-in-Err
returns-in-Err g c =
    let x = c.loop-line-item.result in
    let network = c.loop-line.net in
    let by = subst (StepsTo network x.1 c.step.new.self) (ap told_bytes c.in-Err.is) c.step.ensures in
    told_run c.args.limits c.args.script.now c.loop-line.line-index x c.loop-line-test.true c.loop-line-item.is network c.loop-line.out.items c.loop-line.invariant.runs
    c.in-Err.fault c.step.new.self by

pub returns-then-is_err : goal.returns-then-is_err
returns-then-is_err g c =
    no_memory c.args.limits c.args.script.now c.loop-line.line-index c.loop-line-item.result c.loop-line-test.true c.loop-line-item.is c.loop-line.net
    c.loop-line.out.items c.loop-line.invariant.runs

pub loop-line-preserved : goal.loop-line-preserved
loop-line-preserved g c =
    let limits = c.args.limits in
    let script = c.args.script.now in
    let i = c.loop-line.line-index in
    let x = c.loop-line-item.result in
    let network = c.loop-line.net in
    let out = c.loop-line.out.items in
    let new = c.step.new.self in
    let printed = c.in-Ok.printed.items in
    let made : net_step network x.1 ≡ Stepped new printed = subst (StepsTo network x.1 new) (ap told_bytes c.in-Ok.is) c.step.ensures in
    let whole : c.extend_from_slice.new.self.items ≡ out ++ printed =
    c.extend_from_slice.ensures.items ∙ cond-true _ _ _ c.if-is_err.ensures.negation ∙ ap (λ v. out ++ v) c.deref.ensures.value in
    record {
      runs = subst (λ o. HasRun (empty_network limits) (take (i + 1) script) o new) (sym whole)
          (ran_on limits script i x c.loop-line-test.true c.loop-line-item.is network out c.loop-line.invariant.runs new printed made);
      few = few_more limits script i x c.loop-line-test.true c.loop-line-item.is network out c.loop-line.invariant.runs new printed made c.loop-line.invariant.few;
    }

pub loop-line-init : goal.loop-line-init
loop-line-init g c = record {
  runs = subst (λ (n : Network). HasRun (empty_network c.args.limits) [] c.new-out.result.items n) (sym c.empty-net.ensures)
      (subst (λ o. HasRun (empty_network c.args.limits) [] o (empty_network c.args.limits)) (sym c.new-out.ensures.items) (begins (empty_network c.args.limits)));
  few = subst (λ (n : Network). length n.packets ≤ 0) (sym c.empty-net.ensures) (omega arith);
}

pub returns : goal.returns
returns g c =
    let limits = c.args.limits in
    let script = c.args.script.now in
    let i = c.loop-line.line-index in
    let out = c.loop-line.out.items in
    subst (λ xs. net_run (empty_network limits) xs ≡ Ran out) (take_all i script c.loop-line-test.false)
    (has_run (empty_network limits) c.loop-line.net (take i script) out c.loop-line.invariant.runs)
