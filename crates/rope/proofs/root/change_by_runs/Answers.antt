use Rattle.std.proofs.Common.{ℕ, List, sym, ap, ◌∙◌, subst}
use Rattle.ew_model.specs.Operations.{changed_by_all}
use Rattle.ew_model.specs.TextLaws.{AllFit}
use Rattle.operation_runs.specs.Runs.{run_ops}
use Rattle.rope.specs.Lengths.{AllStayShort}
use Rattle.rope.specs.Whole.{chars_of_root}
use Rattle.rope.proofs.RunChanges.{fit_front, short_front, change_both}
use Rattle.rope.proofs.root.change_by_runs.Goals as goal

pub change_by_run-requires-clause-fit : goal.change_by_run-requires-clause-fit
change_by_run-requires-clause-fit c =
    let text = chars_of_root c.loop-run.root in
    (fit_front (run_ops c.in-Some.run') c.next_run.new.self text (subst (AllFit text) c.in-Some.ensures.ops c.loop-run.invariant.0)).0

pub change_by_run-requires-clause-short : goal.change_by_run-requires-clause-short
change_by_run-requires-clause-short c =
    let text = chars_of_root c.loop-run.root in
    (short_front (run_ops c.in-Some.run') c.next_run.new.self text (subst (AllStayShort text) c.in-Some.ensures.ops c.loop-run.invariant.1)).0

pub loop-run-preserved : goal.loop-run-preserved
loop-run-preserved c =
    let text = chars_of_root c.loop-run.root in
    let ops = run_ops c.in-Some.run' in
    let rest = c.next_run.new.self in
    let done = c.in_ok-change_by_run.ensures.ok in
    let before = c.loop-run.invariant in (
      subst (λ (t : List ℕ). AllFit t rest) (sym done) (fit_front ops rest text (subst (AllFit text) c.in-Some.ensures.ops before.0)).1,
      subst (λ (t : List ℕ). AllStayShort t rest) (sym done) (short_front ops rest text (subst (AllStayShort text) c.in-Some.ensures.ops before.1)).1,
      c.change_by_run.ensures.root,
      ap (changed_by_all rest) done ∙ sym (change_both ops rest text) ∙ ap (λ os. changed_by_all os text) (sym c.in-Some.ensures.ops) ∙ before.3,
    )
