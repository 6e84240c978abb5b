use Rattle.std.proofs.Common.{◌∙◌, ◌++◌, sym, ap, append_assoc}
use Rattle.std.proofs.lemmas.Grind.{flat_map-append}
use Rattle.history_definitions.specs.Replays.{change_line, change_lines}
use Rattle.operation_runs.specs.Runs.{run_ops}
use Rattle.history_view.proofs.replays.changes_text.Goals as goal

pub loop-run-preserved : goal.loop-run-preserved
loop-run-preserved c =
    let ops = run_ops c.in-Some.run' in
    let rest = c.next_run.new.self in
    ap (λ text. text ++ change_lines rest) c.in_ok-push_changes.ensures
    ∙ append_assoc c.loop-run.text.items (change_lines ops) (change_lines rest)
    ∙ ap (λ more. c.loop-run.text.items ++ more) (sym (flat_map-append change_line ops rest) ∙ ap change_lines (sym c.in-Some.ensures.ops))
    ∙ c.loop-run.invariant
