use Rattle.std.proofs.Common.{◌∙◌, ◌+◌, ◌<◌, [], ◌∷◌, ◌++◌, length, take, sym, ap, append_assoc, append-nil, arith}
use Rattle.std.proofs.lemmas.Grind.{flat_map-append}
use Rattle.std.proofs.lemmas.List.{take_more}
use Rattle.std.proofs.lemmas.Option.{get_or_from_slice_get}
use Rattle.history_definitions.specs.Replays.{change_line, change_lines}
use Rattle.operation_runs.specs.Runs.{run_ops}
use Rattle.history_view.proofs.replays.push_changes.Goals as goal

pub loop-place-preserved : goal.loop-place-preserved
loop-place-preserved c =
    let place = c.loop-place.place in
    let before = c.args.text.now.items in
    let ops = run_ops c.args.run in
    let op = c.get.result in
    let low : place < length ops = omega (arith, c.loop-place-test.true, c.count-place-end.ensures) in
    let more = take_more ops place op low ∙ ap (λ x. take place ops ++ x ∷ []) (get_or_from_slice_get ops place op op c.get.ensures) in
    let lines = ap change_lines more ∙ flat_map-append change_line (take place ops) (op ∷ []) ∙ ap (λ x. change_lines (take place ops) ++ x) (append-nil (change_line op)) in
    c.in_ok-push_change.ensures
    ∙ ap (λ text. text ++ change_line op) c.loop-place.invariant
    ∙ append_assoc before (change_lines (take place ops)) (change_line op)
    ∙ ap (λ text. before ++ text) (sym lines)
