use Rattle.std.proofs.Common.{◌∙◌, ◌<◌, length, slice_get, Some, sym, ap, arith}
use Rattle.ew_model.specs.declared.event.Op.TheVariants.{Ins, Del}
use Rattle.ew_model.proofs.EditTexts.{insertions_long, deletions_long, back_long}
use Rattle.event_runs.specs.declared.ops.RunOps.{RunOps}
use Rattle.event_runs.specs.RunOps.{ops_of}
use Rattle.event_runs.specs.Steps.{index_in}
use Rattle.event_runs.proofs.StepOps.{insertion_there, deletion_there, back_there, get_any}
use Rattle.event_runs.proofs.ops.RunOps.get.Goals as goal

pub bounds-text-place : goal.bounds-text-place
bounds-text-place c =
    let same = ap (λ (ops : RunOps). length (ops_of ops)) c.in-Insertions.is in
    let long = insertions_long c.in-Insertions.at c.in-Insertions.text.now in
    omega (arith, c.requires.within, same, long)

pub returns-in-Insertions : goal.returns-in-Insertions
returns-in-Insertions c =
    let same = ap (λ (ops : RunOps). length (ops_of ops)) c.in-Insertions.is in
    let at = c.in-Insertions.at in
    let text = c.in-Insertions.text.now in
    let long = insertions_long at text in
    let low : c.args.place < length text = omega (arith, c.requires.within, same, long) in
    ap (λ (ops : RunOps). slice_get (ops_of ops) c.args.place) c.in-Insertions.is ∙ insertion_there at text c.args.place low
    ∙ (λ i. Some (Ins (sym (c.index-at.ensures ∙ ap (λ (ops : RunOps). index_in ops c.args.place) c.in-Insertions.is) i) (sym (c.index-text-place.is ∙ get_any text c.args.place c.index-text-place.result 0 low) i)))

pub returns-in-Deletions : goal.returns-in-Deletions
returns-in-Deletions c =
    let same = ap (λ (ops : RunOps). length (ops_of ops)) c.in-Deletions.is in
    let at = c.in-Deletions.at in
    let long = deletions_long at c.in-Deletions.count in
    let low : c.args.place < c.in-Deletions.count = omega (arith, c.requires.within, same, long) in
    ap (λ (ops : RunOps). slice_get (ops_of ops) c.args.place) c.in-Deletions.is ∙ deletion_there at c.in-Deletions.count c.args.place low
    ∙ ap (λ i. Some (Del i)) (sym (c.index-at.ensures ∙ ap (λ (ops : RunOps). index_in ops c.args.place) c.in-Deletions.is))

pub returns-in-BackDeletions : goal.returns-in-BackDeletions
returns-in-BackDeletions c =
    let same = ap (λ (ops : RunOps). length (ops_of ops)) c.in-BackDeletions.is in
    let at = c.in-BackDeletions.at in
    let long = back_long at c.in-BackDeletions.count in
    let low : c.args.place < c.in-BackDeletions.count = omega (arith, c.requires.within, same, long) in
    ap (λ (ops : RunOps). slice_get (ops_of ops) c.args.place) c.in-BackDeletions.is ∙ back_there at c.in-BackDeletions.count c.args.place low
    ∙ ap (λ i. Some (Del i)) (sym (c.index-at.ensures ∙ ap (λ (ops : RunOps). index_in ops c.args.place) c.in-BackDeletions.is))
