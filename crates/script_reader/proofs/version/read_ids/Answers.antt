use Rattle.std.proofs.Common.{Err, sym, ◌∙◌}
use Rattle.std.proofs.lemmas.Result.{err_from_is_err_and}
use Rattle.script_reader.proofs.IdReading.{AreCut, go_on, memory_alone, no_word, no_last}
use Rattle.script_reader.proofs.version.read_ids.Goals as goal

pub returns-in_err-push_id-clause-read : goal.returns-in_err-push_id-clause-read
returns-in_err-push_id-clause-read c =
    let cut : AreCut c.loop-word.rest.now c.in-Some.word.now c.in-Some.behind.now = record { free = c.in-Some.ensures.found.0; whole = c.in-Some.ensures.found.1 } in
    let told = err_from_is_err_and c.from_residual.result c.from_residual.ensures.1 in
    memory_alone c.args.b.now c.from_residual.result told.0 told.1
    (λ e. no_word c.args.b.now _ _ _ _ c.loop-word.invariant cut (c.in_err-push_id.ensures.unreadable (λ i. Err ((sym told.2 ∙ e) i))))

pub loop-word-preserved : goal.loop-word-preserved
loop-word-preserved c =
    let cut : AreCut c.loop-word.rest.now c.in-Some.word.now c.in-Some.behind.now = record { free = c.in-Some.ensures.found.0; whole = c.in-Some.ensures.found.1 } in
    let read = c.in_ok-push_id.ensures.id in
    go_on c.args.b.now _ _ _ c.loop-word.ids.items _ read.0 c.loop-word.invariant cut read.1 read.2 read.3

pub returns-in_err-push_id-2-clause-read : goal.returns-in_err-push_id-2-clause-read
returns-in_err-push_id-2-clause-read c =
    let told = err_from_is_err_and c.from_residual-in_err-push_id-2.result c.from_residual-in_err-push_id-2.ensures.1 in
    memory_alone c.args.b.now c.from_residual-in_err-push_id-2.result told.0 told.1
    (λ e. no_last c.args.b.now _ _ c.loop-word.invariant c.in_default.ensures.none (c.in_err-push_id-2.ensures.unreadable (λ i. Err ((sym told.2 ∙ e) i))))
