use Rattle.std.proofs.Common.{◌≡◌, Option, Some, IfNone, length, slice_get, refl, sym, ◌∙◌, subst}
use Rattle.std.proofs.lemmas.Bool.{ltb-false}
use Rattle.std.proofs.lemmas.Option.{none-some, slice_get_past, slice_get_read}
use Rattle.advance_retreat.specs.declared.run.Run.{Run}
use Rattle.advance_retreat.specs.Runs.{TellNone}
use Rattle.advance_retreat.proofs.RunLaws.{some_of, none_of, none_at}
use Rattle.advance_retreat.proofs.runs.run_at.Goals.{After-held}
use Rattle.advance_retreat.proofs.runs.run_at.Goals as goal

there : (c : After-held) → slice_get c.args.runs.now c.args.place ≡ Some c.in_ok-get.field-0.now
there c = slice_get_read c.args.runs.now (length c.args.runs.now) c.args.place c.in_ok-get.field-0.now refl c.in_ok-get.ensures.lookup.3.0 c.in_ok-get.ensures.lookup.1

pub returns-clause-some : goal.returns-clause-some
returns-clause-some c = some_of c.args.runs.now c.args.lv c.args.place c.in_ok-get.field-0.now c.held.result c.requires.order (there c) c.held.ensures.some

pub returns-clause-none : goal.returns-clause-none
returns-clause-none c = none_of c.args.runs.now c.args.lv c.args.place c.in_ok-get.field-0.now c.held.result c.requires.place (there c) c.held.ensures.none

pub returns-in_err-get-clause-none : goal.returns-in_err-get-clause-none
returns-in_err-get-clause-none c =
    let past = slice_get_past c.args.runs.now c.args.place (ltb-false c.args.place (length c.args.runs.now) (sym c.in_err-get.ensures.lookup.0)) in
    subst (λ (o : Option Run). IfNone o (TellNone c.args.runs.now c.args.lv)) (sym c.from_residual.ensures)
    (none_at c.args.runs.now c.args.lv c.args.place c.requires.place (λ has. none-some has.0 (sym past ∙ has.1)))
