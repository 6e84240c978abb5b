use Rattle.std.proofs.Common.{length, refl, sym, ◌∙◌}
use Rattle.std.proofs.lemmas.Bool.{ltb-false}
use Rattle.std.proofs.lemmas.Option.{none-some, slice_get_past, slice_get_read}
use Rattle.advance_retreat.proofs.RunLaws.{not_at}
use Rattle.advance_retreat.proofs.runs.has_at.Goals as goal

pub returns-in-Some-clause-no : goal.returns-in-Some-clause-no
returns-in-Some-clause-no c lacks =
    not_at c.args.runs.now c.args.lv c.args.place c.in-Some.run'.now
    (slice_get_read c.args.runs.now (length c.args.runs.now) c.args.place c.in-Some.run'.now refl c.in-Some.ensures.lookup.3.0 c.in-Some.ensures.lookup.1) (c.has.ensures.no lacks)

pub returns-in-None-clause-no : goal.returns-in-None-clause-no
returns-in-None-clause-no c lacks has = none-some has.0 (sym (slice_get_past c.args.runs.now c.args.place (ltb-false c.args.place (length c.args.runs.now) (sym c.in-None.ensures.lookup.0))) ∙ has.1)
