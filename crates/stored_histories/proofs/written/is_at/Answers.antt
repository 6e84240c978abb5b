use Rattle.std.proofs.Common.{◌≡◌, ◌∙◌, sym, ap}
use Rattle.std.specs.Prelude.{slice_get}
use Rattle.std.proofs.lemmas.Bool.{eqb-true}
use Rattle.ew_model.specs.Ancestors.{ids_of}
use Rattle.stored_histories.proofs.IdRuns.{id_found}
use Rattle.stored_histories.proofs.written.is_at.Goals as goal

pub returns-in-Some : goal.returns-in-Some
returns-in-Some c same =
    let ids = ids_of c.args.graph.now in
    let here : c.args.position ≡ c.in-Some.found = sym (eqb-true _ _ same) in
    ap (slice_get ids) here ∙ id_found ids c.args.id.now c.in-Some.found (sym c.in-Some.ensures.value)
