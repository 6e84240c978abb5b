use Rattle.std.proofs.Common.{◌∙◌, List, sym, ap, is_some}
use Rattle.std.specs.List.{list_all}
use Rattle.ew_model.specs.declared.id.Id.{Id}
use Rattle.ew_model.specs.Ancestors.{is_held}
use Rattle.waiting_pool.proofs.Notes.{all_told}
use Rattle.waiting_pool.proofs.pool.is_ready.Goals as goal

pub returns : goal.returns
returns c =
    all_told (is_held c.args.graph.now) c.as_slice.result.now c.is_none.result (sym (ap is_some c.has.ensures) ∙ c.is_none.ensures)
    ∙ ap (λ (ids : List Id). list_all (is_held c.args.graph.now) ids) c.as_slice.ensures
