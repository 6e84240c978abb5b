use Rattle.std.proofs.Common.{◌∙◌, sym}
use Rattle.ew_model.specs.Ancestors.{ids_of}
use Rattle.ew_model.proofs.ListPlaces.{none_is_some}
use Rattle.event_file.specs.Places.{place_of}
use Rattle.stored_histories.proofs.GraphRecords.{position_there}
use Rattle.stored_histories.proofs.written.position_of.Goals as goal

pub unreachable-requires : goal.unreachable-requires
unreachable-requires c =
    let history = c.args.graph.now in
    none_is_some (place_of history c.args.id.now) (sym c.in-None.is ∙ c.find.ensures.value ∙ position_there (ids_of history) c.args.id.now c.requires)
