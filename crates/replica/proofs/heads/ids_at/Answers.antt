use Rattle.std.proofs.Common.{◌≡◌, ◌∙◌, ◌∷◌, [], ◌++◌, get_or, sym}
use Rattle.std.proofs.lemmas.Option.{slice_get-get_or, get_or_from_slice_get}
use Rattle.ew_model.specs.Ancestors.{ids_of}
use Rattle.event_graph.specs.Keeping.{id_of}
use Rattle.event_graph.proofs.Lists.{map_get}
use Rattle.replica.proofs.heads.ids_at.Goals as goal

pub loop-position-preserved : goal.loop-position-preserved
loop-position-preserved c =
    let place = c.loop-position.position-index in
    let position = get_or c.args.positions.now place 0 in
    let ids = ids_of c.args.graph.now in
    let one : id_of ids position ≡ c.id_at.result = get_or_from_slice_get ids position c.id_at.result (record { agent = []; seq = 0 }) c.id_at.ensures in
    let there = slice_get-get_or c.args.positions.now place 0 c.loop-position-test.true in
    c.in_ok-push.ensures.items ∙ (λ i. c.loop-position.invariant i ++ sym one i ∷ []) ∙ sym (map_get (id_of ids) c.args.positions.now place position there)
