use Rattle.std.proofs.Common.{◌≡◌, ◌∙◌, ◌∷◌, [], ◌++◌, List, ℕ, length, slice_get, Some, refl, sym}
use Rattle.std.proofs.lemmas.Option.{slice_get_read}
use Rattle.history_definitions.specs.Agents.{count_of}
use Rattle.event_graph.proofs.Lists.{map_get}
use Rattle.event_graph.proofs.ids.counts.Goals as goal

pub loop-name-preserved : goal.loop-name-preserved
loop-name-preserved c =
    let names = c.args.names.now in
    let place = c.loop-name.name-index in
    let name = c.name-item.result in
    let there : slice_get names place ≡ Some name = slice_get_read names (length names) place name refl c.loop-name-test.true c.name-item.is in
    let made : (name, c.count_of.result) ≡ (name, count_of c.args.table.now name) = (λ i. (name, c.count_of.ensures.value i)) in
    c.in_ok-push.ensures.items ∙ (λ i. c.loop-name.invariant i ++ made i ∷ []) ∙ sym (map_get (λ (n : List ℕ). (n, count_of c.args.table.now n)) names place name there)
