use Rattle.std.proofs.Common.{◌≡◌, ◌∙◌, ◌<◌, All, List, length, map, ap, sym, subst}
use Rattle.std.specs.List.Sorted.{IsPermutation}
use Rattle.ew_model.specs.declared.id.Id.{Id}
use Rattle.ew_model.specs.Ancestors.{heads, ids_of}
use Rattle.event_graph.specs.Keeping.{id_of}
use Rattle.event_graph.proofs.Places.{positions_within}
use Rattle.replica.proofs.HeadLaws.{heads_found, sorted_heads}
use Rattle.replica.proofs.heads.head_ids.Goals as goal

pub ids_at-requires : goal.ids_at-requires
ids_at-requires c =
    let now = c.args.graph.now in
    subst (All (λ p. p < length now)) (sym (c.as_slice.ensures.heads ∙ c.frontier.ensures)) (positions_within now (heads now))

pub returns : goal.returns
returns c =
    let now = c.args.graph.now in
    let after = c.sort_unstable.new.self.items in
    let found : c.in_ok-ids.ids.items ≡ heads now = c.in_ok-ids.ensures ∙ ap (map (id_of (ids_of now))) (c.as_slice.ensures.heads ∙ c.frontier.ensures) ∙ heads_found now in
    sorted_heads now after c.requires (subst (λ (xs : List Id). IsPermutation xs after) found c.sort_unstable.ensures.permutation) c.sort_unstable.ensures.sorted
