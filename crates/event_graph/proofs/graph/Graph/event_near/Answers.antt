use Rattle.std.proofs.Common.{◌≡◌, ◌∙◌, List, Some, map, slice_get, sym, ap, subst}
use Rattle.std.specs.List.Sorted.{IsPermutation}
use Rattle.ew_model.specs.declared.id.Id.{Id}
use Rattle.ew_model.specs.declared.event.Event.{Event}
use Rattle.ew_model.specs.Ids.{id_cmp}
use Rattle.ew_model.specs.Positions.{parents_at}
use Rattle.ew_model.specs.Sorting.{sort_by}
use Rattle.ew_model.proofs.PathOrder.{id_total}
use Rattle.ew_model.proofs.SortedLists.{sorted_is_sort_by}
use Rattle.event_runs.specs.BareEvents.{parents_in}
use Rattle.event_graph.specs.Keeping.{IsKeptOf, id_of, ascending_at}
use Rattle.event_graph.proofs.Kept.{parents_apart}
use Rattle.event_graph.proofs.Rebuilt.{event_here}
use Rattle.event_graph.proofs.graph.Graph.event_near.Goals as goal

pub returns : goal.returns
returns c =
    let now = c.args.self.now in
    let inside = c.self.inside in
    let place = c.args.position in
    let kept : IsKeptOf now inside.ids inside.events inside.heads inside.cuts = subst (λ (h : List Event). IsKeptOf h inside.ids inside.events inside.heads inside.cuts) c.self.view_is c.self.invariant in
    let positions = parents_at (parents_in inside.events) place in
    let found : c.in_ok-parents.parents.items ≡ map (id_of inside.ids) positions = c.in_ok-parents.ensures ∙ ap (map (id_of inside.ids)) (c.as_slice.ensures ∙ c.event_near-op.ensures.parents) in
    let after = c.sort_unstable.new.self.items in
    let sorted : after ≡ sort_by id_cmp (map (id_of inside.ids) positions) =
    sorted_is_sort_by id_total (map (id_of inside.ids) positions) after (parents_apart now inside.ids inside.events inside.heads inside.cuts kept place c.requires)
    (subst (λ (xs : List Id). IsPermutation xs after) found c.sort_unstable.ensures.permutation) c.sort_unstable.ensures.sorted in
    let same : ascending_at inside.ids positions ≡ c.from_vec.result = sym (c.from_vec.ensures ∙ sorted) in
    ap (λ (h : List Event). slice_get h place) (sym c.self.view_is)
    ∙ event_here inside.ids inside.ids inside.events place c.id_near.result c.event_near-op.result.0 c.id_near.ensures c.event_near-op.ensures.op
    ∙ ap (λ (ps : List Id). Some (record { id = c.id_near.result; parents = ps; op = c.event_near-op.result.0 })) same
