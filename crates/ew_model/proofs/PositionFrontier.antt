-- The frontier, as events come.
use Rattle.std.proofs.Common.{◌≡◌, ℕ, zero, suc, ◌<◌, not, slice_index_or, nat_eq, List, [], ◌∷◌, ◌++◌, map, filter, length, ap, ◌∙◌, subst, arith}
use Rattle.std.specs.List.{All}
use Rattle.std.proofs.lemmas.Cmp.{nat_eq_equiv}
use Rattle.std.proofs.lemmas.List.Elements.{All-from_recursion}
use Rattle.ew_model.specs.Graph.{is_named, has_child, childless}
use Rattle.ew_model.specs.CutChange.{AreInOrder}
use Rattle.ew_model.specs.Positions.{AreParents, IsHistoryOfParents, EventAt, events_from, frontier_of}
use Rattle.ew_model.proofs.SetLaws.{among_filter}
use Rattle.ew_model.proofs.SortingLaws.{all_from}
use Rattle.ew_model.proofs.GraphOrder.{order_laid_out}
use Rattle.ew_model.proofs.GraphHeads.{heads_push}
use Rattle.ew_model.proofs.PositionEvents.{position_of, parents_of, events_push, positions_bound, history_from, history_push, in_order}

-- the events with one more stand in order
pub order_push : (history : List (List ℕ)) (parents : List ℕ) → IsHistoryOfParents history → AreParents (length history) parents
    → AreInOrder position_of parents_of nat_eq [] (events_from 0 history ++ record { position = length history; parents = parents } ∷ [])
order_push history parents h p =
    subst (AreInOrder position_of parents_of nat_eq []) (events_push history parents) (in_order [] (history ++ parents ∷ []) (history_from (history ++ parents ∷ []) (history_push history parents h p)))

-- The frontier after one more event is the one before without the event's parents, and the event behind.
pub frontier_push : (history : List (List ℕ)) (parents : List ℕ) → IsHistoryOfParents history → AreParents (length history) parents
    → frontier_of (history ++ parents ∷ []) ≡ filter (λ p. not (is_named nat_eq parents p)) (frontier_of history) ++ length history ∷ []
frontier_push history parents h p =
    let e : EventAt = record { position = length history; parents = parents } in
    ap (childless position_of parents_of nat_eq) (events_push history parents)
    ∙ heads_push position_of parents_of nat_eq (events_from 0 history) e (order_laid_out position_of parents_of nat_eq nat_eq_equiv [] (events_from 0 history ++ e ∷ []) (order_push history parents h p))

-- Its positions are those of events.
pub frontier_below : (history : List (List ℕ)) → All (λ p. p < length history) (frontier_of history)
frontier_below history =
    All-from_recursion (λ p. p < length history) (frontier_of history)
    (all_from (λ p. p < length history) (frontier_of history) (λ p m.
    let most_touches = (positions_bound 0 history p (among_filter (λ q. not (has_child position_of parents_of nat_eq (events_from 0 history) q)) (map position_of (events_from 0 history)) p m).0).1 in omega (arith, most_touches)))

-- one position below an event can be its parents
pub one_parent : (position parent : ℕ) → parent < position → AreParents position (parent ∷ [])
one_parent position parent less = record { rising = λ k h. absurd (omega (arith, h)); lower = λ k d h. low k d h; few = omega arith }
  where
    low : (k d : ℕ) → k < 1 → slice_index_or (parent ∷ []) k d < position
    low zero d h = less
    low (suc k) d h = absurd (omega (arith, h))
