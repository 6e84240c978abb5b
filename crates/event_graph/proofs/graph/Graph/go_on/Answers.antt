use Rattle.std.proofs.Common.{◌≡◌, ◌∙◌, ◌+◌, ◌-◌, ◌∷◌, ◌++◌, [], ℕ, suc, Some, slice_get, sym, ap, arith}
use Rattle.ew_model.specs.declared.event.Event.{Event}
use Rattle.ew_model.specs.Ancestors.{ids_of}
use Rattle.agent_ids.specs.IdRuns.{id_with}
use Rattle.history_definitions.specs.Chains.{last_id}
use Rattle.event_graph.specs.Joining.{IsGoodBehind, event_on}
use Rattle.event_graph.proofs.GoingOn.{next_behind, next_few}
use Rattle.event_graph.proofs.graph.Graph.go_on.Goals.{After-id_from_end-last}
use Rattle.event_graph.proofs.graph.Graph.go_on.Goals as goal

last : (c : After-id_from_end-last) → last_id c.args.self.now ≡ Some c.id_from_end-last.result
last c = ap (λ n. slice_get (ids_of c.args.self.now) (n - 1)) (sym c.count-position.ensures.count) ∙ c.id_from_end-last.ensures

number : (n : ℕ) → n + 1 ≡ suc n
number n = omega arith

next : (c : After-id_from_end-last) → IsGoodBehind c.args.self.now ((c.count-position.result - 1) ∷ []) (event_on (id_with c.id_from_end-last.result.agent (c.id_from_end-last.result.seq + 1)) c.args.op (c.id_from_end-last.result ∷ []))
next c =
    let x = c.id_from_end-last.result in
    next_behind c.args.self.now c.count-position.ensures.admitted x (last c) (c.count-position.result - 1) (id_with x.agent (x.seq + 1)) c.args.op
    (ap (λ n. n - 1) c.count-position.ensures.count) (ap (id_with x.agent) (number x.seq))

pub overflow_add-next : goal.overflow_add-next
overflow_add-next c =
    let few = next_few c.args.self.now c.count-position.ensures.admitted c.id_from_end-last.result (last (goal.at.overflow_add-next c).After-id_from_end-last) in omega (arith, few, c.requires.room)

pub put-requires-clause-next : goal.put-requires-clause-next
put-requires-clause-next c = (c.id_from_end-last.result ∷ [], next (goal.at.put-requires-clause-next c).After-id_from_end-last)

pub returns-clause-ok : goal.returns-clause-ok
returns-clause-ok c =
    let at = (goal.at.returns-clause-ok c).After-id_from_end-last in
    let x = c.id_from_end-last.result in
    let behind = ap (λ n. event_on (id_with x.agent n) c.args.op (x ∷ [])) (number x.seq) in
    (x, last at, c.in_ok-put.ensures.ok (x ∷ []) (next at) ∙ ap (λ (e : Event). c.args.self.now ++ e ∷ []) behind)
