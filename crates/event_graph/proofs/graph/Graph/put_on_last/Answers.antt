use Rattle.std.proofs.Common.{◌≡◌, ◌∙◌, ◌-◌, ◌∷◌, [], List, length, sym, subst}
use Rattle.std.proofs.lemmas.Result.{on_ok_weaker}
use Rattle.ew_model.specs.declared.event.Event.{Event}
use Rattle.history_definitions.specs.Chains.{event_behind}
use Rattle.event_graph.specs.Afters.{IsNextAfter}
use Rattle.event_graph.specs.Keeping.{IsKeptOf}
use Rattle.event_graph.specs.declared.parts.After.TheVariants.{Last}
use Rattle.event_graph.proofs.Kept.{length_events}
use Rattle.event_graph.proofs.NextAfter.{next_after_last}
use Rattle.event_graph.proofs.graph.Graph.put_on_last.Goals as goal

pub append-requires-clause-next : goal.append-requires-clause-next
append-requires-clause-next c =
    let now = c.args.self.now in
    let inside = c.self.inside in
    let kept : IsKeptOf now inside.ids inside.events inside.heads inside.cuts = subst (λ (h : List Event). IsKeptOf h inside.ids inside.events inside.heads inside.cuts) c.self.view_is c.self.invariant in
    let next = next_after_last now c.args.op.now kept.admitted kept.sound c.facts.ensures c.requires.some c.requires.room c.requires.head in
    let e = event_behind next.0 c.args.op.now in
    let count : c.count-last.result ≡ length now = c.count-last.ensures.count ∙ length_events now inside.ids inside.events inside.heads inside.cuts kept in
    (e, subst (λ n. IsNextAfter now Last ((n - 1) ∷ []) c.args.op.now e) (sym count) next.2)

pub returns-clause-ok : goal.returns-clause-ok
returns-clause-ok c =
    let now = c.args.self.now in
    let inside = c.self.inside in
    let kept : IsKeptOf now inside.ids inside.events inside.heads inside.cuts = subst (λ (h : List Event). IsKeptOf h inside.ids inside.events inside.heads inside.cuts) c.self.view_is c.self.invariant in
    let next = next_after_last now c.args.op.now kept.admitted kept.sound c.facts.ensures c.requires.some c.requires.room c.requires.head in
    let e = event_behind next.0 c.args.op.now in
    let count : c.count-last.result ≡ length now = c.count-last.ensures.count ∙ length_events now inside.ids inside.events inside.heads inside.cuts kept in
    on_ok_weaker c.append.result (λ added. (next.0, next.1, added e (subst (λ n. IsNextAfter now Last ((n - 1) ∷ []) c.args.op.now e) (sym count) next.2))) c.append.ensures.ok
