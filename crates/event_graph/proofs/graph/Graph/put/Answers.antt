use Rattle.std.proofs.Common.{◌≡◌, ◌∙◌, List, refl, sym, subst, true≢false}
use Rattle.std.proofs.lemmas.Result.{on_ok_weaker}
use Rattle.ew_model.specs.declared.event.Event.{Event}
use Rattle.ew_model.specs.Ancestors.{heads}
use Rattle.ew_model.specs.Positions.{positions_in}
use Rattle.event_graph.specs.Joining.{event_on}
use Rattle.event_graph.specs.Keeping.{IsKeptOf}
use Rattle.event_graph.proofs.Kept.{agreement}
use Rattle.event_graph.proofs.Soundness.{next_sound}
use Rattle.event_graph.proofs.graph.Graph.put.Goals as goal

pub append-requires-clause-next : goal.append-requires-clause-next
append-requires-clause-next c =
    let now = c.args.self.now in
    let inside = c.self.inside in
    let kept : IsKeptOf now inside.ids inside.events inside.heads inside.cuts = subst (λ (h : List Event). IsKeptOf h inside.ids inside.events inside.heads inside.cuts) c.self.view_is c.self.invariant in
    let all : inside.heads ≡ positions_in now (heads now) = kept.heads_are ∙ (agreement now inside.ids inside.events inside.heads inside.cuts kept).heads in
    let next = c.requires.next.1 in
    let e = event_on c.args.id c.args.op.now c.requires.next.0 in
    (e, record { good = next; sound = next_sound now e kept.sound next.good c.facts.ensures c.facts-2.ensures; id = refl; op_is = refl; stands = sym (c.equals.ensures.0 c.if-equals.true) ∙ all })

pub append-requires-else-equals-clause-next : goal.append-requires-else-equals-clause-next
append-requires-else-equals-clause-next c =
    let now = c.args.self.now in
    let inside = c.self.inside in
    let kept : IsKeptOf now inside.ids inside.events inside.heads inside.cuts = subst (λ (h : List Event). IsKeptOf h inside.ids inside.events inside.heads inside.cuts) c.self.view_is c.self.invariant in
    let all : inside.heads ≡ positions_in now (heads now) = kept.heads_are ∙ (agreement now inside.ids inside.events inside.heads inside.cuts kept).heads in
    let next = c.requires.next.1 in
    let e = event_on c.args.id c.args.op.now c.requires.next.0 in
    (e, record { good = next; sound = next_sound now e kept.sound next.good c.facts.ensures c.facts-2.ensures; id = refl; op_is = refl; stands = λ same. true≢false (sym (c.equals.ensures.1 (all ∙ sym same)) ∙ c.if-equals.false) })

pub returns-then-equals-clause-ok : goal.returns-then-equals-clause-ok
returns-then-equals-clause-ok c =
    let now = c.args.self.now in
    let inside = c.self.inside in
    let kept : IsKeptOf now inside.ids inside.events inside.heads inside.cuts = subst (λ (h : List Event). IsKeptOf h inside.ids inside.events inside.heads inside.cuts) c.self.view_is c.self.invariant in
    let all : inside.heads ≡ positions_in now (heads now) = kept.heads_are ∙ (agreement now inside.ids inside.events inside.heads inside.cuts kept).heads in
    on_ok_weaker c.append.result
    (λ added parents next.
    let e = event_on c.args.id c.args.op.now parents in
    added e (record { good = next; sound = next_sound now e kept.sound next.good c.facts.ensures c.facts-2.ensures; id = refl; op_is = refl; stands = sym (c.equals.ensures.0 c.if-equals.true) ∙ all }))
    c.append.ensures.ok

pub returns-else-equals-clause-ok : goal.returns-else-equals-clause-ok
returns-else-equals-clause-ok c =
    let now = c.args.self.now in
    let inside = c.self.inside in
    let kept : IsKeptOf now inside.ids inside.events inside.heads inside.cuts = subst (λ (h : List Event). IsKeptOf h inside.ids inside.events inside.heads inside.cuts) c.self.view_is c.self.invariant in
    let all : inside.heads ≡ positions_in now (heads now) = kept.heads_are ∙ (agreement now inside.ids inside.events inside.heads inside.cuts kept).heads in
    on_ok_weaker c.append-else-equals.result
    (λ added parents next.
    let e = event_on c.args.id c.args.op.now parents in
    added e (record { good = next; sound = next_sound now e kept.sound next.good c.facts.ensures c.facts-2.ensures; id = refl; op_is = refl; stands = λ same. true≢false (sym (c.equals.ensures.1 (all ∙ sym same)) ∙ c.if-equals.false) }))
    c.append-else-equals.ensures.ok
