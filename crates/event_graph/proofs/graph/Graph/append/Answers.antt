use Rattle.std.proofs.Common.{◌≡◌, ◌∙◌, ◌<◌, ◌∷◌, ◌++◌, [], Some, List, length, sym, ap, subst, All}
use Rattle.ew_model.specs.declared.id.Id.{Id}
use Rattle.ew_model.specs.declared.event.Event.{Event}
use Rattle.ew_model.specs.Ancestors.{ids_of}
use Rattle.ew_model.specs.Positions.{AreParents, parent_positions}
use Rattle.ew_model.proofs.PositionFrontier.{frontier_below}
use Rattle.history_definitions.specs.Agents.{count_of}
use Rattle.event_graph.specs.Afters.{id_after}
use Rattle.event_graph.specs.Keeping.{IsKeptOf}
use Rattle.event_graph.specs.declared.parts.After.{After}
use Rattle.event_graph.proofs.Admitted.{let_in}
use Rattle.event_graph.proofs.Appended.{kept_after}
use Rattle.event_graph.proofs.GoingOn.{some_before}
use Rattle.event_graph.proofs.Grown.{told}
use Rattle.event_graph.proofs.Kept.{length_events, length_parents, next_parents}
use Rattle.event_graph.proofs.Numbers.{number_next, numbered_ids}
use Rattle.event_graph.proofs.graph.Graph.append.Goals as goal

pub append-requires-clause-some : goal.append-requires-clause-some
append-requires-clause-some c =
    let now = c.args.self.now in
    let inside = c.self.inside in
    let kept : IsKeptOf now inside.ids inside.events inside.heads inside.cuts = subst (λ (h : List Event). IsKeptOf h inside.ids inside.events inside.heads inside.cuts) c.self.view_is c.self.invariant in
    let e = c.requires.next.0 in
    (e.id, ap (id_after c.args.after.now) kept.ids_are ∙ c.requires.next.1.id)

pub append-requires-clause-next : goal.append-requires-clause-next
append-requires-clause-next c x is =
    let now = c.args.self.now in
    let inside = c.self.inside in
    let kept : IsKeptOf now inside.ids inside.events inside.heads inside.cuts = subst (λ (h : List Event). IsKeptOf h inside.ids inside.events inside.heads inside.cuts) c.self.view_is c.self.invariant in
    let e = c.requires.next.0 in
    let next = c.requires.next.1 in
    let both : Some e.id ≡ Some x = sym (ap (id_after c.args.after.now) kept.ids_are ∙ next.id) ∙ is in
    let one : e.id ≡ x = cc in
    let number : e.id.seq ≡ count_of inside.ids e.id.agent = number_next now e (numbered_ids now kept.admitted) (let_in now e next.good.good) ∙ ap (λ (ids : List Id). count_of ids e.id.agent) (sym kept.ids_are) in
    subst (λ (y : Id). y.seq ≡ count_of inside.ids y.agent) one number

pub append-requires-clause-below : goal.append-requires-clause-below
append-requires-clause-below c =
    let now = c.args.self.now in
    let inside = c.self.inside in
    let kept : IsKeptOf now inside.ids inside.events inside.heads inside.cuts = subst (λ (h : List Event). IsKeptOf h inside.ids inside.events inside.heads inside.cuts) c.self.view_is c.self.invariant in
    let count : length (parent_positions now) ≡ length inside.events = length_parents now inside.ids inside.events inside.heads inside.cuts kept ∙ sym (length_events now inside.ids inside.events inside.heads inside.cuts kept) in
    subst (λ n. All (λ h. h < n) inside.heads) count (subst (All (λ h. h < length (parent_positions now))) (sym kept.heads_are) (frontier_below (parent_positions now)))

pub append-requires-clause-parents : goal.append-requires-clause-parents
append-requires-clause-parents c =
    let now = c.args.self.now in
    let inside = c.self.inside in
    let kept : IsKeptOf now inside.ids inside.events inside.heads inside.cuts = subst (λ (h : List Event). IsKeptOf h inside.ids inside.events inside.heads inside.cuts) c.self.view_is c.self.invariant in
    let e = c.requires.next.0 in
    let next = c.requires.next.1 in
    let count : length now ≡ length inside.events = sym (length_events now inside.ids inside.events inside.heads inside.cuts kept) in
    subst (λ n. AreParents n c.args.positions.now) count (subst (AreParents (length now)) (sym next.good.placed) (next_parents now e kept.admitted next.good.good))

pub append-requires-clause-few : goal.append-requires-clause-few
append-requires-clause-few c last =
    let now = c.args.self.now in
    let inside = c.self.inside in
    let kept : IsKeptOf now inside.ids inside.events inside.heads inside.cuts = subst (λ (h : List Event). IsKeptOf h inside.ids inside.events inside.heads inside.cuts) c.self.view_is c.self.invariant in
    let next = c.requires.next.1 in
    let some : 0 < length now = some_before now c.requires.next.0.id (subst (λ (a : After). id_after a (ids_of now) ≡ Some c.requires.next.0.id) last next.id) in
    subst (λ n. 0 < n) (sym (length_events now inside.ids inside.events inside.heads inside.cuts kept)) some

pub invariant_of-self-2 : goal.invariant_of-self-2
invariant_of-self-2 c =
    let now = c.args.self.now in
    let inside = c.self.inside in
    let kept : IsKeptOf now inside.ids inside.events inside.heads inside.cuts = subst (λ (h : List Event). IsKeptOf h inside.ids inside.events inside.heads inside.cuts) c.self.view_is c.self.invariant in
    let parts = c.append.new in
    let told_of = c.in_ok-append.ensures in
    let e = c.requires.next.0 in
    let all = kept_after now inside.ids inside.events inside.heads inside.cuts kept c.args.after.now c.args.positions.now c.args.op.now e c.requires.next.1 parts.ids parts.runs parts.heads parts.cuts told_of.ids told_of.runs told_of.heads told_of.cuts in
    subst (λ (h : List Event). IsKeptOf h parts.ids parts.runs parts.heads parts.cuts) (sym (told (now ++ e ∷ []) parts.ids parts.runs parts.heads parts.cuts all)) all

pub returns-clause-ok : goal.returns-clause-ok
returns-clause-ok c e next =
    let now = c.args.self.now in
    let inside = c.self.inside in
    let kept : IsKeptOf now inside.ids inside.events inside.heads inside.cuts = subst (λ (h : List Event). IsKeptOf h inside.ids inside.events inside.heads inside.cuts) c.self.view_is c.self.invariant in
    let parts = c.append.new in
    let told_of = c.in_ok-append.ensures in
    told (now ++ e ∷ []) parts.ids parts.runs parts.heads parts.cuts
    (kept_after now inside.ids inside.events inside.heads inside.cuts kept c.args.after.now c.args.positions.now c.args.op.now e next parts.ids parts.runs parts.heads parts.cuts told_of.ids told_of.runs told_of.heads told_of.cuts)
