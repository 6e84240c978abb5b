use Rattle.std.proofs.Common.{◌≡◌, ◌∙◌, ◌<◌, IfOk, List, ap, arith, length, subst, sym, All}
use Rattle.std.proofs.lemmas.List.{length-map}
use Rattle.ew_model.specs.Positions.{known_positions, parent_positions, positions_in}
use Rattle.ew_model.specs.declared.event.Event.{Event}
use Rattle.ancestors.specs.Spans.{positions_of}
use Rattle.event_graph.specs.Finding.{found_in}
use Rattle.event_graph.proofs.Subgraphs.{ArePartOf, found_within, part_found, version_is_part}
use Rattle.event_graph.proofs.graph.Graph.subgraph.Goals as goal
use Rattle.event_graph.proofs.graph.Graph.subgraph.Goals.{After-as_slice-2}

pub closure-requires : goal.closure-requires
closure-requires c =
    let now = c.args.self.now in
    subst (All (λ p. p < length (parent_positions now))) (sym (c.as_slice.ensures.value ∙ c.in_ok-named.ensures))
    (subst (λ n. All (λ p. p < n) (found_in now c.args.version.now)) (sym (length-map now (λ (e : Event). positions_in now e.parents))) (found_within now c.args.version.now))

-- the spans are those of the version
part : (c : After-as_slice-2) → ArePartOf c.args.self.now c.args.version.now (positions_of c.as_slice-2.result.now)
part c =
    let now = c.args.self.now in
    part_found now c.args.version.now (positions_of c.as_slice-2.result.now) c.count-count.ensures.admitted
    (ap positions_of c.as_slice-2.ensures.spans ∙ c.in_ok-spans.ensures.positions ∙ ap (known_positions (parent_positions now)) (c.as_slice.ensures.value ∙ c.in_ok-named.ensures))

pub part_of-requires : goal.part_of-requires
part_of-requires c =
    let p = part c in
    record { within = p.within; admitted = p.admitted; few = let h = c.count-count.type_inv in let k = p.few in let n = c.count-count.ensures.count in omega (arith, h, k, n) }

pub returns-clause-filter : goal.returns-clause-filter
returns-clause-filter c =
    subst (λ (es : List Event). IfOk c.part_of.result (λ p. p ≡ es)) (part (goal.at.returns-clause-filter c).After-as_slice-2).events c.part_of.ensures

pub returns-clause-events : goal.returns-clause-events
returns-clause-events c =
    subst (λ (es : List Event). IfOk c.part_of.result (λ p. p ≡ es)) (sym (version_is_part c.args.self.now c.args.version.now c.count-count.ensures.admitted)) (returns-clause-filter c)
