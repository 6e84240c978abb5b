use Rattle.std.proofs.Common.{◌≡◌, ◌∙◌, ◌<◌, All, Bool, List, ℕ, IfOk, sym, ap, subst}
use Rattle.std.proofs.lemmas.List.{length-map}
use Rattle.ew_model.specs.declared.event.Event.{Event}
use Rattle.ew_model.specs.Ids.{is_among}
use Rattle.ew_model.specs.Ancestors.{ancestors}
use Rattle.ew_model.specs.Positions.{is_known_at, parent_positions, positions_in}
use Rattle.event_graph.proofs.Admitted.{agrees}
use Rattle.event_graph.proofs.IdRows.{not_known}
use Rattle.event_graph.proofs.Kept.{positions_there}
use Rattle.event_graph.proofs.Places.{found_event}
use Rattle.event_graph.proofs.graph.Graph.knows.Goals as goal

pub knows_at-requires-clause-positions : goal.knows_at-requires-clause-positions
knows_at-requires-clause-positions c =
    let now = c.args.self.now in
    subst (λ n. All (λ p. p < n) c.args.positions.now) (length-map now (λ (e : Event). positions_in now e.parents)) (positions_there now c.args.named.now c.args.positions.now c.requires)

pub returns-in-Some : goal.returns-in-Some
returns-in-Some c =
    let now = c.args.self.now in
    let f = found_event now c.args.id.now c.in-Some.position (sym c.in-Some.ensures.value) in
    let same : is_known_at (parent_positions now) c.args.positions.now c.in-Some.position ≡ is_among (ancestors now c.args.named.now) c.args.id.now =
    ap (λ (ps : List ℕ). is_known_at (parent_positions now) ps c.in-Some.position) c.requires
    ∙ (agrees now c.count-count.ensures.admitted).known c.args.named.now c.in-Some.position f.0 f.1
    ∙ ap (is_among (ancestors now c.args.named.now)) (sym f.2) in
    subst (λ (x : Bool). IfOk c.knows_at.result (λ b. b ≡ x)) same c.knows_at.ensures

pub returns-in-None : goal.returns-in-None
returns-in-None c = sym (not_known c.args.self.now c.args.named.now c.args.id.now (sym c.in-None.ensures.value))
