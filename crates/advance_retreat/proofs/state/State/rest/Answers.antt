use Rattle.std.proofs.Common.{◌≡◌, List, [], map, sym, ap, ◌∙◌, subst}
use Rattle.walker_record.specs.Stretches.{Stretch}
use Rattle.fugue_place.specs.declared.child.Attached.{Attached}
use Rattle.advance_retreat.specs.Kept.{Kept}
use Rattle.character_runs.specs.Resting.{rested}
use Rattle.right_children.specs.Rights.{HangWithin}
use Rattle.advance_retreat.specs.Standing.{StandsFor}
use Rattle.advance_retreat.proofs.Moving.{with_records}
use Rattle.advance_retreat.proofs.Resting.{rested_stands, hang_within}
use Rattle.advance_retreat.proofs.state.State.rest.Goals as goal

pub rest-requires-clause-within : goal.rest-requires-clause-within
rest-requires-clause-within g c =
    let q = c.requires.stands in
    subst (λ (s : Kept). HangWithin c.args.at.from c.args.at.to s.attached) (sym c.self.view_is) (hang_within c.args.self.now q.0 q.1 q.2 q.3 c.args.at c.requires.within)

pub returns-clause-rests : goal.returns-clause-rests
returns-clause-rests g c = λ b events prepared st.
    let inside = c.self.inside in
    let records : c.rest.new.self.records ≡ map rested inside.tree.records = c.rest.ensures.records in
    let build : List Stretch → List Attached → Kept = λ rs xs. record { base = inside.base; records = rs; attached = xs; targets = inside.targets; lost = inside.lost } in
    let view : build c.rest.new.self.records c.rest.new.self.attached ≡ with_records c.args.self.now (map rested c.args.self.now.records) =
    (λ i. build (records i) (c.rest.ensures.attached i)) ∙ ap (λ (s : Kept). with_records s (map rested s.records)) c.self.view_is in
    subst (λ (s : Kept). StandsFor s b events []) (sym view) (rested_stands c.args.self.now b events prepared st)
