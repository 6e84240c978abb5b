use Rattle.std.proofs.Common.{ℕ, ◌+◌, sym, ap, ◌∙◌, subst, arith}
use Rattle.ew_model.specs.declared.node.Node.{Node}
use Rattle.ew_model.specs.declared.text_op.TextOp.{TextOp}
use Rattle.walker_record.specs.Stretches.{Stretch, HasNumbers, node_on, effect_of}
use Rattle.order_tree.specs.Pairs.{lower, total}
use Rattle.character_runs.specs.Cursors.{settled}
use Rattle.character_runs.specs.Deleting.{struck_each, deletion_op}
use Rattle.character_runs.specs.States.{visible_in, deletion_by}
use Rattle.character_runs.specs.Laid.{InRuns, in_runs, chars_in}
use Rattle.character_runs.specs.Spots.{IsDeletion}
use Rattle.character_runs.proofs.FoundDeletions.{deletions_here}
use Rattle.character_runs.proofs.PartedRuns.{same_run}
use Rattle.character_runs.proofs.Pending.{found_few}
use Rattle.character_runs.proofs.RunChars.{visible-chars}
use Rattle.character_runs.proofs.Settled.{kept_again, settled_rising}
use Rattle.character_runs.proofs.VisiblePlaces.{shown_place, deletion_is}
use Rattle.character_runs.proofs.characters.Characters.deletions_by.Goals as goal

pub find-found-requires-clause-within : goal.find-found-requires-clause-within
find-found-requires-clause-within g c =
    let same = ap (λ (s : InRuns). visible_in s.records) c.self.view_is in
    let sum = visible-chars (settled c.self.inside.runs.tree.pairs c.self.inside.cursor) in
    omega (arith, c.requires.within, same, sum)

pub index-requires : goal.index-requires
index-requires g c =
    let inside = c.self.inside in
    let found = c.find-found in
    let ps = settled inside.runs.tree.pairs inside.cursor in
    let few = found_few ps found.result.spot.label found.result.spot.offset found.result.run (settled_rising inside.runs.tree.pairs inside.cursor c.facts.ensures.rising) found.ensures.held found.ensures.inside in
    let most = c.self.invariant.counted.few in
    let before = found.ensures.before in
    omega (arith, few, most, before)

pub returns-clause-deletions : goal.returns-clause-deletions
returns-clause-deletions g c k few =
    let found = c.find-found in
    let spot = found.result.spot in
    let ps = settled c.self.inside.runs.tree.pairs c.self.inside.cursor in
    let rising = settled_rising c.self.inside.runs.tree.pairs c.self.inside.cursor c.facts.ensures.rising in
    let is = found.ensures.place in
    let run = same_run ps spot.label found.result.run is.run rising found.ensures.held is.held in
    let long = ap (λ (r : Stretch). r.len) run in
    let inside = found.ensures.inside in
    let within = c.count.ensures.is in
    let first = c.node.ensures ∙ ap (λ (r : Stretch). node_on r.from spot.offset) run in
    let op = c.index.ensures ∙ ap (λ (n : ℕ). deletion_by found.result.run.effect (n + spot.offset)) found.ensures.before ∙ ap (λ (r : Stretch). deletion_by r.effect (total effect_of (lower ps spot.label) + spot.offset)) run
    ∙ deletion_is is.run.effect (total effect_of (lower ps spot.label)) spot.offset
    ∙ ap (deletion_by is.run.effect) (sym (shown_place ps c.args.at spot.label spot.offset rising is)) in
    subst (λ (s : InRuns). IsDeletion (struck_each s.records c.node.result k) c.args.at (record { node = node_on c.node.result k; op = deletion_op c.index.result })) c.self.view_is
    (subst (λ (v : Node). IsDeletion (struck_each (chars_in ps) v k) c.args.at (record { node = node_on v k; op = deletion_op c.index.result })) (sym first)
    (subst (λ (o : TextOp). IsDeletion (struck_each (chars_in ps) (node_on is.run.from spot.offset) k) c.args.at (record { node = node_on (node_on is.run.from spot.offset) k; op = o })) (sym op)
    (deletions_here ps c.self.inside.runs.labels c.self.invariant.counted.labelled rising c.args.at spot.label spot.offset is k (omega (arith, few, long, inside, within)))))

pub invariant_of-self : goal.invariant_of-self
invariant_of-self g c =
    let inside = c.self.inside in
    let now = c.find-found.new in
    let found = c.find-found.ensures in
    kept_again inside.runs.tree.pairs now.runs.tree.pairs inside.runs.labels now.runs.labels inside.visible inside.shown inside.cursor now.cursor inside.pending now.pending c.self.invariant found.same found.labels found.cursor found.told found.own

pub returns-clause-same : goal.returns-clause-same
returns-clause-same g c = ap in_runs c.find-found.ensures.same ∙ c.self.view_is

pub returns-clause-numbers : goal.returns-clause-numbers
returns-clause-numbers g c = subst (λ (v : Node). HasNumbers v c.count.result) (sym c.node.ensures) c.count.ensures.numbers
