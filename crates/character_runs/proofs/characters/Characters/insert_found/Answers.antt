use Rattle.std.proofs.Common.{◌<◌, ◌^◌, length, refl, ap, ◌∙◌, arith}
use Rattle.character_runs.specs.Cursors.{settled}
use Rattle.character_runs.specs.Laid.{InRuns, in_runs, chars_in}
use Rattle.character_runs.proofs.Counters.{visible_few, shown_few, counted_more}
use Rattle.character_runs.proofs.Settled.{now_counted}
use Rattle.character_runs.proofs.characters.Characters.insert_found.Goals as goal

pub overflow_add-self : goal.overflow_add-self
overflow_add-self g c =
    let inside = c.self.inside in
    let few = visible_few (settled inside.runs.tree.pairs inside.cursor) inside.runs.labels inside.visible inside.shown c.self.invariant.counted in
    omega (arith, few)

pub overflow_add-self-2 : goal.overflow_add-self-2
overflow_add-self-2 g c =
    let inside = c.self.inside in
    let few = shown_few (settled inside.runs.tree.pairs inside.cursor) inside.runs.labels inside.visible inside.shown c.self.invariant.counted in
    omega (arith, few)

pub invariant_of-self-2 : goal.invariant_of-self-2
invariant_of-self-2 g c =
    let inside = c.self.inside in
    let was = c.settle.new.runs in
    let new = c.insert.new.self in
    let same = ap (λ (s : InRuns). length s.records) (ap in_runs c.settle.ensures.pairs ∙ c.self.view_is) in
    let room : length (chars_in was.tree.pairs) < 2 ^ 25 = omega (arith, same, c.requires.new.room) in
    let counted = counted_more was.tree.pairs was.labels inside.visible inside.shown (now_counted inside.runs.tree.pairs c.settle.new.runs.tree.pairs inside.runs.labels c.settle.new.runs.labels inside.visible inside.shown inside.cursor inside.pending c.self.invariant c.settle.ensures.pairs c.settle.ensures.labels) new.tree.pairs new.labels c.args.place c.args.child.now.position c.in_ok-at.at c.insert.ensures.laid c.in_ok-at.ensures.comes room in
    record { counted = counted; cursor = tt; told = λ e. refl; few = counted.few }
