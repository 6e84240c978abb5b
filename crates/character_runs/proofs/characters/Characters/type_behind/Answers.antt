use Rattle.std.proofs.Common.{◌≡◌, ◌<◌, ◌^◌, ◌≤◌, ◌+◌, true, false, Some, length, sym, ap, ◌∙◌, subst, arith}
use Rattle.std.specs.List.{list_any}
use Rattle.ew_model.specs.declared.node.Node.TheVariants.{Event}
use Rattle.fugue_place.specs.declared.neighbour.Place.{Place}
use Rattle.fugue_place.specs.declared.neighbour.Place.TheVariants.{After}
use Rattle.order_tree.specs.Pairs.{runs}
use Rattle.character_runs.specs.declared.cursor.Cursor.{Cursor}
use Rattle.character_runs.specs.Cursors.{AreKept, settled, last_of}
use Rattle.character_runs.specs.States.{is_of}
use Rattle.character_runs.specs.Laid.{InRuns, chars_in}
use Rattle.character_runs.specs.Loose.{loose_in}
use Rattle.character_runs.specs.Spots.{Comes}
use Rattle.character_runs.proofs.Counters.{visible_few, shown_few}
use Rattle.character_runs.proofs.Typing.{typed_at, most, short, long, comes, told, kept_more}
use Rattle.character_runs.proofs.characters.Characters.type_behind.Goals as goal

pub shown-at-requires : goal.shown-at-requires
shown-at-requires g c =
    let inside = c.self.inside in
    let le = short inside.runs.tree.pairs inside.runs.labels inside.visible inside.shown inside.cursor inside.pending c.self.invariant c.facts.ensures.rising c.in-Some.cursor c.in-Some.ensures.is c.args.child.now c.in-Some.ensures.goes_on in
    let few = c.self.invariant.counted.few in
    omega (arith, le, few)

pub overflow_add-self : goal.overflow_add-self
overflow_add-self g c =
    let inside = c.self.inside in
    let few = visible_few (settled inside.runs.tree.pairs inside.cursor) inside.runs.labels inside.visible inside.shown c.self.invariant.counted in
    omega (arith, few)

pub overflow_add-self-2 : goal.overflow_add-self-2
overflow_add-self-2 g c =
    let inside = c.self.inside in
    let few = shown_few (settled inside.runs.tree.pairs inside.cursor) inside.runs.labels inside.visible inside.shown c.self.invariant.counted in
    omega (arith, few)

pub typed-requires-clause-few : goal.typed-requires-clause-few
typed-requires-clause-few g c =
    let inside = c.self.inside in
    let le = most inside.runs.tree.pairs inside.runs.labels inside.visible inside.shown inside.cursor inside.pending c.self.invariant c.facts.ensures.rising c.in-Some.cursor c.in-Some.ensures.is c.args.child.now c.in-Some.ensures.goes_on in
    let run = long inside.runs.tree.pairs inside.runs.labels inside.visible inside.shown inside.cursor inside.pending c.self.invariant c.facts.ensures.rising c.in-Some.cursor c.in-Some.ensures.is c.args.child.now c.in-Some.ensures.goes_on in
    let few = visible_few (settled inside.runs.tree.pairs inside.cursor) inside.runs.labels inside.visible inside.shown c.self.invariant.counted in
    let is = c.self.invariant.counted.visible_is in
    omega (arith, le, run, few, is)

pub typed-requires-clause-index : goal.typed-requires-clause-index
typed-requires-clause-index g c =
    let inside = c.self.inside in
    let le = most inside.runs.tree.pairs inside.runs.labels inside.visible inside.shown inside.cursor inside.pending c.self.invariant c.facts.ensures.rising c.in-Some.cursor c.in-Some.ensures.is c.args.child.now c.in-Some.ensures.goes_on in
    let few = visible_few (settled inside.runs.tree.pairs inside.cursor) inside.runs.labels inside.visible inside.shown c.self.invariant.counted in
    let is = c.self.invariant.counted.visible_is in
    omega (arith, le, few, is)

pub invariant_of-self : goal.invariant_of-self
invariant_of-self g c =
    let inside = c.self.inside in
    let typed = c.typed.ensures in
    let next : c.typed.result ≡ typed_at c.in-Some.cursor c.args.child.now = λ i. record { label = typed.label i; run = typed.run i; before = typed.before i; index = typed.index i; struck = typed.struck i } in
    let old = chars_in (settled inside.runs.tree.pairs inside.cursor) in
    let new : list_any (is_of (Event c.args.child.now.position)) old ≡ false = ap (λ (s : InRuns). list_any (is_of (Event c.args.child.now.position)) s.records) c.self.view_is ∙ c.requires.new.unrecorded in
    let same = ap (λ (s : InRuns). length s.records) c.self.view_is in
    let room : length old < 2 ^ 25 = omega (arith, same, c.requires.new.room) in
    subst (λ (d : Cursor). AreKept c.settle_struck.new.runs.tree.pairs c.settle_struck.new.runs.labels (inside.visible + 1) (inside.shown + 1) (Some d) true) (sym next)
    (kept_more inside.runs.tree.pairs inside.runs.labels inside.visible inside.shown inside.cursor inside.pending c.self.invariant c.facts.ensures.rising c.in-Some.cursor c.in-Some.ensures.is c.args.child.now c.in-Some.ensures.goes_on c.settle_struck.new.runs.tree.pairs c.settle_struck.new.runs.labels c.settle_struck.ensures.end c.settle_struck.ensures.labels c.settle_struck.ensures.own new room)

pub returns-clause-comes : goal.returns-clause-comes
returns-clause-comes g c =
    let inside = c.self.inside in
    let typed = c.typed.ensures in
    let next : c.typed.result ≡ typed_at c.in-Some.cursor c.args.child.now = λ i. record { label = typed.label i; run = typed.run i; before = typed.before i; index = typed.index i; struck = typed.struck i } in
    let new = chars_in (settled c.settle_struck.new.runs.tree.pairs (Some c.typed.result)) in
    let place = c.in-Some.ensures.place in
    rw c.shown-at.ensures (subst (λ (s : InRuns). Comes s.records new c.args.place c.args.child.now.position (c.in-Some.cursor.before + c.in-Some.cursor.run.len)) c.self.view_is
    (subst (λ (p : Place). Comes (chars_in (settled inside.runs.tree.pairs inside.cursor)) new p c.args.child.now.position (c.in-Some.cursor.before + c.in-Some.cursor.run.len)) (sym place)
    (subst (λ (d : Cursor). Comes (chars_in (settled inside.runs.tree.pairs inside.cursor)) (chars_in (settled c.settle_struck.new.runs.tree.pairs (Some d))) (After (last_of c.in-Some.cursor.run)) c.args.child.now.position (c.in-Some.cursor.before + c.in-Some.cursor.run.len)) (sym next)
    (comes inside.runs.tree.pairs inside.runs.labels inside.visible inside.shown inside.cursor inside.pending c.self.invariant c.facts.ensures.rising c.in-Some.cursor c.in-Some.ensures.is c.args.child.now c.in-Some.ensures.goes_on c.settle_struck.new.runs.tree.pairs c.settle_struck.new.runs.labels c.settle_struck.ensures.end c.settle_struck.ensures.labels c.settle_struck.ensures.own))))

pub returns-clause-told : goal.returns-clause-told
returns-clause-told g c = λ among e.
    let inside = c.self.inside in
    let typed = c.typed.ensures in
    let next : c.typed.result ≡ typed_at c.in-Some.cursor c.args.child.now = λ i. record { label = typed.label i; run = typed.run i; before = typed.before i; index = typed.index i; struck = typed.struck i } in
    subst (λ (s : InRuns). loose_in among (runs (settled c.settle_struck.new.runs.tree.pairs (Some c.typed.result))) ≤ loose_in among s.runs) c.self.view_is
    (subst (λ (d : Cursor). loose_in among (runs (settled c.settle_struck.new.runs.tree.pairs (Some d))) ≤ loose_in among (runs (settled inside.runs.tree.pairs inside.cursor))) (sym next)
    (told inside.runs.tree.pairs inside.runs.labels inside.visible inside.shown inside.cursor inside.pending c.self.invariant c.facts.ensures.rising c.in-Some.cursor c.in-Some.ensures.is c.args.child.now c.in-Some.ensures.goes_on c.settle_struck.new.runs.tree.pairs c.settle_struck.new.runs.labels c.settle_struck.ensures.end c.settle_struck.ensures.labels c.settle_struck.ensures.own among e))
