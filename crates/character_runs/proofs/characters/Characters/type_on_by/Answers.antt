use Rattle.std.proofs.Common.{ℕ, ◌^◌, ◌≤◌, ◌+◌, true, Some, length, sym, ap, ◌∙◌, subst, arith}
use Rattle.std.specs.List.{list_any}
use Rattle.ew_model.specs.declared.node.Node.TheVariants.{Event}
use Rattle.order_tree.specs.Pairs.{runs}
use Rattle.character_runs.specs.declared.cursor.Cursor.{Cursor}
use Rattle.character_runs.specs.Cursors.{AreKept, settled}
use Rattle.character_runs.specs.States.{is_of}
use Rattle.character_runs.specs.Laid.{InRuns, chars_in}
use Rattle.character_runs.specs.Loose.{loose_in}
use Rattle.character_runs.specs.Spots.{ComeEach}
use Rattle.character_runs.proofs.Counters.{visible_few, shown_few}
use Rattle.character_runs.proofs.TypedOn.{index_few, run_few, text_few, kept_typed, come_typed, told_typed}
use Rattle.character_runs.proofs.characters.Characters.type_on_by.Goals as goal

pub shown-first-requires : goal.shown-first-requires
shown-first-requires g c =
    let inside = c.self.inside in
    let le = text_few inside.runs.tree.pairs inside.runs.labels inside.visible inside.shown inside.cursor inside.pending c.self.invariant c.facts.ensures.rising c.in_ok-cursor.cursor c.in_ok-cursor.ensures.is in
    let few = shown_few (settled inside.runs.tree.pairs inside.cursor) inside.runs.labels inside.visible inside.shown c.self.invariant.counted in
    record { few = omega (arith, le, few) }

pub overflow_add-self : goal.overflow_add-self
overflow_add-self g c =
    let inside = c.self.inside in
    let few = visible_few (settled inside.runs.tree.pairs inside.cursor) inside.runs.labels inside.visible inside.shown c.self.invariant.counted in
    omega (arith, few, c.requires.room)

pub overflow_add-self-2 : goal.overflow_add-self-2
overflow_add-self-2 g c =
    let inside = c.self.inside in
    let few = shown_few (settled inside.runs.tree.pairs inside.cursor) inside.runs.labels inside.visible inside.shown c.self.invariant.counted in
    omega (arith, few, c.requires.room)

pub longer-requires-clause-few : goal.longer-requires-clause-few
longer-requires-clause-few g c =
    let inside = c.self.inside in
    let low = index_few inside.runs.tree.pairs inside.runs.labels inside.visible inside.shown inside.cursor inside.pending c.self.invariant c.facts.ensures.rising c.in_ok-cursor.cursor c.in_ok-cursor.ensures.is in
    let le = run_few inside.runs.tree.pairs inside.runs.labels inside.visible inside.shown inside.cursor inside.pending c.self.invariant c.facts.ensures.rising c.in_ok-cursor.cursor c.in_ok-cursor.ensures.is in
    let few = visible_few (settled inside.runs.tree.pairs inside.cursor) inside.runs.labels inside.visible inside.shown c.self.invariant.counted in
    omega (arith, low, le, few, c.requires.room)

pub longer-requires-clause-index : goal.longer-requires-clause-index
longer-requires-clause-index g c =
    let inside = c.self.inside in
    let low = index_few inside.runs.tree.pairs inside.runs.labels inside.visible inside.shown inside.cursor inside.pending c.self.invariant c.facts.ensures.rising c.in_ok-cursor.cursor c.in_ok-cursor.ensures.is in
    let few = visible_few (settled inside.runs.tree.pairs inside.cursor) inside.runs.labels inside.visible inside.shown c.self.invariant.counted in
    omega (arith, low, few, c.requires.room)

pub invariant_of-self : goal.invariant_of-self
invariant_of-self g c =
    let inside = c.self.inside in
    let cursor = c.in_ok-cursor.cursor in
    let room : length (chars_in (settled inside.runs.tree.pairs inside.cursor)) + c.args.count ≤ 2 ^ 25 = let same = ap (λ (s : InRuns). length s.records) c.self.view_is in omega (arith, same, c.requires.room) in
    subst (λ (d : Cursor). AreKept c.settle_struck.new.runs.tree.pairs c.settle_struck.new.runs.labels (inside.visible + c.args.count) (inside.shown + c.args.count) (Some d) true) (sym c.longer.ensures)
    (kept_typed inside.runs.tree.pairs inside.runs.labels inside.visible inside.shown inside.cursor inside.pending c.self.invariant cursor c.in_ok-cursor.ensures.is c.args.newest c.in_ok-cursor.ensures.last
    c.settle_struck.new.runs.tree.pairs c.settle_struck.new.runs.labels c.settle_struck.ensures.end c.settle_struck.ensures.labels c.settle_struck.ensures.own c.facts-2.ensures.rising c.args.count
    (λ k lt. ap (λ (s : InRuns). list_any (is_of (Event (c.args.newest + k + 1))) s.records) c.self.view_is ∙ c.requires.unrecorded k lt) room)

pub returns-clause-come : goal.returns-clause-come
returns-clause-come g c =
    let inside = c.self.inside in
    let cursor = c.in_ok-cursor.cursor in
    let room : length (chars_in (settled inside.runs.tree.pairs inside.cursor)) + c.args.count ≤ 2 ^ 25 = let same = ap (λ (s : InRuns). length s.records) c.self.view_is in omega (arith, same, c.requires.room) in
    let new = chars_in (settled c.settle_struck.new.runs.tree.pairs (Some c.longer.result)) in
    subst (ComeEach c.args.self.now.records new c.args.newest c.args.at c.args.count) (sym c.shown-first.ensures)
    (subst (λ (n : ℕ). ComeEach c.args.self.now.records new c.args.newest n c.args.count (cursor.before + cursor.run.len)) c.in_ok-cursor.ensures.index
    (subst (λ (s : InRuns). ComeEach s.records new c.args.newest cursor.index c.args.count (cursor.before + cursor.run.len)) c.self.view_is
    (subst (λ (d : Cursor). ComeEach (chars_in (settled inside.runs.tree.pairs inside.cursor)) (chars_in (settled c.settle_struck.new.runs.tree.pairs (Some d))) c.args.newest cursor.index c.args.count (cursor.before + cursor.run.len)) (sym c.longer.ensures)
    (come_typed inside.runs.tree.pairs inside.runs.labels inside.visible inside.shown inside.cursor inside.pending c.self.invariant cursor c.in_ok-cursor.ensures.is c.args.newest c.in_ok-cursor.ensures.last
    c.settle_struck.new.runs.tree.pairs c.settle_struck.new.runs.labels c.settle_struck.ensures.end c.settle_struck.ensures.labels c.settle_struck.ensures.own c.facts-2.ensures.rising c.args.count
    (λ k lt. ap (λ (s : InRuns). list_any (is_of (Event (c.args.newest + k + 1))) s.records) c.self.view_is ∙ c.requires.unrecorded k lt) room))))

pub returns-clause-told : goal.returns-clause-told
returns-clause-told g c = λ among e.
    let inside = c.self.inside in
    let cursor = c.in_ok-cursor.cursor in
    let room : length (chars_in (settled inside.runs.tree.pairs inside.cursor)) + c.args.count ≤ 2 ^ 25 = let same = ap (λ (s : InRuns). length s.records) c.self.view_is in omega (arith, same, c.requires.room) in
    subst (λ (s : InRuns). loose_in among (runs (settled c.settle_struck.new.runs.tree.pairs (Some c.longer.result))) ≤ loose_in among s.runs) c.self.view_is
    (subst (λ (d : Cursor). loose_in among (runs (settled c.settle_struck.new.runs.tree.pairs (Some d))) ≤ loose_in among (runs (settled inside.runs.tree.pairs inside.cursor))) (sym c.longer.ensures)
    (told_typed inside.runs.tree.pairs inside.runs.labels inside.visible inside.shown inside.cursor inside.pending c.self.invariant cursor c.in_ok-cursor.ensures.is c.args.newest c.in_ok-cursor.ensures.last
    c.settle_struck.new.runs.tree.pairs c.settle_struck.new.runs.labels c.settle_struck.ensures.end c.settle_struck.ensures.labels c.settle_struck.ensures.own c.facts-2.ensures.rising c.args.count
    (λ k lt. ap (λ (s : InRuns). list_any (is_of (Event (c.args.newest + k + 1))) s.records) c.self.view_is ∙ c.requires.unrecorded k lt) room among e))

pub returns-clause-few : goal.returns-clause-few
returns-clause-few g c =
    let inside = c.self.inside in
    let le = text_few inside.runs.tree.pairs inside.runs.labels inside.visible inside.shown inside.cursor inside.pending c.self.invariant c.facts.ensures.rising c.in_ok-cursor.cursor c.in_ok-cursor.ensures.is in
    let few = shown_few (settled inside.runs.tree.pairs inside.cursor) inside.runs.labels inside.visible inside.shown c.self.invariant.counted in
    omega (arith, le, few, c.shown-first.ensures)
