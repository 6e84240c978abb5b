use Rattle.std.proofs.Common.{◌≡◌, ◌<◌, ◌+◌, List, Some, ap, ◌∙◌, sym, arith}
use Rattle.walker_record.specs.Stretches.{Stretch, node_on}
use Rattle.order_tree.specs.Pairs.{greater}
use Rattle.character_runs.specs.declared.runs.Counted.{Counted}
use Rattle.character_runs.specs.Laid.{chars_in}
use Rattle.character_runs.specs.Spots.{first_known}
use Rattle.character_runs.proofs.KnownRuns.{behind_known, behind_unknown, behind_end}
use Rattle.character_runs.proofs.runs.Runs.known_behind.Goals as goal

pub returns-then-found-eq0 : goal.returns-then-found-eq0
returns-then-found-eq0 g c =
    let f = c.args.found.now in
    let rest : List Stretch = chars_in (greater c.args.self.now.tree.pairs f.spot.label) in
    let none = ap (λ (x : Counted). x.run.prepared) c.found.view_is in
    let unknown = c.if-found-eq0.true in
    let inside = c.requires in
    c.first_known.ensures ∙ ap (λ (x : Counted). first_known (chars_in (greater c.args.self.now.tree.pairs x.spot.label))) c.found.view_is
    ∙ sym (behind_unknown f.run (f.spot.offset + 1) rest (omega (arith, none, unknown)) (omega (arith, inside)))

pub returns-in-Some : goal.returns-in-Some
returns-in-Some g c =
    let f = c.args.found.now in
    let rest : List Stretch = chars_in (greater c.args.self.now.tree.pairs f.spot.label) in
    let some = ap (λ (x : Counted). x.run.prepared) c.found.view_is in
    let known = c.if-found-eq0.false in
    let same = ap (λ (x : Counted). x.spot.offset) c.found.view_is in
    let inside = c.in-Some.ensures.inside in
    let lt : f.spot.offset + 1 < f.run.len = omega (arith, inside, same) in
    ap Some (c.in-Some.ensures.some ∙ ap (λ n. node_on f.run.from (n + 1)) same)
    ∙ sym (behind_known f.run (f.spot.offset + 1) rest (omega (arith, some, known)) lt)

pub returns-in-None : goal.returns-in-None
returns-in-None g c =
    let f = c.args.found.now in
    let rest : List Stretch = chars_in (greater c.args.self.now.tree.pairs f.spot.label) in
    let same = ap (λ (x : Counted). x.spot.offset) c.found.view_is in
    let last = c.in-None.ensures.none in
    let end : f.run.len ≡ f.spot.offset + 1 = omega (arith, last, same) in
    c.first_known-in-None.ensures ∙ ap (λ (x : Counted). first_known (chars_in (greater c.args.self.now.tree.pairs x.spot.label))) c.found.view_is
    ∙ sym (behind_end f.run (f.spot.offset + 1) rest (omega (arith, end)) (omega (arith, end)))
