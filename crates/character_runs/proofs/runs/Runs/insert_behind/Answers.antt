use Rattle.std.proofs.Common.{◌≡◌, ◌≤◌, Bool, true, length, inl, refl, arith}
use Rattle.ew_model.specs.declared.node.Node.{Node}
use Rattle.ew_model.specs.declared.node.Node.TheVariants.{Event}
use Rattle.fugue_place.specs.declared.neighbour.Place.TheVariants.{After}
use Rattle.order_tree.specs.Pairs.{up_to, runs}
use Rattle.character_runs.specs.Entering.{EntersAt}
use Rattle.character_runs.specs.Laid.{chars_in}
use Rattle.character_runs.specs.Loose.{loose_in, loose_parted}
use Rattle.character_runs.specs.Spots.{Comes}
use Rattle.character_runs.proofs.Entered.{if_ok_then, comes_behind}
use Rattle.character_runs.proofs.LooseEntries.{behind_told}
use Rattle.character_runs.proofs.Parting.{last_ends}
use Rattle.character_runs.proofs.runs.Runs.insert_behind.Goals as goal
use Rattle.ew_model.proofs.Outcomes.{on_ok_then}

pub returns-in-Some-clause-comes : goal.returns-in-Some-clause-comes
returns-in-Some-clause-comes g c =
    let ps = c.args.self.now.tree.pairs in
    let rising = c.facts.ensures.rising in
    let node = c.args.node in
    let label = c.in-Some.found.spot.label in
    let offset = c.in-Some.found.spot.offset in
    let s = c.in-Some.ensures.some in
    let last = c.in-Some.ensures.last in
    let ends = last_ends ps c.args.self.now.labels c.requires.laid rising node label offset c.in-Some.found.run s c.in-Some.ensures.held (omega (arith, last)) in
    let old = chars_in ps in
    let new = chars_in c.lengthen.new.self.tree.pairs in
    if_ok_then c.lengthen.result (EntersAt old new c.args.child.now (length (chars_in (up_to ps label)))) (Comes old new (After node) c.args.child.now.position)
    (λ m e. comes_behind ps rising old new refl c.args.child.now node m label offset s ends e) c.lengthen.ensures.enters

pub returns-in-Some-clause-told : goal.returns-in-Some-clause-told
returns-in-Some-clause-told g c =
    let ps = c.args.self.now.tree.pairs in
    let label = c.in-Some.found.spot.label in
    let offset = c.in-Some.found.spot.offset in
    let new = runs c.lengthen.new.self.tree.pairs in
    on_ok_then c.lengthen.result ((among : Node → Bool) → among (Event c.args.child.now.position) ≡ true → loose_in among new ≤ loose_parted among (runs ps) (length (up_to ps label)))
    ((among : Node → Bool) → among (Event c.args.child.now.position) ≡ true → loose_in among new ≤ loose_in among (runs ps))
    (λ h among e.
    let le = h among e in
    let told = behind_told among ps c.args.self.now.labels c.requires.laid c.facts.ensures.rising (runs ps) c.args.node label offset c.in-Some.ensures.some (inl refl) in
    omega (arith, le, told)) c.lengthen.ensures.told
