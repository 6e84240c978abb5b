use Rattle.std.proofs.Common.{ℕ, sym}
use Rattle.character_runs.specs.Laid.{Stands, chars_in}
use Rattle.character_runs.proofs.CharPlaces.{none_of}
use Rattle.character_runs.proofs.KnownNodes.{known_nowhere}
use Rattle.character_runs.proofs.Replaced.{none_changed}
use Rattle.character_runs.proofs.runs.Runs.change.Goals as goal

pub returns-in_default-clause-chars : goal.returns-in_default-clause-chars
returns-in_default-clause-chars g c =
    let ps = c.args.self.now.tree.pairs in
    let nowhere : (label n : ℕ) → Stands ps label n c.args.node → ⊥ = c.in_default.ensures.none in
    sym (none_changed (chars_in ps) c.args.node c.args.change (none_of ps c.args.node nowhere))

pub returns-in_default-clause-was : goal.returns-in_default-clause-was
returns-in_default-clause-was g c = known_nowhere c.args.node c.args.self.now.tree.pairs c.in_default.ensures.none

pub returns-in_default-clause-is : goal.returns-in_default-clause-is
returns-in_default-clause-is g c = known_nowhere c.args.node c.args.self.now.tree.pairs c.in_default.ensures.none
