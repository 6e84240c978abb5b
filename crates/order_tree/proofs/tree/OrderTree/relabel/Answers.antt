use Rattle.std.proofs.Common.{◌≡◌, ℕ, ◌+◌, ◌-◌, ◌/◌, ◌<◌, ◌^◌, ◌++◌, List, length, refl, sym, ap, ◌∙◌, arith}
use Rattle.std.specs.Prelude.{zip}
use Rattle.order_tree.specs.Pairs.{Tree, labels, runs}
use Rattle.order_tree.specs.Relabels.{relabelled, renamed}
use Rattle.order_tree.specs.Whole.{tree_of}
use Rattle.order_tree.proofs.SpreadLaws.{step_two, reached_small, spread, room, runs-relabelled, zip-relabelled, whole_relabelled}
use Rattle.order_tree.proofs.tree.OrderTree.relabel.Goals as goal

pub relabel_root-requires-clause-small : goal.relabel_root-requires-clause-small
relabel_root-requires-clause-small g c =
    let old = tree_of c.self.inside.root in
    let step = 18446744073709551615 / (c.from.result + 1) in
    let step_is : step ≡ (2 ^ 64 - 1) / (length old.pairs + 1) = ap (λ (n : ℕ). (2 ^ 64 - 1) / (n + 1)) (c.from.ensures ∙ c.self.invariant.counted) in
    let few : length old.pairs < 2 ^ 32 = omega (arith, c.self.invariant.counted) in
    omega (arith, reached_small step old.pairs (relabelled step 0 old.pairs) refl step_is few)

pub invariant_of-self-2 : goal.invariant_of-self-2
invariant_of-self-2 g c =
    let old = tree_of c.self.inside.root in
    let step = 18446744073709551615 / (c.from.result + 1) in
    let step_is : step ≡ (2 ^ 64 - 1) / (length old.pairs + 1) = ap (λ (n : ℕ). (2 ^ 64 - 1) / (n + 1)) (c.from.ensures ∙ c.self.invariant.counted) in
    let few : length old.pairs < 2 ^ 32 = omega (arith, c.self.invariant.counted) in
    let new = tree_of c.relabel_root.new.root in
    let is = c.relabel_root.ensures.pairs in
    whole_relabelled g.R.Run c.self.inside.runs step old new c.self.invariant is c.relabel_root.ensures.depth (step_two step old.pairs new.pairs is step_is few) (omega (arith, reached_small step old.pairs new.pairs is step_is few))

pub returns-clause-runs : goal.returns-clause-runs
returns-clause-runs g c =
    let old = tree_of c.self.inside.root in
    let step = 18446744073709551615 / (c.from.result + 1) in
    let new = tree_of c.relabel_root.new.root in
    let is = c.relabel_root.ensures.pairs in
    ap (λ (ps : List (ℕ × _)). runs ps) is ∙ runs-relabelled step 0 old.pairs ∙ ap (λ (t : Tree _). runs t.pairs) c.self.view_is

pub returns-clause-spread : goal.returns-clause-spread
returns-clause-spread g c =
    let old = tree_of c.self.inside.root in
    let step = 18446744073709551615 / (c.from.result + 1) in
    let step_is : step ≡ (2 ^ 64 - 1) / (length old.pairs + 1) = ap (λ (n : ℕ). (2 ^ 64 - 1) / (n + 1)) (c.from.ensures ∙ c.self.invariant.counted) in
    let few : length old.pairs < 2 ^ 32 = omega (arith, c.self.invariant.counted) in
    let new = tree_of c.relabel_root.new.root in
    let is = c.relabel_root.ensures.pairs in
    spread step old.pairs new.pairs is step_is few

pub returns-clause-room : goal.returns-clause-room
returns-clause-room g c =
    let old = tree_of c.self.inside.root in
    let step = 18446744073709551615 / (c.from.result + 1) in
    let step_is : step ≡ (2 ^ 64 - 1) / (length old.pairs + 1) = ap (λ (n : ℕ). (2 ^ 64 - 1) / (n + 1)) (c.from.ensures ∙ c.self.invariant.counted) in
    let few : length old.pairs < 2 ^ 32 = omega (arith, c.self.invariant.counted) in
    let new = tree_of c.relabel_root.new.root in
    let is = c.relabel_root.ensures.pairs in
    room step old.pairs new.pairs is step_is few

pub returns-clause-given : goal.returns-clause-given
returns-clause-given g c =
    let old = tree_of c.self.inside.root in
    let step = 18446744073709551615 / (c.from.result + 1) in
    let new = tree_of c.relabel_root.new.root in
    let is = c.relabel_root.ensures.pairs in
    let given = c.relabel_root.ensures.given ∙ ap (λ (ls : List (ℕ × (ℕ × _))). ls ++ renamed step 0 old.pairs) c.in_ok-given.ensures.items in
    given ∙ sym (zip-relabelled step 0 old.pairs) ∙ sym (ap (λ (ps : List (ℕ × _)). zip (labels old.pairs) ps) is) ∙ ap (λ (t : Tree _). zip (labels t.pairs) new.pairs) c.self.view_is
