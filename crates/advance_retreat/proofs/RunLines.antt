-- The lines that a run has.
use Rattle.std.proofs.Common.{◌≡◌, ℕ, ◌+◌, ◌-◌, ◌≤◌, Some, List, refl, sym, ap, ◌∙◌, arith}
use Rattle.ew_model.specs.declared.node.Node.{Node}
use Rattle.ew_model.specs.declared.node.Node.TheVariants.{Root, Base, Event}
use Rattle.character_runs.specs.declared.change.Kind.{Kind}
use Rattle.character_runs.specs.declared.change.Kind.TheVariants.{OfBase, OfEvents}
use Rattle.character_runs.specs.Replacing.{node_by}
use Rattle.character_runs.proofs.Spans.{number_same}
use Rattle.advance_retreat.specs.declared.line.Way.{Way}
use Rattle.advance_retreat.specs.declared.line.Way.TheVariants.{Up, Down}
use Rattle.advance_retreat.specs.declared.run.Run.{Run}
use Rattle.advance_retreat.specs.declared.target.Target.{Target}
use Rattle.advance_retreat.specs.Lines.{AreAbout, IsLineFrom}
use Rattle.advance_retreat.specs.Runs.{number_from, node_from, HasSteps, HasNodes, HasRun, way_in, count_from}

from_by : (way : Way) (kind : Kind) (n steps : ℕ) → node_from way (node_by kind n) steps ≡ node_by kind (number_from way n steps)
from_by way OfBase n steps = refl
from_by way OfEvents n steps = refl

-- what a run tells of so many of its events on a way, where the number of its characters on its way is this
tells_on : (targets : List Target) (r : Run) (order way : Way) (kind : Kind) (m event character count : ℕ) → r.node ≡ node_by kind m → r.way ≡ way → HasRun targets r → r.first ≤ event → event - r.first ≤ r.more → HasSteps way m r.more
    → number_from way m (event - r.first) ≡ character → count ≤ count_from order r event → AreAbout order targets event (way_in order way) kind character count
tells_on targets r Up Up kind m event character count node is has low high nodes first few i e n lt a b =
    let there : m + (e - r.first) ≡ n = omega (arith, first, low, lt, few, a, b) in
    has e (omega (arith, low, a), omega (arith, low, high, lt, few, a)) ∙ (λ j. Some (node_from (is j) (node j) (e - r.first))) ∙ ap Some (from_by Up kind m (e - r.first)) ∙ ap (λ (k : ℕ). Some (node_by kind k)) there
tells_on targets r Up Down kind m event character count node is has low high nodes first few i e n lt a b =
    let there : m - (e - r.first) ≡ n = omega (arith, first, low, high, nodes, lt, few, a, b) in
    has e (omega (arith, low, a), omega (arith, low, high, lt, few, a)) ∙ (λ j. Some (node_from (is j) (node j) (e - r.first))) ∙ ap Some (from_by Down kind m (e - r.first)) ∙ ap (λ (k : ℕ). Some (node_by kind k)) there
tells_on targets r Down Up kind m event character count node is has low high nodes first few i e n lt a b =
    let there : m + (e - r.first) ≡ n = omega (arith, first, low, lt, few, a, b) in
    has e (omega (arith, low, lt, few, a), omega (arith, high, a)) ∙ (λ j. Some (node_from (is j) (node j) (e - r.first))) ∙ ap Some (from_by Up kind m (e - r.first)) ∙ ap (λ (k : ℕ). Some (node_by kind k)) there
tells_on targets r Down Down kind m event character count node is has low high nodes first few i e n lt a b =
    let there : m - (e - r.first) ≡ n = omega (arith, first, low, high, nodes, lt, few, a, b) in
    has e (omega (arith, low, lt, few, a), omega (arith, high, a)) ∙ (λ j. Some (node_from (is j) (node j) (e - r.first))) ∙ ap Some (from_by Down kind m (e - r.first)) ∙ ap (λ (k : ℕ). Some (node_by kind k)) there

no_number : (kind : Kind) (n : ℕ) → Root ≡ node_by kind n → ⊥
no_number OfBase n e = cc
no_number OfEvents n e = cc

other_kind : (m n : ℕ) → Base m ≡ Event n → ⊥
other_kind m n e = cc

-- what a run tells of so many of its events on a way
about : (targets : List Target) (r : Run) (order way : Way) (first : Node) (kind : Kind) (event character count : ℕ) → r.node ≡ first → r.way ≡ way → HasRun targets r → r.first ≤ event → event - r.first ≤ r.more → HasNodes way first r.more
    → node_from way first (event - r.first) ≡ node_by kind character → count ≤ count_from order r event → AreAbout order targets event (way_in order way) kind character count
about targets r order way Root kind event character count node is has low high nodes own few = absurd (no_number kind character own)
about targets r order way (Base m) OfBase event character count node is has low high nodes own few =
    tells_on targets r order way OfBase m event character count node is has low high nodes (number_same OfBase (number_from way m (event - r.first)) character own) few
about targets r order way (Base m) OfEvents event character count node is has low high nodes own few = absurd (other_kind (number_from way m (event - r.first)) character own)
about targets r order way (Event m) OfBase event character count node is has low high nodes own few = absurd (other_kind character (number_from way m (event - r.first)) (sym own))
about targets r order way (Event m) OfEvents event character count node is has low high nodes own few =
    tells_on targets r order way OfEvents m event character count node is has low high nodes (number_same OfEvents (number_from way m (event - r.first)) character own) few

pub run_line : (targets : List Target) (r : Run) (order : Way) (kind : Kind) (event character count most : ℕ) → HasRun targets r → r.first ≤ event → event - r.first ≤ r.more → HasNodes r.way r.node r.more
    → node_from r.way r.node (event - r.first) ≡ node_by kind character → count ≤ count_from order r event → count ≤ most
    → IsLineFrom order targets event most (record { event = event; way = way_in order r.way; kind = kind; character = character; count = count })
run_line targets r order kind event character count most has low high nodes own few bound = record {
  told = about targets r order r.way r.node kind event character count refl refl has low high nodes own few;
  begins = λ some. refl;
  few = bound;
}
