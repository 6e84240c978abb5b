use Rattle.std.proofs.Common.{◌≡◌, ℕ, ◌++◌, ◌∷◌, List, Contains, subst, sym}
use Rattle.walker_record.specs.Stretches.{Stretch, first_part, second_part}
use Rattle.order_tree.specs.Pairs.{lower, greater}
use Rattle.character_runs.specs.declared.runs.Spot.{Spot}
use Rattle.character_runs.proofs.FoundCuts.{held_first, held_second}
use Rattle.character_runs.proofs.runs.Runs.cut_found.Goals as goal

-- the run stands in two parts
parts : (ps qs : List (ℕ × Stretch)) (own : ℕ) (spot at : Spot) (run : Stretch) → spot ≡ at → Contains ps (at.label, run)
    → ((r : Stretch) → Contains ps (spot.label, r) → qs ≡ lower ps spot.label ++ (spot.label, first_part r spot.offset) ∷ (own, second_part r spot.offset) ∷ greater ps spot.label)
    → qs ≡ lower ps at.label ++ (at.label, first_part run at.offset) ∷ (own, second_part run at.offset) ∷ greater ps at.label
parts ps qs own spot at run is held each =
    subst (λ (s : Spot). (r : Stretch) → Contains ps (s.label, r) → qs ≡ lower ps s.label ++ (s.label, first_part r s.offset) ∷ (own, second_part r s.offset) ∷ greater ps s.label) is each
    run held

pub returns-clause-first : goal.returns-clause-first
returns-clause-first g c =
    let ps = c.args.self.now.tree.pairs in
    let qs = c.split.new.self.tree.pairs in
    let own = c.in-Some.own in
    let found = c.args.found in
    held_first qs (lower ps found.label) (greater ps found.label) found.label own (first_part found.run found.offset) (second_part found.run found.offset)
    (parts ps qs own c.spot-spot.result (record { label = found.label; offset = found.offset }) found.run c.spot-spot.ensures c.requires.held c.in_ok-split.ensures.parts)

pub returns-clause-second : goal.returns-clause-second
returns-clause-second g c =
    let ps = c.args.self.now.tree.pairs in
    let qs = c.split.new.self.tree.pairs in
    let own = c.in-Some.own in
    let found = c.args.found in
    subst (λ (r : Stretch). Contains qs (own, r)) (sym c.split-run.ensures.second)
    (held_second qs (lower ps found.label) (greater ps found.label) found.label own (first_part found.run found.offset) (second_part found.run found.offset)
    (parts ps qs own c.spot-spot.result (record { label = found.label; offset = found.offset }) found.run c.spot-spot.ensures c.requires.held c.in_ok-split.ensures.parts))
