use Rattle.std.proofs.Common.{◌≡◌, ℕ, ◌-◌, ◌++◌, ◌∷◌, false, List, length, Contains, ap, ◌∙◌, subst, sym, arith}
use Rattle.ew_model.specs.declared.node.Node.{Node}
use Rattle.walker_record.specs.Stretches.{Stretch, first_part, second_part}
use Rattle.order_tree.specs.Pairs.{changed, lower, greater}
use Rattle.character_runs.specs.declared.cursor.Cursor.{Cursor}
use Rattle.character_runs.specs.Cursors.{GaveEnd, last_of}
use Rattle.character_runs.specs.Laid.{AreLabelled, chars_in}
use Rattle.character_runs.proofs.AlteredChars.{sums_fit}
use Rattle.character_runs.proofs.StruckEnds.{cut_label, cut_long, cut_laid, cut_struck, cut_gave}
use Rattle.character_runs.proofs.runs.Runs.cut_end.Goals as goal

-- the cursor's run stands in two parts
parts : (ps qs : List (ℕ × Stretch)) (own : ℕ) (k c : Cursor) → k ≡ c → Contains ps (c.label, c.run)
    → ((run : Stretch) → Contains ps (k.label, run) → qs ≡ lower ps k.label ++ (k.label, first_part run (k.run.len - 1)) ∷ (own, second_part run (k.run.len - 1)) ∷ greater ps k.label)
    → qs ≡ lower ps c.label ++ (c.label, first_part c.run (c.run.len - 1)) ∷ (own, second_part c.run (c.run.len - 1)) ∷ greater ps c.label
parts ps qs own k c is held each =
    subst (λ (x : Cursor). (run : Stretch) → Contains ps (x.label, run) → qs ≡ lower ps x.label ++ (x.label, first_part run (x.run.len - 1)) ∷ (own, second_part run (x.run.len - 1)) ∷ greater ps x.label) is each
    c.run held

pub change-requires-clause-held : goal.change-requires-clause-held
change-requires-clause-held g c =
    let ps = c.args.self.now.tree.pairs in
    let qs = c.split.new.self.tree.pairs in
    let cut = parts ps qs c.in-Some.label _ c.args.cursor.now c.cursor.view_is c.requires.at.held c.in_ok-split.ensures.parts in
    cut_label ps qs c.args.self.now.labels c.split.new.self.labels c.args.cursor.now c.in-Some.label c.requires.laid c.runs.ensures.rising c.facts.ensures.rising c.requires.at c.requires.first c.requires.long cut

pub change-requires-clause-fit : goal.change-requires-clause-fit
change-requires-clause-fit g c =
    let ps = c.args.self.now.tree.pairs in
    let qs = c.split.new.self.tree.pairs in
    let own = c.in-Some.label in
    let run : Node → Stretch = λ v. record { from = v; len = 1; prepared = 2; effect = false } in
    let cut = parts ps qs own _ c.args.cursor.now c.cursor.view_is c.requires.at.held c.in_ok-split.ensures.parts in
    let long = cut_long ps qs c.args.self.now.labels c.split.new.self.labels c.args.cursor.now own c.requires.laid c.runs.ensures.rising c.facts.ensures.rising c.requires.at c.requires.first c.requires.long cut in
    let same = ap (λ (v : Node). length (chars_in (changed qs own (run v)))) c.last_node-node.ensures in
    let kept = ap (λ (xs : List Stretch). length xs) c.split.ensures.chars in
    let few = c.requires.few in
    let fit = sums_fit (changed qs own (run c.last_node-node.result)) (omega (arith, long, same, kept, few)) in
    record { known = fit.0; prepared = fit.1; effect = fit.2 }

pub returns-clause-laid : goal.returns-clause-laid
returns-clause-laid g c =
    let ps = c.args.self.now.tree.pairs in
    let qs = c.split.new.self.tree.pairs in
    let own = c.in-Some.label in
    let cut = parts ps qs own _ c.args.cursor.now c.cursor.view_is c.requires.at.held c.in_ok-split.ensures.parts in
    let is = c.change.ensures.pairs ∙ ap (λ (v : Node). changed qs own (record { from = v; len = 1; prepared = 2; effect = false })) c.last_node-node.ensures in
    subst (λ (xs : List (ℕ × Stretch)). AreLabelled xs c.split.new.self.labels) (sym is)
    (cut_laid ps qs c.args.self.now.labels c.split.new.self.labels c.args.cursor.now own c.requires.laid c.runs.ensures.rising c.facts.ensures.rising c.requires.at c.requires.first c.requires.long cut c.split.ensures.laid)

pub returns-clause-chars : goal.returns-clause-chars
returns-clause-chars g c =
    let ps = c.args.self.now.tree.pairs in
    let qs = c.split.new.self.tree.pairs in
    let own = c.in-Some.label in
    let cut = parts ps qs own _ c.args.cursor.now c.cursor.view_is c.requires.at.held c.in_ok-split.ensures.parts in
    let is = c.change.ensures.pairs ∙ ap (λ (v : Node). changed qs own (record { from = v; len = 1; prepared = 2; effect = false })) c.last_node-node.ensures in
    ap chars_in is
    ∙ cut_struck ps qs c.args.self.now.labels c.split.new.self.labels c.args.cursor.now own c.requires.laid c.runs.ensures.rising c.facts.ensures.rising c.requires.at c.requires.first c.requires.long cut

pub returns-clause-gave : goal.returns-clause-gave
returns-clause-gave g c =
    let ps = c.args.self.now.tree.pairs in
    let qs = c.split.new.self.tree.pairs in
    let own = c.in-Some.label in
    let run : Node → Stretch = λ v. record { from = v; len = 1; prepared = 2; effect = false } in
    let cut = parts ps qs own _ c.args.cursor.now c.cursor.view_is c.requires.at.held c.in_ok-split.ensures.parts in
    let is = c.change.ensures.pairs ∙ ap (λ (v : Node). changed qs own (run v)) c.last_node-node.ensures in
    subst (λ (xs : List (ℕ × Stretch)). GaveEnd ps xs c.args.cursor.now (record { label = own; run = run c.last_node-node.result })) (sym is)
    (subst (λ (v : Node). GaveEnd ps (changed qs own (run (last_of c.args.cursor.now.run))) c.args.cursor.now (record { label = own; run = run v })) (sym c.last_node-node.ensures)
    (cut_gave ps qs c.args.self.now.labels c.split.new.self.labels c.args.cursor.now own c.requires.laid c.runs.ensures.rising c.facts.ensures.rising c.requires.at c.requires.first c.requires.long cut))
