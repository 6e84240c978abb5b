use Rattle.std.proofs.Common.{ℕ, List, ap, ◌∙◌, subst, sym}
use Rattle.walker_record.specs.Stretches.{Stretch}
use Rattle.order_tree.specs.Pairs.{changed, lower, runs}
use Rattle.character_runs.specs.Laid.{AreLabelled, chars_in}
use Rattle.character_runs.proofs.KnownRuns.{held_label}
use Rattle.character_runs.proofs.ChangedPairs.{moves_changed}
use Rattle.character_runs.proofs.NewRuns.{new_laid}
use Rattle.character_runs.proofs.AlteredChars.{sums_fit}
use Rattle.character_runs.proofs.OpenedChars.{filled_chars, filled_few, lower_changed}
use Rattle.character_runs.proofs.LooseEntries.{filled_runs}
use Rattle.character_runs.proofs.runs.Runs.fill.Goals as goal

pub change-requires-clause-held : goal.change-requires-clause-held
change-requires-clause-held g c = held_label c.args.self.now.tree.pairs c.args.own c.requires.held.0 c.requires.held.1

pub change-requires-clause-fit : goal.change-requires-clause-fit
change-requires-clause-fit g c =
    let h = c.requires.held in
    let ps = c.args.self.now.tree.pairs in
    let fit = sums_fit (changed ps c.args.own c.args.run) (filled_few ps c.args.own h.0 c.args.run c.facts.ensures.rising h.1 h.2 c.requires.one c.requires.few) in
    record { known = fit.0; prepared = fit.1; effect = fit.2 }

pub returns-clause-laid : goal.returns-clause-laid
returns-clause-laid g c =
    let h = c.requires.held in
    let ps = c.args.self.now.tree.pairs in
    let run = c.args.run in
    subst (λ (qs : List (ℕ × Stretch)). AreLabelled qs c.args.self.now.labels) (sym c.change.ensures.pairs)
    (new_laid ps (changed ps c.args.own run) c.requires.laid.0 c.args.self.now.labels c.args.own h.0 run c.requires.laid.1
    (moves_changed c.args.own run ps h.0 c.facts.ensures.rising h.1) h.2 c.requires.one c.requires.some c.requires.new c.requires.laid.2)

pub returns-clause-chars : goal.returns-clause-chars
returns-clause-chars g c =
    let h = c.requires.held in
    ap chars_in c.change.ensures.pairs ∙ filled_chars c.args.self.now.tree.pairs c.args.own h.0 c.args.run c.facts.ensures.rising h.1 h.2 c.requires.one

pub returns-clause-lower : goal.returns-clause-lower
returns-clause-lower g c =
    let h = c.requires.held in
    ap (λ (xs : List (ℕ × Stretch)). lower xs c.args.own) c.change.ensures.pairs
    ∙ lower_changed c.args.self.now.tree.pairs c.args.own h.0 c.args.run c.facts.ensures.rising h.1

pub returns-clause-runs : goal.returns-clause-runs
returns-clause-runs g c =
    let h = c.requires.held in
    ap runs c.change.ensures.pairs ∙ filled_runs c.args.self.now.tree.pairs c.args.own h.0 c.args.run c.facts.ensures.rising h.1
