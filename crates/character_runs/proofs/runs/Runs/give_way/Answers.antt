use Rattle.std.proofs.Common.{◌<◌, ◌^◌, ℕ, Some, List, length, Contains, ap, ◌∙◌, subst, sym}
use Rattle.walker_record.specs.Stretches.{Stretch}
use Rattle.order_tree.specs.Pairs.{labels, lower, changed, runs}
use Rattle.character_runs.specs.Labelled.{label_of, Sets}
use Rattle.character_runs.specs.Laid.{AreLabelled, chars_in}
use Rattle.character_runs.proofs.AlteredChars.{sums_fit}
use Rattle.character_runs.proofs.KnownRuns.{held_label}
use Rattle.character_runs.proofs.PartedRuns.{same_run}
use Rattle.character_runs.proofs.Renamed.{is_some}
use Rattle.character_runs.proofs.ChangedAt.{changed_kept}
use Rattle.character_runs.proofs.Exchanged.{two_labels, moved_label, exchanged_laid}
use Rattle.character_runs.proofs.ExchangedChars.{run_held, place_held, mid_few, exchanged_few, exchanged_chars, lower_new, exchanged_runs}
use Rattle.character_runs.proofs.runs.Runs.give_way.Goals as goal

pub record-moved-requires : goal.record-moved-requires
record-moved-requires g c =
    let ps = c.args.self.now.tree.pairs in
    let p = c.requires.place in
    held_label ps c.args.label p.run (run_held ps c.args.label c.args.own c.facts.ensures.rising p)

pub move_label-requires : goal.move_label-requires
move_label-requires g c =
    let ps = c.args.self.now.tree.pairs in
    let p = c.requires.place in
    let held = run_held ps c.args.label c.args.own c.facts.ensures.rising p in
    let is = same_run ps c.args.label p.run c.record-moved.result c.facts.ensures.rising held c.record-moved.ensures in
    let has = moved_label ps c.requires.laid.0 c.args.self.now.labels c.args.label p.run c.args.run c.requires.laid.1 held p.some c.requires.new c.requires.laid.2 in
    is_some (label_of c.args.self.now.labels c.record-moved.result.from) c.args.label (ap (λ (r : Stretch). label_of c.args.self.now.labels r.from) (sym is) ∙ has)

pub change-requires-clause-held : goal.change-requires-clause-held
change-requires-clause-held g c =
    let ps = c.args.self.now.tree.pairs in
    let p = c.requires.place in
    held_label ps c.args.own p.empty (place_held ps c.args.label c.args.own c.facts.ensures.rising p)

pub change-requires-clause-fit : goal.change-requires-clause-fit
change-requires-clause-fit g c =
    let ps = c.args.self.now.tree.pairs in
    let p = c.requires.place in
    let held = run_held ps c.args.label c.args.own c.facts.ensures.rising p in
    let is = same_run ps c.args.label p.run c.record-moved.result c.facts.ensures.rising held c.record-moved.ensures in
    let few = subst (λ (r : Stretch). length (chars_in (changed ps c.args.own r)) < 2 ^ 32) is (mid_few ps c.args.label c.args.own c.facts.ensures.rising p c.requires.few) in
    let fit = sums_fit (changed ps c.args.own c.record-moved.result) few in
    record { known = fit.0; prepared = fit.1; effect = fit.2 }

pub change-requires-2-clause-held : goal.change-requires-2-clause-held
change-requires-2-clause-held g c =
    let ps = c.args.self.now.tree.pairs in
    let p = c.requires.place in
    let rising = c.facts.ensures.rising in
    let held = run_held ps c.args.label c.args.own rising p in
    let place = place_held ps c.args.label c.args.own rising p in
    let moved = same_run ps c.args.label c.record-moved.result p.run rising c.record-moved.ensures held in
    let mid = changed ps c.args.own p.run in
    let is = c.change.ensures.pairs ∙ ap (λ (r : Stretch). changed ps c.args.own r) moved in
    subst (λ (xs : List (ℕ × Stretch)). Contains (labels xs) c.args.label) (sym is)
    (held_label mid c.args.label p.run (changed_kept c.args.own p.run ps c.args.label p.run held (two_labels ps c.args.label c.args.own p.run p.empty rising held place p.some p.none)))

pub change-requires-2-clause-fit : goal.change-requires-2-clause-fit
change-requires-2-clause-fit g c =
    let ps = c.args.self.now.tree.pairs in
    let p = c.requires.place in
    let rising = c.facts.ensures.rising in
    let held = run_held ps c.args.label c.args.own rising p in
    let moved = same_run ps c.args.label c.record-moved.result p.run rising c.record-moved.ensures held in
    let is = c.change.ensures.pairs ∙ ap (λ (r : Stretch). changed ps c.args.own r) moved in
    let all = ap (λ (xs : List (ℕ × Stretch)). changed xs c.args.label c.args.run) is in
    let few = subst (λ (xs : List (ℕ × Stretch)). length (chars_in xs) < 2 ^ 32) (sym all) (exchanged_few ps c.args.label c.args.own rising p c.args.run c.requires.one c.requires.few) in
    let fit = sums_fit (changed c.change.new.self.pairs c.args.label c.args.run) few in
    record { known = fit.0; prepared = fit.1; effect = fit.2 }

pub returns-clause-laid : goal.returns-clause-laid
returns-clause-laid g c =
    let ps = c.args.self.now.tree.pairs in
    let p = c.requires.place in
    let rising = c.facts.ensures.rising in
    let held = run_held ps c.args.label c.args.own rising p in
    let place = place_held ps c.args.label c.args.own rising p in
    let moved = same_run ps c.args.label c.record-moved.result p.run rising c.record-moved.ensures held in
    let is = c.change.ensures.pairs ∙ ap (λ (r : Stretch). changed ps c.args.own r) moved in
    let all = c.change-2.ensures.pairs ∙ ap (λ (xs : List (ℕ × Stretch)). changed xs c.args.label c.args.run) is in
    let second = subst (λ (r : Stretch). Sets c.args.self.now.labels c.move_label.new.labels r.from (Some c.args.own)) moved c.move_label.ensures in
    subst (λ (xs : List (ℕ × Stretch)). AreLabelled xs c.move_label.new.labels) (sym all)
    (exchanged_laid ps c.requires.laid.0 c.args.self.now.labels c.move_label.new.labels c.args.label c.args.own p.run p.empty c.args.run c.requires.laid.1 rising held place p.some p.none
    c.requires.one c.requires.some c.requires.new c.requires.laid.2 second)

pub returns-clause-chars : goal.returns-clause-chars
returns-clause-chars g c =
    let ps = c.args.self.now.tree.pairs in
    let p = c.requires.place in
    let rising = c.facts.ensures.rising in
    let moved = same_run ps c.args.label c.record-moved.result p.run rising c.record-moved.ensures (run_held ps c.args.label c.args.own rising p) in
    let is = c.change.ensures.pairs ∙ ap (λ (r : Stretch). changed ps c.args.own r) moved in
    let all = c.change-2.ensures.pairs ∙ ap (λ (xs : List (ℕ × Stretch)). changed xs c.args.label c.args.run) is in
    ap chars_in all ∙ exchanged_chars ps c.args.label c.args.own rising p c.args.run c.requires.one

pub returns-clause-lower : goal.returns-clause-lower
returns-clause-lower g c =
    let ps = c.args.self.now.tree.pairs in
    let p = c.requires.place in
    let rising = c.facts.ensures.rising in
    let moved = same_run ps c.args.label c.record-moved.result p.run rising c.record-moved.ensures (run_held ps c.args.label c.args.own rising p) in
    let is = c.change.ensures.pairs ∙ ap (λ (r : Stretch). changed ps c.args.own r) moved in
    let all = c.change-2.ensures.pairs ∙ ap (λ (xs : List (ℕ × Stretch)). changed xs c.args.label c.args.run) is in
    ap (λ (xs : List (ℕ × Stretch)). lower xs c.args.label) all ∙ lower_new ps c.args.label c.args.own rising p c.args.run c.requires.one

pub returns-clause-runs : goal.returns-clause-runs
returns-clause-runs g c p =
    let ps = c.args.self.now.tree.pairs in
    let rising = c.facts.ensures.rising in
    let moved = same_run ps c.args.label c.record-moved.result p.run rising c.record-moved.ensures (run_held ps c.args.label c.args.own rising p) in
    let is = c.change.ensures.pairs ∙ ap (λ (r : Stretch). changed ps c.args.own r) moved in
    let all = c.change-2.ensures.pairs ∙ ap (λ (xs : List (ℕ × Stretch)). changed xs c.args.label c.args.run) is in
    ap runs all ∙ exchanged_runs ps c.args.label c.args.own rising p c.args.run c.requires.one
