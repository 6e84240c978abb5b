use Rattle.std.proofs.Common.{◌≡◌, ℕ, List, Option, Some, length, Contains, ap, sym, ◌∙◌, subst, arith}
use Rattle.walker_record.specs.Stretches.{Stretch}
use Rattle.order_tree.specs.Pairs.{changed, labels}
use Rattle.character_runs.specs.declared.cursor.Struck.{Struck}
use Rattle.character_runs.specs.Cursors.{with_end, settled}
use Rattle.character_runs.specs.Laid.{chars_in}
use Rattle.character_runs.proofs.AlteredChars.{sums_fit}
use Rattle.character_runs.proofs.Pending.{own_label, struck_label, still_label, struck_few}
use Rattle.character_runs.proofs.runs.Runs.take_in.Goals as goal
use Rattle.character_runs.proofs.runs.Runs.take_in.Goals.{in-Some, in_default}

pub change-requires-clause-held : goal.change-requires-clause-held
change-requires-clause-held g c = struck_label c.args.self.now.tree.pairs c.facts.ensures.rising c.args.cursor.now c.requires.at c.in-Some.struck c.in-Some.is

pub change-requires-clause-fit : goal.change-requires-clause-fit
change-requires-clause-fit g c =
    let few = struck_few c.args.self.now.tree.pairs c.facts.ensures.rising c.args.cursor.now c.requires.at c.in-Some.struck c.in-Some.is c.requires.few c.requires.own in
    let fit = sums_fit (changed c.args.self.now.tree.pairs c.in-Some.struck.label c.in-Some.struck.run) few in
    record { known = fit.0; prepared = fit.1; effect = fit.2 }

pub change-requires-2-clause-held : goal.change-requires-2-clause-held
change-requires-2-clause-held g c =
    elim c.match-cursor.branch [
      | in-Some w ↦
          subst (λ (xs : List (ℕ × Stretch)). Contains (labels xs) c.args.cursor.now.label) (sym (ap (λ s. s.tree.pairs) w.self-is ∙ w.change.ensures.pairs))
          (still_label c.args.self.now.tree.pairs c.facts.ensures.rising c.args.cursor.now c.requires.at w.in-Some.struck w.in-Some.is)
      | in_default w ↦
          subst (λ (xs : List (ℕ × Stretch)). Contains (labels xs) c.args.cursor.now.label) (sym (ap (λ s. s.tree.pairs) w.self-is))
          (own_label c.args.self.now.tree.pairs c.facts.ensures.rising c.args.cursor.now c.requires.at)
    ]

pub change-requires-2-clause-fit : goal.change-requires-2-clause-fit
change-requires-2-clause-fit g c =
    let cursor = c.args.cursor.now in
    let put : List (ℕ × Stretch) → List (ℕ × Stretch) = λ xs. changed xs cursor.label cursor.run in
    let settles : put c.match-cursor.self.tree.pairs ≡ settled c.args.self.now.tree.pairs (Some cursor) =
    elim c.match-cursor.branch [
      | in-Some w ↦ ap (λ s. put s.tree.pairs) w.self-is ∙ ap put w.change.ensures.pairs ∙ ap (λ (o : Option Struck). with_end c.args.self.now.tree.pairs cursor.label cursor.run o) (sym w.in-Some.is)
      | in_default w ↦ ap (λ s. put s.tree.pairs) w.self-is ∙ ap (λ (o : Option Struck). with_end c.args.self.now.tree.pairs cursor.label cursor.run o) (sym w.in_default.is)
    ] in
    let few = c.requires.few in
    let same = ap (λ (xs : List (ℕ × Stretch)). length (chars_in xs)) settles in
    let fit = sums_fit (put c.match-cursor.self.tree.pairs) (omega (arith, few, same)) in
    record { known = fit.0; prepared = fit.1; effect = fit.2 }
