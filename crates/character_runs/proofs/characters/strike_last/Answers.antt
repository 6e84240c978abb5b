use Rattle.std.proofs.Common.{◌≡◌, ℕ, List, Some, IfSome, false, map, ap, sym, ◌∙◌, subst}
use Rattle.walker_record.specs.Stretches.{Stretch}
use Rattle.order_tree.specs.Pairs.{IsRising}
use Rattle.character_runs.specs.declared.change.Change.TheVariants.{Strike}
use Rattle.character_runs.specs.declared.cursor.Struck.{Struck}
use Rattle.character_runs.specs.Cursors.{GaveEnd, last_of, shorter, with_end}
use Rattle.character_runs.specs.States.{changed_at}
use Rattle.character_runs.specs.Laid.{AreLabelled, chars_in}
use Rattle.character_runs.proofs.GivenEnds.{some_each, none_then, some_ended, some_told}
use Rattle.character_runs.proofs.Settled.{settle_again}
use Rattle.character_runs.proofs.characters.strike_last.Goals as goal
use Rattle.ew_model.proofs.Outcomes.{on_err}

pub returns-in_err-struck-in-None-clause-err : goal.returns-in_err-struck-in-None-clause-err
returns-in_err-struck-in-None-clause-err g c =
    let is = ap (λ t. t.pairs) c.in_err-struck-in-None.ensures.err in
    on_err c.from_residual-in_err-struck-in-None.result _ (settle_again c.args.runs.now.tree.pairs c.cut_end.new.self.tree.pairs c.cut_end.new.self.labels c.args.cursor.now c.settle.new.pending c.requires.cursor (subst (λ (xs : List (ℕ × Stretch)). IsRising xs) (sym is) c.facts.ensures.rising) (is ∙ c.settle.ensures.pairs) c.cut_end.ensures.laid)

pub returns-in_ok-struck-in-None-clause-laid : goal.returns-in_ok-struck-in-None-clause-laid
returns-in_ok-struck-in-None-clause-laid g c =
    some_ended c.settle.new.runs.tree.pairs c.cut_end.new.self.tree.pairs c.args.cursor.now c.requires.long c.facts-in-None.ensures.rising c.in_ok-struck-in-None.struck c.in_ok-struck-in-None.ensures.gave (λ s xs. AreLabelled xs c.cut_end.new.self.labels) (some_each c.in_ok-struck-in-None.struck _ (λ s. c.cut_end.ensures.laid))

pub returns-in_ok-struck-in-None-clause-chars : goal.returns-in_ok-struck-in-None-clause-chars
returns-in_ok-struck-in-None-clause-chars g c =
    let cursor = c.args.cursor.now in
    let new : Struck → List (ℕ × Stretch) = λ s. with_end c.cut_end.new.self.tree.pairs cursor.label (shorter cursor.run) (Some s) in
    subst (λ (was : List (ℕ × Stretch)). IfSome c.in_ok-struck-in-None.struck (λ s. chars_in (new s) ≡ map (changed_at (last_of cursor.run) Strike) (chars_in was))) c.settle.ensures.pairs
    (some_ended c.settle.new.runs.tree.pairs c.cut_end.new.self.tree.pairs c.args.cursor.now c.requires.long c.facts-in-None.ensures.rising c.in_ok-struck-in-None.struck c.in_ok-struck-in-None.ensures.gave (λ s xs. chars_in xs ≡ map (changed_at (last_of cursor.run) Strike) (chars_in c.settle.new.runs.tree.pairs)) c.in_ok-struck-in-None.ensures.chars)

pub returns-in_ok-struck-in-None-clause-gave : goal.returns-in_ok-struck-in-None-clause-gave
returns-in_ok-struck-in-None-clause-gave g c =
    let cursor = c.args.cursor.now in
    let new : Struck → List (ℕ × Stretch) = λ s. with_end c.cut_end.new.self.tree.pairs cursor.label (shorter cursor.run) (Some s) in
    subst (λ (was : List (ℕ × Stretch)). IfSome c.in_ok-struck-in-None.struck (λ s. GaveEnd was (new s) cursor s)) c.settle.ensures.pairs
    (some_ended c.settle.new.runs.tree.pairs c.cut_end.new.self.tree.pairs c.args.cursor.now c.requires.long c.facts-in-None.ensures.rising c.in_ok-struck-in-None.struck c.in_ok-struck-in-None.ensures.gave (λ s xs. GaveEnd c.settle.new.runs.tree.pairs xs cursor s) c.in_ok-struck-in-None.ensures.gave)

pub returns-in_ok-struck-in-None-clause-told : goal.returns-in_ok-struck-in-None-clause-told
returns-in_ok-struck-in-None-clause-told g c = some_told c.settle.new.runs.tree.pairs c.cut_end.new.self.tree.pairs c.args.cursor.now c.requires.long c.facts-in-None.ensures.rising c.in_ok-struck-in-None.struck c.in_ok-struck-in-None.ensures.gave (c.settle.new.pending ≡ false)

pub returns-in_ok-struck-in-None-clause-none : goal.returns-in_ok-struck-in-None-clause-none
returns-in_ok-struck-in-None-clause-none g c =
    none_then c.in_ok-struck-in-None.struck _ _ (λ same. settle_again c.args.runs.now.tree.pairs c.cut_end.new.self.tree.pairs c.cut_end.new.self.labels c.args.cursor.now c.settle.new.pending c.requires.cursor c.facts-in-None.ensures.rising (ap (λ t. t.pairs) same ∙ c.settle.ensures.pairs) c.cut_end.ensures.laid) c.in_ok-struck-in-None.ensures.none
