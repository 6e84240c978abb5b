use Rattle.std.proofs.Common.{ℕ, List, nat_lt, nat_eq, ap, ◌∙◌, subst, sym, arith}
use Rattle.walker_record.specs.Stretches.{Stretch}
use Rattle.order_tree.specs.Pairs.{inserted}
use Rattle.character_runs.specs.Laid.{AreLabelled, chars_in}
use Rattle.character_runs.proofs.InsertedPairs.{moves_inserted}
use Rattle.character_runs.proofs.EmptyRuns.{empty_laid}
use Rattle.character_runs.proofs.OpenedChars.{none_counted, opened_chars}
use Rattle.character_runs.proofs.runs.Runs.open_run.Goals as goal

pub insert_after-requires-clause-known : goal.insert_after-requires-clause-known
insert_after-requires-clause-known g c = let none = none_counted (nat_lt 0 c.args.run.prepared) c.args.run.len c.requires.empty in omega (arith, none, c.facts.ensures.known)

pub insert_after-requires-clause-prepared : goal.insert_after-requires-clause-prepared
insert_after-requires-clause-prepared g c = let none = none_counted (nat_eq c.args.run.prepared 1) c.args.run.len c.requires.empty in omega (arith, none, c.facts.ensures.prepared)

pub insert_after-requires-clause-effect : goal.insert_after-requires-clause-effect
insert_after-requires-clause-effect g c = let none = none_counted c.args.run.effect c.args.run.len c.requires.empty in omega (arith, none, c.facts.ensures.effect)

pub returns-clause-laid : goal.returns-clause-laid
returns-clause-laid g c =
    let ps = c.args.self.now.tree.pairs in
    let qs = inserted ps c.args.label c.in_ok-own.own c.args.run in
    subst (λ (xs : List (ℕ × Stretch)). AreLabelled xs c.args.self.now.labels) (sym c.in_ok-own.ensures.pairs)
    (empty_laid ps qs c.args.self.now.labels c.in_ok-own.own c.args.run c.requires.laid (moves_inserted c.args.label ps c.in_ok-own.own c.args.run c.facts.ensures.rising) c.requires.empty c.requires.some)

pub returns-clause-chars : goal.returns-clause-chars
returns-clause-chars g c = ap chars_in c.in_ok-own.ensures.pairs ∙ opened_chars c.args.self.now.tree.pairs c.args.label c.in_ok-own.own c.args.run c.facts.ensures.rising c.requires.empty
