use Rattle.std.proofs.Common.{◌≡◌, ◌+◌, Option, IfSome, IfNone, subst, sym, arith}
use Rattle.walker_record.specs.Stretches.{Stretch}
use Rattle.order_tree.specs.Pairs.{Tree}
use Rattle.character_runs.specs.declared.runs.reading.Found.{Found}
use Rattle.character_runs.specs.Laid.{Stands, BeginsRun}
use Rattle.character_runs.proofs.FoundCuts.{found_stands, next_is}
use Rattle.character_runs.proofs.Parting.{last_ends, begins_ends}
use Rattle.character_runs.proofs.runs.Runs.end_found.Goals as goal

pub returns-in_default-clause-last : goal.returns-in_default-clause-last
returns-in_default-clause-last g c =
    let ps = c.args.self.now.tree.pairs in
    let found = c.args.found in
    let long = c.in_default.ensures.none in
    last_ends ps c.args.self.now.labels c.requires.laid c.facts.ensures.rising c.args.node found.label found.offset found.run
    (found_stands ps found.label found.offset found.run c.args.node c.requires.held c.requires.offset) c.requires.held (omega (arith, long))

pub cut_inside-requires-clause-inside : goal.cut_inside-requires-clause-inside
cut_inside-requires-clause-inside g c =
    let ps = c.args.self.now.tree.pairs in
    let found = c.args.found in
    let next = c.in-Some.next in
    let same = subst (λ (o : Option Found). IfNone o (c.cut_found.new.self.tree ≡ c.args.self.now.tree)) c.in-None.is c.in_ok-cut_found.ensures.none in
    let stands = found_stands ps found.label (found.offset + 1) found.run next c.requires.held (c.in-Some.ensures.inside, sym c.in-Some.ensures.some) in
    (found.label, found.offset + 1, subst (λ (t : Tree Stretch). Stands t.pairs found.label (found.offset + 1) next) (sym same) stands, omega arith)

pub returns-in_err-cut_inside-in-None-clause-begun : goal.returns-in_err-cut_inside-in-None-clause-begun
returns-in_err-cut_inside-in-None-clause-begun g c v first = c.cut_inside.ensures.begun v (c.cut_found.ensures.begun v first)

pub returns-in_ok-cut_inside-in-None-clause-begun : goal.returns-in_ok-cut_inside-in-None-clause-begun
returns-in_ok-cut_inside-in-None-clause-begun g c v first = c.cut_inside.ensures.begun v (c.cut_found.ensures.begun v first)

pub returns-in-Some-2-clause-last : goal.returns-in-Some-2-clause-last
returns-in-Some-2-clause-last g c =
    let qs = c.cut_found.new.self.tree.pairs in
    let found = c.args.found in
    let next = c.in-Some.next in
    begins_ends qs c.args.node next (next_is found.run c.args.node found.offset c.requires.offset next c.in-Some.ensures.some)
    (subst (λ (o : Option Found). IfSome o (λ _. BeginsRun qs next)) c.in-Some-2.is c.in_ok-cut_found.ensures.begins)

pub returns-in_ok-cut_inside-in-None-clause-last : goal.returns-in_ok-cut_inside-in-None-clause-last
returns-in_ok-cut_inside-in-None-clause-last g c =
    let found = c.args.found in
    let next = c.in-Some.next in
    begins_ends c.cut_inside.new.self.tree.pairs c.args.node next (next_is found.run c.args.node found.offset c.requires.offset next c.in-Some.ensures.some)
    c.in_ok-cut_inside-in-None.ensures.first
