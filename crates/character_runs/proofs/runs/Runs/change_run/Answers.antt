use Rattle.std.proofs.Common.{◌-◌, ℕ, Contains, sym, ap, ◌∙◌, subst, arith}
use Rattle.walker_record.specs.Stretches.{Stretch}
use Rattle.order_tree.specs.Pairs.{changed as with_run}
use Rattle.character_runs.specs.States.{HasRoom}
use Rattle.character_runs.specs.Replacing.{node_by, is_in}
use Rattle.character_runs.proofs.CharPlaces.{any_of}
use Rattle.character_runs.proofs.Changing.{change_len}
use Rattle.character_runs.proofs.KnownRuns.{held_label}
use Rattle.character_runs.proofs.AlteredChars.{same_long, run_keeps, sums_fit}
use Rattle.character_runs.proofs.Spans.{nodes_of_run, offset_between, offset_of}
use Rattle.character_runs.proofs.Standings.{label_is, none_before}
use Rattle.character_runs.proofs.RecastRuns.{recast_laid, recast_chars, recast_counts, recast_was, recast_is, recast_loose}
use Rattle.character_runs.proofs.runs.Runs.change_run.Goals as goal
use Rattle.ew_model.proofs.Outcomes.{if_none}

pub alter-requires-clause-held : goal.alter-requires-clause-held
alter-requires-clause-held g c =
    let last = c.in_ok-label.ensures.some in
    let run = c.requires.laid.only last.node c.in_ok-label.label last.has in
    held_label c.args.self.now.tree.pairs c.in_ok-label.label run.0 run.1

pub alter-requires-clause-suits : goal.alter-requires-clause-suits
alter-requires-clause-suits g c = λ run held some.
    run_keeps HasRoom c.args.self.now.tree.pairs c.facts.ensures.rising c.in_ok-label.label run held some c.requires.room

pub alter-requires-clause-fit : goal.alter-requires-clause-fit
alter-requires-clause-fit g c = λ was now held made.
    let ps = c.args.self.now.tree.pairs in
    let label = c.in_ok-label.label in
    let len = ap (λ (r : Stretch). r.len) made.1 ∙ change_len c.args.change was in
    let long = same_long ps c.facts.ensures.rising label was now held len in
    let few = c.requires.few in
    let fit = sums_fit (with_run ps label now) (omega (arith, long, few)) in
    record { known = fit.0; prepared = fit.1; effect = fit.2 }

pub returns-in_err-label-clause-refused : goal.returns-in_err-label-clause-refused
returns-in_err-label-clause-refused g c =
    if_none c.from_residual.result _ (λ own n run held offset within.
    none_before c.args.self.now.tree.pairs c.args.self.now.labels c.requires.laid c.node-node.result c.in_err-label.ensures.none own n (record { run = run; held = held; inside = offset.0; node = offset.1 ∙ sym c.node-node.ensures }))

pub returns-in_err-taken-clause-refused : goal.returns-in_err-taken-clause-refused
returns-in_err-taken-clause-refused g c =
    if_none c.from_residual-in_err-taken.result _ (λ own n run held offset within.
    let ps = c.args.self.now.tree.pairs in
    let same = label_is ps c.args.self.now.labels c.requires.laid c.node-node.result c.in_ok-label.label own n c.in_ok-label.ensures.some (record { run = run; held = held; inside = offset.0; node = offset.1 ∙ sym c.node-node.ensures }) in
    c.in_err-taken.ensures.refused run (subst (λ (k : ℕ). Contains ps (k, run)) (sym same) held) (record { within = within; offset = n; node = (offset.0, offset.1 ∙ sym c.node-node.ensures) }))

pub returns-clause-laid : goal.returns-clause-laid
returns-clause-laid g c =
    let made = c.in_ok-taken.ensures.after in
    recast_laid c.args.self.now.tree.pairs c.alter.new.self.pairs c.args.self.now.labels c.in_ok-label.label c.in_ok-taken.taken.before c.in_ok-taken.taken.after c.args.change c.requires.laid c.facts.ensures.rising c.in_ok-taken.ensures.before made.1 c.in_ok-taken.ensures.pairs

pub returns-clause-part : goal.returns-clause-part
returns-clause-part g c =
    let made = c.in_ok-taken.ensures.after in
    let p = c.in-Some.numbers in
    let place = offset_between c.args.kind c.in_ok-taken.taken.before p.from p.to c.in-Some.ensures.from c.in-Some.ensures.to c.args.number made.0.offset (made.0.node.0, made.0.node.1 ∙ c.node-node.ensures) in
    record { first = c.in-Some.ensures.first; last = c.in-Some.ensures.last; low = place.0; high = place.1 }

pub returns-clause-told : goal.returns-clause-told
returns-clause-told g c = λ n low high.
    let was = c.in_ok-taken.taken.before in
    let p = c.in-Some.numbers in
    let is = offset_of c.args.kind was p.from p.to c.in-Some.ensures.from c.in-Some.ensures.to n low high in
    any_of c.args.self.now.tree.pairs c.in_ok-label.label (n - p.from) (node_by c.args.kind n) (record { run = was; held = c.in_ok-taken.ensures.before; inside = is.0; node = is.1 })

pub returns-clause-chars : goal.returns-clause-chars
returns-clause-chars g c =
    let made = c.in_ok-taken.ensures.after in
    let p = c.in-Some.numbers in
    recast_chars c.args.self.now.tree.pairs c.alter.new.self.pairs c.args.self.now.labels c.in_ok-label.label c.in_ok-taken.taken.before c.in_ok-taken.taken.after c.args.change c.requires.laid c.facts.ensures.rising c.in_ok-taken.ensures.before made.1 c.in_ok-taken.ensures.pairs
    (is_in c.args.kind p.from p.to) (nodes_of_run c.args.kind c.in_ok-taken.taken.before p.from p.to c.in-Some.ensures.from c.in-Some.ensures.to)

pub returns-clause-recounted : goal.returns-clause-recounted
returns-clause-recounted g c =
    let made = c.in_ok-taken.ensures.after in
    recast_counts c.args.self.now.tree.pairs c.alter.new.self.pairs c.args.self.now.labels c.in_ok-label.label c.in_ok-taken.taken.before c.in_ok-taken.taken.after c.args.change c.requires.laid c.facts.ensures.rising c.in_ok-taken.ensures.before made.1 c.in_ok-taken.ensures.pairs

pub returns-clause-was : goal.returns-clause-was
returns-clause-was g c = λ n low high.
    let made = c.in_ok-taken.ensures.after in
    let p = c.in-Some.numbers in
    recast_was c.args.self.now.tree.pairs c.alter.new.self.pairs c.args.self.now.labels c.in_ok-label.label c.in_ok-taken.taken.before c.in_ok-taken.taken.after c.args.change c.requires.laid c.facts.ensures.rising c.in_ok-taken.ensures.before made.1 c.in_ok-taken.ensures.pairs
    (node_by c.args.kind n) (n - p.from) (offset_of c.args.kind c.in_ok-taken.taken.before p.from p.to c.in-Some.ensures.from c.in-Some.ensures.to n low high)

pub returns-clause-is : goal.returns-clause-is
returns-clause-is g c = λ n low high.
    let made = c.in_ok-taken.ensures.after in
    let p = c.in-Some.numbers in
    recast_is c.args.self.now.tree.pairs c.alter.new.self.pairs c.args.self.now.labels c.in_ok-label.label c.in_ok-taken.taken.before c.in_ok-taken.taken.after c.args.change c.requires.laid c.facts.ensures.rising c.in_ok-taken.ensures.before made.1 c.in_ok-taken.ensures.pairs
    c.facts-2.ensures.rising (node_by c.args.kind n) (n - p.from) (offset_of c.args.kind c.in_ok-taken.taken.before p.from p.to c.in-Some.ensures.from c.in-Some.ensures.to n low high)

pub returns-clause-loose : goal.returns-clause-loose
returns-clause-loose g c among =
    let made = c.in_ok-taken.ensures.after in
    recast_loose c.args.self.now.tree.pairs c.alter.new.self.pairs c.args.self.now.labels c.in_ok-label.label c.in_ok-taken.taken.before c.in_ok-taken.taken.after c.args.change c.requires.laid c.facts.ensures.rising c.in_ok-taken.ensures.before made.1 c.in_ok-taken.ensures.pairs among
