use Rattle.std.proofs.Common.{ap, ◌∙◌, arith}
use Rattle.walker_record.specs.Stretches.{Stretch}
use Rattle.order_tree.specs.Pairs.{changed as with_run}
use Rattle.character_runs.specs.declared.runs.changing.Altered.{Altered}
use Rattle.character_runs.specs.States.{HasRoom}
use Rattle.character_runs.proofs.KnownRuns.{held_label}
use Rattle.character_runs.proofs.Changing.{change_len}
use Rattle.character_runs.proofs.AlteredChars.{same_long, run_keeps, sums_fit}
use Rattle.character_runs.proofs.RecastRuns.{recast_laid, recast_chars, recast_counts, recast_was, recast_is, recast_loose}
use Rattle.character_runs.proofs.runs.Runs.recast.Goals as goal

pub changed-after-requires : goal.changed-after-requires
changed-after-requires g c =
    run_keeps HasRoom c.args.self.now.tree.pairs c.facts.ensures.rising c.args.found.label c.args.found.run c.requires.held c.requires.some c.requires.room

pub change-requires-clause-held : goal.change-requires-clause-held
change-requires-clause-held g c = held_label c.args.self.now.tree.pairs c.args.found.label c.args.found.run c.requires.held

pub change-requires-clause-fit : goal.change-requires-clause-fit
change-requires-clause-fit g c =
    let ps = c.args.self.now.tree.pairs in
    let was = c.args.found.run in
    let len = ap (λ (r : Stretch). r.len) c.changed-after.ensures ∙ change_len c.args.change was in
    let long = same_long ps c.facts.ensures.rising c.args.found.label was c.changed-after.result c.requires.held len in
    let few = c.requires.few in
    let fit = sums_fit (with_run ps c.args.found.label c.changed-after.result) (omega (arith, long, few)) in
    record { known = fit.0; prepared = fit.1; effect = fit.2 }

pub returns-clause-altered : goal.returns-clause-altered
returns-clause-altered g c =
    let made : Stretch → Altered = λ r. record { before = c.args.found.run; after = r } in
    ap made c.changed-after.ensures

pub returns-clause-pairs : goal.returns-clause-pairs
returns-clause-pairs g c = c.change.ensures.pairs ∙ ap (with_run c.args.self.now.tree.pairs c.args.found.label) c.changed-after.ensures

pub returns-clause-laid : goal.returns-clause-laid
returns-clause-laid g c =
    recast_laid c.args.self.now.tree.pairs c.change.new.self.pairs c.args.self.now.labels c.args.found.label c.args.found.run c.changed-after.result c.args.change c.requires.laid c.facts.ensures.rising c.requires.held c.changed-after.ensures c.change.ensures.pairs

pub returns-clause-chars : goal.returns-clause-chars
returns-clause-chars g c among nodes =
    recast_chars c.args.self.now.tree.pairs c.change.new.self.pairs c.args.self.now.labels c.args.found.label c.args.found.run c.changed-after.result c.args.change c.requires.laid c.facts.ensures.rising c.requires.held c.changed-after.ensures c.change.ensures.pairs among nodes

pub returns-clause-recounted : goal.returns-clause-recounted
returns-clause-recounted g c =
    recast_counts c.args.self.now.tree.pairs c.change.new.self.pairs c.args.self.now.labels c.args.found.label c.args.found.run c.changed-after.result c.args.change c.requires.laid c.facts.ensures.rising c.requires.held c.changed-after.ensures c.change.ensures.pairs

pub returns-clause-was : goal.returns-clause-was
returns-clause-was g c v n is =
    recast_was c.args.self.now.tree.pairs c.change.new.self.pairs c.args.self.now.labels c.args.found.label c.args.found.run c.changed-after.result c.args.change c.requires.laid c.facts.ensures.rising c.requires.held c.changed-after.ensures c.change.ensures.pairs v n is

pub returns-clause-is : goal.returns-clause-is
returns-clause-is g c v n is =
    recast_is c.args.self.now.tree.pairs c.change.new.self.pairs c.args.self.now.labels c.args.found.label c.args.found.run c.changed-after.result c.args.change c.requires.laid c.facts.ensures.rising c.requires.held c.changed-after.ensures c.change.ensures.pairs c.facts-2.ensures.rising v n is

pub returns-clause-loose : goal.returns-clause-loose
returns-clause-loose g c among =
    recast_loose c.args.self.now.tree.pairs c.change.new.self.pairs c.args.self.now.labels c.args.found.label c.args.found.run c.changed-after.result c.args.change c.requires.laid c.facts.ensures.rising c.requires.held c.changed-after.ensures c.change.ensures.pairs among
