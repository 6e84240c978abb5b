use Rattle.std.proofs.Common.{Contains, refl, sym, ap, ◌∙◌, subst, arith}
use Rattle.character_runs.specs.declared.runs.changing.Known.{Known}
use Rattle.character_runs.specs.States.{knows}
use Rattle.character_runs.specs.Replacing.{node_by}
use Rattle.character_runs.specs.Laid.{InRuns, in_runs}
use Rattle.character_runs.proofs.Counters.{visible_fits, shown_fits, counted_again}
use Rattle.character_runs.proofs.KnownRuns.{label_of_run}
use Rattle.character_runs.proofs.Settled.{now_counted}
use Rattle.character_runs.proofs.characters.Characters.change_run_by.Goals as goal
use Rattle.ew_model.proofs.Outcomes.{if_none}

pub visible-self-inside-requires-clause-some : goal.visible-self-inside-requires-clause-some
visible-self-inside-requires-clause-some g c =
    let most = c.in_ok-recast.ensures.recounted.visible_there in
    let inside = c.self.inside in
    let so = (now_counted inside.runs.tree.pairs c.settle.new.runs.tree.pairs inside.runs.labels c.settle.new.runs.labels inside.visible inside.shown inside.cursor inside.pending c.self.invariant c.settle.ensures.pairs c.settle.ensures.labels).visible_is in
    omega (arith, most, so)

pub visible-self-inside-requires-clause-few : goal.visible-self-inside-requires-clause-few
visible-self-inside-requires-clause-few g c =
    let inside = c.self.inside in
    visible_fits c.settle.new.runs.tree.pairs c.settle.new.runs.labels inside.visible inside.shown (now_counted inside.runs.tree.pairs c.settle.new.runs.tree.pairs inside.runs.labels c.settle.new.runs.labels inside.visible inside.shown inside.cursor inside.pending c.self.invariant c.settle.ensures.pairs c.settle.ensures.labels) c.change_run.new.self.tree.pairs c.in_ok-recast.recast.altered c.in_ok-recast.ensures.recounted

pub shown-self-inside-requires-clause-some : goal.shown-self-inside-requires-clause-some
shown-self-inside-requires-clause-some g c =
    let most = c.in_ok-recast.ensures.recounted.shown_there in
    let inside = c.self.inside in
    let so = (now_counted inside.runs.tree.pairs c.settle.new.runs.tree.pairs inside.runs.labels c.settle.new.runs.labels inside.visible inside.shown inside.cursor inside.pending c.self.invariant c.settle.ensures.pairs c.settle.ensures.labels).shown_is in
    omega (arith, most, so)

pub shown-self-inside-requires-clause-few : goal.shown-self-inside-requires-clause-few
shown-self-inside-requires-clause-few g c =
    let inside = c.self.inside in
    shown_fits c.settle.new.runs.tree.pairs c.settle.new.runs.labels inside.visible inside.shown (now_counted inside.runs.tree.pairs c.settle.new.runs.tree.pairs inside.runs.labels c.settle.new.runs.labels inside.visible inside.shown inside.cursor inside.pending c.self.invariant c.settle.ensures.pairs c.settle.ensures.labels) c.change_run.new.self.tree.pairs c.in_ok-recast.recast.altered c.in_ok-recast.ensures.recounted

pub invariant_of-self-2 : goal.invariant_of-self-2
invariant_of-self-2 g c =
    let inside = c.self.inside in
    let counted = counted_again c.settle.new.runs.tree.pairs c.settle.new.runs.labels inside.visible inside.shown (now_counted inside.runs.tree.pairs c.settle.new.runs.tree.pairs inside.runs.labels c.settle.new.runs.labels inside.visible inside.shown inside.cursor inside.pending c.self.invariant c.settle.ensures.pairs c.settle.ensures.labels) c.change_run.new.self.tree.pairs c.in_ok-recast.recast.altered c.in_ok-recast.ensures.recounted c.change_run.new.self.labels
    c.visible-self-inside.result c.shown-self-inside.result c.change_run.ensures.laid c.visible-self-inside.ensures c.shown-self-inside.ensures in
    record { counted = counted; cursor = tt; told = λ e. refl; few = counted.few }

pub returns-clause-was : goal.returns-clause-was
returns-clause-was g c = λ n low high.
    ap (λ (s : InRuns). knows s.records (node_by c.args.kind n)) (sym (ap in_runs c.settle.ensures.pairs ∙ c.self.view_is)) ∙ c.in_ok-recast.ensures.was n low high ∙ sym (ap (λ (k : Known). k.was) c.known.ensures)

pub returns-clause-is : goal.returns-clause-is
returns-clause-is g c = λ n low high. c.in_ok-recast.ensures.is n low high ∙ sym (ap (λ (k : Known). k.is) c.known.ensures)

pub returns-in_err-recast-clause-refused : goal.returns-in_err-recast-clause-refused
returns-in_err-recast-clause-refused g c =
    if_none c.from_residual.result _ (λ run n held offset within.
    let there = subst (λ (s : InRuns). Contains s.runs run) (sym (ap in_runs c.settle.ensures.pairs ∙ c.self.view_is)) held in
    let at = label_of_run c.settle.new.runs.tree.pairs run there in
    c.in_err-recast.ensures.refused at.0 n run at.1 offset within)
