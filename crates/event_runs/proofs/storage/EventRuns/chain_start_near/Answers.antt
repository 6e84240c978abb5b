use Rattle.std.proofs.Common.{List, length, sym, subst, arith}
use Rattle.frontier.specs.Chains.{IsChain}
use Rattle.event_runs.specs.declared.runs.Run.{Run}
use Rattle.event_runs.specs.BareEvents.{BareEvent, parents_in}
use Rattle.event_runs.specs.Runs.{IsRunStart}
use Rattle.event_runs.specs.KeptRuns.{AreRuns}
use Rattle.event_runs.proofs.OneCut.{one_beginning}
use Rattle.event_runs.proofs.Found.{told_by, held_within, found, within_count, chained, begun}
use Rattle.event_runs.proofs.storage.EventRuns.chain_start_near.Goals as goal

pub find_run_near-place-requires : goal.find_run_near-place-requires
find_run_near-place-requires c =
    let cs = told_by c.self.inside.chars.items c.self.inside.labels.items in
    let low = within_count cs c.self.inside.runs.items c.self.inside.parents c.self.inside.count c.args.lv c.args.self.now c.self.invariant c.self.view_is c.requires in
    (c.self.inside.parents, c.self.inside.count, length cs.chars, subst (λ (rs : List Run). AreRuns 0 0 rs c.self.inside.parents c.self.inside.count (length cs.chars)) (sym c.deref.ensures.value) c.self.invariant.in_line, low, omega arith)

pub index-requires : goal.index-requires
index-requires c =
    let low = held_within c.self.inside.runs.items c.deref.result.now c.find_run_near-place.result c.args.lv c.deref.ensures.value c.find_run_near-place.ensures in
    omega (arith, low, c.self.inside.runs.ok.0)

pub returns-clause-chain : goal.returns-clause-chain
returns-clause-chain c =
    let cs = told_by c.self.inside.chars.items c.self.inside.labels.items in let runs = c.self.inside.runs.items in let lists = c.self.inside.parents in
    let f = found cs runs c.deref.result.now lists c.self.inside.count c.find_run_near-place.result c.args.lv c.index.result.now c.self.invariant c.deref.ensures.value c.find_run_near-place.ensures c.index.ensures in
    subst (λ (es : List BareEvent). IsChain (parents_in es) c.index.result.now.start c.args.lv) c.self.view_is (chained cs runs lists c.self.inside.count c.find_run_near-place.result c.args.lv c.index.result.now c.self.invariant f)

pub returns-clause-start : goal.returns-clause-start
returns-clause-start c =
    let cs = told_by c.self.inside.chars.items c.self.inside.labels.items in let runs = c.self.inside.runs.items in let lists = c.self.inside.parents in
    let f = found cs runs c.deref.result.now lists c.self.inside.count c.find_run_near-place.result c.args.lv c.index.result.now c.self.invariant c.deref.ensures.value c.find_run_near-place.ensures c.index.ensures in
    subst (λ (es : List BareEvent). IsRunStart es c.args.lv c.index.result.now.start) c.self.view_is (begun cs runs lists c.self.inside.count c.find_run_near-place.result c.args.lv c.index.result.now c.self.invariant f)

pub returns-clause-only : goal.returns-clause-only
returns-clause-only c = λ start other.
    let cs = told_by c.self.inside.chars.items c.self.inside.labels.items in let runs = c.self.inside.runs.items in let lists = c.self.inside.parents in
    let f = found cs runs c.deref.result.now lists c.self.inside.count c.find_run_near-place.result c.args.lv c.index.result.now c.self.invariant c.deref.ensures.value c.find_run_near-place.ensures c.index.ensures in
    one_beginning c.args.self.now c.args.lv start c.index.result.now.start other
    (subst (λ (es : List BareEvent). IsRunStart es c.args.lv c.index.result.now.start) c.self.view_is (begun cs runs lists c.self.inside.count c.find_run_near-place.result c.args.lv c.index.result.now c.self.invariant f))
