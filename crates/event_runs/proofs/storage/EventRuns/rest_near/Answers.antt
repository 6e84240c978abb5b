use Rattle.std.proofs.Common.{◌≡◌, ℕ, suc, ◌+◌, ◌-◌, ◌<◌, ◌^◌, List, length, map, slice_get, sym, ap, ◌∙◌, subst, arith}
use Rattle.ew_model.specs.declared.text_op.TextOp.{TextOp}
use Rattle.ew_model.specs.TextLaws.{own_change}
use Rattle.frontier.specs.Chains.{IsChain}
use Rattle.operation_runs.specs.Runs.{run_ops}
use Rattle.event_runs.specs.declared.runs.Run.{Run}
use Rattle.event_runs.specs.BareEvents.{BareEvent, ops_in, parents_in}
use Rattle.event_runs.specs.KeptRuns.{AreRuns}
use Rattle.event_runs.specs.Rests.{changes_from}
use Rattle.event_runs.specs.Runs.{IsRunEnd}
use Rattle.event_runs.proofs.Found.{told_by, held_within, found, within_count}
use Rattle.event_runs.proofs.Rests.{length-changes_from, read_changes, rest_change, rest_chained, rest_ends, rest_within}
use Rattle.event_runs.proofs.storage.EventRuns.rest_near.Goals as goal

pub find_run_near-place-requires : goal.find_run_near-place-requires
find_run_near-place-requires c =
    let cs = told_by c.self.inside.chars.items c.self.inside.labels.items in
    let low = within_count cs c.self.inside.runs.items c.self.inside.parents c.self.inside.count c.args.lv c.args.self.now c.self.invariant c.self.view_is c.requires in
    (c.self.inside.parents, c.self.inside.count, length cs.chars, subst (λ (rs : List Run). AreRuns 0 0 rs c.self.inside.parents c.self.inside.count (length cs.chars)) (sym c.deref.ensures.value) c.self.invariant.in_line, low, omega arith)

pub index-requires : goal.index-requires
index-requires c =
    let low = held_within c.self.inside.runs.items c.deref.result.now c.find_run_near-place.result c.args.lv c.deref.ensures.value c.find_run_near-place.ensures in
    omega (arith, low, c.self.inside.runs.ok.0)

pub overflow_sub-lv : goal.overflow_sub-lv
overflow_sub-lv c =
    (found (told_by c.self.inside.chars.items c.self.inside.labels.items) c.self.inside.runs.items c.deref.result.now c.self.inside.parents c.self.inside.count c.find_run_near-place.result c.args.lv c.index.result.now
    c.self.invariant c.deref.ensures.value c.find_run_near-place.ensures c.index.ensures).from

pub rest-requires : goal.rest-requires
rest-requires c =
    let f = found (told_by c.self.inside.chars.items c.self.inside.labels.items) c.self.inside.runs.items c.deref.result.now c.self.inside.parents c.self.inside.count c.find_run_near-place.result c.args.lv c.index.result.now
    c.self.invariant c.deref.ensures.value c.find_run_near-place.ensures c.index.ensures in
    let from = f.from in let to = f.to in let high = f.within.high in let chars = f.within.chars in
    let long = ap (length {A = ℕ}) c.deref-2.ensures.value in
    let count : c.self.inside.count < 2 ^ 32 = omega arith in
    record { some = omega (arith, from, to); few = omega (arith, high, count); fits = f.within.fits; within = omega (arith, chars, long) }

pub returns-clause-some : goal.returns-clause-some
returns-clause-some c =
    let run = c.index.result.now in
    let f = found (told_by c.self.inside.chars.items c.self.inside.labels.items) c.self.inside.runs.items c.deref.result.now c.self.inside.parents c.self.inside.count c.find_run_near-place.result c.args.lv run
    c.self.invariant c.deref.ensures.value c.find_run_near-place.ensures c.index.ensures in
    let from = f.from in let to = f.to in
    omega (arith, from, to, ap (length {A = TextOp}) c.rest.ensures.changes, length-changes_from run c.deref-2.result.now (c.args.lv - run.start))

pub returns-clause-within : goal.returns-clause-within
returns-clause-within c =
    let run = c.index.result.now in
    let told = told_by c.self.inside.chars.items c.self.inside.labels.items in
    let f = found told c.self.inside.runs.items c.deref.result.now c.self.inside.parents c.self.inside.count c.find_run_near-place.result c.args.lv run
    c.self.invariant c.deref.ensures.value c.find_run_near-place.ensures c.index.ensures in
    let from = f.from in let to = f.to in
    omega (
      arith,
      from,
      to,
      ap (length {A = TextOp}) c.rest.ensures.changes,
      length-changes_from run c.deref-2.result.now (c.args.lv - run.start),
      ap (length {A = BareEvent}) c.self.view_is,
      rest_within told c.self.inside.runs.items c.self.inside.parents c.self.inside.count c.find_run_near-place.result c.args.lv run c.self.invariant f,
    )

pub returns-clause-changes : goal.returns-clause-changes
returns-clause-changes c = λ k low.
    let run = c.index.result.now in
    let chars = c.self.inside.chars.items in
    let told = told_by chars c.self.inside.labels.items in
    let f = found told c.self.inside.runs.items c.deref.result.now c.self.inside.parents c.self.inside.count c.find_run_near-place.result c.args.lv run
    c.self.invariant c.deref.ensures.value c.find_run_near-place.ensures c.index.ensures in
    let from = f.from in let to = f.to in
    let before = c.args.lv - run.start in
    let is : run_ops c.rest.result ≡ changes_from run chars before = c.rest.ensures.changes ∙ ap (λ (cs : List ℕ). changes_from run cs before) c.deref-2.ensures.value in
    let there : k < suc run.more - before = omega (arith, low, ap (length {A = TextOp}) is, length-changes_from run chars before) in
    ap (λ (es : List BareEvent). slice_get (map own_change (ops_in es)) (c.args.lv + k)) (sym c.self.view_is)
    ∙ rest_change told c.self.inside.runs.items c.self.inside.parents c.self.inside.count c.find_run_near-place.result c.args.lv run c.self.invariant f k (omega (arith, there, from, to))
    ∙ sym (ap (λ (cs : List TextOp). slice_get cs k) is ∙ read_changes run chars before k there)

pub returns-clause-chain : goal.returns-clause-chain
returns-clause-chain c =
    let run = c.index.result.now in
    let told = told_by c.self.inside.chars.items c.self.inside.labels.items in
    let f = found told c.self.inside.runs.items c.deref.result.now c.self.inside.parents c.self.inside.count c.find_run_near-place.result c.args.lv run
    c.self.invariant c.deref.ensures.value c.find_run_near-place.ensures c.index.ensures in
    let from = f.from in let to = f.to in
    let last : c.args.lv + length (run_ops c.rest.result) - 1 ≡ run.start + run.more = omega (arith, from, to, ap (length {A = TextOp}) c.rest.ensures.changes, length-changes_from run c.deref-2.result.now (c.args.lv - run.start)) in
    subst (λ (es : List BareEvent). IsChain (parents_in es) c.args.lv (c.args.lv + length (run_ops c.rest.result) - 1)) c.self.view_is
    (rest_chained told c.self.inside.runs.items c.self.inside.parents c.self.inside.count c.find_run_near-place.result c.args.lv run c.self.invariant f (c.args.lv + length (run_ops c.rest.result) - 1) last)

pub returns-clause-end : goal.returns-clause-end
returns-clause-end c =
    let run = c.index.result.now in
    let told = told_by c.self.inside.chars.items c.self.inside.labels.items in
    let f = found told c.self.inside.runs.items c.deref.result.now c.self.inside.parents c.self.inside.count c.find_run_near-place.result c.args.lv run
    c.self.invariant c.deref.ensures.value c.find_run_near-place.ensures c.index.ensures in
    let from = f.from in let to = f.to in
    let end : c.args.lv + length (run_ops c.rest.result) ≡ run.start + suc run.more = omega (arith, from, to, ap (length {A = TextOp}) c.rest.ensures.changes, length-changes_from run c.deref-2.result.now (c.args.lv - run.start)) in
    subst (λ (es : List BareEvent). IsRunEnd es c.args.lv (c.args.lv + length (run_ops c.rest.result))) c.self.view_is
    (rest_ends told c.self.inside.runs.items c.self.inside.parents c.self.inside.count c.find_run_near-place.result c.args.lv run c.self.invariant f (c.args.lv + length (run_ops c.rest.result)) end)
