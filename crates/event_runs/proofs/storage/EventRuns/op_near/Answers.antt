use Rattle.std.proofs.Common.{◌∙◌, ◌-◌, ℕ, List, length, slice_get, option_map, Some, sym, ap, subst, arith}
use Rattle.std.proofs.lemmas.Option.{slice_get-map}
use Rattle.event_runs.specs.declared.runs.Run.{Run}
use Rattle.event_runs.specs.BareEvents.{BareEvent, ops_in}
use Rattle.event_runs.specs.KeptRuns.{HasLabel, op_in, events_in, AreRuns}
use Rattle.event_runs.proofs.Found.{told_by, held_within, found, within_count}
use Rattle.event_runs.proofs.storage.EventRuns.op_near.Goals as goal

pub find_run_near-place-requires : goal.find_run_near-place-requires
find_run_near-place-requires c =
    let cs = told_by c.self.inside.chars.items c.self.inside.labels.items in
    let low = within_count cs c.self.inside.runs.items c.self.inside.parents c.self.inside.count c.args.lv c.args.self.now c.self.invariant c.self.view_is c.requires in
    (c.self.inside.parents, c.self.inside.count, length cs.chars, subst (λ (rs : List Run). AreRuns 0 0 rs c.self.inside.parents c.self.inside.count (length cs.chars)) (sym c.deref.ensures.value) c.self.invariant.in_line, low, omega arith)

pub index-requires : goal.index-requires
index-requires c =
    let low = held_within c.self.inside.runs.items c.deref.result.now c.find_run_near-place.result c.args.lv c.deref.ensures.value c.find_run_near-place.ensures in
    omega (arith, low, c.self.inside.runs.ok.0)

pub overflow_sub-lv : goal.overflow_sub-lv
overflow_sub-lv c =
    (found (told_by c.self.inside.chars.items c.self.inside.labels.items) c.self.inside.runs.items c.deref.result.now c.self.inside.parents c.self.inside.count c.find_run_near-place.result c.args.lv c.index.result.now
    c.self.invariant c.deref.ensures.value c.find_run_near-place.ensures c.index.ensures).from

pub op_behind-requires-clause-within : goal.op_behind-requires-clause-within
op_behind-requires-clause-within c =
    let f = found (told_by c.self.inside.chars.items c.self.inside.labels.items) c.self.inside.runs.items c.deref.result.now c.self.inside.parents c.self.inside.count c.find_run_near-place.result c.args.lv c.index.result.now
    c.self.invariant c.deref.ensures.value c.find_run_near-place.ensures c.index.ensures in
    let from = f.from in let to = f.to in omega (arith, from, to)

pub op_behind-requires-clause-fits : goal.op_behind-requires-clause-fits
op_behind-requires-clause-fits c =
    (found (told_by c.self.inside.chars.items c.self.inside.labels.items) c.self.inside.runs.items c.deref.result.now c.self.inside.parents c.self.inside.count c.find_run_near-place.result c.args.lv c.index.result.now
    c.self.invariant c.deref.ensures.value c.find_run_near-place.ensures c.index.ensures).within.fits

pub op_behind-requires-clause-chars : goal.op_behind-requires-clause-chars
op_behind-requires-clause-chars c =
    let f = found (told_by c.self.inside.chars.items c.self.inside.labels.items) c.self.inside.runs.items c.deref.result.now c.self.inside.parents c.self.inside.count c.find_run_near-place.result c.args.lv c.index.result.now
    c.self.invariant c.deref.ensures.value c.find_run_near-place.ensures c.index.ensures in
    let chars = f.within.chars in let long = ap (length {A = ℕ}) c.deref-2.ensures.value in omega (arith, chars, long)

pub op_behind-requires-clause-label : goal.op_behind-requires-clause-label
op_behind-requires-clause-label c =
    let run = c.index.result.now in
    let f = found (told_by c.self.inside.chars.items c.self.inside.labels.items) c.self.inside.runs.items c.deref.result.now c.self.inside.parents c.self.inside.count c.find_run_near-place.result c.args.lv run
    c.self.invariant c.deref.ensures.value c.find_run_near-place.ensures c.index.ensures in
    subst (λ (ls : List (List ℕ)). HasLabel run.kind run.at (length ls)) (sym c.deref-3.ensures.value) f.label

pub returns : goal.returns
returns c =
    let run = c.index.result.now in
    let f = found (told_by c.self.inside.chars.items c.self.inside.labels.items) c.self.inside.runs.items c.deref.result.now c.self.inside.parents c.self.inside.count c.find_run_near-place.result c.args.lv run
    c.self.invariant c.deref.ensures.value c.find_run_near-place.ensures c.index.ensures in
    ap (λ (es : List BareEvent). slice_get (ops_in es) c.args.lv) (sym c.self.view_is)
    ∙ slice_get-map (λ (e : BareEvent). e.op) (events_in (told_by c.self.inside.chars.items c.self.inside.labels.items) c.self.inside.runs.items c.self.inside.parents) c.args.lv
    ∙ ap (option_map (λ (e : BareEvent). e.op)) f.event
    ∙ (λ i. Some (op_in run.kind run.at run.chars_before (told_by (sym c.deref-2.ensures.value i) (sym c.deref-3.ensures.value i)) (c.args.lv - run.start)))
    ∙ ap Some (sym c.op_behind.ensures)
