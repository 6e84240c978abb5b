use Rattle.std.proofs.Common.{◌∙◌, ◌-◌, ℕ, List, map, length, slice_get, option_map, Some, sym, ap, subst, arith}
use Rattle.std.proofs.lemmas.Option.{slice_get-map}
use Rattle.ew_model.specs.TextLaws.{own_change}
use Rattle.event_runs.specs.declared.runs.Run.{Run}
use Rattle.event_runs.specs.BareEvents.{BareEvent, ops_in}
use Rattle.event_runs.specs.KeptRuns.{op_in, events_in, AreRuns}
use Rattle.event_runs.proofs.Found.{told_by, held_within, found, within_count}
use Rattle.event_runs.proofs.storage.EventRuns.change_near.Goals as goal

pub find_run_near-place-requires : goal.find_run_near-place-requires
find_run_near-place-requires c =
    let cs = told_by c.self.inside.chars.items c.self.inside.labels.items in
    let low = within_count cs c.self.inside.runs.items c.self.inside.parents c.self.inside.count c.args.lv c.args.self.now c.self.invariant c.self.view_is c.requires in
    (c.self.inside.parents, c.self.inside.count, length cs.chars, subst (λ (rs : List Run). AreRuns 0 0 rs c.self.inside.parents c.self.inside.count (length cs.chars)) (sym c.deref.ensures.value) c.self.invariant.in_line, low, omega arith)

pub index-requires : goal.index-requires
index-requires c =
    let low = held_within c.self.inside.runs.items c.deref.result.now c.find_run_near-place.result c.args.lv c.deref.ensures.value c.find_run_near-place.ensures in
    omega (arith, low, c.self.inside.runs.ok.0)

pub overflow_sub-lv : goal.overflow_sub-lv
overflow_sub-lv c =
    (found (told_by c.self.inside.chars.items c.self.inside.labels.items) c.self.inside.runs.items c.deref.result.now c.self.inside.parents c.self.inside.count c.find_run_near-place.result c.args.lv c.index.result.now
    c.self.invariant c.deref.ensures.value c.find_run_near-place.ensures c.index.ensures).from

pub change_behind-requires-clause-within : goal.change_behind-requires-clause-within
change_behind-requires-clause-within c =
    let f = found (told_by c.self.inside.chars.items c.self.inside.labels.items) c.self.inside.runs.items c.deref.result.now c.self.inside.parents c.self.inside.count c.find_run_near-place.result c.args.lv c.index.result.now
    c.self.invariant c.deref.ensures.value c.find_run_near-place.ensures c.index.ensures in
    let from = f.from in let to = f.to in omega (arith, from, to)

pub change_behind-requires-clause-fits : goal.change_behind-requires-clause-fits
change_behind-requires-clause-fits c =
    (found (told_by c.self.inside.chars.items c.self.inside.labels.items) c.self.inside.runs.items c.deref.result.now c.self.inside.parents c.self.inside.count c.find_run_near-place.result c.args.lv c.index.result.now
    c.self.invariant c.deref.ensures.value c.find_run_near-place.ensures c.index.ensures).within.fits

pub change_behind-requires-clause-chars : goal.change_behind-requires-clause-chars
change_behind-requires-clause-chars c =
    let f = found (told_by c.self.inside.chars.items c.self.inside.labels.items) c.self.inside.runs.items c.deref.result.now c.self.inside.parents c.self.inside.count c.find_run_near-place.result c.args.lv c.index.result.now
    c.self.invariant c.deref.ensures.value c.find_run_near-place.ensures c.index.ensures in
    let chars = f.within.chars in let long = ap (length {A = ℕ}) c.deref-2.ensures.value in omega (arith, chars, long)

pub returns : goal.returns
returns c =
    let run = c.index.result.now in
    let told = told_by c.self.inside.chars.items c.self.inside.labels.items in
    let events = events_in told c.self.inside.runs.items c.self.inside.parents in
    let f = found told c.self.inside.runs.items c.deref.result.now c.self.inside.parents c.self.inside.count c.find_run_near-place.result c.args.lv run
    c.self.invariant c.deref.ensures.value c.find_run_near-place.ensures c.index.ensures in
    ap (λ (es : List BareEvent). slice_get (map own_change (ops_in es)) c.args.lv) (sym c.self.view_is)
    ∙ slice_get-map own_change (ops_in events) c.args.lv
    ∙ ap (option_map own_change) (slice_get-map (λ (e : BareEvent). e.op) events c.args.lv ∙ ap (option_map (λ (e : BareEvent). e.op)) f.event)
    ∙ (λ i. Some (own_change (op_in run.kind run.at run.chars_before (told_by (sym c.deref-2.ensures.value i) told.labels) (c.args.lv - run.start))))
    ∙ ap Some (sym (c.change_behind.ensures told.labels))
