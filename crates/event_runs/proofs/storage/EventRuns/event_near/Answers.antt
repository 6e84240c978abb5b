use Rattle.std.proofs.Common.{◌≡◌, ◌∙◌, ◌-◌, ◌≤◌, ℕ, List, length, slice_get, option_map, Some, sym, ap, subst, arith}
use Rattle.std.proofs.lemmas.Option.{slice_get-map}
use Rattle.ew_model.specs.declared.event.Op.{Op}
use Rattle.ew_model.specs.Positions.{AreParents, parents_at}
use Rattle.event_runs.specs.declared.runs.Run.{Run}
use Rattle.event_runs.specs.BareEvents.{BareEvent, ops_in, parents_in}
use Rattle.event_runs.specs.KeptRuns.{Told, HasLabel, op_in, events_in, AreRuns}
use Rattle.event_runs.proofs.RunEvents.{lists_alike}
use Rattle.event_runs.proofs.Found.{told_by, HasFound, held_within, found, within_count, parents_first, parents_later, lower_in}
use Rattle.event_runs.proofs.storage.EventRuns.event_near.Goals.{After-get, After-inline_from, After-inline_from-else-run-lv}
use Rattle.event_runs.proofs.storage.EventRuns.event_near.Goals as goal

op_told : (cs : Told) (seen : List ℕ) (labels : List (List ℕ)) (runs : List Run) (lists : List (List ℕ)) (count place lv : ℕ) (run : Run) (all : List BareEvent) (op : Op) → HasFound cs runs lists count place lv run
    → events_in cs runs lists ≡ all → seen ≡ cs.chars → labels ≡ cs.labels → op ≡ op_in run.kind run.at run.chars_before (told_by seen labels) (lv - run.start) → slice_get (ops_in all) lv ≡ Some op
op_told cs seen labels runs lists count place lv run all op f same chars labelled is =
    ap (λ (es : List BareEvent). slice_get (ops_in es) lv) (sym same)
    ∙ slice_get-map (λ (e : BareEvent). e.op) (events_in cs runs lists) lv
    ∙ ap (option_map (λ (e : BareEvent). e.op)) f.event
    ∙ (λ i. Some (op_in run.kind run.at run.chars_before (told_by (sym chars i) (sym labelled i)) (lv - run.start)))
    ∙ ap Some (sym is)

pub find_run_near-place-requires : goal.find_run_near-place-requires
find_run_near-place-requires c =
    let cs = told_by c.self.inside.chars.items c.self.inside.labels.items in
    let low = within_count cs c.self.inside.runs.items c.self.inside.parents c.self.inside.count c.args.lv c.args.self.now c.self.invariant c.self.view_is c.requires in
    (c.self.inside.parents, c.self.inside.count, length cs.chars, subst (λ (rs : List Run). AreRuns 0 0 rs c.self.inside.parents c.self.inside.count (length cs.chars)) (sym c.deref.ensures.value) c.self.invariant.in_line, low, omega arith)

pub index-requires : goal.index-requires
index-requires c =
    let low = held_within c.self.inside.runs.items c.deref.result.now c.find_run_near-place.result c.args.lv c.deref.ensures.value c.find_run_near-place.ensures in
    omega (arith, low, c.self.inside.runs.ok.0)

pub overflow_sub-lv : goal.overflow_sub-lv
overflow_sub-lv c =
    let f = found (told_by c.self.inside.chars.items c.self.inside.labels.items) c.self.inside.runs.items c.deref.result.now c.self.inside.parents c.self.inside.count c.find_run_near-place.result c.args.lv c.index.result.now
    c.self.invariant c.deref.ensures.value c.find_run_near-place.ensures c.index.ensures in
    f.from

pub op_behind-op-requires-clause-within : goal.op_behind-op-requires-clause-within
op_behind-op-requires-clause-within c =
    let f = found (told_by c.self.inside.chars.items c.self.inside.labels.items) c.self.inside.runs.items c.deref.result.now c.self.inside.parents c.self.inside.count c.find_run_near-place.result c.args.lv c.index.result.now
    c.self.invariant c.deref.ensures.value c.find_run_near-place.ensures c.index.ensures in
    let from = f.from in let to = f.to in omega (arith, from, to)

pub op_behind-op-requires-clause-fits : goal.op_behind-op-requires-clause-fits
op_behind-op-requires-clause-fits c =
    let f = found (told_by c.self.inside.chars.items c.self.inside.labels.items) c.self.inside.runs.items c.deref.result.now c.self.inside.parents c.self.inside.count c.find_run_near-place.result c.args.lv c.index.result.now
    c.self.invariant c.deref.ensures.value c.find_run_near-place.ensures c.index.ensures in
    f.within.fits

pub op_behind-op-requires-clause-chars : goal.op_behind-op-requires-clause-chars
op_behind-op-requires-clause-chars c =
    let f = found (told_by c.self.inside.chars.items c.self.inside.labels.items) c.self.inside.runs.items c.deref.result.now c.self.inside.parents c.self.inside.count c.find_run_near-place.result c.args.lv c.index.result.now
    c.self.invariant c.deref.ensures.value c.find_run_near-place.ensures c.index.ensures in
    let chars = f.within.chars in let long = ap (length {A = ℕ}) c.deref-2.ensures.value in omega (arith, chars, long)

pub op_behind-op-requires-clause-label : goal.op_behind-op-requires-clause-label
op_behind-op-requires-clause-label c =
    let run = c.index.result.now in
    let f = found (told_by c.self.inside.chars.items c.self.inside.labels.items) c.self.inside.runs.items c.deref.result.now c.self.inside.parents c.self.inside.count c.find_run_near-place.result c.args.lv run
    c.self.invariant c.deref.ensures.value c.find_run_near-place.ensures c.index.ensures in
    subst (λ (ls : List (List ℕ)). HasLabel run.kind run.at (length ls)) (sym c.deref-3.ensures.value) f.label

pub get-requires : goal.get-requires
get-requires c =
    let low = held_within c.self.inside.runs.items c.deref.result.now c.find_run_near-place.result c.args.lv c.deref.ensures.value c.find_run_near-place.ensures in
    let alike = lists_alike c.self.inside.runs.items c.self.inside.parents 0 0 c.self.inside.count (length c.self.inside.chars.items) c.self.invariant.in_line in
    omega (arith, low, alike)

first : (c : After-get) → c.get.result.now ≡ parents_at (parents_in c.args.self.now) c.args.lv
first c =
    let f = found (told_by c.self.inside.chars.items c.self.inside.labels.items) c.self.inside.runs.items c.deref.result.now c.self.inside.parents c.self.inside.count c.find_run_near-place.result c.args.lv c.index.result.now
    c.self.invariant c.deref.ensures.value c.find_run_near-place.ensures c.index.ensures in
    c.get.ensures ∙ parents_first (told_by c.self.inside.chars.items c.self.inside.labels.items) c.self.inside.runs.items c.self.inside.parents c.self.inside.count c.find_run_near-place.result c.args.lv c.index.result.now c.args.self.now f c.self.view_is c.if-run-lv.true

pub inline_from-requires : goal.inline_from-requires
inline_from-requires c =
    let lower = lower_in (told_by c.self.inside.chars.items c.self.inside.labels.items) c.self.inside.runs.items c.self.inside.parents c.self.inside.count c.args.lv c.args.self.now c.self.invariant c.self.view_is c.requires in
    subst (λ ps. length ps ≤ 16) (sym (first c)) lower.few

same_first : (c : After-inline_from) → c.inline_from.result.items ≡ parents_at (parents_in c.args.self.now) c.args.lv
same_first c =
    let f = found (told_by c.self.inside.chars.items c.self.inside.labels.items) c.self.inside.runs.items c.deref.result.now c.self.inside.parents c.self.inside.count c.find_run_near-place.result c.args.lv c.index.result.now
    c.self.invariant c.deref.ensures.value c.find_run_near-place.ensures c.index.ensures in
    c.inline_from.ensures ∙ c.get.ensures ∙ parents_first (told_by c.self.inside.chars.items c.self.inside.labels.items) c.self.inside.runs.items c.self.inside.parents c.self.inside.count c.find_run_near-place.result c.args.lv c.index.result.now c.args.self.now f c.self.view_is c.if-run-lv.true

pub returns-then-run-lv-clause-op : goal.returns-then-run-lv-clause-op
returns-then-run-lv-clause-op c =
    let f = found (told_by c.self.inside.chars.items c.self.inside.labels.items) c.self.inside.runs.items c.deref.result.now c.self.inside.parents c.self.inside.count c.find_run_near-place.result c.args.lv c.index.result.now
    c.self.invariant c.deref.ensures.value c.find_run_near-place.ensures c.index.ensures in
    op_told (told_by c.self.inside.chars.items c.self.inside.labels.items) c.deref-2.result.now c.deref-3.result.now c.self.inside.runs.items c.self.inside.parents c.self.inside.count c.find_run_near-place.result c.args.lv c.index.result.now c.args.self.now
    c.op_behind-op.result f c.self.view_is c.deref-2.ensures.value c.deref-3.ensures.value c.op_behind-op.ensures

pub returns-then-run-lv-clause-parents : goal.returns-then-run-lv-clause-parents
returns-then-run-lv-clause-parents c =
    same_first c

pub returns-then-run-lv-clause-lower : goal.returns-then-run-lv-clause-lower
returns-then-run-lv-clause-lower c =
    subst (AreParents c.args.lv) (sym (same_first c)) (lower_in (told_by c.self.inside.chars.items c.self.inside.labels.items) c.self.inside.runs.items c.self.inside.parents c.self.inside.count c.args.lv c.args.self.now c.self.invariant c.self.view_is c.requires)

pub overflow_sub-lv-else-run-lv : goal.overflow_sub-lv-else-run-lv
overflow_sub-lv-else-run-lv c =
    let f = found (told_by c.self.inside.chars.items c.self.inside.labels.items) c.self.inside.runs.items c.deref.result.now c.self.inside.parents c.self.inside.count c.find_run_near-place.result c.args.lv c.index.result.now
    c.self.invariant c.deref.ensures.value c.find_run_near-place.ensures c.index.ensures in
    let from = f.from in omega (arith, from, c.if-run-lv.false)

same_later : (c : After-inline_from-else-run-lv) → c.inline_from-else-run-lv.result.items ≡ parents_at (parents_in c.args.self.now) c.args.lv
same_later c =
    let f = found (told_by c.self.inside.chars.items c.self.inside.labels.items) c.self.inside.runs.items c.deref.result.now c.self.inside.parents c.self.inside.count c.find_run_near-place.result c.args.lv c.index.result.now
    c.self.invariant c.deref.ensures.value c.find_run_near-place.ensures c.index.ensures in
    c.inline_from-else-run-lv.ensures ∙ parents_later (told_by c.self.inside.chars.items c.self.inside.labels.items) c.self.inside.runs.items c.self.inside.parents c.self.inside.count c.find_run_near-place.result c.args.lv c.index.result.now c.args.self.now f c.self.view_is c.if-run-lv.false

pub returns-else-run-lv-clause-op : goal.returns-else-run-lv-clause-op
returns-else-run-lv-clause-op c =
    let f = found (told_by c.self.inside.chars.items c.self.inside.labels.items) c.self.inside.runs.items c.deref.result.now c.self.inside.parents c.self.inside.count c.find_run_near-place.result c.args.lv c.index.result.now
    c.self.invariant c.deref.ensures.value c.find_run_near-place.ensures c.index.ensures in
    op_told (told_by c.self.inside.chars.items c.self.inside.labels.items) c.deref-2.result.now c.deref-3.result.now c.self.inside.runs.items c.self.inside.parents c.self.inside.count c.find_run_near-place.result c.args.lv c.index.result.now c.args.self.now
    c.op_behind-op.result f c.self.view_is c.deref-2.ensures.value c.deref-3.ensures.value c.op_behind-op.ensures

pub returns-else-run-lv-clause-parents : goal.returns-else-run-lv-clause-parents
returns-else-run-lv-clause-parents c =
    same_later c

pub returns-else-run-lv-clause-lower : goal.returns-else-run-lv-clause-lower
returns-else-run-lv-clause-lower c =
    subst (AreParents c.args.lv) (sym (same_later c)) (lower_in (told_by c.self.inside.chars.items c.self.inside.labels.items) c.self.inside.runs.items c.self.inside.parents c.self.inside.count c.args.lv c.args.self.now c.self.invariant c.self.view_is c.requires)
