use Rattle.std.proofs.Common.{◌≡◌, ◌∙◌, ◌≤◌, List, length, sym, subst, arith}
use Rattle.ew_model.specs.Positions.{AreParents, parents_at}
use Rattle.event_runs.specs.declared.runs.Run.{Run}
use Rattle.event_runs.specs.BareEvents.{parents_in}
use Rattle.event_runs.specs.KeptRuns.{AreRuns}
use Rattle.event_runs.proofs.RunEvents.{lists_alike}
use Rattle.event_runs.proofs.Found.{told_by, held_within, found, within_count, parents_first, parents_later, lower_in}
use Rattle.event_runs.proofs.storage.EventRuns.parents_at.Goals.{After-get, After-inline_from, After-inline_from-else-index-lv}
use Rattle.event_runs.proofs.storage.EventRuns.parents_at.Goals as goal

pub find_run-place-requires : goal.find_run-place-requires
find_run-place-requires c =
    let cs = told_by c.self.inside.chars.items c.self.inside.labels.items in
    let low = within_count cs c.self.inside.runs.items c.self.inside.parents c.self.inside.count c.args.lv c.args.self.now c.self.invariant c.self.view_is c.requires in
    (c.self.inside.parents, c.self.inside.count, length cs.chars, subst (λ (rs : List Run). AreRuns 0 0 rs c.self.inside.parents c.self.inside.count (length cs.chars)) (sym c.deref.ensures.value) c.self.invariant.in_line, low, omega arith)

pub index-requires : goal.index-requires
index-requires c =
    let low = held_within c.self.inside.runs.items c.deref.result.now c.find_run-place.result c.args.lv c.deref.ensures.value c.find_run-place.ensures in
    omega (arith, low, c.self.inside.runs.ok.0)

pub get-requires : goal.get-requires
get-requires c =
    let low = held_within c.self.inside.runs.items c.deref.result.now c.find_run-place.result c.args.lv c.deref.ensures.value c.find_run-place.ensures in
    let alike = lists_alike c.self.inside.runs.items c.self.inside.parents 0 0 c.self.inside.count (length c.self.inside.chars.items) c.self.invariant.in_line in
    omega (arith, low, alike)

first : (c : After-get) → c.get.result.now ≡ parents_at (parents_in c.args.self.now) c.args.lv
first c =
    let cs = told_by c.self.inside.chars.items c.self.inside.labels.items in let runs = c.self.inside.runs.items in let lists = c.self.inside.parents in
    let f = found cs runs c.deref.result.now lists c.self.inside.count c.find_run-place.result c.args.lv c.index.result.now c.self.invariant c.deref.ensures.value c.find_run-place.ensures c.index.ensures in
    c.get.ensures ∙ parents_first cs runs lists c.self.inside.count c.find_run-place.result c.args.lv c.index.result.now c.args.self.now f c.self.view_is c.if-index-lv.true

pub inline_from-requires : goal.inline_from-requires
inline_from-requires c =
    let lower = lower_in (told_by c.self.inside.chars.items c.self.inside.labels.items) c.self.inside.runs.items c.self.inside.parents c.self.inside.count c.args.lv c.args.self.now c.self.invariant c.self.view_is c.requires in
    subst (λ ps. length ps ≤ 16) (sym (first c)) lower.few

same_first : (c : After-inline_from) → c.inline_from.result.items ≡ parents_at (parents_in c.args.self.now) c.args.lv
same_first c =
    let cs = told_by c.self.inside.chars.items c.self.inside.labels.items in let runs = c.self.inside.runs.items in let lists = c.self.inside.parents in
    let f = found cs runs c.deref.result.now lists c.self.inside.count c.find_run-place.result c.args.lv c.index.result.now c.self.invariant c.deref.ensures.value c.find_run-place.ensures c.index.ensures in
    c.inline_from.ensures ∙ c.get.ensures ∙ parents_first cs runs lists c.self.inside.count c.find_run-place.result c.args.lv c.index.result.now c.args.self.now f c.self.view_is c.if-index-lv.true

pub returns-then-index-lv-clause-value : goal.returns-then-index-lv-clause-value
returns-then-index-lv-clause-value c = same_first c

pub returns-then-index-lv-clause-lower : goal.returns-then-index-lv-clause-lower
returns-then-index-lv-clause-lower c =
    subst (AreParents c.args.lv) (sym (same_first c)) (lower_in (told_by c.self.inside.chars.items c.self.inside.labels.items) c.self.inside.runs.items c.self.inside.parents c.self.inside.count c.args.lv c.args.self.now c.self.invariant c.self.view_is c.requires)

pub overflow_sub-lv : goal.overflow_sub-lv
overflow_sub-lv c =
    let f = found (told_by c.self.inside.chars.items c.self.inside.labels.items) c.self.inside.runs.items c.deref.result.now c.self.inside.parents c.self.inside.count c.find_run-place.result c.args.lv c.index.result.now
    c.self.invariant c.deref.ensures.value c.find_run-place.ensures c.index.ensures in
    let from = f.from in omega (arith, from, c.if-index-lv.false)

same_later : (c : After-inline_from-else-index-lv) → c.inline_from-else-index-lv.result.items ≡ parents_at (parents_in c.args.self.now) c.args.lv
same_later c =
    let cs = told_by c.self.inside.chars.items c.self.inside.labels.items in let runs = c.self.inside.runs.items in let lists = c.self.inside.parents in
    let f = found cs runs c.deref.result.now lists c.self.inside.count c.find_run-place.result c.args.lv c.index.result.now c.self.invariant c.deref.ensures.value c.find_run-place.ensures c.index.ensures in
    c.inline_from-else-index-lv.ensures ∙ parents_later cs runs lists c.self.inside.count c.find_run-place.result c.args.lv c.index.result.now c.args.self.now f c.self.view_is c.if-index-lv.false

pub returns-else-index-lv-clause-value : goal.returns-else-index-lv-clause-value
returns-else-index-lv-clause-value c = same_later c

pub returns-else-index-lv-clause-lower : goal.returns-else-index-lv-clause-lower
returns-else-index-lv-clause-lower c =
    subst (AreParents c.args.lv) (sym (same_later c)) (lower_in (told_by c.self.inside.chars.items c.self.inside.labels.items) c.self.inside.runs.items c.self.inside.parents c.self.inside.count c.args.lv c.args.self.now c.self.invariant c.self.view_is c.requires)
