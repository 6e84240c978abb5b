use Rattle.std.proofs.Common.{◌≡◌, ◌∙◌, ℕ, ◌+◌, ◌-◌, ◌<◌, ◌≤◌, List, Some, length, slice_get, sym, ap, refl, subst, arith}
use Rattle.std.proofs.lemmas.Option.{slice_get-get_or, get_or_from_slice_get}
use Rattle.ew_model.specs.Positions.{AreParents, parents_at}
use Rattle.frontier.specs.Chains.{IsChain}
use Rattle.event_runs.specs.declared.runs.Run.{Run}
use Rattle.event_runs.specs.BareEvents.{BareEvent, parents_in}
use Rattle.event_runs.specs.KeptRuns.{AreRuns}
use Rattle.event_runs.specs.Following.{FollowEach}
use Rattle.event_runs.proofs.RunEvents.{lists_alike}
use Rattle.event_runs.proofs.FollowedChains.{chain_through}
use Rattle.event_runs.proofs.Found.{HasFound, told_by, held_within, found, within_count, parents_first, lower_in}
use Rattle.event_runs.proofs.storage.EventRuns.chain_at.Goals.{After-get}
use Rattle.event_runs.proofs.storage.EventRuns.chain_at.Goals as goal

pub find_run-last-requires : goal.find_run-last-requires
find_run-last-requires c =
    let cs = told_by c.self.inside.chars.items c.self.inside.labels.items in
    let low = within_count cs c.self.inside.runs.items c.self.inside.parents c.self.inside.count c.args.lv c.args.self.now c.self.invariant c.self.view_is c.requires in
    (c.self.inside.parents, c.self.inside.count, length cs.chars, subst (λ (rs : List Run). AreRuns 0 0 rs c.self.inside.parents c.self.inside.count (length cs.chars)) (sym c.deref.ensures.value) c.self.invariant.in_line, low, omega arith)

pub first_followed-first-requires-clause-alike : goal.first_followed-first-requires-clause-alike
first_followed-first-requires-clause-alike c =
    lists_alike c.self.inside.runs.items c.self.inside.parents 0 0 c.self.inside.count (length c.self.inside.chars.items) c.self.invariant.in_line ∙ ap (length {A = Run}) (sym c.deref-2.ensures.value)

pub index-requires : goal.index-requires
index-requires c =
    let low = held_within c.self.inside.runs.items c.deref.result.now c.find_run-last.result c.args.lv c.deref.ensures.value c.find_run-last.ensures in
    omega (arith, low, c.first_followed-first.ensures.order, c.self.inside.runs.ok.0)

pub get-requires : goal.get-requires
get-requires c =
    let low = held_within c.self.inside.runs.items c.deref.result.now c.find_run-last.result c.args.lv c.deref.ensures.value c.find_run-last.ensures in
    let alike = lists_alike c.self.inside.runs.items c.self.inside.parents 0 0 c.self.inside.count (length c.self.inside.chars.items) c.self.invariant.in_line in
    omega (arith, low, c.first_followed-first.ensures.order, alike)

-- the run with which the chain begins
there : (c : After-get) → slice_get c.self.inside.runs.items c.first_followed-first.result ≡ Some c.index.result.now
there c =
    let low = held_within c.self.inside.runs.items c.deref.result.now c.find_run-last.result c.args.lv c.deref.ensures.value c.find_run-last.ensures in
    slice_get-get_or c.self.inside.runs.items c.first_followed-first.result c.index.result.now (omega (arith, low, c.first_followed-first.ensures.order)) ∙ ap Some (sym c.index.ensures)

chain : (c : After-get) → IsChain (parents_in c.args.self.now) c.index.result.now.start c.args.lv
chain c =
    let cs = told_by c.self.inside.chars.items c.self.inside.labels.items in let runs = c.self.inside.runs.items in let lists = c.self.inside.parents in
    let h = c.find_run-last.ensures in
    let last = c.find_run-last.result in
    let first = c.first_followed-first.result in
    let held : slice_get runs last ≡ Some h.run = ap (λ (rs : List Run). slice_get rs last) (sym c.deref.ensures.value) ∙ h.there in
    let f = found cs runs c.deref.result.now lists c.self.inside.count last c.args.lv h.run c.self.invariant c.deref.ensures.value h (sym (get_or_from_slice_get runs last h.run h.run held)) in
    subst (λ (es : List BareEvent). IsChain (parents_in es) c.index.result.now.start c.args.lv) c.self.view_is
    (chain_through cs runs lists c.self.inside.count first (last - first) last c.args.lv c.index.result.now h.run c.self.invariant (omega (arith, c.first_followed-first.ensures.order))
    (subst (λ (rs : List Run). FollowEach rs lists first last) c.deref-2.ensures.value c.first_followed-first.ensures.follow) (there c) f)

-- the list that is handed out has the parents of the chain's first event
first : (c : After-get) → c.get.result.now ≡ parents_at (parents_in c.args.self.now) c.index.result.now.start
first c =
    let cs = told_by c.self.inside.chars.items c.self.inside.labels.items in let runs = c.self.inside.runs.items in let lists = c.self.inside.parents in let run = c.index.result.now in
    let place = c.first_followed-first.result in
    let f = found cs runs runs lists c.self.inside.count place run.start run c.self.invariant refl (record { run = run; there = there c; from = omega arith; to = omega arith }) c.index.ensures in
    c.get.ensures ∙ parents_first cs runs lists c.self.inside.count place run.start run c.args.self.now f c.self.view_is refl

pub returns-clause-chain : goal.returns-clause-chain
returns-clause-chain c = chain c

pub returns-clause-value : goal.returns-clause-value
returns-clause-value c = first c

pub returns-clause-lower : goal.returns-clause-lower
returns-clause-lower c =
    let order = (chain c).order in
    let low : c.index.result.now.start < length c.args.self.now = omega (arith, order, c.requires) in
    subst (AreParents c.index.result.now.start) (sym (first c))
    (lower_in (told_by c.self.inside.chars.items c.self.inside.labels.items) c.self.inside.runs.items c.self.inside.parents c.self.inside.count c.index.result.now.start c.args.self.now c.self.invariant c.self.view_is low)
