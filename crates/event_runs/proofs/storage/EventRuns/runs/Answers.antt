use Rattle.std.proofs.Common.{◌≡◌, ◌∙◌, List, length, ap, subst, arith}
use Rattle.event_runs.specs.BareEvents.{BareEvent}
use Rattle.event_runs.specs.Runs.{AreRunsOf}
use Rattle.event_runs.proofs.Found.{told_by}
use Rattle.event_runs.proofs.RunEvents.{runs_end, lists_alike}
use Rattle.event_runs.proofs.OneCut.{one_cut}
use Rattle.event_runs.proofs.Maximal.{runs_in, count_in, are_runs_of}
use Rattle.event_runs.proofs.storage.EventRuns.runs.Goals as goal

pub overflow_cast-result : goal.overflow_cast-result
overflow_cast-result c =
    let few = runs_end c.self.inside.runs.items c.self.inside.parents 0 0 c.self.inside.count (length c.self.inside.chars.items) c.self.invariant.in_line in
    omega (arith, few, c.len.ensures, c.self.inside.runs.ok.0)

pub returns-clause-count : goal.returns-clause-count
returns-clause-count c =
    let chars = told_by c.self.inside.chars.items c.self.inside.labels.items in
    let runs = c.self.inside.runs.items in
    let lists = c.self.inside.parents in
    let count = c.self.inside.count in
    let alike = lists_alike runs lists 0 0 count (length chars.chars) c.self.invariant.in_line in
    let long : length (runs_in chars runs lists) ≡ c.len.result = count_in chars runs lists alike ∙ (let e : length runs ≡ c.len.result = omega (arith, c.len.ensures, c.self.inside.runs.ok.0) in e) in
    (runs_in chars runs lists, subst (λ (es : List BareEvent). AreRunsOf es (runs_in chars runs lists)) c.self.view_is (are_runs_of chars runs lists count (length chars.chars) c.self.invariant.in_line), long)

pub returns-clause-only : goal.returns-clause-only
returns-clause-only c = λ others cut.
    let chars = told_by c.self.inside.chars.items c.self.inside.labels.items in
    let runs = c.self.inside.runs.items in
    let lists = c.self.inside.parents in
    let count = c.self.inside.count in
    let alike = lists_alike runs lists 0 0 count (length chars.chars) c.self.invariant.in_line in
    let same = one_cut c.args.self.now others (runs_in chars runs lists) cut (subst (λ (es : List BareEvent). AreRunsOf es (runs_in chars runs lists)) c.self.view_is (are_runs_of chars runs lists count (length chars.chars) c.self.invariant.in_line)) in
    ap (length {A = List BareEvent}) same ∙ count_in chars runs lists alike ∙ (let e : length runs ≡ c.len.result = omega (arith, c.len.ensures, c.self.inside.runs.ok.0) in e)
