use Rattle.std.proofs.Common.{◌≡◌, ◌∙◌, ◌+◌, ◌-◌, ◌<◌, ◌≤◌, ◌++◌, ◌∷◌, [], ℕ, List, length, slice_get, Some, take, drop, sym, ap, arith, append_assoc, length-append}
use Rattle.std.proofs.lemmas.List.{length-drop, length-take-le, take-append-drop}
use Rattle.ew_model.specs.declared.event.Op.{Op}
use Rattle.event_runs.specs.BareEvents.{BareEvent, bare}
use Rattle.event_runs.specs.RunOps.{ops_of, chain_on}
use Rattle.event_runs.proofs.Found.{told_by}
use Rattle.event_runs.proofs.RunEvents.{length-events_in}
use Rattle.event_runs.proofs.StepOps.{chain_long, chain_joined, take_next}
use Rattle.event_runs.proofs.storage.EventRuns.put_run.Goals as goal
use Rattle.ew_model.proofs.PositionFrontier.{one_parent}

-- how many there are once so many of the events came
so_long : (old now : List BareEvent) (ops : List Op) (done : ℕ) → now ≡ old ++ chain_on (length old - 1) (take done ops) → done ≤ length ops → length now ≡ length old + done
so_long old now ops done e low =
    ap length e ∙ length-append old (chain_on (length old - 1) (take done ops)) ∙ ap (λ n. length old + n) (chain_long (length old - 1) (take done ops) ∙ length-take-le done ops low)

pub take_in-requires-clause-room : goal.take_in-requires-clause-room
take_in-requires-clause-room c =
    let ops = ops_of c.args.ops in
    let low : c.loop-done.done ≤ length ops = omega (arith, c.loop-done-test.true, c.count-done-end.ensures) in
    let long = so_long c.args.self.now c.loop-done.self ops c.loop-done.done c.loop-done.invariant low in
    let rest = length-drop c.loop-done.done ops in
    omega (arith, low, long, rest, c.requires.room)

-- the first of the events and the others
all_events : (old now new : List BareEvent) (ops : List Op) (done : ℕ) → 0 < length old → now ≡ old ++ chain_on (length old - 1) (take done ops) → done ≤ length ops → new ≡ now ++ chain_on (length now - 1) (drop done ops)
    → new ≡ old ++ chain_on (length old - 1) ops
all_events old now new ops done some e low is =
    let long = so_long old now ops done e low in
    let front = length-take-le done ops low in
    is ∙ ap (λ es. es ++ chain_on (length now - 1) (drop done ops)) e ∙ append_assoc old (chain_on (length old - 1) (take done ops)) (chain_on (length now - 1) (drop done ops))
    ∙ ap (λ es. old ++ es) (sym (chain_joined (length old - 1) (length now - 1) (take done ops) (drop done ops) (omega (arith, long, front, some))) ∙ ap (chain_on (length old - 1)) (take-append-drop done ops))

pub returns-then-branch-clause-ok : goal.returns-then-branch-clause-ok
returns-then-branch-clause-ok c =
    let ops = ops_of c.args.ops in
    let low : c.loop-done.done ≤ length ops = omega (arith, c.loop-done-test.true, c.count-done-end.ensures) in
    all_events c.args.self.now c.loop-done.self c.take_in.new.self ops c.loop-done.done c.requires.some c.loop-done.invariant low (c.in_ok-take_in.ensures.all c.if-branch.true)

pub overflow_sub-self : goal.overflow_sub-self
overflow_sub-self c =
    let ops = ops_of c.args.ops in
    let inside = c.append_ref.inside in
    let low : c.loop-done.done ≤ length ops = omega (arith, c.loop-done-test.true, c.count-done-end.ensures) in
    let long = so_long c.args.self.now c.loop-done.self ops c.loop-done.done c.loop-done.invariant low in
    let same = ap (length {A = BareEvent}) (c.in_ok-take_in.ensures.none c.if-branch.false) in
    let all = length-events_in (told_by inside.chars.items inside.labels.items) inside.runs.items inside.parents 0 0 inside.count (length inside.chars.items) c.append_ref.invariant.in_line in
    let view = ap (length {A = BareEvent}) c.append_ref.view_is in
    omega (arith, long, same, all, view, c.requires.some)

pub append_ref-requires-clause-parents : goal.append_ref-requires-clause-parents
append_ref-requires-clause-parents c =
    let ops = ops_of c.args.ops in
    let inside = c.append_ref.inside in
    let low : c.loop-done.done ≤ length ops = omega (arith, c.loop-done-test.true, c.count-done-end.ensures) in
    let long = so_long c.args.self.now c.loop-done.self ops c.loop-done.done c.loop-done.invariant low in
    let same = ap (length {A = BareEvent}) (c.in_ok-take_in.ensures.none c.if-branch.false) in
    let all = length-events_in (told_by inside.chars.items inside.labels.items) inside.runs.items inside.parents 0 0 inside.count (length inside.chars.items) c.append_ref.invariant.in_line in
    let view = ap (length {A = BareEvent}) c.append_ref.view_is in
    one_parent (length c.take_in.new.self) (inside.count - 1) (omega (arith, long, same, all, view, c.requires.some))

pub append_ref-requires-clause-room : goal.append_ref-requires-clause-room
append_ref-requires-clause-room c =
    let ops = ops_of c.args.ops in
    let test : c.loop-done.done < length ops = omega (arith, c.loop-done-test.true, c.count-done-end.ensures) in
    let long = so_long c.args.self.now c.loop-done.self ops c.loop-done.done c.loop-done.invariant (omega (arith, test)) in
    let same = ap (length {A = BareEvent}) (c.in_ok-take_in.ensures.none c.if-branch.false) in
    omega (arith, test, long, same, c.requires.room)

-- one more of the events
next_event : (old now new : List BareEvent) (ops : List Op) (done last : ℕ) (op : Op) → 0 < length old → now ≡ old ++ chain_on (length old - 1) (take done ops) → done ≤ length ops → slice_get ops done ≡ Some op → last ≡ length now - 1
    → new ≡ now ++ bare op (last ∷ []) ∷ [] → new ≡ old ++ chain_on (length old - 1) (take (done + 1) ops)
next_event old now new ops done last op some e low there at is =
    let long = so_long old now ops done e low in
    let front = length-take-le done ops low in
    is ∙ (λ i. e i ++ bare op (at i ∷ []) ∷ []) ∙ append_assoc old (chain_on (length old - 1) (take done ops)) (bare op ((length now - 1) ∷ []) ∷ [])
    ∙ ap (λ es. old ++ es) (sym (chain_joined (length old - 1) (length now - 1) (take done ops) (op ∷ []) (omega (arith, long, front, some))) ∙ ap (chain_on (length old - 1)) (sym (take_next ops done op there)))

pub loop-done-preserved : goal.loop-done-preserved
loop-done-preserved c =
    let ops = ops_of c.args.ops in
    let inside = c.append_ref.inside in
    let low : c.loop-done.done ≤ length ops = omega (arith, c.loop-done-test.true, c.count-done-end.ensures) in
    let same = c.in_ok-take_in.ensures.none c.if-branch.false in
    let many = ap (length {A = BareEvent}) same in
    let all = length-events_in (told_by inside.chars.items inside.labels.items) inside.runs.items inside.parents 0 0 inside.count (length inside.chars.items) c.append_ref.invariant.in_line in
    let view = ap (length {A = BareEvent}) c.append_ref.view_is in
    next_event c.args.self.now c.loop-done.self c.append_ref-in-loop-done.new.self ops c.loop-done.done (inside.count - 1) c.get.result c.requires.some c.loop-done.invariant low c.get.ensures
    (omega (arith, many, all, view)) (c.in_ok-append_ref.ensures.ok ∙ ap (λ (es : List BareEvent). es ++ bare c.get.result ((inside.count - 1) ∷ []) ∷ []) same)
