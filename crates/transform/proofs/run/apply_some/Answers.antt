use Rattle.std.proofs.Common.{◌≡◌, ◌+◌, ◌<◌, length, sym, ap, ◌∙◌, subst, arith}
use Rattle.transform.specs.Reaching.{IsReadyAt, Reached, TurnedAt}
use Rattle.operation_runs.specs.Runs.{run_ops}
use Rattle.transform.specs.Running.{emitted_to}
use Rattle.transform.proofs.Loops.{emitted, goes_on, turned_over}
use Rattle.transform.proofs.RunTurns.{change_at}
use Rattle.transform.proofs.run.apply_some.Goals as goal

-- where no deletions were applied in one go, the state is as before
pub overflow_add-at : goal.overflow_add-at
overflow_add-at g c = let all = c.requires.run.events.within in omega (arith, all, c.requires.within, c.count-count.ensures.count)

pub get-requires-clause-within : goal.get-requires-clause-within
get-requires-clause-within g c = let all = c.requires.run.events.told in omega (arith, all, c.requires.within)

pub apply-requires-clause-within : goal.apply-requires-clause-within
apply-requires-clause-within g c = let all = c.requires.run.events.within in omega (arith, all, c.requires.within)

pub apply-requires-clause-change : goal.apply-requires-clause-change
apply-requires-clause-change g c = change_at c.args.graph.now c.args.run.position c.args.run.count c.args.place (run_ops c.args.run.changes) c.get.result c.requires.run.events c.requires.within c.get.ensures

pub apply-requires-clause-ready : goal.apply-requires-clause-ready
apply-requires-clause-ready g c =
    let n = c.args.run.position + c.args.place in
    let cut = c.requires.ready.0 in
    let same = c.in_ok-deleted.ensures.same (omega (arith, c.if-deleted-gt0.false)) in
    (cut, subst (λ s. IsReadyAt c.args.graph.now cut n s) (sym same) c.requires.ready.1)

-- the events before the next place are walked
pub type_on-requires-clause-walked : goal.type_on-requires-clause-walked
type_on-requires-clause-walked g c =
    let now = c.args.graph.now in
    let position = c.args.run.position in
    let n = position + c.args.place in
    let cut = c.requires.ready.0 in
    let all = c.requires.run.events.within in
    let within : n < length now = omega (arith, all, c.requires.within) in
    let same = c.in_ok-deleted.ensures.same (omega (arith, c.if-deleted-gt0.false)) in
    let ready = subst (λ s. IsReadyAt now cut n s) (sym same) c.requires.ready.1 in
    let next : n + 1 ≡ position + (c.args.place + 1) = omega arith in
    let turned = turned_over now cut n c.delete_run.new.state c.apply.new.state c.in_ok-op.field-0 within ready c.in_ok-op.ensures.turned in
    (cut, subst (λ m. Reached now cut m c.apply.new.state) next (goes_on now cut n c.apply.new.state c.in_ok-op.field-0 c.in-Applied.op c.in-Applied.is turned).0)

pub type_on-requires-clause-emitted : goal.type_on-requires-clause-emitted
type_on-requires-clause-emitted g c =
    let now = c.args.graph.now in
    let position = c.args.run.position in
    let n = position + c.args.place in
    let cut = c.requires.ready.0 in
    let all = c.requires.run.events.within in
    let within : n < length now = omega (arith, all, c.requires.within) in
    let none : c.in_ok-deleted.deleted ≡ 0 = omega (arith, c.if-deleted-gt0.false) in
    let same = c.in_ok-deleted.ensures.same none in
    let ready = subst (λ s. IsReadyAt now cut n s) (sym same) c.requires.ready.1 in
    let here : n + c.in_ok-deleted.deleted ≡ n = omega (arith, none) in
    let before = c.in_ok-deleted.ensures.emitted ∙ ap (emitted_to now c.args.emit_from) here in
    let next : n + 1 ≡ position + (c.args.place + 1) = omega arith in
    let turned = turned_over now cut n c.delete_run.new.state c.apply.new.state c.in_ok-op.field-0 within ready c.in_ok-op.ensures.turned in
    emitted now n c.args.emit_from c.delete_run.new.ops c.emit.new.ops c.in-Applied.op (omega (arith, within)) (goes_on now cut n c.apply.new.state c.in_ok-op.field-0 c.in-Applied.op c.in-Applied.is turned).1 before c.in_ok-emit-in-Applied.ensures
    ∙ ap (emitted_to now c.args.emit_from) next

-- deletions in one go
pub returns-then-deleted-gt0-clause-turned : goal.returns-then-deleted-gt0-clause-turned
returns-then-deleted-gt0-clause-turned g c = λ cut ready.
    let some = c.if-deleted-gt0.true in
    let within = c.in_ok-deleted.ensures.within in (
      omega (arith, some),
      omega (arith, within),
      c.in_ok-deleted.ensures.walked cut ready some,
    )

-- an event that is out of range
pub returns-in-OutOfRange-clause-turned : goal.returns-in-OutOfRange-clause-turned
returns-in-OutOfRange-clause-turned g c = λ cut given.
    let now = c.args.graph.now in
    let n = c.args.run.position + c.args.place in
    let all = c.requires.run.events.within in
    let within : n < length now = omega (arith, all, c.requires.within) in
    let same = c.in_ok-deleted.ensures.same (omega (arith, c.if-deleted-gt0.false)) in
    let ready = subst (λ s. IsReadyAt now cut n s) (sym same) given in (
      omega arith,
      omega (arith, c.requires.within),
      ready.behind.good,
      subst (TurnedAt now cut n c.apply.new.state) c.in-OutOfRange.is (turned_over now cut n c.delete_run.new.state c.apply.new.state c.in_ok-op.field-0 within ready c.in_ok-op.ensures.turned),
    )

pub returns-in-OutOfRange-clause-emitted : goal.returns-in-OutOfRange-clause-emitted
returns-in-OutOfRange-clause-emitted g c =
    let none : c.in_ok-deleted.deleted ≡ 0 = omega (arith, c.if-deleted-gt0.false) in
    let here : c.args.run.position + c.args.place + c.in_ok-deleted.deleted ≡ c.args.run.position + c.args.place = omega (arith, none) in
    c.in_ok-deleted.ensures.emitted ∙ ap (emitted_to c.args.graph.now c.args.emit_from) here

-- one event, the last
pub returns-then-next-run-clause-turned : goal.returns-then-next-run-clause-turned
returns-then-next-run-clause-turned g c = λ cut given.
    let now = c.args.graph.now in
    let n = c.args.run.position + c.args.place in
    let all = c.requires.run.events.within in
    let within : n < length now = omega (arith, all, c.requires.within) in
    let same = c.in_ok-deleted.ensures.same (omega (arith, c.if-deleted-gt0.false)) in
    let ready = subst (λ s. IsReadyAt now cut n s) (sym same) given in
    let turned = turned_over now cut n c.delete_run.new.state c.apply.new.state c.in_ok-op.field-0 within ready c.in_ok-op.ensures.turned in (
      omega arith,
      omega (arith, c.requires.within),
      (goes_on now cut n c.apply.new.state c.in_ok-op.field-0 c.in-Applied.op c.in-Applied.is turned).0,
    )

pub returns-then-next-run-clause-emitted : goal.returns-then-next-run-clause-emitted
returns-then-next-run-clause-emitted g c =
    let now = c.args.graph.now in
    let position = c.args.run.position in
    let n = position + c.args.place in
    let cut = c.requires.ready.0 in
    let all = c.requires.run.events.within in
    let within : n < length now = omega (arith, all, c.requires.within) in
    let none : c.in_ok-deleted.deleted ≡ 0 = omega (arith, c.if-deleted-gt0.false) in
    let same = c.in_ok-deleted.ensures.same none in
    let ready = subst (λ s. IsReadyAt now cut n s) (sym same) c.requires.ready.1 in
    let here : n + c.in_ok-deleted.deleted ≡ n = omega (arith, none) in
    let before = c.in_ok-deleted.ensures.emitted ∙ ap (emitted_to now c.args.emit_from) here in
    let turned = turned_over now cut n c.delete_run.new.state c.apply.new.state c.in_ok-op.field-0 within ready c.in_ok-op.ensures.turned in
    emitted now n c.args.emit_from c.delete_run.new.ops c.emit.new.ops c.in-Applied.op (omega (arith, within)) (goes_on now cut n c.apply.new.state c.in_ok-op.field-0 c.in-Applied.op c.in-Applied.is turned).1 before c.in_ok-emit-in-Applied.ensures

-- one event, and what was typed behind it
pub returns-clause-turned : goal.returns-clause-turned
returns-clause-turned g c = λ cut given.
    let now = c.args.graph.now in
    let n = c.args.run.position + c.args.place in
    let all = c.requires.run.events.within in
    let within : n < length now = omega (arith, all, c.requires.within) in
    let same = c.in_ok-deleted.ensures.same (omega (arith, c.if-deleted-gt0.false)) in
    let ready = subst (λ s. IsReadyAt now cut n s) (sym same) given in
    let next : n + 1 ≡ c.args.run.position + (c.args.place + 1) = omega arith in
    let turned = turned_over now cut n c.delete_run.new.state c.apply.new.state c.in_ok-op.field-0 within ready c.in_ok-op.ensures.turned in
    let walked = subst (λ m. Reached now cut m c.apply.new.state) next (goes_on now cut n c.apply.new.state c.in_ok-op.field-0 c.in-Applied.op c.in-Applied.is turned).0 in
    let typed = c.in_ok-typed.ensures in
    let end : c.args.run.position + (c.args.place + 1) + c.in_ok-typed.typed ≡ c.args.run.position + c.args.place + 1 + c.in_ok-typed.typed = omega arith in (
      omega arith,
      omega (arith, typed.within),
      subst (λ m. Reached now cut m c.type_on.new.state) end (typed.walked cut walked),
    )

pub returns-clause-emitted : goal.returns-clause-emitted
returns-clause-emitted g c =
    let end : c.args.run.position + (c.args.place + 1) + c.in_ok-typed.typed ≡ c.args.run.position + c.args.place + 1 + c.in_ok-typed.typed = omega arith in
    c.in_ok-typed.ensures.emitted ∙ ap (emitted_to c.args.graph.now c.args.emit_from) end
