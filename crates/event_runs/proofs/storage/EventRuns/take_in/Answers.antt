use Rattle.std.proofs.Common.{◌∙◌, ◌-◌, ◌++◌, length, ap, arith}
use Rattle.std.proofs.lemmas.List.{length-drop}
use Rattle.event_runs.specs.BareEvents.{BareEvent}
use Rattle.event_runs.specs.RunOps.{ops_of}
use Rattle.event_runs.proofs.Found.{told_by}
use Rattle.event_runs.proofs.ManyEvents.{taken}
use Rattle.event_runs.proofs.RunEvents.{length-events_in, runs_end}
use Rattle.event_runs.proofs.storage.EventRuns.take_in.Goals as goal

pub overflow_add-self-inside : goal.overflow_add-self-inside
overflow_add-self-inside c =
    let all = length-events_in (told_by c.self.inside.chars.items c.self.inside.labels.items) c.self.inside.runs.items c.self.inside.parents 0 0 c.self.inside.count (length c.self.inside.chars.items) c.self.invariant.in_line in
    let long = ap (length {A = BareEvent}) c.self.view_is in
    let rest = length-drop c.args.place (ops_of c.args.ops) in
    omega (arith, all, long, rest, c.count.ensures, c.requires.room)

pub set_count-requires : goal.set_count-requires
set_count-requires c =
    let few = runs_end c.self.inside.runs.items c.self.inside.parents 0 0 c.self.inside.count (length c.self.inside.chars.items) c.self.invariant.in_line in
    omega (arith, few, c.len.ensures, c.self.inside.runs.ok.0, c.self.ranges)

pub lengthen_last_by-requires : goal.lengthen_last_by-requires
lengthen_last_by-requires c =
    let all = length-events_in (told_by c.self.inside.chars.items c.self.inside.labels.items) c.self.inside.runs.items c.self.inside.parents 0 0 c.self.inside.count (length c.self.inside.chars.items) c.self.invariant.in_line in
    let long = ap (length {A = BareEvent}) c.self.view_is in
    let rest = length-drop c.args.place (ops_of c.args.ops) in
    (c.self.inside.parents, c.self.inside.count, length c.self.inside.chars.items, c.self.invariant.in_line, omega (arith, all, long, rest, c.count.ensures, c.requires.room))

pub overflow_add-self : goal.overflow_add-self
overflow_add-self c =
    let all = length-events_in (told_by c.self.inside.chars.items c.self.inside.labels.items) c.self.inside.runs.items c.self.inside.parents 0 0 c.self.inside.count (length c.self.inside.chars.items) c.self.invariant.in_line in
    let long = ap (length {A = BareEvent}) c.self.view_is in
    let rest = length-drop c.args.place (ops_of c.args.ops) in
    omega (arith, all, long, rest, c.count.ensures, c.requires.room)

pub invariant_of-self-then-takes : goal.invariant_of-self-then-takes
invariant_of-self-then-takes c =
    (taken c.args.ops c.args.place (told_by c.self.inside.chars.items c.self.inside.labels.items) c.self.inside.runs.items c.deref.result.now c.lengthen_last_by.new.runs.items c.self.inside.parents c.self.inside.count (c.count.result - c.args.place)
    c.index.result c.kind.result c.extend_from_slice.new.self.items c.args.self.now c.self.invariant c.self.view_is c.deref.ensures.value c.kind.ensures c.index.ensures (omega (arith, c.index.type_inv)) c.requires.fit c.requires.within
    (c.last_takes-takes.ensures c.if-takes.true) (ap (λ n. n - c.args.place) c.count.ensures) (λ place r long there. c.lengthen_last_by.ensures place r long there)
    (c.in_ok-extend_from_slice.ensures.items ∙ ap (λ cs. c.self.inside.chars.items ++ cs) c.chars_from.ensures)).kept

pub returns-in_ok-extend_from_slice-clause-all : goal.returns-in_ok-extend_from_slice-clause-all
returns-in_ok-extend_from_slice-clause-all c = λ takes.
    (taken c.args.ops c.args.place (told_by c.self.inside.chars.items c.self.inside.labels.items) c.self.inside.runs.items c.deref.result.now c.lengthen_last_by.new.runs.items c.self.inside.parents c.self.inside.count (c.count.result - c.args.place)
    c.index.result c.kind.result c.extend_from_slice.new.self.items c.args.self.now c.self.invariant c.self.view_is c.deref.ensures.value c.kind.ensures c.index.ensures (omega (arith, c.index.type_inv)) c.requires.fit c.requires.within
    (c.last_takes-takes.ensures takes) (ap (λ n. n - c.args.place) c.count.ensures) (λ place r long there. c.lengthen_last_by.ensures place r long there)
    (c.in_ok-extend_from_slice.ensures.items ∙ ap (λ cs. c.self.inside.chars.items ++ cs) c.chars_from.ensures)).events_are
