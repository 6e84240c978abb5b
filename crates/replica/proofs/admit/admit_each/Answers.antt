use Rattle.std.proofs.Common.{◌∙◌, ◌++◌, List, suc, length, take, sym, ap, append-nil, arith}
use Rattle.std.proofs.lemmas.List.{take_all}
use Rattle.ew_model.specs.declared.event.Event.{Event}
use Rattle.replica.specs.Appending.{chain_from}
use Rattle.replica.proofs.Chains.{chain_from_front, chain_more, chain_taken_long, next_taken}
use Rattle.replica.proofs.Fronts.{stays_cut}
use Rattle.replica.proofs.RoundParts.{on_err}
use Rattle.replica.proofs.admit.admit_each.Goals as goal

pub returns-in_err-admit-clause-still_cut : goal.returns-in_err-admit-clause-still_cut
returns-in_err-admit-clause-still_cut c =
    on_err c.from_residual.result (stays_cut c.args.graph.now (chain_from c.args.first.now c.args.rest.now) 0 c.admit.new.self c.count-held.ensures.admitted c.requires.admitted c.requires.cut
    (c.in_err-admit.ensures.err ∙ sym (append-nil c.args.graph.now)))

pub loop-op-init : goal.loop-op-init
loop-op-init c = c.in_ok-admit.ensures.ok

pub go_on-requires-clause-room : goal.go_on-requires-clause-room
go_on-requires-clause-room c =
    let within = c.loop-op-test.true in
    let long = ap (length {A = Event}) c.loop-op.invariant ∙ chain_taken_long c.args.graph.now c.args.first.now c.args.rest.now c.loop-op.op-index (omega (arith, within)) in
    omega (arith, long, within, c.requires.room)

-- the events that are in are the first of all
pub returns-in_err-go_on-clause-still_cut : goal.returns-in_err-go_on-clause-still_cut
returns-in_err-go_on-clause-still_cut c =
    on_err c.from_residual-in_err-go_on.result (stays_cut c.args.graph.now (chain_from c.args.first.now c.args.rest.now) (suc c.loop-op.op-index) c.go_on.new.self c.count-held.ensures.admitted c.requires.admitted c.requires.cut
    (c.in_err-go_on.ensures.err ∙ c.loop-op.invariant ∙ ap (λ (es : List Event). c.args.graph.now ++ es) (chain_from_front c.args.first.now c.args.rest.now c.loop-op.op-index)))

pub loop-op-preserved : goal.loop-op-preserved
loop-op-preserved c =
    let now = c.args.graph.now in
    let first = c.args.first.now in
    let rest = c.args.rest.now in
    let i = c.loop-op.op-index in
    let op = c.op-item.result in
    chain_more now first (take i rest) op c.loop-op.graph c.go_on.new.self c.loop-op.invariant c.in_ok-go_on.ensures.ok
    ∙ ap (λ os. now ++ chain_from first os) (next_taken rest i op c.loop-op-test.true c.op-item.is)

pub returns-clause-all : goal.returns-clause-all
returns-clause-all c =
    let rest = c.args.rest.now in
    c.loop-op.invariant ∙ ap (λ os. c.args.graph.now ++ chain_from c.args.first.now os) (take_all c.loop-op.op-index rest (c.loop-op-test.false))
