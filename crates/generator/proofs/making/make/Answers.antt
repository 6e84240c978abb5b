use Rattle.std.proofs.Common.{◌≡◌, ◌+◌, Err, arith, sym, ap, ◌∙◌, subst}
use Rattle.std.proofs.lemmas.Result.{err_from_is_err_and}
use Rattle.generator.specs.Answers.{Makes, Prints}
use Rattle.peer_definitions.specs.Making as model
use Rattle.peer_definitions.specs.Making.{Made}
use Rattle.generator.proofs.Steps.{HaveMade, made_stops, made_whole, none_made}
use Rattle.generator.proofs.Touching.{none_gone, touched_early, touched_turn, touched_whole}
use Rattle.generator.proofs.making.make.Goals as goal

pub loop-t-init : goal.loop-t-init
loop-t-init g c =
    none_gone c.args.limits c.args.seed c.new-draws.result.state c.args.steps.now c.in_ok-peers.peers.replicas.items
    (subst (λ state. HaveMade c.args.limits c.args.seed 0 state c.in_ok-peers.peers.replicas.items) (sym c.new-draws.ensures) (none_made c.args.limits c.args.seed c.in_ok-peers.peers.replicas.items c.in_ok-peers.ensures))

pub returns-in_err-edit-clause-made : goal.returns-in_err-edit-clause-made
returns-in_err-edit-clause-made g c =
    let told = err_from_is_err_and c.from_residual-in_err-edit.result c.from_residual-in_err-edit.ensures.1 in
    subst (Makes (model.made c.args.limits c.args.seed c.args.count)) (sym (told.1 ∙ ap Err told.2))
    (made_stops c.args.limits c.args.seed c.loop-t.t c.args.count c.loop-t.draws.state c.loop-t.peers.replicas.items c.in_err-edit.field-0.0 c.loop-t.invariant.made c.loop-t-test.true c.in_err-edit.ensures.stopped)

pub returns-in_err-edit-clause-most : goal.returns-in_err-edit-clause-most
returns-in_err-edit-clause-most g c =
    touched_early c.args.limits c.args.seed c.loop-t.t c.args.count c.args.steps.now c.edit.new.steps (omega (arith, c.loop-t-test.true)) (omega (arith, c.loop-t.invariant.most, c.in_err-edit.ensures.steps))

pub returns-clause-made : goal.returns-clause-made
returns-clause-made g c =
    let end : c.loop-t.t ≡ c.args.count = omega (arith, c.loop-t.auto.t-end, c.loop-t-test.false) in
    let have = subst (λ t. HaveMade c.args.limits c.args.seed t c.loop-t.draws.state c.loop-t.peers.replicas.items) end c.loop-t.invariant.made in
    subst (λ (m : Made). Prints m c.in_ok-told.field-0.items) (sym (made_whole c.args.limits c.args.seed c.args.count c.loop-t.draws.state c.loop-t.peers.replicas.items c.round_off.new.peers.replicas.items have c.in_ok-round_off.ensures.given))
    c.in_ok-told.ensures

pub returns-in_err-give_in_turn-clause-most : goal.returns-in_err-give_in_turn-clause-most
returns-in_err-give_in_turn-clause-most g c =
    touched_early c.args.limits c.args.seed (c.loop-t.t + 1) c.args.count c.args.steps.now c.give_in_turn.new.steps (omega (arith, c.loop-t-test.true))
    (touched_turn c.args.limits c.args.seed c.loop-t.t c.loop-t.draws.state c.edit.new.draws.state c.args.steps.now c.loop-t.steps c.edit.new.steps c.give_in_turn.new.steps c.loop-t.peers.replicas.items c.edit.new.self.replicas.items
    c.loop-t.invariant c.in_ok-edit.ensures.made c.in_ok-edit.ensures.steps c.if-t.true c.give_in_turn.ensures.most)

pub returns-in_err-round_off-clause-most : goal.returns-in_err-round_off-clause-most
returns-in_err-round_off-clause-most g c =
    touched_whole c.args.limits c.args.seed c.loop-t.t c.args.count c.loop-t.draws.state c.args.steps.now c.loop-t.steps c.round_off.new.steps c.loop-t.peers.replicas.items (omega (arith, c.loop-t.auto.t-end, c.loop-t-test.false))
    c.loop-t.invariant c.round_off.ensures.most

pub returns-in_err-told-clause-most : goal.returns-in_err-told-clause-most
returns-in_err-told-clause-most g c =
    touched_whole c.args.limits c.args.seed c.loop-t.t c.args.count c.loop-t.draws.state c.args.steps.now c.loop-t.steps c.round_off.new.steps c.loop-t.peers.replicas.items (omega (arith, c.loop-t.auto.t-end, c.loop-t-test.false))
    c.loop-t.invariant c.round_off.ensures.most

pub returns-clause-most : goal.returns-clause-most
returns-clause-most g c =
    touched_whole c.args.limits c.args.seed c.loop-t.t c.args.count c.loop-t.draws.state c.args.steps.now c.loop-t.steps c.round_off.new.steps c.loop-t.peers.replicas.items (omega (arith, c.loop-t.auto.t-end, c.loop-t-test.false))
    c.loop-t.invariant c.round_off.ensures.most
