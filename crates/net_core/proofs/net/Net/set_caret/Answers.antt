use Rattle.std.proofs.Common.{sym, ap, ◌∙◌}
use Rattle.std.proofs.lemmas.Result.{err_from_is_err_and}
use Rattle.carets.specs.Sides.{caret_in, text_chars}
use Rattle.peer_definitions.specs.declared.net_step.NetStep.TheVariants as step
use Rattle.peer_definitions.specs.Machine.{Network, Peer, caret_outcome}
use Rattle.peer_definitions.specs.Machine.StepOutcome.{Stepped}
use Rattle.net_core.proofs.CaretResults.{failed_told, set_reached, set_told}
use Rattle.net_core.proofs.Steps.{caret_is, no_peer}
use Rattle.net_core.proofs.Writes.{no_peer_told, read, with_written}
use Rattle.net_core.proofs.net.Net.set_caret.Goals as goal

pub returns-in_err-place : goal.returns-in_err-place
returns-in_err-place g c =
    let now = c.args.self.now in
    let who = c.args.who.now in
    let none = c.in_err-place.ensures.none in
    let told = err_from_is_err_and c.from_residual.result c.from_residual.ensures.1 in
    no_peer_told now (step.Caret who c.args.at) who told.0 c.from_residual.result told.1 (told.2 ∙ none.0)
    (caret_is now who c.args.at ∙ no_peer now who (λ (p : Peer). caret_outcome now p c.args.at (caret_in (text_chars p.replica.held) c.args.at)) none.1)

pub returns-in_err-set_caret : goal.returns-in_err-set_caret
returns-in_err-set_caret g c =
    let N : Network = record { limits = c.self.inside.limits; peers = c.self.inside.peers.items; packets = c.self.inside.packets.items } in
    let now = c.args.self.now in
    let who = c.args.who.now in
    let found = c.in_ok-place.ensures.found in
    let old = read N now c.self.view_is c.self.invariant who c.in_ok-place.place found c.index_mut.result.now c.index_mut.ensures.value in
    let told = err_from_is_err_and c.from_residual-in_err-set_caret.result c.from_residual-in_err-set_caret.ensures.1 in
    failed_told N now c.self.view_is c.self.invariant who c.in_ok-place.place found c.args.at c.set_caret.new.self c.index_mut.result.now old
    (Unit {0}) c.in_err-set_caret.field-0.0 told.0 c.from_residual-in_err-set_caret.result c.in_err-set_caret.ensures told.2 told.1

pub invariant_of-self-2 : goal.invariant_of-self-2
invariant_of-self-2 g c =
    let N : Network = record { limits = c.self.inside.limits; peers = c.self.inside.peers.items; packets = c.self.inside.packets.items } in
    let now = c.args.self.now in
    let who = c.args.who.now in
    let found = c.in_ok-place.ensures.found in
    let old = read N now c.self.view_is c.self.invariant who c.in_ok-place.place found c.index_mut.result.now c.index_mut.ensures.value in
    set_reached N now c.self.view_is c.self.invariant who c.in_ok-place.place found c.args.at c.set_caret.new.self c.index_mut.result.now old
    c.in_ok-set_caret.field-0 c.in_ok-set_caret.ensures

pub returns : goal.returns
returns g c =
    let N : Network = record { limits = c.self.inside.limits; peers = c.self.inside.peers.items; packets = c.self.inside.packets.items } in
    let now = c.args.self.now in
    let who = c.args.who.now in
    let found = c.in_ok-place.ensures.found in
    let old = read N now c.self.view_is c.self.invariant who c.in_ok-place.place found c.index_mut.result.now c.index_mut.ensures.value in
    set_told N now c.self.view_is c.self.invariant who c.in_ok-place.place found c.args.at c.set_caret.new.self c.index_mut.result.now old
    c.in_ok-set_caret.field-0 c.in_ok-set_caret.ensures
    ∙ ap (Stepped (with_written N now c.self.view_is c.self.invariant who c.in_ok-place.place found c.set_caret.new.self)) (sym c.in_ok-out.ensures)
