use Rattle.std.proofs.Common.{◌≡◌, false, refl, sym, ap, ◌∙◌, subst}
use Rattle.std.proofs.lemmas.Result.{err_from_is_err_and}
use Rattle.undo_definitions.specs.Undoing.{undo_refusal}
use Rattle.undo_definitions.specs.Wanted.{ids_from}
use Rattle.ew_model.specs.Kept.{is_awaited}
use Rattle.peer_definitions.specs.declared.net_step.NetStep.TheVariants as step
use Rattle.peer_definitions.specs.Machine.{Network, Peer, undo_outcome}
use Rattle.peer_definitions.specs.Machine.StepOutcome.{Stepped}
use Rattle.net_core.proofs.UndoResults.{failed_reached, failed_told, made_reached, made_told}
use Rattle.net_core.proofs.Editing.{awaits_none}
use Rattle.net_core.proofs.Reaching.{homely}
use Rattle.net_core.proofs.Steps.{no_peer, undo_is}
use Rattle.net_core.proofs.Writes.{here, no_peer_told, read, seen, there, with_written}
use Rattle.net_core.proofs.net.Net.undo.Goals as goal

pub returns-in_err-place : goal.returns-in_err-place
returns-in_err-place g c =
    let now = c.args.self.now in
    let who = c.args.who.now in
    let e = ids_from c.args.undone.now.agent c.args.undone.now.first c.args.undone.now.count in
    let none = c.in_err-place.ensures.none in
    let told = err_from_is_err_and c.from_residual.result c.from_residual.ensures.1 in
    no_peer_told now (step.Undo c.args.who.now c.args.undone.now.agent c.args.undone.now.first c.args.undone.now.count) who told.0 c.from_residual.result told.1 (told.2 ∙ none.0)
    (undo_is c.args.self.now c.args.who.now c.args.undone.now.agent c.args.undone.now.first c.args.undone.now.count ∙ no_peer now who
    (λ (p : Peer). undo_outcome now p e (undo_refusal p.replica.limits p.replica.held e)) none.1)

pub undo-requires : goal.undo-requires
undo-requires g c =
    let N : Network = record { limits = c.self.inside.limits; peers = c.self.inside.peers.items; packets = c.self.inside.packets.items } in
    let S = c.args.self.now in
    let who = c.args.who.now in
    let found = c.in_ok-place.ensures.found in
    let p = here N S c.self.view_is c.self.invariant who c.in_ok-place.place found in
    let old = read N S c.self.view_is c.self.invariant who c.in_ok-place.place found c.index_mut.result.now c.index_mut.ensures.value in
    subst (λ (q : Peer). is_awaited q.replica.held q.replica.waiting q.name ≡ false) (sym old)
    (awaits_none S who p (homely S (seen N S c.self.view_is c.self.invariant who c.in_ok-place.place found))
    (there N S c.self.view_is c.self.invariant who c.in_ok-place.place found))

pub invariant_of-self : goal.invariant_of-self
invariant_of-self g c =
    let N : Network = record { limits = c.self.inside.limits; peers = c.self.inside.peers.items; packets = c.self.inside.packets.items } in
    let found = c.in_ok-place.ensures.found in
    let old = read N c.args.self.now c.self.view_is c.self.invariant c.args.who.now c.in_ok-place.place found c.index_mut.result.now c.index_mut.ensures.value in
    failed_reached N c.args.self.now c.self.view_is c.self.invariant c.args.who.now c.in_ok-place.place found
    (ids_from c.args.undone.now.agent c.args.undone.now.first c.args.undone.now.count) c.undo.new.self c.index_mut.result.now old c.undo.ensures.name c.undo.ensures.caret
    c.in_err-made.field-0.0 c.in_err-made.ensures.undoes

pub returns-in_err-made : goal.returns-in_err-made
returns-in_err-made g c =
    let N : Network = record { limits = c.self.inside.limits; peers = c.self.inside.peers.items; packets = c.self.inside.packets.items } in
    let now = c.args.self.now in
    let who = c.args.who.now in
    let found = c.in_ok-place.ensures.found in
    let old = read N now c.self.view_is c.self.invariant who c.in_ok-place.place found c.index_mut.result.now c.index_mut.ensures.value in
    let told = err_from_is_err_and c.from_residual-in_err-made.result c.from_residual-in_err-made.ensures.1 in
    failed_told N now c.self.view_is c.self.invariant who c.in_ok-place.place found (ids_from c.args.undone.now.agent c.args.undone.now.first c.args.undone.now.count) c.undo.new.self
    c.index_mut.result.now old c.undo.ensures.name c.undo.ensures.caret
    (step.Undo c.args.who.now c.args.undone.now.agent c.args.undone.now.first c.args.undone.now.count) c.in_err-made.field-0.0 told.0 c.from_residual-in_err-made.result
    (undo_is c.args.self.now c.args.who.now c.args.undone.now.agent c.args.undone.now.first c.args.undone.now.count) refl c.in_err-made.ensures.undoes told.2 told.1

pub invariant_of-self-2 : goal.invariant_of-self-2
invariant_of-self-2 g c =
    let N : Network = record { limits = c.self.inside.limits; peers = c.self.inside.peers.items; packets = c.self.inside.packets.items } in
    let found = c.in_ok-place.ensures.found in
    let old = read N c.args.self.now c.self.view_is c.self.invariant c.args.who.now c.in_ok-place.place found c.index_mut.result.now c.index_mut.ensures.value in
    made_reached N c.args.self.now c.self.view_is c.self.invariant c.args.who.now c.in_ok-place.place found
    (ids_from c.args.undone.now.agent c.args.undone.now.first c.args.undone.now.count) c.undo.new.self c.index_mut.result.now old c.undo.ensures.name c.undo.ensures.caret
    c.in_ok-made.made c.in_ok-made.ensures.undoes

pub returns : goal.returns
returns g c =
    let N : Network = record { limits = c.self.inside.limits; peers = c.self.inside.peers.items; packets = c.self.inside.packets.items } in
    let now = c.args.self.now in
    let who = c.args.who.now in
    let found = c.in_ok-place.ensures.found in
    let old = read N now c.self.view_is c.self.invariant who c.in_ok-place.place found c.index_mut.result.now c.index_mut.ensures.value in
    undo_is c.args.self.now c.args.who.now c.args.undone.now.agent c.args.undone.now.first c.args.undone.now.count
    ∙ made_told N now c.self.view_is c.self.invariant who c.in_ok-place.place found
    (ids_from c.args.undone.now.agent c.args.undone.now.first c.args.undone.now.count) c.undo.new.self c.index_mut.result.now old c.undo.ensures.name c.undo.ensures.caret c.in_ok-made.made c.in_ok-made.ensures.undoes
    ∙ ap (Stepped (with_written N now c.self.view_is c.self.invariant who c.in_ok-place.place found c.undo.new.self)) (sym c.of.ensures)
