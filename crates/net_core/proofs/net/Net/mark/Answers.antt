use Rattle.std.proofs.Common.{◌≡◌, false, refl, sym, ap, ◌∙◌, subst}
use Rattle.std.proofs.lemmas.Result.{err_from_is_err_and}
use Rattle.ew_model.specs.Edits as edits
use Rattle.ew_model.specs.Edits.{edit_refusal}
use Rattle.ew_model.specs.Kept.{is_awaited}
use Rattle.peer_definitions.specs.declared.net_step.NetStep.TheVariants as step
use Rattle.peer_definitions.specs.Machine.{Network, Peer, edit_outcome}
use Rattle.peer_definitions.specs.Machine.StepOutcome.{Stepped}
use Rattle.net_core.proofs.EditResults.{failed_reached, failed_told, made_reached, made_told}
use Rattle.net_core.proofs.Editing.{awaits_none}
use Rattle.net_core.proofs.Reaching.{homely}
use Rattle.net_core.proofs.Steps.{mark_is, no_peer}
use Rattle.net_core.proofs.Writes.{here, no_peer_told, read, seen, there, with_written}
use Rattle.net_core.proofs.net.Net.mark.Goals as goal

pub returns-in_err-place : goal.returns-in_err-place
returns-in_err-place g c =
    let now = c.args.self.now in
    let who = c.args.who.now in
    let e = edits.Edit.Mark c.args.label.now in
    let none = c.in_err-place.ensures.none in
    let told = err_from_is_err_and c.from_residual.result c.from_residual.ensures.1 in
    no_peer_told now (step.Mark c.args.who.now c.args.label.now) who told.0 c.from_residual.result told.1 (told.2 ∙ none.0)
    (mark_is c.args.self.now c.args.who.now c.args.label.now ∙ no_peer now who
    (λ (p : Peer). edit_outcome now p e (edit_refusal p.replica.limits p.replica.held p.name e)) none.1)

pub mark-requires : goal.mark-requires
mark-requires g c =
    let N : Network = record { limits = c.self.inside.limits; peers = c.self.inside.peers.items; packets = c.self.inside.packets.items } in
    let S = c.args.self.now in
    let who = c.args.who.now in
    let found = c.in_ok-place.ensures.found in
    let p = here N S c.self.view_is c.self.invariant who c.in_ok-place.place found in
    let old = read N S c.self.view_is c.self.invariant who c.in_ok-place.place found c.index_mut.result.now c.index_mut.ensures.value in
    subst (λ (q : Peer). is_awaited q.replica.held q.replica.waiting q.name ≡ false) (sym old)
    (awaits_none S who p (homely S (seen N S c.self.view_is c.self.invariant who c.in_ok-place.place found))
    (there N S c.self.view_is c.self.invariant who c.in_ok-place.place found))

pub invariant_of-self : goal.invariant_of-self
invariant_of-self g c =
    let N : Network = record { limits = c.self.inside.limits; peers = c.self.inside.peers.items; packets = c.self.inside.packets.items } in
    let found = c.in_ok-place.ensures.found in
    let old = read N c.args.self.now c.self.view_is c.self.invariant c.args.who.now c.in_ok-place.place found c.index_mut.result.now c.index_mut.ensures.value in
    failed_reached N c.args.self.now c.self.view_is c.self.invariant c.args.who.now c.in_ok-place.place found
    (edits.Edit.Mark c.args.label.now) c.mark.new.self c.index_mut.result.now old c.mark.ensures.name c.mark.ensures.caret
    c.in_err-made.field-0.0 c.in_err-made.ensures.edits

pub returns-in_err-made : goal.returns-in_err-made
returns-in_err-made g c =
    let N : Network = record { limits = c.self.inside.limits; peers = c.self.inside.peers.items; packets = c.self.inside.packets.items } in
    let now = c.args.self.now in
    let who = c.args.who.now in
    let found = c.in_ok-place.ensures.found in
    let old = read N now c.self.view_is c.self.invariant who c.in_ok-place.place found c.index_mut.result.now c.index_mut.ensures.value in
    let told = err_from_is_err_and c.from_residual-in_err-made.result c.from_residual-in_err-made.ensures.1 in
    failed_told N now c.self.view_is c.self.invariant who c.in_ok-place.place found (edits.Edit.Mark c.args.label.now) c.mark.new.self
    c.index_mut.result.now old c.mark.ensures.name c.mark.ensures.caret
    (step.Mark c.args.who.now c.args.label.now) c.in_err-made.field-0.0 told.0 c.from_residual-in_err-made.result
    (mark_is c.args.self.now c.args.who.now c.args.label.now) refl c.in_err-made.ensures.edits told.2 told.1

pub invariant_of-self-2 : goal.invariant_of-self-2
invariant_of-self-2 g c =
    let N : Network = record { limits = c.self.inside.limits; peers = c.self.inside.peers.items; packets = c.self.inside.packets.items } in
    let found = c.in_ok-place.ensures.found in
    let old = read N c.args.self.now c.self.view_is c.self.invariant c.args.who.now c.in_ok-place.place found c.index_mut.result.now c.index_mut.ensures.value in
    made_reached N c.args.self.now c.self.view_is c.self.invariant c.args.who.now c.in_ok-place.place found
    (edits.Edit.Mark c.args.label.now) c.mark.new.self c.index_mut.result.now old c.mark.ensures.name c.mark.ensures.caret
    c.in_ok-made.made c.in_ok-made.ensures.edits

pub returns : goal.returns
returns g c =
    let N : Network = record { limits = c.self.inside.limits; peers = c.self.inside.peers.items; packets = c.self.inside.packets.items } in
    let now = c.args.self.now in
    let who = c.args.who.now in
    let found = c.in_ok-place.ensures.found in
    let old = read N now c.self.view_is c.self.invariant who c.in_ok-place.place found c.index_mut.result.now c.index_mut.ensures.value in
    mark_is c.args.self.now c.args.who.now c.args.label.now
    ∙ made_told N now c.self.view_is c.self.invariant who c.in_ok-place.place found
    (edits.Edit.Mark c.args.label.now) c.mark.new.self c.index_mut.result.now old c.mark.ensures.name c.mark.ensures.caret c.in_ok-made.made c.in_ok-made.ensures.edits
    ∙ ap (Stepped (with_written N now c.self.view_is c.self.invariant who c.in_ok-place.place found c.mark.new.self)) (sym c.of.ensures)
