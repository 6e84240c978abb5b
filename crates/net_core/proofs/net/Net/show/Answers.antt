use Rattle.std.proofs.Common.{[], ◌∷◌, sym, ap, ◌∙◌}
use Rattle.std.specs.Prelude.{encode_utf8_all}
use Rattle.std.proofs.lemmas.Result.{err_from_is_err_and}
use Rattle.ew_model.specs.Kept.{ReplicaState}
use Rattle.ew_model.specs.Scripts.{escaped_text}
use Rattle.ew_model.specs.Texts.{text_of}
use Rattle.peer_definitions.specs.declared.net_step.NetStep.TheVariants as step
use Rattle.peer_definitions.specs.Machine.{Network, Peer, printed_line}
use Rattle.peer_definitions.specs.Machine.StepOutcome.{Stepped}
use Rattle.net_core.proofs.Steps.{at_peer, no_peer, show_is}
use Rattle.net_core.proofs.Writes.{here, no_peer_told, read, there}
use Rattle.net_core.proofs.net.Net.show.Goals as goal

pub returns-in_err-place : goal.returns-in_err-place
returns-in_err-place c =
    let now = c.args.self.now in
    let name = c.args.name.now in
    let none = c.in_err-place.ensures.none in
    let told = err_from_is_err_and c.from_residual.result c.from_residual.ensures.1 in
    no_peer_told now (step.Show name) name told.0 c.from_residual.result told.1 (told.2 ∙ none.0)
    (show_is now name ∙ no_peer now name (λ (p : Peer). Stepped now (printed_line (name ∷ escaped_text (text_of p.replica.held) ∷ []))) none.1)

pub returns : goal.returns
returns c =
    let N : Network = record { limits = c.self.inside.limits; peers = c.self.inside.peers.items; packets = c.self.inside.packets.items } in
    let now = c.args.self.now in
    let name = c.args.name.now in
    let found = c.in_ok-place.ensures.found in
    let p = here N now c.self.view_is c.self.invariant name c.in_ok-place.place found in
    let is = there N now c.self.view_is c.self.invariant name c.in_ok-place.place found in
    let read_is = read N now c.self.view_is c.self.invariant name c.in_ok-place.place found c.index.result.now c.index.ensures in
    let held = ap (λ (r : ReplicaState). encode_utf8_all (text_of r.held)) (c.replica.ensures.replica ∙ ap (λ (q : Peer). q.replica) read_is) in
    let text = c.deref.ensures.value ∙ c.in_ok-text.ensures ∙ held in
    show_is now name ∙ at_peer now name (λ (q : Peer). Stepped now (printed_line (name ∷ escaped_text (text_of q.replica.held) ∷ []))) p is
    ∙ ap (Stepped now) (sym (c.in_ok-shown_line.ensures (text_of p.replica.held) text))
