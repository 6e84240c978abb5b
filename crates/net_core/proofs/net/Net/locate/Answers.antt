use Rattle.std.proofs.Common.{sym, ap, ◌∙◌}
use Rattle.std.proofs.lemmas.Result.{err_from_is_err_and}
use Rattle.carets.specs.Sides.{side}
use Rattle.peer_definitions.specs.declared.net_step.NetStep.TheVariants as step
use Rattle.peer_definitions.specs.Machine.{Network, Peer, caret_line, where_outcome}
use Rattle.peer_definitions.specs.Machine.StepOutcome.{Stepped}
use Rattle.net_core.proofs.Editing.{named_so}
use Rattle.net_core.proofs.Steps.{at_peer, no_peer, where_is}
use Rattle.net_core.proofs.Writes.{here, no_peer_told, read, there}
use Rattle.net_core.proofs.net.Net.locate.Goals as goal

pub returns-in_err-place : goal.returns-in_err-place
returns-in_err-place g c =
    let now = c.args.self.now in
    let name = c.args.name.now in
    let none = c.in_err-place.ensures.none in
    let told = err_from_is_err_and c.from_residual.result c.from_residual.ensures.1 in
    no_peer_told now (step.Where name) name told.0 c.from_residual.result told.1 (told.2 ∙ none.0) (where_is now name ∙ no_peer now name (where_outcome now) none.1)

pub returns : goal.returns
returns g c =
    let N : Network = record { limits = c.self.inside.limits; peers = c.self.inside.peers.items; packets = c.self.inside.packets.items } in
    let now = c.args.self.now in
    let name = c.args.name.now in
    let found = c.in_ok-place.ensures.found in
    let p = here N now c.self.view_is c.self.invariant name c.in_ok-place.place found in
    let is = there N now c.self.view_is c.self.invariant name c.in_ok-place.place found in
    let read_is = read N now c.self.view_is c.self.invariant name c.in_ok-place.place found c.index.result.now c.index.ensures in
    let index = c.in_ok-index.ensures ∙ ap (λ (q : Peer). side q.replica.held q.caret) read_is in
    let line = (λ i. caret_line (named_so now name p is i) (sym index i)) ∙ sym c.in_ok-caret_line.ensures in
    where_is now name ∙ at_peer now name (where_outcome now) p is ∙ ap (Stepped now) line
