use Rattle.std.proofs.Common.{[], ◌∷◌, sym, ap, ◌∙◌, codes}
use Rattle.std.proofs.lemmas.Result.{err_from_is_err_and}
use Rattle.peer_definitions.specs.declared.net_step.NetStep.TheVariants as step
use Rattle.peer_definitions.specs.Machine.{Network, Peer, printed_line, restart_outcome}
use Rattle.peer_definitions.specs.Machine.StepOutcome.{Stepped}
use Rattle.net_core.proofs.Editing.{named_so, restarted, restarted_homely, restarted_step}
use Rattle.net_core.proofs.Reaching.{homely}
use Rattle.net_core.proofs.Steps.{no_peer, restart_is}
use Rattle.net_core.proofs.Writes.{here, no_peer_told, read, seen, there, written, written_reached}
use Rattle.net_core.proofs.net.Net.restart.Goals as goal

pub returns-in_err-place : goal.returns-in_err-place
returns-in_err-place g c =
    let now = c.args.self.now in
    let name = c.args.name.now in
    let none = c.in_err-place.ensures.none in
    let told = err_from_is_err_and c.from_residual.result c.from_residual.ensures.1 in
    no_peer_told now (step.Restart name) name told.0 c.from_residual.result told.1 (told.2 ∙ none.0) (restart_is now name ∙ no_peer now name (restart_outcome now) none.1)

pub invariant_of-self-2 : goal.invariant_of-self-2
invariant_of-self-2 g c =
    let N : Network = record { limits = c.self.inside.limits; peers = c.self.inside.peers.items; packets = c.self.inside.packets.items } in
    let S = c.args.self.now in
    let name = c.args.name.now in
    let found = c.in_ok-place.ensures.found in
    let p = here N S c.self.view_is c.self.invariant name c.in_ok-place.place found in
    let h = homely S (seen N S c.self.view_is c.self.invariant name c.in_ok-place.place found) in
    let is = there N S c.self.view_is c.self.invariant name c.in_ok-place.place found in
    let old = read N S c.self.view_is c.self.invariant name c.in_ok-place.place found c.index_mut.result.now c.index_mut.ensures.value in
    let new = c.in_ok-restart.ensures.ok ∙ ap (λ (q : Peer). record { name = q.name; replica = record { limits = q.replica.limits; held = q.replica.held; waiting = [] }; caret = q.caret }) old in
    written_reached N S c.self.view_is c.self.invariant name c.in_ok-place.place found c.restart.new.self (restarted S name p h is) new (restarted_homely S name p h is)

pub returns : goal.returns
returns g c =
    let N : Network = record { limits = c.self.inside.limits; peers = c.self.inside.peers.items; packets = c.self.inside.packets.items } in
    let S = c.args.self.now in
    let name = c.args.name.now in
    let found = c.in_ok-place.ensures.found in
    let p = here N S c.self.view_is c.self.invariant name c.in_ok-place.place found in
    let h = homely S (seen N S c.self.view_is c.self.invariant name c.in_ok-place.place found) in
    let is = there N S c.self.view_is c.self.invariant name c.in_ok-place.place found in
    let old = read N S c.self.view_is c.self.invariant name c.in_ok-place.place found c.index_mut.result.now c.index_mut.ensures.value in
    let new = c.in_ok-restart.ensures.ok ∙ ap (λ (q : Peer). record { name = q.name; replica = record { limits = q.replica.limits; held = q.replica.held; waiting = [] }; caret = q.caret }) old in
    let back = written N S c.self.view_is c.self.invariant name c.in_ok-place.place found c.restart.new.self (restarted S name p h is) new in
    let line = ap (λ n. printed_line (n ∷ codes "restarted" ∷ [])) (named_so S name p is) ∙ sym c.in_ok-out.ensures in
    restart_is S name ∙ restarted_step S name p h is ∙ (λ i. Stepped (sym back i) (line i))
