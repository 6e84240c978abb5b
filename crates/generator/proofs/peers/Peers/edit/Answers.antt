use Rattle.std.proofs.Common.{◌%◌, Ok, Err, length, arith, sym, ap, ◌∙◌, subst}
use Rattle.std.specs.Result.{IfErr}
use Rattle.std.proofs.lemmas.Result.{err_from_is_err_and}
use Rattle.ew_model.specs.Texts.{text_of}
use Rattle.replica.specs.Answers.{EditsBy}
use Rattle.generator.specs.Answers.{TellsStop}
use Rattle.peer_definitions.specs.Draws.{drawn_edit}
use Rattle.peer_definitions.specs.Making.{drawn_step, edited_peer}
use Rattle.generator.proofs.Editing.{drawn_for, edit_kept, edit_made, edit_stopped, none_awaited}
use Rattle.generator.proofs.Owned.{read}
use Rattle.generator.proofs.peers.Peers.edit.Goals as goal

pub edit_by-requires : goal.edit_by-requires
edit_by-requires g c =
    let peers = c.args.self.now.replicas.items in
    let n = c.draw-who.result % 3 in
    none_awaited peers n c.index_mut-peer.result.now c.agent_of.result (omega arith) c.requires (read peers n c.index_mut-peer.result.now (omega arith) c.requires.three c.index_mut-peer.ensures.value) c.agent_of.ensures

pub returns-in_err-edit_by-clause-stopped : goal.returns-in_err-edit_by-clause-stopped
returns-in_err-edit_by-clause-stopped g c =
    let peers = c.args.self.now.replicas.items in
    let n = c.draw-who.result % 3 in
    let p = c.index_mut-peer.result.now in
    let state = c.args.draws.now.state in
    let f = c.in_err-edit_by.field-0.0 in
    let edits = subst (λ x. EditsBy c.agent_of.result (drawn_edit x (length (text_of p.held))).edit p c.edit_by.new.replica (Err f)) c.draw-who.ensures.state c.in_err-edit_by.ensures.edits in
    let stopped : TellsStop (drawn_step (record { state = state; peers = peers })) f =
    edit_stopped state n peers p c.edit_by.new.replica f (ap (λ d. d % 3) c.draw-who.ensures.drawn) (read peers n p (omega arith) c.requires.three c.index_mut-peer.ensures.value)
    (subst (λ agent. EditsBy agent (drawn_for state p).edit p c.edit_by.new.replica (Err f)) c.agent_of.ensures edits) in
    let told = err_from_is_err_and c.from_residual.result c.from_residual.ensures.1 in
    subst (λ r. IfErr r (TellsStop (drawn_step (record { state = state; peers = peers })))) (sym (told.1 ∙ ap Err told.2)) stopped

pub returns-clause-made : goal.returns-clause-made
returns-clause-made g c =
    let peers = c.args.self.now.replicas.items in
    let n = c.draw-who.result % 3 in
    let p = c.index_mut-peer.result.now in
    let state = c.args.draws.now.state in
    let new = c.edit_by.new.replica in
    let edits = subst (λ x. EditsBy c.agent_of.result (drawn_edit x (length (text_of p.held))).edit p new (Ok c.in_ok-edit_by.field-0)) c.draw-who.ensures.state c.in_ok-edit_by.ensures.edits in
    edit_made state n c.edit_by.new.draws.state c.in_ok-edit_by.field-0 peers p new (ap (λ d. d % 3) c.draw-who.ensures.drawn) (read peers n p (omega arith) c.requires.three c.index_mut-peer.ensures.value)
    (subst (λ agent. EditsBy agent (drawn_for state p).edit p new (Ok c.in_ok-edit_by.field-0)) c.agent_of.ensures edits)
    (c.in_ok-edit_by.ensures.drawn ∙ ap (λ x. (drawn_edit x (length (text_of p.held))).state) c.draw-who.ensures.state)

pub returns-clause-kept : goal.returns-clause-kept
returns-clause-kept g c =
    let peers = c.args.self.now.replicas.items in
    let n = c.draw-who.result % 3 in
    let p = c.index_mut-peer.result.now in
    edit_kept peers n c.draw-who.new.self.state (length (text_of p.held)) p c.edit_by.new.replica (omega arith) c.requires (read peers n p (omega arith) c.requires.three c.index_mut-peer.ensures.value)
    (c.in_ok-edit_by.ensures.edits.1 ∙ ap (λ agent. edited_peer p agent (drawn_edit c.draw-who.new.self.state (length (text_of p.held))).edit) c.agent_of.ensures)
