use Rattle.std.proofs.Common.{◌≡◌, ◌∙◌, length, ap, subst, arith}
use Rattle.std.specs.List.{list_any, position_or_len}
use Rattle.ew_model.specs.Ids.{name_eq}
use Rattle.ew_model.proofs.ListParts.{element_there}
use Rattle.agreement.proofs.Shared.{same_made}
use Rattle.ew_model.specs.declared.event.Event.{Event}
use Rattle.ew_model.specs.declared.id.Id.{Id}
use Rattle.event_file.specs.RunWriting.{ArePut}
use Rattle.event_file.proofs.Asked.{asked}
use Rattle.stored_histories.proofs.written.put_events.Goals as goal

pub number_of-agent-requires : goal.number_of-agent-requires
number_of-agent-requires c =
    let history = c.args.graph.now in
    let first = c.id_near-first.result in
    let here = element_there history c.loop-position.position (omega arith) in
    let same = same_made (λ (e : Event). e.id) history c.loop-position.position here.0 first here.1 c.id_near-first.ensures in
    ap (λ (x : Id). list_any (name_eq x.agent) c.args.agents.now) same ∙ ap (list_any (name_eq here.0.id.agent)) c.requires.agents ∙ (asked history c.loop-position.position here.0 c.requires.writable here.1).agent

pub put_piece-requires-clause-agent : goal.put_piece-requires-clause-agent
put_piece-requires-clause-agent c = c.number_of-agent.ensures ∙ ap (position_or_len (name_eq c.id_near-first.result.agent)) c.requires.agents

pub loop-position-preserved : goal.loop-position-preserved
loop-position-preserved c = record {
  put = c.in_ok-put_piece.ensures;
  within = c.end_of_ids-end.ensures.to;
}

pub returns : goal.returns
returns c =
    let all : c.loop-position.position ≡ length c.args.graph.now = omega (arith, c.loop-position.invariant.within) in
    subst (λ n. ArePut c.args.graph.now n c.loop-position.writer) all c.loop-position.invariant.put
