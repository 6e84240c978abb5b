use Rattle.std.proofs.Common.{◌≡◌, ◌+◌, suc, sym, subst, arith}
use Rattle.ew_model.proofs.AgentLaws.{within_ids}
use Rattle.event_file.specs.RunWriting.{ArePut}
use Rattle.stored_histories.proofs.IdRuns.{behind_there}
use Rattle.stored_histories.proofs.written.put_on_last.Goals as goal

pub op_near-op-requires : goal.op_near-op-requires
op_near-op-requires c = within_ids c.args.graph.now c.args.position c.requires.named.0 c.requires.named.1

pub go_on-requires : goal.go_on-requires
go_on-requires c =
    let within = within_ids c.args.graph.now c.args.position c.requires.named.0 c.requires.named.1 in
    let counted = c.requires.put.counted in
    omega (arith, counted, within, c.requires.writable.few)

pub put_event-requires-clause-put : goal.put_event-requires-clause-put
put_event-requires-clause-put c = subst (ArePut c.args.graph.now c.args.position) (sym (c.in_ok-go_on.ensures.none c.if-branch.false)) c.requires.put

pub returns-then-branch : goal.returns-then-branch
returns-then-branch c =
    let history = c.args.graph.now in
    let f = c.requires.follows in
    let next = behind_there history c.args.position c.op_near-op.result f c.requires.behind c.op_near-op.ensures in
    let here : suc (suc f.0) ≡ c.args.position + 1 = let e = f.2 in omega arith in
    subst (λ n. ArePut history n c.go_on.new.self) here
    (c.in_ok-go_on.ensures.put c.if-branch.true history f.0 f.1 (subst (λ n. ArePut history n c.args.writer.now) f.2 c.requires.put) f.3 next)
