use Rattle.std.proofs.Common.{◌↔◌, IsTrue, subst}
use Rattle.ew_model.specs.Kept.{ReplicaState}
use Rattle.ew_model.specs.Sets.{SameElements}
use Rattle.net_core.proofs.Agreeing.{match_told}
use Rattle.net_core.proofs.comparing.hold_same.Goals as goal

pub returns : goal.returns
returns c =
    let told = subst (λ (r : ReplicaState). IsTrue c.agrees.result ↔ SameElements r.held c.replica-2.result.now.held) c.replica.ensures.replica c.agrees.ensures.agrees in
    match_told c.agrees.result (subst (λ (r : ReplicaState). IsTrue c.agrees.result ↔ SameElements c.args.one.now.replica.held r.held) c.replica-2.ensures.replica told)
