use Rattle.std.proofs.Common.{◌≡◌, ◌<◌, List, length, IfOk, arith, ap, ◌∙◌, subst}
use Rattle.ew_model.specs.declared.event.Event.{Event}
use Rattle.ew_model.specs.Kept.{IsKept, ReplicaState}
use Rattle.ew_model.specs.Limits.{LimitNumbers}
use Rattle.event_graph.proofs.Summing.{known_ok}
use Rattle.history_laws.specs.Repeats.{without_held}
use Rattle.peer_definitions.specs.Making.{peer_at}
use Rattle.generator.proofs.Missing.{lacking, no_more, summary_distinct}
use Rattle.generator.proofs.Owned.{read}
use Rattle.generator.proofs.peers.Peers.missing.Goals as goal

pub missing-requires : goal.missing-requires
missing-requires c = summary_distinct c.graph.result.now c.deref.result.now (c.deref.ensures.value ∙ c.in_ok-known.ensures.value)

pub returns-clause-missing : goal.returns-clause-missing
returns-clause-missing c =
    let peers = c.args.self.now.replicas.items in
    let giver = read peers c.args.giver c.index-3.result.now c.requires.giver c.requires.peers.three c.index-3.ensures in
    let taker = read peers c.args.taker c.index-2.result.now c.requires.taker c.requires.peers.three c.index-2.ensures in
    let kept = subst (λ (p : ReplicaState). IsKept p.limits p.held p.waiting) taker c.graph.ensures.kept in
    let same = lacking (peer_at peers c.args.taker) (peer_at peers c.args.giver) c.graph-2.result.now c.graph.result.now c.deref.result.now
    (c.graph-2.ensures.graph ∙ ap (λ (p : ReplicaState). p.held) giver) (c.graph.ensures.graph ∙ ap (λ (p : ReplicaState). p.held) taker)
    (c.deref.ensures.value ∙ c.in_ok-known.ensures.value) kept in
    subst (λ (events : List Event). IfOk c.missing.result (λ v. v.items ≡ events)) same c.missing.ensures

pub returns-clause-few : goal.returns-clause-few
returns-clause-few c =
    let peers = c.args.self.now.replicas.items in
    let known = (peer_at peers c.args.taker).held in
    let held = (peer_at peers c.args.giver).held in
    let giver = read peers c.args.giver c.index.result.now c.requires.giver c.requires.peers.three c.index.ensures in
    let same = ap (λ (n : LimitNumbers). n.events) c.limits.ensures.limits in
    let all = ap (λ (p : ReplicaState). length p.held) giver in
    let fewer = no_more known held in
    let kept = c.limits.ensures.kept in
    known_ok (λ v. v.items ≡ without_held known held) c.missing.result (λ v. length v.items < 4294967296)
    (λ v is. let long = ap (λ (events : List Event). length events) is in
    omega (arith, long, fewer, all, kept.few, same, c.events-most.ensures.range.few_events, c.events-most.ensures.value))
    (returns-clause-missing c)
