use Rattle.std.proofs.Common.{sym, subst}
use Rattle.generator.specs.Owning.{ArePeers}
use Rattle.generator.proofs.Owned.{gift, given, read}
use Rattle.generator.proofs.Touching.{gift_most}
use Rattle.generator.proofs.peers.Peers.give.Goals as goal

pub returns-in-Ok-clause-given : goal.returns-in-Ok-clause-given
returns-in-Ok-clause-given g c =
    let peers = c.args.self.now.replicas.items in
    gift peers c.args.giver c.args.taker c.index_mut.result.now c.receive.new.self c.in_ok-events.events.items (c.requires.peers.own c.args.taker c.requires.taker).settled
    (read peers c.args.taker c.index_mut.result.now c.requires.taker c.requires.peers.three c.index_mut.ensures.value)
    c.in_ok-events.ensures.missing c.in-Ok.ensures.received.state

pub returns-in-Ok-clause-kept : goal.returns-in-Ok-clause-kept
returns-in-Ok-clause-kept g c =
    subst ArePeers (sym (returns-in-Ok-clause-given g c)) (given c.args.self.now.replicas.items c.args.giver c.args.taker c.requires.giver c.requires.taker c.requires.peers)

pub returns-in-Ok-clause-most : goal.returns-in-Ok-clause-most
returns-in-Ok-clause-most g c =
    let peers = c.args.self.now.replicas.items in
    gift_most peers c.args.giver c.args.taker c.args.steps.now c.receive.new.steps c.index_mut.result.now c.in_ok-events.events.items (c.requires.peers.own c.args.taker c.requires.taker).settled
    (read peers c.args.taker c.index_mut.result.now c.requires.taker c.requires.peers.three c.index_mut.ensures.value)
    c.in_ok-events.ensures.missing c.receive.ensures.most

pub returns-clause-most : goal.returns-clause-most
returns-clause-most g c =
    let peers = c.args.self.now.replicas.items in
    gift_most peers c.args.giver c.args.taker c.args.steps.now c.receive.new.steps c.index_mut.result.now c.in_ok-events.events.items (c.requires.peers.own c.args.taker c.requires.taker).settled
    (read peers c.args.taker c.index_mut.result.now c.requires.taker c.requires.peers.three c.index_mut.ensures.value)
    c.in_ok-events.ensures.missing c.receive.ensures.most
