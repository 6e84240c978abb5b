use Rattle.std.proofs.Common.{◌&&◌, arith, sym, ap, ◌∙◌}
use Rattle.peer_definitions.specs.Making.{peer_at, same_events}
use Rattle.generator.proofs.Agreement.{agree_of_three, tells_same}
use Rattle.generator.proofs.Owned.{read}
use Rattle.generator.proofs.peers.Peers.agree.Goals.{Else-agrees, After-agrees-then-agrees}
use Rattle.generator.proofs.peers.Peers.agree.Goals as goal

pub returns-then-agrees : goal.returns-then-agrees
returns-then-agrees c =
    let peers = c.args.self.now.replicas.items in
    let one = read peers 0 c.index.result.now (omega arith) c.requires.three c.index.ensures in
    let two = read peers 1 c.index-2.result.now (omega arith) c.requires.three c.index-2.ensures in
    let second = read peers 1 c.index-then-agrees.result.now (omega arith) c.requires.three c.index-then-agrees.ensures in
    let third = read peers 2 c.index-then-agrees-2.result.now (omega arith) c.requires.three c.index-then-agrees-2.ensures in
    let first = tells_same c.agrees.result _ _ c.agrees.ensures.agrees ∙ (λ i. same_events (one i).held (two i).held) in
    let last = tells_same c.agrees-then-agrees.result _ _ c.agrees-then-agrees.ensures.agrees ∙ (λ i. same_events (second i).held (third i).held) in
    last
    ∙ sym (ap (λ b. b && same_events (peer_at peers 1).held (peer_at peers 2).held) (sym first ∙ c.if-agrees.true))
    ∙ sym (agree_of_three peers c.requires.three)

pub returns-else-agrees : goal.returns-else-agrees
returns-else-agrees c =
    let peers = c.args.self.now.replicas.items in
    let one = read peers 0 c.index.result.now (omega arith) c.requires.three c.index.ensures in
    let two = read peers 1 c.index-2.result.now (omega arith) c.requires.three c.index-2.ensures in
    let first = tells_same c.agrees.result _ _ c.agrees.ensures.agrees ∙ (λ i. same_events (one i).held (two i).held) in
    c.if-agrees.false
    ∙ sym (ap (λ b. b && same_events (peer_at peers 1).held (peer_at peers 2).held) (sym first ∙ c.if-agrees.false))
    ∙ sym (agree_of_three peers c.requires.three)
