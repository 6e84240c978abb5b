use Rattle.std.proofs.Common.{◌≡◌, ◌≤◌, length, arith, sym, ap, ◌∙◌, subst}
use Rattle.rope.specs.Nodes.{Seen}
use Rattle.rope.specs.Shape.{IsSound, least, parts_in}
use Rattle.rope.proofs.SoundNodes.{sound_of, least_kids, has_more}
use Rattle.rope.proofs.branch.Branch.is_sound.Goals as goal

pub returns-in-Inner-clause-enough : goal.returns-in-Inner-clause-enough
returns-in-Inner-clause-enough c =
    let shape = rw c.in-Inner.is at c.self.invariant.shape in
    let two : least c.self.inside.depth ≡ 2 = least_kids c.self.inside.depth c.in-Inner.kids.items shape.0 shape.2 in
    let parts : c.args.self.now.parts ≡ length c.in-Inner.kids.items = sym (ap (λ (t : Seen). t.parts) c.self.view_is) ∙ ap parts_in c.in-Inner.is in
    let deep : least c.args.self.now.depth ≡ 2 = ap (λ (t : Seen). least t.depth) (sym c.self.view_is) ∙ two in
    has_more c.len-in-Inner.result (least c.args.self.now.depth) c.args.self.now.parts deep (omega (arith, parts, c.len-in-Inner.ensures))

pub returns-in-Inner-clause-sound : goal.returns-in-Inner-clause-sound
returns-in-Inner-clause-sound c = λ true.
    let enough = returns-in-Inner-clause-enough c in
    let parts : least c.self.inside.depth ≤ parts_in c.self.inside.node = subst (λ (t : Seen). least t.depth ≤ t.parts) (sym c.self.view_is) (enough.0 true) in
    subst IsSound c.self.view_is (sound_of c.self.inside.depth c.self.inside.count c.self.inside.leaves c.self.inside.wide c.self.inside.bytes c.self.inside.node c.self.invariant parts)
