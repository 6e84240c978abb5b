use Rattle.std.proofs.Common.{◌∙◌, length, take, ap, arith}
use Rattle.ew_model.specs.Kept.{ReplicaState}
use Rattle.ew_model.specs.Texts.{text_of}
use Rattle.replica.proofs.LengthLaws.{length-prefix_lengths}
use Rattle.replica.proofs.state.Replica.length_at.Goals as goal

-- there is a length for each event
pub length_below-requires : goal.length_below-requires
length_below-requires c =
    let inside = c.self.inside in
    omega (arith, ap length c.self.invariant.0.lengths_are, length-prefix_lengths inside.graph, ap (λ (s : ReplicaState). length s.held) c.self.view_is, c.requires)

pub returns : goal.returns
returns c =
    c.length_below.ensures c.self.inside.graph c.self.invariant.0.lengths_are
    ∙ ap (λ (s : ReplicaState). length (text_of (take c.args.count s.held))) c.self.view_is
