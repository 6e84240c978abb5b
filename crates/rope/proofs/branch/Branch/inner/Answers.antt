use Rattle.std.proofs.Common.{◌≡◌, ap, ◌∙◌}
use Rattle.rope.specs.Nodes.{all_leaves}
use Rattle.rope.proofs.KidLists.{sound_inner}
use Rattle.rope.proofs.branch.Branch.inner.Goals as goal

pub returns-clause-sound : goal.returns-clause-sound
returns-clause-sound c =
    let leaves : c.sizes_in-sizes.result.leaves ≡ all_leaves c.args.kids.items = c.sizes_in-sizes.ensures.leaves ∙ ap all_leaves c.as_slice.ensures.value in
    rw leaves (sound_inner c.args.depth c.args.kids.items c.requires.below c.requires.some)
