use Rattle.std.proofs.Common.{◌≡◌, ◌+◌, ◌-◌, List, ℕ, length, take, drop, arith, sym, ap, ◌∙◌}
use lib.Seq.{paste}
use Rattle.rope.specs.Deletions.{without}
use Rattle.rope.proofs.DeletionRuns.{moved_down}
use Rattle.rope.proofs.leaf.Leaf.remove.Goals as goal

pub returns-clause-chars : goal.returns-clause-chars
returns-clause-chars c =
    let all = c.self.inside.chars.items in
    let at = c.args.at in
    let many = c.min-many.result in
    let long : c.len-len.result ≡ length all = c.len-len.ensures.value ∙ ap length (sym c.self.view_is) in
    c.truncate.ensures.items ∙ ap (take (c.len-len.result - many)) c.copy_within.ensures.items
    ∙ ap (λ (n : ℕ). take (n - many) (paste all at (drop (at + many) all) (n - (at + many)))) long
    ∙ moved_down all at many (omega (arith, long, c.min-many.ensures, c.len-len.ensures.value, c.requires.within)) ∙ ap (λ (cs : List ℕ). without cs at many) c.self.view_is
