use Rattle.std.proofs.Common.{◌≡◌, ◌++◌, ◌-◌, List, ℕ, [], length, take, drop, ap, ◌∙◌}
use Rattle.std.proofs.lemmas.List.{take_rest}
use Rattle.rope.proofs.leaf.Leaf.move_tail.Goals as goal

pub returns-clause-right : goal.returns-clause-right
returns-clause-right c =
    let put = rw c.in-Ok.is at c.extend_from_slice.ensures.items in
    let all = c.deref.result.now in
    let empty : c.to.inside.chars.items ≡ [] = c.to.view_is ∙ c.requires.empty in
    let part : all ≡ c.args.self.now = c.deref.ensures.value ∙ c.self.view_is in
    put ∙ ap (λ (cs : List ℕ). cs ++ take (length all - c.args.at) (drop c.args.at all)) empty ∙ take_rest all c.args.at ∙ ap (drop c.args.at) part
