use Rattle.std.proofs.Common.{◌≡◌, ◌∙◌, ◌-◌, length, take, drop, ap, arith}
use Rattle.critical.proofs.OlderCuts.{last_first}
use Rattle.critical.proofs.list.leave_last.Goals as goal

pub returns : goal.returns
returns g c =
    let items = c.args.items.now.items in
    let n = c.len-others.result - 1 in
    let same : n ≡ length items - 1 = omega (arith, c.len-others.ensures, c.args.items.now.ok.0) in
    c.truncate.ensures.items ∙ ap (take 1) c.rotate_left.ensures.items ∙ last_first n items (omega (arith, same, c.requires)) ∙ ap (λ k. drop k items) same
