use Rattle.std.proofs.Common.{◌≡◌, ℕ, ◌-◌, subst, arith}
use Rattle.right_children.specs.Chains.{IsPlaceOf}
use Rattle.right_children.proofs.ChainLaws.{place_of, place_behind}
use Rattle.right_children.proofs.chains.place_near.Goals as goal

pub returns-then-has_at : goal.returns-then-has_at
returns-then-has_at c = place_of c.args.chains.now c.args.position c.args.near c.requires (c.has_at.ensures c.if-has_at.true)

pub returns-then-has_at-2 : goal.returns-then-has_at-2
returns-then-has_at-2 c = place_of c.args.chains.now c.args.position _ c.requires (c.has_at-2.ensures c.if-has_at-2.true)

pub returns : goal.returns
returns c =
    let h = c.count_to.ensures in
    let one : c.count_to.result - 1 ≡ c.saturating_sub.result = omega (arith, c.saturating_sub.ensures) in
    subst (λ (k : ℕ). IsPlaceOf c.args.chains.now c.args.position k) one (place_behind c.args.chains.now c.args.position c.count_to.result c.requires h.bound h.to h.behind)
