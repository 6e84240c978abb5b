use Rattle.std.proofs.Common.{◌≡◌, ℕ, ◌-◌, subst, arith}
use Rattle.advance_retreat.specs.Runs.{IsPlaceOf}
use Rattle.advance_retreat.proofs.RunLaws.{place_behind}
use Rattle.advance_retreat.proofs.runs.place_of.Goals as goal

pub returns : goal.returns
returns c =
    let h = c.count_to.ensures in
    let one : c.count_to.result - 1 ≡ c.saturating_sub.result = omega (arith, c.saturating_sub.ensures) in
    subst (λ (k : ℕ). IsPlaceOf c.args.runs.now k c.args.lv) one (place_behind c.args.runs.now c.args.lv c.count_to.result c.requires h.bound h.to h.behind)
