use Rattle.std.proofs.Common.{◌≡◌, ℕ, ◌+◌, ◌<◌, length, refl, sym, ap, ◌∙◌, subst, arith}
use Rattle.std.proofs.lemmas.List.{get_or_read}
use Rattle.fugue_place.specs.Chains.{follower, entry_at}
use Rattle.fugue_place.proofs.ChainLaws.{outer_stays}
use Rattle.fugue_place.proofs.TableLaws.{outer_moved}
use Rattle.fugue_place.proofs.chains.Chains.move_outer_part.Goals as goal

pub returns-clause-chains : goal.returns-clause-chains
returns-clause-chains c =
    let s = c.args.self.now in
    let d = c.renumber_outer_part.new.self in
    let lone = c.requires in
    let low : c.args.at < c.args.new = lone.early in
    let links = c.renumber_outer_part.ensures.same in
    let renumbered = c.renumber_outer_part.ensures.numbers in
    let numbers_long : length d.numbers.items ≡ c.args.new + 1 = links.numbers ∙ lone.numbers in
    let ends_long : length d.ends.items ≡ c.args.new + 1 = ap length links.ends ∙ lone.ends in
    let is : c.index-number.result.now ≡ entry_at d.numbers.items c.args.at = get_or_read d.numbers.items c.args.at c.index-number.result.now (omega arith) c.index-number.ensures c.args.at in
    let same : c.index-number.result.now ≡ entry_at s.numbers.items c.args.at =
    is ∙ outer_stays c.args.new (follower s.outer.items) (follower s.inner.items) (entry_at s.numbers.items) (entry_at s.ends.items) lone.chains c.args.at lone.early (entry_at d.numbers.items) renumbered in
    let known : c.index-number.result.now < c.args.new = subst (λ (x : ℕ). x < c.args.new) (sym same) (lone.chains.known c.args.at low) in
    let ending : c.index.result.now ≡ entry_at d.ends.items c.index-number.result.now = get_or_read d.ends.items c.index-number.result.now c.index.result.now (omega arith) c.index.ensures c.index-number.result.now in
    outer_moved s c.args.at c.args.new lone d links _ refl refl refl renumbered c.index-number.result.now c.index.result.now is ending refl refl
