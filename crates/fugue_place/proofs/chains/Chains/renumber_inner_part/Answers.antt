use Rattle.std.proofs.Common.{◌≡◌, ℕ, ◌<◌, ◌≤◌, List, length, set, Some, refl, sym, ap, ◌∙◌, arith}
use Rattle.std.proofs.Math.ListN.{length-set}
use Rattle.std.proofs.lemmas.List.{get_or-set_same, get_or-set_other}
use Rattle.fugue_place.specs.Chains.{follower, entry_at}
use Rattle.fugue_place.proofs.ChainLaws.{inner_begins, inner_goes_on}
use Rattle.fugue_place.proofs.chains.Chains.renumber_inner_part.Goals as goal

pub loop-k-init : goal.loop-k-init
loop-k-init c =
    let s = c.args.self.now in
    let lone = c.requires in
    let low : c.args.at < c.args.new = lone.early in
    let long = lone.numbers in
    let numbers = s.numbers.items in (
      record { count = refl; outer = refl; inner = refl; numbers = length-set numbers c.args.at c.args.new; ends = refl },
      inner_begins c.args.new (follower s.outer.items) (follower s.inner.items) (entry_at numbers) (entry_at s.ends.items) lone.chains c.args.at lone.early
          (entry_at (set numbers c.args.at c.args.new)) (get_or-set_same numbers c.args.at c.args.new c.args.at (omega arith)) (λ k apart. get_or-set_other numbers c.args.at k c.args.new k apart),
    )

pub loop-k-preserved : goal.loop-k-preserved
loop-k-preserved c =
    let s = c.args.self.now in
    let lone = c.requires in
    let links = c.loop-k.invariant.0 in
    let part = c.loop-k.invariant.1 in
    let count = lone.outer in
    let same = ap length links.outer in
    let low : c.args.at < c.args.new = lone.early in
    let to : c.loop-k.first ≤ c.args.at = part.to in
    let behind : follower s.inner.items c.loop-k.first ≡ Some c.in-Some.k = ap (λ (ys : List ℕ). follower ys c.loop-k.first) (sym links.inner) ∙ c.in-Some.ensures.some.0 in
    let leads : follower s.outer.items c.in-Some.k ≡ Some c.loop-k.first = ap (λ (ys : List ℕ). follower ys c.in-Some.k) (sym links.outer) ∙ c.in-Some.ensures.some.1 in
    let earlier : c.in-Some.k < c.loop-k.first = lone.chains.inward c.loop-k.first c.in-Some.k (omega arith) behind in
    let long = lone.numbers in
    let kept = links.numbers in
    let numbers = c.loop-k.self.numbers.items in (
      record { count = links.count; outer = links.outer; inner = links.inner; numbers = length-set numbers c.in-Some.k c.args.new ∙ links.numbers; ends = links.ends },
      inner_goes_on c.args.new (follower s.outer.items) (follower s.inner.items) (entry_at s.numbers.items) (entry_at s.ends.items) lone.chains c.args.at lone.early
          (entry_at numbers) (entry_at (set numbers c.in-Some.k c.args.new)) c.loop-k.first c.in-Some.k part (omega arith) leads
          (get_or-set_same numbers c.in-Some.k c.args.new c.in-Some.k (omega arith)) (λ k apart. get_or-set_other numbers c.in-Some.k k c.args.new k apart),
    )
