use Rattle.std.proofs.Common.{◌≡◌, ℕ, ◌<◌, List, length, set, Some, refl, sym, ap, ◌∙◌, arith}
use Rattle.std.proofs.Math.ListN.{length-set}
use Rattle.std.proofs.lemmas.List.{get_or-set_same, get_or-set_other}
use Rattle.fugue_place.specs.Chains.{follower, entry_at}
use Rattle.fugue_place.proofs.ChainLaws.{outer_begins, outer_goes_on}
use Rattle.fugue_place.proofs.chains.Chains.renumber_outer_part.Goals as goal

pub loop-k-init : goal.loop-k-init
loop-k-init c =
    let s = c.args.self.now in
    let lone = c.requires in (
      record { count = refl; outer = refl; inner = refl; numbers = refl; ends = refl },
      outer_begins c.args.new (follower s.outer.items) (follower s.inner.items) (entry_at s.numbers.items) (entry_at s.ends.items) lone.chains c.args.at lone.early,
    )

pub index_mut-requires : goal.index_mut-requires
index_mut-requires c =
    let s = c.args.self.now in
    let lone = c.requires in
    let links = c.loop-k.invariant.0 in
    let part = c.loop-k.invariant.1 in
    let count = lone.outer in
    let same = ap length links.outer in
    let low : c.loop-k.last < c.args.new = part.early in
    let read : follower s.outer.items c.loop-k.last ≡ Some c.in-Some.k =
    ap (λ (ys : List ℕ). follower ys c.loop-k.last) (sym links.outer) ∙ sym c.follower.ensures ∙ c.in-Some.is in
    let step = lone.chains.step c.loop-k.last c.in-Some.k low read in
    let later : c.loop-k.last < c.in-Some.k = step.later in
    let within : c.in-Some.k < c.args.new = step.within in
    let long = lone.numbers in
    let kept = links.numbers in
    let len = c.loop-k.self.numbers.ok.0 in
    omega arith

pub loop-k-smaller : goal.loop-k-smaller
loop-k-smaller c =
    let s = c.args.self.now in
    let lone = c.requires in
    let links = c.loop-k.invariant.0 in
    let part = c.loop-k.invariant.1 in
    let count = lone.outer in
    let same = ap length links.outer in
    let low : c.loop-k.last < c.args.new = part.early in
    let read : follower s.outer.items c.loop-k.last ≡ Some c.in-Some.k =
    ap (λ (ys : List ℕ). follower ys c.loop-k.last) (sym links.outer) ∙ sym c.follower.ensures ∙ c.in-Some.is in
    let step = lone.chains.step c.loop-k.last c.in-Some.k low read in
    let later : c.loop-k.last < c.in-Some.k = step.later in
    let within : c.in-Some.k < c.args.new = step.within in
    let long = lone.numbers in
    let kept = links.numbers in
    omega arith

pub loop-k-preserved : goal.loop-k-preserved
loop-k-preserved c =
    let s = c.args.self.now in
    let lone = c.requires in
    let links = c.loop-k.invariant.0 in
    let part = c.loop-k.invariant.1 in
    let count = lone.outer in
    let same = ap length links.outer in
    let low : c.loop-k.last < c.args.new = part.early in
    let read : follower s.outer.items c.loop-k.last ≡ Some c.in-Some.k =
    ap (λ (ys : List ℕ). follower ys c.loop-k.last) (sym links.outer) ∙ sym c.follower.ensures ∙ c.in-Some.is in
    let step = lone.chains.step c.loop-k.last c.in-Some.k low read in
    let later : c.loop-k.last < c.in-Some.k = step.later in
    let within : c.in-Some.k < c.args.new = step.within in
    let long = lone.numbers in
    let kept = links.numbers in
    let numbers = c.loop-k.self.numbers.items in (
      record { count = links.count; outer = links.outer; inner = links.inner; numbers = length-set numbers c.in-Some.k c.args.new ∙ links.numbers; ends = links.ends },
      outer_goes_on c.args.new (follower s.outer.items) (follower s.inner.items) (entry_at s.numbers.items) (entry_at s.ends.items) lone.chains c.args.at lone.early
          (entry_at numbers) (entry_at (set numbers c.in-Some.k c.args.new)) c.loop-k.last c.in-Some.k part read
          (get_or-set_same numbers c.in-Some.k c.args.new c.in-Some.k (omega arith)) (λ k apart. get_or-set_other numbers c.in-Some.k k c.args.new k apart),
    )
