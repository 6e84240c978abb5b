use Rattle.std.proofs.Common.{◌≡◌, ℕ, ◌+◌, ◌-◌, true, false, Bool, not, ◌&&◌, ◌||◌, if◌then◌else◌, nat_eq, List, [], ◌++◌, refl, sym, ap, ◌∙◌, subst, arith}
use Rattle.std.specs.List.{range_with_len}
use Rattle.ew_model.specs.Graph.{is_named}
use Rattle.ew_model.specs.Positions.{parents_at}
use Rattle.ancestors.specs.declared.spans.Span.{Span}
use Rattle.ancestors.specs.Sides.{on_left, on_right}
use Rattle.ancestors.specs.Spans.{positions_of}
use Rattle.ancestors.proofs.Differences.{Parting, Parted, parting_starts, highest_within, left_below, clear_above, parting_goes, parting_ends}
use Rattle.ancestors.proofs.difference.diff.Goals.{In_ok-put_alone}
use Rattle.ancestors.proofs.difference.diff.Goals as goal

or_nothing : (a : Bool) → (a || false) ≡ a
or_nothing true = refl
or_nothing false = refl

pub loop-n-init : goal.loop-n-init
loop-n-init g c =
    let h = g.G.Parentage.parents c.args.g.now in
    let first = c.in_ok-put_all.ensures in
    let second = c.in_ok-put_all-2.ensures in
    let left : (q : ℕ) → on_left c.put_all-2.new.self q ≡ is_named nat_eq c.args.a.now q =
    λ q. second.left q ∙ or_nothing (on_left c.put_all.new.self q) ∙ first.left q ∙ ap (λ b. b || is_named nat_eq c.args.a.now q) (c.new-sides.ensures.left q) in
    let right : (q : ℕ) → on_right c.put_all-2.new.self q ≡ is_named nat_eq c.args.b.now q =
    λ q. second.right q ∙ ap (λ b. b || is_named nat_eq c.args.b.now q) (first.right q ∙ or_nothing (on_right c.new-sides.result q) ∙ c.new-sides.ensures.right q) in
    let starts = parting_starts h c.args.a.now c.args.b.now (on_left c.put_all-2.new.self) (on_right c.put_all-2.new.self) c.requires.a c.requires.b left right in (
      subst (λ (xs : List Span). Parting h c.args.a.now c.args.b.now (on_left c.put_all-2.new.self) (on_right c.put_all-2.new.self) (positions_of xs) (positions_of c.new-right.result)) (sym c.new-left.ensures.none)
          (subst (λ (ys : List Span). Parting h c.args.a.now c.args.b.now (on_left c.put_all-2.new.self) (on_right c.put_all-2.new.self) [] (positions_of ys)) (sym c.new-right.ensures.none) starts),
      c.new-left.ensures.order,
      c.new-right.ensures.order,
    )

pub take_chain-requires-clause-within : goal.take_chain-requires-clause-within
take_chain-requires-clause-within g c =
    highest_within (g.G.Parentage.parents c.args.g.now) c.args.a.now c.args.b.now (on_left c.loop-n.sides) (on_right c.loop-n.sides) (positions_of c.loop-n.left) (positions_of c.loop-n.right) c.in-Some.n c.loop-n.invariant.0
    c.in-Some.ensures.highest

pub take_chain-requires-clause-lower : goal.take_chain-requires-clause-lower
take_chain-requires-clause-lower g c =
    left_below (on_left c.loop-n.sides) (on_right c.loop-n.sides) (on_left c.pop_from.new.self) (on_right c.pop_from.new.self) c.in-Some.n c.in-Some.ensures.highest c.in-Some.ensures.left c.in-Some.ensures.right

pub put_alone-requires-clause-left : goal.put_alone-requires-clause-left
put_alone-requires-clause-left g c = λ k d l. let low = c.loop-n.invariant.0.left_lower c.in-Some.n c.in-Some.ensures.highest.either k d l in omega (arith, low)

pub put_alone-requires-clause-right : goal.put_alone-requires-clause-right
put_alone-requires-clause-right g c = λ k d l. let low = c.loop-n.invariant.0.right_lower c.in-Some.n c.in-Some.ensures.highest.either k d l in omega (arith, low)

parted : (g : _) (c : In_ok-put_alone g)
    → Parted (g.G.Parentage.parents c.args.g.now) c.args.a.now c.args.b.now c.in_ok-first.first c.in-Some.n (on_left c.loop-n.sides) (on_right c.loop-n.sides) (on_left c.take_chain.new.sides) (on_right c.take_chain.new.sides)
    (positions_of c.loop-n.left) (positions_of c.loop-n.right)
parted g c =
    let h = g.G.Parentage.parents c.args.g.now in
    let n = c.in-Some.n in
    let first = c.in_ok-first.first in
    let l = on_left c.loop-n.sides in
    let r = on_right c.loop-n.sides in
    let clear = clear_above l r (on_left c.pop_from.new.self) (on_right c.pop_from.new.self) first n c.in-Some.ensures.left c.in-Some.ensures.right c.in_ok-first.ensures.above in
    parting_goes h c.count-count.ensures.history c.args.a.now c.args.b.now first n l r (on_left c.take_chain.new.sides) (on_right c.take_chain.new.sides) (positions_of c.loop-n.left) (positions_of c.loop-n.right) c.loop-n.invariant.0 (record {
      top = c.in-Some.ensures.highest;
      chain = c.in_ok-first.ensures.chain;
      left_clear = clear.0;
      right_clear = clear.1;
      next_left = λ q. c.in_ok-first.ensures.left q ∙ (λ i. c.in-Some.ensures.left q i || (c.in-Some.ensures.was_left i && is_named nat_eq (parents_at h first) q));
      next_right = λ q. c.in_ok-first.ensures.right q ∙ (λ i. c.in-Some.ensures.right q i || (c.in-Some.ensures.was_right i && is_named nat_eq (parents_at h first) q));
    })

pub loop-n-smaller : goal.loop-n-smaller
loop-n-smaller g c = (parted g c).less

pub loop-n-preserved : goal.loop-n-preserved
loop-n-preserved g c =
    let h = g.G.Parentage.parents c.args.g.now in
    let n = c.in-Some.n in
    let l = on_left c.loop-n.sides in
    let r = on_right c.loop-n.sides in
    let xs = positions_of c.loop-n.left in
    let ys = positions_of c.loop-n.right in
    let chain : List ℕ = range_with_len c.in_ok-first.first (n + 1 - c.in_ok-first.first) in
    let left : positions_of c.put_alone.new.left ≡ (if l n && not (r n) then chain ++ xs else xs) =
    c.in_ok-put_alone.ensures.left ∙ (λ i. if c.in-Some.ensures.was_left i && not (c.in-Some.ensures.was_right i) then chain ++ xs else xs) in
    let right : positions_of c.put_alone.new.right ≡ (if r n && not (l n) then chain ++ ys else ys) =
    c.in_ok-put_alone.ensures.right ∙ (λ i. if c.in-Some.ensures.was_right i && not (c.in-Some.ensures.was_left i) then chain ++ ys else ys) in (
      subst (λ (zs : List ℕ). Parting h c.args.a.now c.args.b.now (on_left c.take_chain.new.sides) (on_right c.take_chain.new.sides) zs (positions_of c.put_alone.new.right)) (sym left)
          (subst (λ (zs : List ℕ). Parting h c.args.a.now c.args.b.now (on_left c.take_chain.new.sides) (on_right c.take_chain.new.sides) (if l n && not (r n) then chain ++ xs else xs) zs) (sym right) (parted g c).parting),
      c.put_alone.ensures.left_order,
      c.put_alone.ensures.right_order,
    )

pub returns-clause-left : goal.returns-clause-left
returns-clause-left g c =
    (parting_ends (g.G.Parentage.parents c.args.g.now) c.args.a.now c.args.b.now (on_left c.loop-n.sides) (on_right c.loop-n.sides) (positions_of c.loop-n.left) (positions_of c.loop-n.right) c.args.floor c.requires.floor_a c.requires.floor_b c.in_default.ensures.none c.loop-n.invariant.0).0

pub returns-clause-right : goal.returns-clause-right
returns-clause-right g c =
    (parting_ends (g.G.Parentage.parents c.args.g.now) c.args.a.now c.args.b.now (on_left c.loop-n.sides) (on_right c.loop-n.sides) (positions_of c.loop-n.left) (positions_of c.loop-n.right) c.args.floor c.requires.floor_a c.requires.floor_b c.in_default.ensures.none c.loop-n.invariant.0).1
