use Rattle.std.proofs.Common.{◌&&◌, ◌||◌, nat_eq, List, refl, sym, ◌∙◌, subst, arith}
use Rattle.std.proofs.lemmas.Bool.{le-leb}
use Rattle.ew_model.specs.Graph.{is_named}
use Rattle.ancestors.specs.declared.spans.Span.{Span}
use Rattle.ancestors.specs.Spans.{positions_of}
use Rattle.ancestors.proofs.Walks.{Going, rest_below, going_whole, going_lessens, Closing, closing_starts, closing_goes, closing_ends}
use Rattle.ancestors.proofs.versions.closure.Goals.{In_ok-push_lower}
use Rattle.ancestors.proofs.versions.closure.Goals as goal

pub loop-n-init : goal.loop-n-init
loop-n-init g c =
    let h = g.G.Parentage.parents c.args.g.now in (
      subst (λ (spans : List Span). Closing h c.args.version.now (is_named nat_eq c.put_from.new.self) (positions_of spans)) (sym c.new-found.ensures.none)
          (closing_starts h c.args.version.now (is_named nat_eq c.put_from.new.self) c.requires
          (λ q. c.in_ok-put_from.ensures q ∙ (λ i. is_named nat_eq (c.new-pending.ensures i) q || (le-leb 0 q (omega arith) i && is_named nat_eq c.args.version.now q)))),
      c.new-found.ensures.order,
    )

pub take_chain-requires-clause-within : goal.take_chain-requires-clause-within
take_chain-requires-clause-within g c = c.loop-n.invariant.0.within c.in-Some.n c.in-Some.ensures.member

pub take_chain-requires-clause-lower : goal.take_chain-requires-clause-lower
take_chain-requires-clause-lower g c = rest_below (is_named nat_eq c.loop-n.pending) (is_named nat_eq c.pop_highest.new.self) c.in-Some.n c.in-Some.ensures.greatest c.in-Some.ensures.left

pub push_lower-requires-clause-lower : goal.push_lower-requires-clause-lower
push_lower-requires-clause-lower g c = λ k d l. let low = c.loop-n.invariant.0.lower c.in-Some.n c.in-Some.ensures.member k d l in omega (arith, low)

going : (g : _) (c : In_ok-push_lower g)
    → Going (g.G.Parentage.parents c.args.g.now) 0 c.in_ok-first.first c.in-Some.n (is_named nat_eq c.loop-n.pending) (is_named nat_eq c.pop_highest.new.self) (is_named nat_eq c.take_chain.new.self)
going g c = record {
  within = c.loop-n.invariant.0.within c.in-Some.n c.in-Some.ensures.member;
  here = c.in-Some.ensures.member;
  top = c.in-Some.ensures.greatest;
  without = c.in-Some.ensures.left;
  chain = c.in_ok-first.ensures.chain;
  above = c.in_ok-first.ensures.above;
  with = c.in_ok-first.ensures.put;
}

pub loop-n-smaller : goal.loop-n-smaller
loop-n-smaller g c =
    going_lessens (g.G.Parentage.parents c.args.g.now) c.count-count.ensures.history 0 c.in_ok-first.first c.in-Some.n (is_named nat_eq c.loop-n.pending) (is_named nat_eq c.pop_highest.new.self) (is_named nat_eq c.take_chain.new.self)
    (going g c)

pub loop-n-preserved : goal.loop-n-preserved
loop-n-preserved g c =
    let h = g.G.Parentage.parents c.args.g.now in
    let old = is_named nat_eq c.loop-n.pending in
    let new = is_named nat_eq c.take_chain.new.self in
    let stretch = going_whole h c.count-count.ensures.history 0 c.in_ok-first.first c.in-Some.n old (is_named nat_eq c.pop_highest.new.self) new (going g c) refl in (
      subst (Closing h c.args.version.now new) (sym c.in_ok-push_lower.ensures.ok)
          (closing_goes h c.args.version.now (positions_of c.loop-n.found) c.in_ok-first.first c.in-Some.n old new stretch c.in-Some.ensures.member c.loop-n.invariant.0),
      c.push_lower.ensures.order,
    )

pub returns-clause-positions : goal.returns-clause-positions
returns-clause-positions g c =
    closing_ends (g.G.Parentage.parents c.args.g.now) c.args.version.now (positions_of c.loop-n.found) (is_named nat_eq c.loop-n.pending) c.in_default.ensures.none c.loop-n.invariant.0
