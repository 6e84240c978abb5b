use Rattle.std.proofs.Common.{nat_eq, sym, ◌∙◌}
use Rattle.ew_model.specs.Graph.{is_named}
use Rattle.ancestors.proofs.Walks.{Going, rest_below, going_reached, going_lessens, reduced_starts, reduced_goes, reduced_finds, reduced_misses, other_within, none_reduced}
use Rattle.ancestors.proofs.versions.is_reduced.Goals.{Else-any_within}
use Rattle.ancestors.proofs.versions.is_reduced.Goals as goal

pub returns-in_default : goal.returns-in_default
returns-in_default g c = none_reduced (g.G.Parentage.parents c.args.g.now) c.args.parents.now c.in_default.ensures.cases

pub parents_of-requires : goal.parents_of-requires
parents_of-requires g c =
    other_within (g.G.Parentage.parents c.args.g.now) c.count-count.ensures.history c.args.parents.now c.in-Some.lowest.now c.in-Some.others.now c.in-Some.ensures.cases.0 c.requires.rising c.requires.parents
    c.loop-position.position-index c.loop-position-test.true

pub loop-n-init : goal.loop-n-init
loop-n-init g c =
    reduced_starts (g.G.Parentage.parents c.args.g.now) c.count-count.ensures.history c.args.parents.now c.in-Some.lowest.now c.in-Some.others.now c.in-Some.ensures.cases.0 c.requires.rising c.requires.parents
    (is_named nat_eq c.loop-position.pending) c.loop-position.position-index c.loop-position-test.false c.loop-position.invariant

pub take_chain-requires-clause-within : goal.take_chain-requires-clause-within
take_chain-requires-clause-within g c = c.loop-n.invariant.within c.in-Some-pop_highest.n c.in-Some-pop_highest.ensures.member

pub take_chain-requires-clause-lower : goal.take_chain-requires-clause-lower
take_chain-requires-clause-lower g c =
    rest_below (is_named nat_eq c.loop-n.pending) (is_named nat_eq c.pop_highest.new.self) c.in-Some-pop_highest.n c.in-Some-pop_highest.ensures.greatest c.in-Some-pop_highest.ensures.left

going : (g : _) (c : Else-any_within g)
    → Going (g.G.Parentage.parents c.args.g.now) c.in-Some.lowest.now c.in_ok-first.first c.in-Some-pop_highest.n (is_named nat_eq c.loop-n.pending) (is_named nat_eq c.pop_highest.new.self) (is_named nat_eq c.take_chain.new.self)
going g c = record {
  within = c.loop-n.invariant.within c.in-Some-pop_highest.n c.in-Some-pop_highest.ensures.member;
  here = c.in-Some-pop_highest.ensures.member;
  top = c.in-Some-pop_highest.ensures.greatest;
  without = c.in-Some-pop_highest.ensures.left;
  chain = c.in_ok-first.ensures.chain;
  above = c.in_ok-first.ensures.above;
  with = c.in_ok-first.ensures.put;
}

pub loop-n-smaller : goal.loop-n-smaller
loop-n-smaller g c =
    going_lessens (g.G.Parentage.parents c.args.g.now) c.count-count.ensures.history c.in-Some.lowest.now c.in_ok-first.first c.in-Some-pop_highest.n (is_named nat_eq c.loop-n.pending) (is_named nat_eq c.pop_highest.new.self)
    (is_named nat_eq c.take_chain.new.self) (going g c)

pub loop-n-preserved : goal.loop-n-preserved
loop-n-preserved g c =
    reduced_goes (g.G.Parentage.parents c.args.g.now) c.count-count.ensures.history c.args.parents.now c.in-Some.lowest.now c.in-Some.others.now c.in-Some.ensures.cases.0 c.requires.rising c.requires.parents
    c.in_ok-first.first c.in-Some-pop_highest.n (is_named nat_eq c.loop-n.pending) (is_named nat_eq c.pop_highest.new.self) (is_named nat_eq c.take_chain.new.self) (going g c) (sym c.any_within.ensures ∙ c.if-any_within.false)
    c.loop-n.invariant

pub returns-then-any_within : goal.returns-then-any_within
returns-then-any_within g c =
    let h = g.G.Parentage.parents c.args.g.now in
    let pending = is_named nat_eq c.loop-n.pending in
    let reached = going_reached h c.count-count.ensures.history c.in-Some.lowest.now c.in_ok-first.first c.in-Some-pop_highest.n pending (is_named nat_eq c.pop_highest.new.self) (is_named nat_eq c.take_chain.new.self) (record {
      within = c.loop-n.invariant.within c.in-Some-pop_highest.n c.in-Some-pop_highest.ensures.member;
      here = c.in-Some-pop_highest.ensures.member;
      top = c.in-Some-pop_highest.ensures.greatest;
      without = c.in-Some-pop_highest.ensures.left;
      chain = c.in_ok-first.ensures.chain;
      above = c.in_ok-first.ensures.above;
      with = c.in_ok-first.ensures.put;
    }) in
    reduced_finds h c.count-count.ensures.history c.args.parents.now c.in-Some.lowest.now c.in-Some.others.now c.in-Some.ensures.cases.0 c.requires.rising c.requires.parents
    c.in_ok-first.first c.in-Some-pop_highest.n pending reached (sym c.any_within.ensures ∙ c.if-any_within.true) c.loop-n.invariant

pub returns : goal.returns
returns g c =
    reduced_misses (g.G.Parentage.parents c.args.g.now) c.count-count.ensures.history c.args.parents.now c.in-Some.lowest.now c.in-Some.others.now c.in-Some.ensures.cases.0 c.requires.rising c.requires.parents
    (is_named nat_eq c.loop-n.pending) c.in_default-pop_highest.ensures.none c.loop-n.invariant
