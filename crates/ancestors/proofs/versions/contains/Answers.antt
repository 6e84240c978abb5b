use Rattle.std.proofs.Common.{◌&&◌, ◌||◌, nat_eq, nat_le, ap, ◌∙◌}
use Rattle.ew_model.specs.Graph.{is_named}
use Rattle.ancestors.proofs.Walks.{Going, rest_below, going_reached, going_lessens, seeking_starts, seeking_goes, seeking_passes, seeking_misses}
use Rattle.ancestors.proofs.versions.contains.Goals.{Else-first-lv}
use Rattle.ancestors.proofs.versions.contains.Goals as goal

pub loop-n-init : goal.loop-n-init
loop-n-init g c =
    seeking_starts (g.G.Parentage.parents c.args.g.now) c.args.version.now c.args.lv (is_named nat_eq c.put_from.new.self) c.requires.version
    (λ q. c.in_ok-put_from.ensures q ∙ ap (λ ps. is_named nat_eq ps q || (nat_le c.args.lv q && is_named nat_eq c.args.version.now q)) c.new-pending.ensures)

pub take_chain-requires-clause-within : goal.take_chain-requires-clause-within
take_chain-requires-clause-within g c = c.loop-n.invariant.within c.in-Some.n c.in-Some.ensures.member

pub take_chain-requires-clause-lower : goal.take_chain-requires-clause-lower
take_chain-requires-clause-lower g c = rest_below (is_named nat_eq c.loop-n.pending) (is_named nat_eq c.pop_highest.new.self) c.in-Some.n c.in-Some.ensures.greatest c.in-Some.ensures.left

going : (g : _) (c : Else-first-lv g)
    → Going (g.G.Parentage.parents c.args.g.now) c.args.lv c.in_ok-first.first c.in-Some.n (is_named nat_eq c.loop-n.pending) (is_named nat_eq c.pop_highest.new.self) (is_named nat_eq c.take_chain.new.self)
going g c = record {
  within = c.loop-n.invariant.within c.in-Some.n c.in-Some.ensures.member;
  here = c.in-Some.ensures.member;
  top = c.in-Some.ensures.greatest;
  without = c.in-Some.ensures.left;
  chain = c.in_ok-first.ensures.chain;
  above = c.in_ok-first.ensures.above;
  with = c.in_ok-first.ensures.put;
}

pub loop-n-smaller : goal.loop-n-smaller
loop-n-smaller g c =
    going_lessens (g.G.Parentage.parents c.args.g.now) c.count-count.ensures.history c.args.lv c.in_ok-first.first c.in-Some.n (is_named nat_eq c.loop-n.pending) (is_named nat_eq c.pop_highest.new.self) (is_named nat_eq c.take_chain.new.self)
    (going g c)

pub loop-n-preserved : goal.loop-n-preserved
loop-n-preserved g c =
    seeking_goes (g.G.Parentage.parents c.args.g.now) c.count-count.ensures.history c.args.version.now c.args.lv c.in_ok-first.first c.in-Some.n (is_named nat_eq c.loop-n.pending) (is_named nat_eq c.pop_highest.new.self)
    (is_named nat_eq c.take_chain.new.self) (going g c) c.if-first-lv.false c.loop-n.invariant

pub returns-then-first-lv : goal.returns-then-first-lv
returns-then-first-lv g c =
    let h = g.G.Parentage.parents c.args.g.now in
    let pending = is_named nat_eq c.loop-n.pending in
    let reached = going_reached h c.count-count.ensures.history c.args.lv c.in_ok-first.first c.in-Some.n pending (is_named nat_eq c.pop_highest.new.self) (is_named nat_eq c.take_chain.new.self) (record {
      within = c.loop-n.invariant.within c.in-Some.n c.in-Some.ensures.member;
      here = c.in-Some.ensures.member;
      top = c.in-Some.ensures.greatest;
      without = c.in-Some.ensures.left;
      chain = c.in_ok-first.ensures.chain;
      above = c.in_ok-first.ensures.above;
      with = c.in_ok-first.ensures.put;
    }) in
    seeking_passes h c.count-count.ensures.history c.args.version.now c.args.lv c.in_ok-first.first c.in-Some.n pending reached c.if-first-lv.true (c.loop-n.invariant.high c.in-Some.n c.in-Some.ensures.member) c.loop-n.invariant

pub returns : goal.returns
returns g c =
    seeking_misses (g.G.Parentage.parents c.args.g.now) c.count-count.ensures.history c.args.version.now c.args.lv (is_named nat_eq c.loop-n.pending) c.in_default.ensures.none c.loop-n.invariant
