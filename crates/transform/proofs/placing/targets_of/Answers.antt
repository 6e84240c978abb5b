use Rattle.std.proofs.Common.{ℕ, ◌+◌, ◌<◌, List, length, map, sym, ap, subst, arith}
use Rattle.ew_model.specs.Walks.{walked_from}
use Rattle.transform.specs.Placing.{ids_at}
use Rattle.transform.proofs.Placings.{AreFirst, target_next, all_targets}
use Rattle.transform.proofs.placing.targets_of.Goals as goal

pub loop-position-init : goal.loop-position-init
loop-position-init c = record { high = omega arith; first = ap (map (ids_at c.args.graph.now)) c.new-targets.ensures.items }

pub target_of-requires : goal.target_of-requires
target_of-requires c = (walked_from c.args.graph.now 0, c.requires.0, c.requires.1)

pub loop-position-preserved : goal.loop-position-preserved
loop-position-preserved c =
    let now = c.args.graph.now in
    let state = c.args.state.now in
    let position = c.loop-position.position in
    let events = walked_from now 0 in
    let inv = c.loop-position.invariant in
    let within : position < length now = omega (arith, c.loop-position-test.true, c.count-position-end.ensures.count) in
    record {
      high = omega (arith, within);
      first = subst (λ (ts : List (ℕ × ℕ)). AreFirst now (position + 1) ts) (sym c.in_ok-note_target.ensures)
          (target_next now state c.requires.0 c.requires.1 position c.loop-position.targets.items c.target_of.result within
          (c.target_of.ensures.some events c.requires.0 c.requires.1) (c.target_of.ensures.none events c.requires.0 c.requires.1) inv.first);
    }

pub returns : goal.returns
returns c =
    let inv = c.loop-position.invariant in
    all_targets c.args.graph.now c.args.state.now c.requires.0 c.requires.1 c.loop-position.position c.loop-position.targets.items
    (omega (arith, c.loop-position-test.false, c.count-position-end.ensures.count, inv.high)) inv.first
