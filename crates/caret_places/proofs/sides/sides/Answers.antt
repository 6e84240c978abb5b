use Rattle.std.proofs.Common.{◌≡◌, ◌+◌, ℕ, suc, length, get_or, set, replicate, refl, ap, ◌∙◌, arith}
use Rattle.std.proofs.lemmas.Option.{slice_get-get_or}
use Rattle.ew_model.proofs.AgentLaws.{within_ids}
use Rattle.transform.proofs.ShownCharacters.{mark_there, order_within}
use Rattle.transform.proofs.TextOrder.{char_there, few_chars, order_long}
use Rattle.transform.proofs.DeletionTargets.{one_for_all}
use Rattle.caret_places.proofs.Along.{few_shown, shown_first, side_by, side_next, sides_by, sides_long, sides_next, sides_all}
use Rattle.caret_places.proofs.sides.sides.Goals as goal

pub loop-position-init : goal.loop-position-init
loop-position-init c = record {
  shown = refl;
  sides = c.in_ok-sides.ensures.items_if_clones_equal (λ y same. same) ∙ ap (λ n. replicate n 0) c.count.ensures.count ∙ one_for_all (side_by c.args.graph.now 0) 0 c.args.graph.now (λ x. refl);
}

pub bounds-deleted-place : goal.bounds-deleted-place
bounds-deleted-place c = order_within c.args.graph.now c.args.order.now c.args.deleted.now c.requires.order c.requires.deleted c.loop-position.position-index 0 c.loop-position-test.true

pub side_behind-side-requires : goal.side_behind-side-requires
side_behind-side-requires c =
    let history = c.args.graph.now in
    let place = c.loop-position.position-index in
    let first = c.loop-position.invariant.shown in
    let few = few_shown history place in
    let within = c.loop-position-test.true in
    let long = order_long history c.args.order.now c.requires.order in
    let all = few_chars history c.requires.good in
    let count = c.count.ensures.count in
    omega (arith, first, few, within, long, all, count, c.count.type_inv)

pub index_mut-requires : goal.index_mut-requires
index_mut-requires c =
    let history = c.args.graph.now in
    let place = c.loop-position.position-index in
    let position = get_or c.args.order.now place 0 in
    let char = char_there history c.args.order.now place position c.requires.order (slice_get-get_or c.args.order.now place 0 c.loop-position-test.true) in
    let within = within_ids history position char.0.id char.2 in
    let long = c.loop-position.sides.ok.0 ∙ ap (length {A = ℕ}) c.loop-position.invariant.sides ∙ sides_long history place in
    omega (arith, within, long)

pub loop-position-preserved : goal.loop-position-preserved
loop-position-preserved c =
    let history = c.args.graph.now in
    let place = c.loop-position.position-index in
    let position = get_or c.args.order.now place 0 in
    let char = char_there history c.args.order.now place position c.requires.order (slice_get-get_or c.args.order.now place 0 c.loop-position-test.true) in
    let z = char.0 in
    let next : suc place ≡ place + 1 = omega arith in
    let mark = mark_there history c.args.deleted.now position z.id _ c.requires.deleted char.2 in
    let side = side_next history place z c.loop-position.shown c.side_behind-side.result _ char.1 c.loop-position.invariant.shown mark c.side_behind-side.ensures in
    record {
      shown = side ∙ ap (shown_first history) next;
      sides = (λ i. set (c.loop-position.invariant.sides i) position (side i)) ∙ sides_next history c.requires.good place position z char.1 char.2 ∙ ap (sides_by history) next;
    }

pub returns : goal.returns
returns c =
    let history = c.args.graph.now in
    let long = order_long history c.args.order.now c.requires.order in
    c.loop-position.invariant.sides ∙ sides_all history c.requires.good c.loop-position.position-index (omega (arith, long, c.loop-position-test.false))
