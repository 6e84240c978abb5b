use Rattle.std.proofs.Common.{◌≡◌, ℕ, length, reverse, take, ap, arith}
use Rattle.std.proofs.lemmas.List.{length-reverse}
use Rattle.ew_model.specs.Walks.{base_at, walked_from}
use Rattle.ew_model.specs.Moves.{after_retreats}
use Rattle.ew_model.proofs.ListParts.{element_there}
use Rattle.ancestors.specs.Spans.{positions_of}
use Rattle.transform.specs.Reaching.{prepared_since}
use Rattle.transform.proofs.Turning.{downs_of, ups_of, downs_may, ups_may, moves_arrive, cost}
use Rattle.transform.proofs.turn.move_to.Goals as goal

pub differences-requires-clause-some : goal.differences-requires-clause-some
differences-requires-clause-some g c = omega (arith, c.requires.reached.1.some)

pub retreat_all-requires : goal.retreat_all-requires
retreat_all-requires g c =
    let now = c.args.graph.now in
    let position = c.args.position in
    let front = take position now in
    let cut = c.requires.reached.0 in
    let reached = c.requires.reached.1 in
    let found = element_there now position c.requires.within in
    let e = found.0 in
    let at = found.1 in
    let downs : reverse (positions_of c.in_ok-out.out) ≡ downs_of front 0 e = ap reverse (c.in_ok-out.ensures.out e at) in
    (base_at now cut, walked_from front cut, prepared_since front cut, reached.stands, downs_may now cut position e c.args.state.now c.count-count.ensures.admitted c.count-count.ensures.sound at reached (reverse (positions_of c.in_ok-out.out)) downs)

pub advance_all-requires : goal.advance_all-requires
advance_all-requires g c =
    let now = c.args.graph.now in
    let position = c.args.position in
    let front = take position now in
    let cut = c.requires.reached.0 in
    let reached = c.requires.reached.1 in
    let found = element_there now position c.requires.within in
    let e = found.0 in
    let at = found.1 in
    let downs : reverse (positions_of c.in_ok-out.out) ≡ downs_of front 0 e = ap reverse (c.in_ok-out.ensures.out e at) in
    let ups : positions_of c.in_ok-out.into ≡ ups_of front 0 e = c.in_ok-out.ensures.into e at in
    let may = downs_may now cut position e c.args.state.now c.count-count.ensures.admitted c.count-count.ensures.sound at reached (reverse (positions_of c.in_ok-out.out)) downs in (
      base_at now cut,
      walked_from front cut,
      after_retreats (prepared_since front cut) (reverse (positions_of c.in_ok-out.out)),
      c.in_ok-retreat_all.ensures.ok (base_at now cut) (walked_from front cut) (prepared_since front cut) reached.stands may,
      ups_may now cut position e c.args.state.now c.count-count.ensures.admitted c.count-count.ensures.sound at reached (reverse (positions_of c.in_ok-out.out)) (positions_of c.in_ok-out.into) downs ups,
    )

pub returns-in_err-out-clause-most : goal.returns-in_err-out-clause-most
returns-in_err-out-clause-most g c = λ from some.
    let now = c.args.graph.now in
    let position = c.args.position in
    let found = element_there now position c.requires.within in
    let e = found.0 in
    let at = found.1 in
    omega (arith, cost now position from e c.count-count.ensures.admitted at some)

pub returns-in_err-retreat_all-clause-most : goal.returns-in_err-retreat_all-clause-most
returns-in_err-retreat_all-clause-most g c = λ from some.
    let now = c.args.graph.now in
    let position = c.args.position in
    let front = take position now in
    let found = element_there now position c.requires.within in
    let e = found.0 in
    let at = found.1 in
    let downs : reverse (positions_of c.in_ok-out.out) ≡ downs_of front 0 e = ap reverse (c.in_ok-out.ensures.out e at) in
    omega (arith, cost now position from e c.count-count.ensures.admitted at some, ap (length {A = ℕ}) downs, length-reverse (positions_of c.in_ok-out.out), c.retreat_all.ensures.most)

pub returns-in_err-advance_all-clause-most : goal.returns-in_err-advance_all-clause-most
returns-in_err-advance_all-clause-most g c = λ from some.
    let now = c.args.graph.now in
    let position = c.args.position in
    let front = take position now in
    let found = element_there now position c.requires.within in
    let e = found.0 in
    let at = found.1 in
    let downs : reverse (positions_of c.in_ok-out.out) ≡ downs_of front 0 e = ap reverse (c.in_ok-out.ensures.out e at) in
    let ups : positions_of c.in_ok-out.into ≡ ups_of front 0 e = c.in_ok-out.ensures.into e at in
    omega (arith, cost now position from e c.count-count.ensures.admitted at some, ap (length {A = ℕ}) downs, length-reverse (positions_of c.in_ok-out.out), ap (length {A = ℕ}) ups, c.in_ok-retreat_all.ensures.steps, c.advance_all.ensures.most)

pub returns-clause-most : goal.returns-clause-most
returns-clause-most g c = λ from some.
    let now = c.args.graph.now in
    let position = c.args.position in
    let front = take position now in
    let found = element_there now position c.requires.within in
    let e = found.0 in
    let at = found.1 in
    let downs : reverse (positions_of c.in_ok-out.out) ≡ downs_of front 0 e = ap reverse (c.in_ok-out.ensures.out e at) in
    let ups : positions_of c.in_ok-out.into ≡ ups_of front 0 e = c.in_ok-out.ensures.into e at in
    omega (arith, cost now position from e c.count-count.ensures.admitted at some, ap (length {A = ℕ}) downs, length-reverse (positions_of c.in_ok-out.out), ap (length {A = ℕ}) ups, c.in_ok-retreat_all.ensures.steps, c.in_ok-advance_all.ensures.steps)

pub returns-clause-steps : goal.returns-clause-steps
returns-clause-steps g c = λ from some.
    let now = c.args.graph.now in
    let position = c.args.position in
    let front = take position now in
    let found = element_there now position c.requires.within in
    let e = found.0 in
    let at = found.1 in
    let downs : reverse (positions_of c.in_ok-out.out) ≡ downs_of front 0 e = ap reverse (c.in_ok-out.ensures.out e at) in
    let ups : positions_of c.in_ok-out.into ≡ ups_of front 0 e = c.in_ok-out.ensures.into e at in
    omega (arith, cost now position from e c.count-count.ensures.admitted at some, ap (length {A = ℕ}) downs, length-reverse (positions_of c.in_ok-out.out), ap (length {A = ℕ}) ups, c.in_ok-retreat_all.ensures.steps, c.in_ok-advance_all.ensures.steps)

pub returns-clause-moved : goal.returns-clause-moved
returns-clause-moved g c = λ cut e reached at.
    let now = c.args.graph.now in
    let position = c.args.position in
    let front = take position now in
    let downs : reverse (positions_of c.in_ok-out.out) ≡ downs_of front 0 e = ap reverse (c.in_ok-out.ensures.out e at) in
    let ups : positions_of c.in_ok-out.into ≡ ups_of front 0 e = c.in_ok-out.ensures.into e at in
    let b = base_at now cut in
    let events = walked_from front cut in
    let before = prepared_since front cut in
    let retreated = c.in_ok-retreat_all.ensures.ok b events before reached.stands (downs_may now cut position e c.args.state.now c.count-count.ensures.admitted c.count-count.ensures.sound at reached (reverse (positions_of c.in_ok-out.out)) downs) in
    let advanced = c.in_ok-advance_all.ensures.ok b events (after_retreats before (reverse (positions_of c.in_ok-out.out))) retreated (ups_may now cut position e c.args.state.now c.count-count.ensures.admitted c.count-count.ensures.sound at reached (reverse (positions_of c.in_ok-out.out)) (positions_of c.in_ok-out.into) downs ups) in
    moves_arrive now cut position e c.args.state.now c.count-count.ensures.admitted c.count-count.ensures.sound at reached (reverse (positions_of c.in_ok-out.out)) (positions_of c.in_ok-out.into) c.advance_all.new.state downs ups advanced
