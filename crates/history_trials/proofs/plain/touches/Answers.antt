use Rattle.std.proofs.Common.{◌≡◌, ℕ, ◌+◌, ◌≤◌, [], ◌∷◌, List, take, drop, length, sym, ap, ◌∙◌, arith}
use Rattle.std.proofs.lemmas.List.{drop_all, length-take, length-map}
use Rattle.ew_model.specs.declared.id.Id.{Id}
use Rattle.ew_model.specs.declared.event.Event.{Event}
use Rattle.ew_model.specs.Ancestors.{ancestors}
use Rattle.ew_model.specs.Touches.{difference, touches_after, touches}
use Rattle.history_trials.proofs.Touching.{length-ancestors-le, square_fits, touches_turn, touches-min}
use Rattle.history_trials.proofs.plain.touches.Goals as goal
use Rattle.history_trials.proofs.plain.touches.Goals.{After-difference}

pub difference-requires-clause-ys : goal.difference-requires-clause-ys
difference-requires-clause-ys c =
    omega (arith, length-ancestors-le (take c.loop-i.i c.args.history.now) c.as_slice.result.now, ap length c.in_ok-known.ensures, length-take c.loop-i.i c.args.history.now)

-- of both sides together there are no more than twice the events before
difference_small : (c : After-difference) → c.difference.result ≤ c.loop-i.i + c.loop-i.i
difference_small c =
    omega (arith, length-ancestors-le (take c.loop-i.i c.args.history.now) c.as_slice.result.now, ap length c.in_ok-known.ensures, length-take c.loop-i.i c.args.history.now)

pub overflow_add-touches : goal.overflow_add-touches
overflow_add-touches c = omega (arith, difference_small c)

pub overflow_add-touches-in-loop-i : goal.overflow_add-touches-in-loop-i
overflow_add-touches-in-loop-i c = omega (arith, difference_small c, square_fits (c.loop-i.i + 1) (omega arith))

pub loop-i-preserved : goal.loop-i-preserved
loop-i-preserved c =
    let history = c.args.history.now in
    let i = c.loop-i.i in
    let e = c.index-history-i.result in
    let next = take (i + 1) history in
    let later = drop (i + 1) history in
    let small = difference_small (goal.at.loop-i-preserved c).After-difference in
    let known : c.as_slice-in-loop-i-2.result.now ≡ ancestors (take i history) e.parents =
    c.as_slice-in-loop-i-2.ensures.value ∙ c.in_ok-known.ensures ∙ ap (λ (ids : List Id). ancestors (take i history) ids) c.as_slice.ensures in
    let found : difference c.loop-i.prepared.items (ancestors (take i history) e.parents) ≡ c.difference.result =
    sym (c.difference.ensures.value ∙ (λ k. difference (c.as_slice-in-loop-i.ensures.value k) (known k))) in
    let prepared : ancestors next (e.id ∷ []) ≡ c.in_ok-prepared-2.prepared.items = sym c.in_ok-prepared-2.ensures in
    record {
      rest = c.loop-i.invariant.rest ∙ ap (λ n. c.loop-i.touches + n) (touches_turn history i c.loop-i.prepared.items e c.loop-i-test.true c.index-history-i.is)
          ∙ (λ k. c.loop-i.touches + (1 + found k + touches_after next (prepared k) later))
          ∙ regrouped c.loop-i.touches c.difference.result (touches_after next c.in_ok-prepared-2.prepared.items later);
      few = omega (arith, length-ancestors-le next (e.id ∷ []), ap length c.in_ok-prepared-2.ensures, length-take (i + 1) history);
      small = omega (arith, small, c.loop-i.invariant.small);
    }
  where
    regrouped : (a b d : ℕ) → a + (1 + b + d) ≡ a + (1 + b) + d
    regrouped a b d = omega arith

pub loop-i-init : goal.loop-i-init
unfolding touches
loop-i-init c =
    let history = c.args.history.now in
    let cut = c.min-cut.result in
    record {
      rest = ap (λ (ids : List Id). touches_after (take cut history) ids (drop cut history)) (sym c.in_ok-prepared.ensures) ∙ omega arith;
      few = omega (arith, ap length c.in_ok-prepared.ensures, length-map (take cut history) (λ (f : Event). f.id), length-take cut history);
      small = omega arith;
    }

pub returns : goal.returns
returns c =
    let history = c.args.history.now in
    let i = c.loop-i.i in
    let none : touches_after (take i history) c.loop-i.prepared.items (drop i history) ≡ 0 =
    ap (touches_after (take i history) c.loop-i.prepared.items) (drop_all i history c.loop-i-test.false) in
    let total : touches history c.min-cut.result ≡ c.loop-i.touches = c.loop-i.invariant.rest ∙ omega (arith, none) in
    sym total ∙ ap (touches history) c.min-cut.ensures ∙ touches-min history c.args.cut
