-- Walks that forget nothing: how they begin and go on, and what they stand for where events are appended.
use Rattle.std.proofs.Common.{◌≡◌, ℕ, ◌+◌, ◌<◌, ◌≤◌, nat_lt, Bool, true, false, List, [], ◌++◌, length, take, drop, Some, refl, sym, ap, ◌∙◌, subst, arith}
use Rattle.std.proofs.lemmas.Bool.{ltb-true, ltb-false}
use Rattle.std.proofs.lemmas.List.{drop_all, length-take-le, take-append-le, take_all, length-append}
use Rattle.ew_model.specs.declared.event.Event.{Event}
use Rattle.ew_model.specs.Cuts.{is_critical}
use Rattle.ew_model.specs.TouchLaws.{prepared_from}
use Rattle.ew_model.specs.Touches.{touches}
use Rattle.ew_model.specs.Verdicts.{IsGood}
use Rattle.ew_model.specs.Walks.{base_at, positions_among, walked_after, walked_from}
use Rattle.ew_model.proofs.CutSteps.{end_critical}
use Rattle.ew_model.proofs.ListParts.{element_there}
use Rattle.advance_retreat.specs.Kept.{Kept}
use Rattle.advance_retreat.specs.Standing.{StandsFor}
use Rattle.event_graph.specs.Keeping.{IsAdmitted}
use Rattle.transform.specs.declared.kept.KeptWalk.{KeptWalk}
use Rattle.transform.specs.Keeping.{CountsFrom, IsFresh, IsWalkOf}
use Rattle.transform.specs.Reaching.{GoesFrom, IsReadyAt, Reached, StandsAt, prepared_since}
use Rattle.transform.proofs.CutFronts.{critical_within, same_base, take_front}
use Rattle.transform.proofs.Lines.{fresh}
use Rattle.transform.proofs.Loops.{starts, steps_in_line}

-- THE BEGINNING
-- where no event was walked, the state is that of the text below the cut
none_walked : (history : List Event) (cut : ℕ) (state : Kept) → cut ≤ length history → StandsAt history cut cut (prepared_since (take cut history) cut) state → StandsFor state (base_at history cut) [] []
none_walked history cut state within stands =
    let front = take cut history in
    let none : drop cut front ≡ [] = drop_all cut front (omega (arith, length-take-le cut history within)) in
    subst (λ (es : List Event). StandsFor state (base_at history cut) (walked_after cut (take cut front) [] es) (positions_among (prepared_from front 0) cut es)) none stands

walks_none : (history : List Event) (cut : ℕ) (state : Kept) → cut ≤ length history → StandsFor state (base_at history cut) [] [] → StandsAt history cut cut (prepared_since (take cut history) cut) state
walks_none history cut state within stands =
    let front = take cut history in
    let none : drop cut front ≡ [] = drop_all cut front (omega (arith, length-take-le cut history within)) in
    subst (λ (es : List Event). StandsFor state (base_at history cut) (walked_after cut (take cut front) [] es) (positions_among (prepared_from front 0) cut es)) (sym none) stands

-- the first event is ready
pub first_ready : (history : List Event) (cut n : ℕ) (state : Kept) → n ≡ cut → n < length history → GoesFrom history cut n state → IsReadyAt history cut n state
first_ready history cut n state is within goes =
    let now : GoesFrom history cut cut state = subst (λ k. GoesFrom history cut k state) is goes in
    let low : cut ≤ length history = omega (arith, is, within) in
    subst (λ k. IsReadyAt history cut k state) (sym is) (fresh history cut (base_at history cut) state low now.behind refl (none_walked history cut state low now.stands))

-- and it is touched once
pub first_touched : (history : List Event) (cut n : ℕ) (state : Kept) → n ≡ cut → IsAdmitted history → n < length history → GoesFrom history cut n state → touches (take (n + 1) history) cut ≡ touches (take n history) cut + 1
first_touched history cut n state is admitted within goes =
    let now : GoesFrom history cut cut state = subst (λ k. GoesFrom history cut k state) is goes in
    let low : cut < length history = omega (arith, is, within) in
    let found = element_there history cut low in
    let begun = starts history cut (base_at history cut) state (omega (arith, low)) now.behind.critical now.behind.good (none_walked history cut state (omega (arith, low)) now.stands) refl in
    subst (λ k. touches (take (k + 1) history) cut ≡ touches (take k history) cut + 1) (sym is)
    (steps_in_line history cut cut (Some (base_at history cut)) found.0 state admitted found.1 refl (omega arith) begun)

-- before a later one the state reached it
pub later_reached : (history : List Event) (cut n : ℕ) (state : Kept) → cut < n → GoesFrom history cut n state → Reached history cut n state
later_reached history cut n state some goes = record { some = some; behind = goes.behind; stands = goes.stands }

pub reached_goes : (history : List Event) (cut n : ℕ) (state : Kept) → Reached history cut n state → GoesFrom history cut n state
reached_goes history cut n state reached = record { behind = reached.behind; stands = reached.stands }

-- COUNTING
pub counts_low : (cut n from : ℕ) → cut ≤ n → CountsFrom cut n from → from ≤ n
counts_low cut n from low counts = at (nat_lt cut n) refl
  where
    at : (b : Bool) → nat_lt cut n ≡ b → from ≤ n
    at true q = omega (arith, counts.goes_on (ltb-true cut n q))
    at false q = let high = ltb-false cut n q in let same : n ≡ cut = omega (arith, low, high) in omega (arith, counts.begins same, same)

pub counts_on : (cut n next from : ℕ) → cut ≤ n → n ≤ next → CountsFrom cut n from → CountsFrom cut next from
counts_on cut n next from low further counts = record {
  begins = λ same. counts.begins (omega (arith, same, low, further));
  goes_on = λ some. at (nat_lt cut n) refl some;
}
  where
    at : (b : Bool) → nat_lt cut n ≡ b → cut < next → from < next
    at true q some = omega (arith, counts.goes_on (ltb-true cut n q), further)
    at false q some = let high = ltb-false cut n q in omega (arith, counts.begins (omega (arith, low, high)), some)

-- WHAT IS KEPT
-- a kept walk goes on in the history, where its cut is critical still
pub walk_goes : (history : List Event) (walk : KeptWalk) → IsWalkOf history walk → is_critical history walk.cut ≡ true → GoesFrom history walk.cut walk.reached walk.state
walk_goes history walk is critical =
    let m = walk.reached in
    let cut = walk.cut in
    let front = take m history in
    let same : take m front ≡ front = take_front m m history (omega arith) in
    let low = is.stands.behind.low in
    record {
      behind = record { low = low; critical = critical; good = subst IsGood same is.stands.behind.good };
      stands = subst (λ b. StandsFor walk.state b (walked_from front cut) (prepared_since front cut)) (same_base history cut m low)
          (subst (λ (es : List Event). StandsFor walk.state (base_at front cut) (walked_from es cut) (prepared_since es cut)) same is.stands.stands);
    }

-- a walk over all events of a history is kept of it
pub walk_kept : (history : List Event) (walk : KeptWalk) → walk.reached ≡ length history → GoesFrom history walk.cut (length history) walk.state → IsWalkOf history walk
walk_kept history walk all goes = record {
  within = omega (arith, all);
  stands =
      subst (λ (es : List Event). GoesFrom es walk.cut walk.reached walk.state) (sym (take_all walk.reached history (omega (arith, all))))
      (subst (λ n. GoesFrom history walk.cut n walk.state) (sym all) goes);
}

-- it stays one where events are appended
pub walk_stays : (history more : List Event) (walk : KeptWalk) → IsWalkOf history walk → IsWalkOf (history ++ more) walk
walk_stays history more walk is = record {
  within = omega (arith, is.within, length-append history more);
  stands = subst (λ (es : List Event). GoesFrom es walk.cut walk.reached walk.state) (sym (take-append-le walk.reached history more is.within)) is.stands;
}

-- a fresh walk from a critical cut is one of the history
pub walk_begins : (history : List Event) (cut len : ℕ) (walk : KeptWalk) → is_critical history cut ≡ true → IsGood (take cut history) → len ≡ base_at history cut → IsFresh cut len walk → IsWalkOf history walk
walk_begins history cut len walk critical good is fresh =
    let front = take cut history in
    let within = critical_within history cut critical in
    let long : length front ≡ cut = length-take-le cut history within in
    let all : take cut front ≡ front = take_front cut cut history (omega arith) in
    let goes : GoesFrom front cut cut walk.state = record {
      behind = record { low = omega arith; critical = ap (is_critical front) (sym long) ∙ end_critical front; good = subst IsGood (sym all) good };
      stands = walks_none front cut walk.state (omega (arith, long)) (subst (λ b. StandsFor walk.state b [] []) (is ∙ sym (same_base history cut cut (omega arith))) fresh.base);
    } in
    record {
      within = omega (arith, fresh.none, within);
      stands = subst (λ n. GoesFrom (take n history) walk.cut n walk.state) (sym fresh.none) (subst (λ c. GoesFrom front c cut walk.state) (sym fresh.cut_is) goes);
    }
