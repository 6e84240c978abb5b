-- The moves of a turn.
use Rattle.std.proofs.Common.{◌≡◌, ℕ, ◌+◌, ◌<◌, ◌≤◌, true, List, [], ◌∷◌, length, reverse, take, drop, Some, sym, ap, ◌∙◌, subst, arith}
use Rattle.std.specs.Prelude.{slice_get}
use Rattle.std.proofs.lemmas.List.{length-drop, length-reverse}
use Rattle.std.proofs.lemmas.Option.{slice_get_within}
use Rattle.ew_model.specs.declared.event.Event.{Event}
use Rattle.ew_model.specs.Sets.{Among}
use Rattle.ew_model.specs.Ids.{is_among}
use Rattle.ew_model.specs.Ancestors.{ancestors}
use Rattle.ew_model.specs.Tree.{Applied}
use Rattle.ew_model.specs.Moves.{Rising, Moves, after_retreats, after_advances}
use Rattle.ew_model.specs.Records.{holds}
use Rattle.ew_model.specs.Sound.{IsSound, AreSound}
use Rattle.ew_model.specs.Touches.{touches}
use Rattle.ew_model.specs.TouchLaws.{prepared_from}
use Rattle.ew_model.specs.Walks.{walked_from}
use Rattle.ew_model.proofs.PositionNumbers.{positions_rising}
use Rattle.ew_model.proofs.RisingLists.{Rise}
use Rattle.ew_model.proofs.WalkRuns.{walks_are_runs}
use Rattle.advance_retreat.specs.Kept.{Kept}
use Rattle.advance_retreat.specs.Standing.{is_applied}
use Rattle.event_graph.specs.Keeping.{IsAdmitted}
use Rattle.event_graph.proofs.Tails.{all_first}
use Rattle.advance_retreat.specs.Conditions.{MayRetreatEach, MayAdvanceEach}
use Rattle.transform.specs.Moving.{alone}
use Rattle.transform.specs.Reaching.{Reached, StandsAt, prepared_since, over_since}
use Rattle.transform.proofs.AtPlaces.{knows_at, laid_front, prepared_below}
use Rattle.transform.proofs.Counting.{turn_touches}
use Rattle.transform.proofs.CutFronts.{take_front}
use Rattle.transform.proofs.Differences.{moves_between, none_alone, retreats_may, advances_may}
use Rattle.transform.proofs.Sides.{length_front, take_next}
use Rattle.transform.proofs.Sinces.{alone_since, position_between}
use Rattle.transform.proofs.Standings.{stands_alike}
use Rattle.transform.proofs.WalkedEvents.{named_from}

rising_of : (xs : List ℕ) → Rise xs → Rising xs
rising_of [] h = tt
rising_of (x ∷ xs) h = (h.0, rising_of xs h.1)

-- what is taken out, and what is put in
abbrev pub downs_of : List Event → ℕ → Event → List ℕ
downs_of front cut e = reverse (alone (prepared_since front cut) (over_since front cut e))

abbrev pub ups_of : List Event → ℕ → Event → List ℕ
ups_of front cut e = alone (over_since front cut e) (prepared_since front cut)

no_downs : (front : List Event) (e : Event) → over_since front 0 e ≡ prepared_since front 0 → downs_of front 0 e ≡ []
no_downs front e same = ap (λ (ps : List ℕ). reverse (alone (prepared_since front 0) ps)) same ∙ ap reverse (none_alone (prepared_since front 0))

no_ups : (front : List Event) (e : Event) → over_since front 0 e ≡ prepared_since front 0 → ups_of front 0 e ≡ []
no_ups front e same = ap (λ (ps : List ℕ). alone ps (prepared_since front 0)) same ∙ none_alone (prepared_since front 0)

module _ (history : List Event) (cut n : ℕ) (e : Event) (state : Kept) (admitted : IsAdmitted history) (sound : AreSound history) (at : slice_get history n ≡ Some e) (reached : Reached history cut n state) where
  abbrev pub front : List Event
  front = take n history

  abbrev pub events : List (Applied ℕ)
  events = walked_from front cut

  abbrev pub before : List ℕ
  before = prepared_since front cut

  abbrev pub over : List ℕ
  over = over_since front cut e

  long : length front ≡ n
  long = length_front history n e at

  low : cut ≤ length front
  low = omega (arith, long, reached.behind.low)

  moves : Moves events before over (downs_of front cut e) (ups_of front cut e)
  moves =
      let walkable = walks_are_runs front cut reached.behind.good (all_first IsSound n history sound) in
      moves_between events before over walkable.back reached.stands.closed (walkable.versions e.parents)
      (rising_of before (positions_rising (prepared_from front 0) cut (drop cut front)))
      (rising_of over (positions_rising (ancestors front e.parents) cut (drop cut front)))

  may_retreat : MayRetreatEach events before (downs_of front cut e)
  may_retreat = retreats_may events before over (ups_of front cut e) reached.stands.part moves

  over_applied : (m : ℕ) → holds over m ≡ true → is_applied events m
  over_applied m h =
      let between = position_between (ancestors front e.parents) cut (drop cut front) m h in
      named_from front cut m low between.0 (omega (arith, between.1, low, length-drop cut front))

  may_advance : MayAdvanceEach events (after_retreats before (downs_of front cut e)) (ups_of front cut e)
  may_advance = advances_may events before over (downs_of front cut e) over_applied moves

  -- after the moves what the event was made over is prepared
  arrived : (later : Kept) → StandsAt history cut n (after_advances (after_retreats before (downs_of front cut e)) (ups_of front cut e)) later → StandsAt history cut n over later
  arrived later stands = stands_alike later _ events (after_advances (after_retreats before (downs_of front cut e)) (ups_of front cut e)) over moves.arrived stands

  -- the moves are those behind the cut
  below : (f : Event) → Among f (take cut front) → Among f (take cut history)
  below f m = subst (Among f) (take_front cut n history reached.behind.low) m

  prepared_all : (f : Event) → Among f (take cut front) → is_among (prepared_from front 0) f.id ≡ true
  prepared_all f m = prepared_below history admitted n cut (omega (arith, slice_get_within history n e at)) reached.some reached.behind.critical f (below f m)

  over_all : (f : Event) → Among f (take cut front) → is_among (ancestors front e.parents) f.id ≡ true
  over_all f m = knows_at history admitted n e at cut reached.behind.low reached.behind.critical f (below f m)

  downs_are : downs_of front 0 e ≡ downs_of front cut e
  downs_are = ap reverse (alone_since (prepared_from front 0) (ancestors front e.parents) front cut low (λ f m. (prepared_all f m, over_all f m)))

  ups_are : ups_of front 0 e ≡ ups_of front cut e
  ups_are = alone_since (ancestors front e.parents) (prepared_from front 0) front cut low (λ f m. (over_all f m, prepared_all f m))

  -- the moves, as the spans give them
  pub downs_may : (downs : List ℕ) → downs ≡ downs_of front 0 e → MayRetreatEach events before downs
  downs_may downs is = subst (MayRetreatEach events before) (sym (is ∙ downs_are)) may_retreat

  pub ups_may : (downs ups : List ℕ) → downs ≡ downs_of front 0 e → ups ≡ ups_of front 0 e → MayAdvanceEach events (after_retreats before downs) ups
  ups_may downs ups is are =
      subst (λ (ps : List ℕ). MayAdvanceEach events (after_retreats before ps) ups) (sym (is ∙ downs_are))
      (subst (MayAdvanceEach events (after_retreats before (downs_of front cut e))) (sym (are ∙ ups_are)) may_advance)

  pub moves_arrive : (downs ups : List ℕ) (later : Kept) → downs ≡ downs_of front 0 e → ups ≡ ups_of front 0 e → StandsAt history cut n (after_advances (after_retreats before downs) ups) later → StandsAt history cut n over later
  moves_arrive downs ups later is are stands =
      arrived later (subst (λ (ps : List ℕ). StandsAt history cut n (after_advances (after_retreats before ps) (ups_of front cut e)) later) (is ∙ downs_are)
      (subst (λ (qs : List ℕ). StandsAt history cut n (after_advances (after_retreats before downs) qs) later) (are ∙ ups_are) stands))

  -- nothing is moved where the event was made over what is prepared
  pub arrived_already : over_since front 0 e ≡ prepared_since front 0 → StandsAt history cut n over state
  arrived_already same = moves_arrive [] [] state (sym (no_downs front e same)) (sym (no_ups front e same)) reached.stands

-- what the moves and the apply cost
pub cost : (history : List Event) (n from : ℕ) (e : Event) → IsAdmitted history → slice_get history n ≡ Some e → from < n
    → touches (take (n + 1) history) from ≡ touches (take n history) from + (length (downs_of (take n history) 0 e) + length (ups_of (take n history) 0 e) + 1)
cost history n from e admitted at some =
    let front = take n history in
    let whole = ap (λ (es : List Event). touches es from) (take_next history n e at) in
    let turn = turn_touches front from e (laid_front history admitted n) (omega (arith, some, length_front history n e at)) in
    let long = length-reverse (alone (prepared_since front 0) (over_since front 0 e)) in
    omega (arith, whole, turn, long)

-- the apply alone, where nothing is moved
pub cost_unmoved : (history : List Event) (n from : ℕ) (e : Event) → IsAdmitted history → slice_get history n ≡ Some e → from < n
    → over_since (take n history) 0 e ≡ prepared_since (take n history) 0 → touches (take n history) from + 1 ≡ touches (take (n + 1) history) from
cost_unmoved history n from e admitted at some same =
    let whole = cost history n from e admitted at some in
    let downs = ap (length {A = ℕ}) (no_downs (take n history) e same) in
    let ups = ap (length {A = ℕ}) (no_ups (take n history) e same) in
    omega (arith, whole, downs, ups)
