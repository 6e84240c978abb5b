-- What is kept where a graph goes back to a critical cut.
use Rattle.std.proofs.Common.{◌≡◌, ℕ, ◌<◌, ◌≤◌, true, List, [], ◌∷◌, ◌++◌, take, length, Some, refl, sym, ap, ◌∙◌, subst, arith, append_assoc}
use Rattle.std.specs.Prelude.{slice_get}
use Rattle.std.proofs.Math.Seq.{get_or-append_seam, take-append_seam}
use Rattle.std.proofs.lemmas.List.{length-map, length-take-le, map-append}
use Rattle.ew_model.specs.declared.id.Id.{Id}
use Rattle.ew_model.specs.declared.event.Event.{Event}
use Rattle.ew_model.specs.Cuts.{is_critical}
use Rattle.ew_model.specs.Positions.{IsHistoryOfParents, parents_at, frontier_of, is_reduced_at, is_cut_at, positions_in, parent_positions}
use Rattle.ew_model.specs.Verdicts.{graph_verdict}
use Rattle.ew_model.specs.Verdicts.Ruling.{Good}
use Rattle.ew_model.proofs.PositionCuts.{split_at}
use Rattle.critical.specs.KeptCuts.{KeptCuts, kept_for}
use Rattle.critical.proofs.FrontCuts.{parents_are_heads}
use Rattle.critical.proofs.InnerCuts.{cut_low}
use Rattle.event_runs.specs.BareEvents.{BareEvent, bare, parents_in}
use Rattle.event_graph.specs.Keeping.{IsAdmitted, bare_events, IsKeptOf}
use Rattle.event_graph.proofs.Admitted.{admitted_at, agrees, laid, let_in}
use Rattle.event_graph.proofs.Grown.{bare_grown, parents_kept}
use Rattle.event_graph.proofs.Tails.{bare_more, front_after, front_positions, front_kept}

event_there : (front : List Event) (e : Event) (later : List Event) → slice_get (front ++ e ∷ later) (length front) ≡ Some e
event_there [] e later = refl
event_there (f ∷ front) e later = event_there front e later

-- the parents' positions of an event are those that it came with
came_with : (front : List Event) (e : Event) (later : List Event) → IsAdmitted (front ++ e ∷ later) → parents_at (parent_positions (front ++ e ∷ later)) (length front) ≡ positions_in front e.parents
came_with front e later h =
    let shifted : (front ++ e ∷ []) ++ later ≡ front ++ e ∷ later = append_assoc front (e ∷ []) later in
    let whole : IsAdmitted ((front ++ e ∷ []) ++ later) = subst IsAdmitted (sym shifted) h in
    let first = front_after [] (front ++ e ∷ []) later whole in
    let b : BareEvent = bare e.op (positions_in front e.parents) in
    let more = bare_more (front ++ e ∷ []) later whole in
    let all : bare_events (front ++ e ∷ later) ≡ bare_events front ++ b ∷ more.0 =
    ap bare_events (sym shifted) ∙ more.1 ∙ ap (λ bs. bs ++ more.0) (bare_grown front e (laid (front ++ e ∷ []) first)) ∙ append_assoc (bare_events front) (b ∷ []) more.0 in
    let positions : parent_positions (front ++ e ∷ later) ≡ parents_in (bare_events front) ++ positions_in front e.parents ∷ parents_in more.0 =
    sym (parents_kept (front ++ e ∷ later)) ∙ ap parents_in all ∙ map-append (λ (f : BareEvent). f.parents) (bare_events front) (b ∷ more.0) in
    let long : length front ≡ length (parents_in (bare_events front)) = sym (length-map (bare_events front) (λ (f : BareEvent). f.parents) ∙ length-map front (λ (f : Event). bare f.op (positions_in front f.parents))) in
    (λ i. parents_at (positions i) (long i)) ∙ get_or-append_seam (parents_in (bare_events front)) (positions_in front e.parents) (parents_in more.0) []

-- and they are reduced
reduced_there : (now : List Event) (n : ℕ) → IsAdmitted now → n < length now → is_reduced_at (take n (parent_positions now)) (parents_at (parent_positions now) n) ≡ true
reduced_there now n admitted more =
    let s = split_at now n more in
    let front = s.0 in
    let e = s.1 in
    let there : IsAdmitted (front ++ e ∷ s.2) = subst IsAdmitted s.3 admitted in
    let first : take n now ≡ front = (λ i. take (sym s.4 i) (s.3 i)) ∙ take-append_seam front (e ∷ s.2) in
    let at : slice_get now n ≡ Some e = (λ i. slice_get (s.3 i) (sym s.4 i)) ∙ event_there front e s.2 in
    let good : graph_verdict front e ≡ Good = ap (λ (w : List Event). graph_verdict w e) (sym first) ∙ admitted_at now n e admitted at in
    let parents : parents_at (parent_positions now) n ≡ positions_in front e.parents = (λ i. parents_at (parent_positions (s.3 i)) (sym s.4 i)) ∙ came_with front e s.2 there in
    let reach : n ≡ length (take n now) = sym (length-take-le n now (omega (arith, more))) in
    let positions : take n (parent_positions now) ≡ parent_positions front = sym (front_positions now n admitted reach) ∙ ap parent_positions first in
    (λ i. is_reduced_at (positions i) (parents i))
    ∙ (agrees front (front_after [] front (e ∷ s.2) there)).reduced e.parents
    ∙ (let_in front e good).reduced

module _ (now : List Event) (cut : ℕ) (ids : List Id) (events : List BareEvent) (heads : List ℕ) (cuts : KeptCuts) (kept : IsKeptOf now ids events heads cuts) (critical : is_critical now cut ≡ true) where
  abbrev positions : List (List ℕ)
  positions = parent_positions now

  good : IsHistoryOfParents positions
  good = (agrees now kept.admitted).parents

  long : length positions ≡ length now
  long = length-map now (λ (e : Event). positions_in now e.parents)

  pub critical_at : is_cut_at positions cut ≡ true
  critical_at = (agrees now kept.admitted).cut cut ∙ critical

  pub cut_inside : cut ≤ length now
  cut_inside = let low = cut_low positions cut critical_at in omega (arith, low, long)

  -- THE PARTS of a graph that went back to the cut.
  pub gone_back : cut < length now → (new_ids : List Id) (new_events : List BareEvent) (new_heads : List ℕ) (new_cuts : KeptCuts) → new_ids ≡ take cut ids → new_events ≡ take cut events → new_heads ≡ parents_at positions cut → new_cuts ≡ kept_for (take cut positions)
      → IsKeptOf (take cut now) new_ids new_events new_heads new_cuts
  gone_back more new_ids new_events new_heads new_cuts ids_are events_are heads_are cuts_are =
      let reach : cut ≡ length (take cut now) = sym (length-take-le cut now cut_inside) in
      let front : parent_positions (take cut now) ≡ take cut positions = front_positions now cut kept.admitted reach in
      let low = cut_low positions cut critical_at in
      let above : parents_at positions cut ≡ frontier_of (take cut positions) = parents_are_heads positions cut good low critical_at (omega (arith, more, long)) (reduced_there now cut kept.admitted more) in
      subst (λ (xs : List Id). IsKeptOf (take cut now) xs new_events new_heads new_cuts) (sym ids_are)
      (subst (λ (es : List BareEvent). IsKeptOf (take cut now) (take cut ids) es new_heads new_cuts) (sym events_are)
      (front_kept now cut kept.admitted reach kept.sound ids events new_heads new_cuts kept.ids_are kept.events_are (heads_are ∙ above ∙ ap frontier_of (sym front)) (cuts_are ∙ ap kept_for (sym front))))
