-- What is kept of the front of a history.
use Rattle.std.proofs.Common.{◌≡◌, ℕ, zero, suc, List, [], ◌∷◌, ◌++◌, take, drop, length, sym, ap, ◌∙◌, subst, append-nil, append_assoc}
use Rattle.std.specs.List.{AllByRecursion}
use Rattle.std.proofs.Math.Seq.{take-append_seam}
use Rattle.std.proofs.lemmas.List.{length-map, take-map, take-append-drop}
use Rattle.ew_model.specs.declared.event.Event.{Event}
use Rattle.ew_model.specs.declared.id.Id.{Id}
use Rattle.ew_model.specs.Ancestors.{ids_of}
use Rattle.ew_model.specs.Positions.{frontier_of, positions_in, parent_positions}
use Rattle.ew_model.specs.Sound.{IsSound, AreSound}
use Rattle.critical.specs.KeptCuts.{KeptCuts, kept_for}
use Rattle.event_runs.specs.BareEvents.{BareEvent, bare, parents_in}
use Rattle.event_graph.specs.Keeping.{AreAdmittedAfter, IsAdmitted, bare_events, IsKeptOf}
use Rattle.event_graph.specs.Tails.{Standing, hold_of}
use Rattle.event_graph.proofs.Admitted.{laid}
use Rattle.event_graph.proofs.Grown.{bare_grown, parents_kept}

-- what holds of all holds of the first
pub all_first : {X : Type 0} (P : X → Type 0) (n : ℕ) (xs : List X) → AllByRecursion P xs → AllByRecursion P (take n xs)
all_first P zero xs h = tt
all_first P (suc n) [] h = tt
all_first P (suc n) (x ∷ xs) h = (h.0, all_first P n xs h.1)

pub front_after : (before front later : List Event) → AreAdmittedAfter before (front ++ later) → AreAdmittedAfter before front
front_after before [] later h = tt
front_after before (e ∷ front) later h = (h.0, front_after (before ++ e ∷ []) front later h.1)

-- later events add to the events without their ids, and change none
pub bare_more : (front later : List Event) → IsAdmitted (front ++ later) → (rest : List BareEvent) × (bare_events (front ++ later) ≡ bare_events front ++ rest)
bare_more front [] h = ([], ap bare_events (append-nil front) ∙ sym (append-nil (bare_events front)))
bare_more front (e ∷ later) h =
    let b : BareEvent = bare e.op (positions_in front e.parents) in
    let shifted : (front ++ e ∷ []) ++ later ≡ front ++ e ∷ later = append_assoc front (e ∷ []) later in
    let whole : IsAdmitted ((front ++ e ∷ []) ++ later) = subst IsAdmitted (sym shifted) h in
    let more = bare_more (front ++ e ∷ []) later whole in (
      b ∷ more.0,
      ap bare_events (sym shifted) ∙ more.1 ∙ ap (λ bs. bs ++ more.0) (bare_grown front e (laid (front ++ e ∷ []) (front_after [] (front ++ e ∷ []) later whole)))
          ∙ append_assoc (bare_events front) (b ∷ []) more.0,
    )

bare_front : (front later : List Event) → IsAdmitted (front ++ later) → take (length front) (bare_events (front ++ later)) ≡ bare_events front
bare_front front later h =
    let more = bare_more front later h in
    (λ i. take (sym (length-map front (λ (e : Event). bare e.op (positions_in front e.parents))) i) (more.1 i)) ∙ take-append_seam (bare_events front) more.0

module _ (now : List Event) (n : ℕ) (admitted : IsAdmitted now) (reach : n ≡ length (take n now)) where
  abbrev front : List Event
  front = take n now

  whole : front ++ drop n now ≡ now
  whole = take-append-drop n now

  pub front_admitted : IsAdmitted front
  front_admitted = front_after [] front (drop n now) (subst IsAdmitted (sym whole) admitted)

  front_bare : take n (bare_events now) ≡ bare_events front
  front_bare = (λ i. take (reach i) (bare_events (sym whole i))) ∙ bare_front front (drop n now) (subst IsAdmitted (sym whole) admitted)

  -- the parents' positions of the first n events
  pub front_positions : parent_positions front ≡ take n (parent_positions now)
  front_positions = sym (parents_kept front) ∙ ap parents_in (sym front_bare) ∙ sym (take-map (λ (b : BareEvent). b.parents) n (bare_events now)) ∙ ap (take n) (parents_kept now)

  -- what is kept of them
  pub front_kept : AreSound now → (ids : List Id) (events : List BareEvent) (heads : List ℕ) (cuts : KeptCuts) → ids ≡ ids_of now → events ≡ bare_events now → heads ≡ frontier_of (parent_positions front) → cuts ≡ kept_for (parent_positions front)
      → IsKeptOf front (take n ids) (take n events) heads cuts
  front_kept sound ids events heads cuts ids_are events_are heads_are cuts_are = record {
    admitted = front_admitted;
    sound = all_first IsSound n now sound;
    ids_are = ap (take n) ids_are ∙ take-map (λ (e : Event). e.id) n now;
    events_are = ap (take n) events_are ∙ front_bare;
    heads_are = heads_are;
    cuts_are = cuts_are;
  }

-- what is kept of the events that were held on to
pub kept_front : (now : List Event) (ids : List Id) (events : List BareEvent) (heads : List ℕ) (cuts : KeptCuts) (tail : Standing) → IsKeptOf now ids events heads cuts → tail ≡ hold_of (take tail.count now)
    → IsKeptOf (take tail.count now) (take tail.count ids) (take tail.count events) tail.heads tail.cuts
kept_front now ids events heads cuts tail kept held_on =
    front_kept now tail.count kept.admitted (ap (λ (t : Standing). t.count) held_on) kept.sound ids events tail.heads tail.cuts kept.ids_are kept.events_are (ap (λ (t : Standing). t.heads) held_on) (ap (λ (t : Standing). t.cuts) held_on)

-- the parts of a graph that came back
pub cut_back : (now : List Event) (ids : List Id) (events : List BareEvent) (heads : List ℕ) (cuts : KeptCuts) (tail inside : Standing) (new_ids : List Id) (new_events : List BareEvent) → IsKeptOf now ids events heads cuts → inside ≡ tail
    → tail ≡ hold_of (take tail.count now) → new_ids ≡ take inside.count ids → new_events ≡ take inside.count events → IsKeptOf (take tail.count now) new_ids new_events inside.heads inside.cuts
cut_back now ids events heads cuts tail inside new_ids new_events kept same held_on is are =
    let front = kept_front now ids events heads cuts inside kept (subst (λ (t : Standing). t ≡ hold_of (take t.count now)) (sym same) held_on) in
    subst (λ (n : ℕ). IsKeptOf (take n now) new_ids new_events inside.heads inside.cuts) (ap (λ (t : Standing). t.count) same)
    (subst (λ (xs : List Id). IsKeptOf (take inside.count now) xs new_events inside.heads inside.cuts) (sym is)
    (subst (λ (es : List BareEvent). IsKeptOf (take inside.count now) (take inside.count ids) es inside.heads inside.cuts) (sym are) front))
