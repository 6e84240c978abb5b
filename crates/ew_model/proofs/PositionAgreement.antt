-- A good history and its parents' positions tell the same.
use Rattle.std.proofs.Common.{◌≡◌, ℕ, suc, ◌+◌, ◌<◌, ◌≤◌, Bool, false, not, nat_eq, inl, inr, List, [], ◌∷◌, ◌++◌, map, filter, length, Some, refl, sym, ap, ◌∙◌, subst, arith, cond, zero}
use Rattle.std.specs.List.{AllByRecursion}
use Rattle.std.specs.Prelude.{slice_get}
use Rattle.std.proofs.lemmas.List.{length-map, map-append}
use Rattle.std.proofs.lemmas.List.Elements.{All-from_recursion}
use Rattle.ew_model.specs.declared.id.Id.{Id}
use Rattle.ew_model.specs.declared.event.Event.{Event}
use Rattle.ew_model.specs.Sets.{Among}
use Rattle.ew_model.specs.Ids.{id_eq, is_among}
use Rattle.ew_model.specs.Ancestors.{ancestors, heads}
use Rattle.ew_model.specs.Ancestors.{is_reduced}
use Rattle.ew_model.specs.Verdicts.{IsGoodAfter, IsGood}
use Rattle.ew_model.specs.Graph.{is_named, has_child, names_known, childless, none_below, is_cut, greatest_to, passing_to}
use Rattle.ew_model.specs.Cuts.{is_critical, cuts_of}
use Rattle.ew_model.specs.Positions.{AreParents, IsHistoryOfParents, EventAt, events_from, known_positions, is_known_at, frontier_of, is_reduced_at, is_cut_at, cuts_at, positions_in, parent_positions}
use Rattle.ew_model.specs.PositionLaws.{PositionsAgree, PositionsGrow}
use Rattle.ew_model.proofs.ListTests.{filter_alike, filter_mapped, any_from}
use Rattle.ew_model.proofs.SetLaws.{among_map, among_filter, joined_left, joined_right}
use Rattle.ew_model.proofs.SortingLaws.{all_at, all_from}
use Rattle.ew_model.proofs.EntryLaws.{LaidOut, points_back}
use Rattle.ew_model.proofs.CoverLaws.{ids_alike}
use Rattle.ew_model.proofs.GoodLaws.{next_from_good, good_laid_out}
use Rattle.ew_model.proofs.GraphHeads.{no_later_parent}
use Rattle.ew_model.proofs.GraphAlike.{child_made, known_made, childless_made, none_below_made, cut_made, AreAlike, AreNamedAlike, version_alike, known_alike, heads_alike, none_below_alike, cut_alike, AreDistinct, laid_distinct, version_filtered, heads_tell, reduced_held}
use Rattle.ew_model.proofs.RisingLists.{increasing_of}
use Rattle.ew_model.proofs.PositionEvents.{position_of, parents_of, AreHistoryFrom, history_to}
use Rattle.ew_model.proofs.PositionNumbers.{numbered, numbered_events, numbered_at, numbered_among, numbered_get, positions_filtered, positions_rising, position_named, positions_alike, parents_lower, few_positions, positions_before}
use Rattle.std.proofs.lemmas.Bool.{false≢true, false_from_ne_true}
use Rattle.ew_model.proofs.RecordLaws.{map_same}

-- tests that agree give the same numbers
pub greatest_alike : (p q : ℕ → Bool) → ((k : ℕ) → p k ≡ q k) → (m : ℕ) → greatest_to p m ≡ greatest_to q m
greatest_alike p q h zero = refl
greatest_alike p q h (suc m) = λ i. cond (h (suc m) i) (suc m) (greatest_alike p q h m i)

pub passing_alike : (p q : ℕ → Bool) → ((k : ℕ) → p k ≡ q k) → (m : ℕ) → passing_to p m ≡ passing_to q m
passing_alike p q h zero = refl
passing_alike p q h (suc m) = λ i. cond (h (suc m) i) (passing_alike p q h m i ++ suc m ∷ []) (passing_alike p q h m i)

abbrev Numbered : Type 0
Numbered = ℕ × Event

abbrev id_at : Numbered → Id
id_at z = z.1.id

abbrev ids_above : Numbered → List Id
ids_above z = z.1.parents

abbrev place : Numbered → ℕ
place z = z.0

module _ (history : List Event) (laid : LaidOut [] history) where
  abbrev zs : List Numbered
  zs = numbered 0 history

  abbrev places_above : Numbered → List ℕ
  places_above z = positions_in history z.1.parents

  abbrev event_at : Numbered → EventAt
  event_at z = record { position = place z; parents = places_above z }

  distinct : AreDistinct (λ (e : Event). e.id) (λ (e : Event). e.parents) id_eq history
  distinct = laid_distinct (λ (e : Event). e.id) (λ (e : Event). e.parents) id_eq [] history laid

  distinct_from : (n : ℕ) (events : List Event) → AreDistinct (λ (e : Event). e.id) (λ (e : Event). e.parents) id_eq events → AreDistinct id_at ids_above id_eq (numbered n events)
  distinct_from n [] h = tt
  distinct_from n (e ∷ events) h =
      (all_from (λ z. id_eq (id_at z) e.id ≡ false) (numbered (suc n) events) (λ z m. all_at (λ (f : Event). id_eq f.id e.id ≡ false) events z.1 h.0 (numbered_among (suc n) events z m)), distinct_from (suc n) events h.1)

  both : AreAlike id_at ids_above id_eq place places_above nat_eq zs
  both = record {
    names = λ w z mw mz. positions_alike 0 history distinct w z mw mz;
    links = λ w z mw mz. sym (position_named w.1.parents 0 history z mz);
  }

  -- positions of ids are named as the ids are
  named_by : (ids : List Id) → AreNamedAlike id_at ids_above id_eq place places_above nat_eq zs ids (positions_in history ids)
  named_by ids z m = sym (position_named ids 0 history z m)

  events_made : map (λ (z : Numbered). z.1) zs ≡ history
  events_made = numbered_events 0 history

  places_made : events_from 0 (parent_positions history) ≡ map event_at zs
  places_made = numbered_at (λ e. positions_in history e.parents) 0 history

  ancestors_are : (ids : List Id) → ancestors history ids ≡ names_known id_at ids_above id_eq zs ids
  ancestors_are ids =
      ap (λ es. names_known (λ (e : Event). e.id) (λ (e : Event). e.parents) id_eq es ids) (sym events_made)
      ∙ known_made (λ (z : Numbered). z.1) (λ (e : Event). e.id) (λ (e : Event). e.parents) id_eq zs ids

  known_are : (positions : List ℕ) → known_positions (parent_positions history) positions ≡ names_known place places_above nat_eq zs positions
  known_are positions = ap (λ es. names_known position_of parents_of nat_eq es positions) places_made ∙ known_made event_at position_of parents_of nat_eq zs positions

  pub versions_agree : (ids : List Id) → known_positions (parent_positions history) (positions_in history ids) ≡ positions_in history (ancestors history ids)
  versions_agree ids =
      known_are (positions_in history ids)
      ∙ ap (map place) (sym (version_alike id_at ids_above id_eq place places_above nat_eq zs both ids (positions_in history ids) (named_by ids))
      ∙ version_filtered id_at ids_above id_eq ids_alike zs ids (distinct_from 0 history distinct)
      ∙ ap (λ names. filter (λ (z : Numbered). is_among names z.1.id) zs) (sym (ancestors_are ids)))
      ∙ sym (positions_filtered (ancestors history ids) 0 history)

  pub known_agrees : (ids : List Id) (position : ℕ) (e : Event) → slice_get history position ≡ Some e → is_known_at (parent_positions history) (positions_in history ids) position ≡ is_among (ancestors history ids) e.id
  known_agrees ids position e h =
      let same : 0 + position ≡ position = omega arith in
      let here : Among (position, e) zs = subst (λ p. Among (p, e) zs) same (numbered_get 0 history position e h) in
      ap (λ ps. is_named nat_eq ps position) (known_are (positions_in history ids))
      ∙ sym (known_alike id_at ids_above id_eq place places_above nat_eq zs both ids (positions_in history ids) (named_by ids) (position, e) here)
      ∙ ap (λ names. is_among names e.id) (sym (ancestors_are ids))

  pub heads_agree : frontier_of (parent_positions history) ≡ positions_in history (heads history)
  heads_agree =
      let childless_here = λ (z : Numbered). not (has_child id_at ids_above id_eq zs (id_at z)) in
      let child : (x : Id) → has_child (λ (e : Event). e.id) (λ (e : Event). e.parents) id_eq history x ≡ has_child id_at ids_above id_eq zs x = λ x.
      ap (λ es. has_child (λ (e : Event). e.id) (λ (e : Event). e.parents) id_eq es x) (sym events_made) ∙ child_made (λ (z : Numbered). z.1) (λ (e : Event). e.id) (λ (e : Event). e.parents) id_eq zs x in
      ap (childless position_of parents_of nat_eq) places_made
      ∙ childless_made event_at position_of parents_of nat_eq zs
      ∙ filter_mapped place (λ p. not (has_child place places_above nat_eq zs p)) zs
      ∙ ap (map place) (sym (heads_alike id_at ids_above id_eq place places_above nat_eq zs both)
      ∙ filter_alike childless_here (λ (z : Numbered). is_among (heads history) z.1.id) zs (λ z m.
      sym (heads_tell (λ (e : Event). e.id) (λ (e : Event). e.parents) id_eq ids_alike history z.1 (numbered_among 0 history z m) ∙ ap not (child z.1.id))))
      ∙ sym (positions_filtered (heads history) 0 history)

  pub reduced_agree : (ids : List Id) → is_reduced_at (parent_positions history) (positions_in history ids) ≡ is_reduced history ids
  unfolding is_reduced_at is_reduced
  reduced_agree ids =
      let ws : List Numbered = filter (λ (z : Numbered). is_among ids z.1.id) zs in
      ap (λ es. none_below position_of parents_of nat_eq es (positions_in history ids)) places_made
      ∙ none_below_made event_at position_of parents_of nat_eq zs (positions_in history ids)
      ∙ ap (none_below place places_above nat_eq zs) (positions_filtered ids 0 history)
      ∙ sym (none_below_alike id_at ids_above id_eq place places_above nat_eq zs both ws (λ w m. (among_filter (λ (z : Numbered). is_among ids z.1.id) zs w m).0))
      ∙ reduced_held id_at ids_above id_eq ids_alike zs ids
      ∙ sym (ap (λ es. none_below (λ (e : Event). e.id) (λ (e : Event). e.parents) id_eq es ids) (sym events_made)
      ∙ none_below_made (λ (z : Numbered). z.1) (λ (e : Event). e.id) (λ (e : Event). e.parents) id_eq zs ids)

  pub cut_agrees : (k : ℕ) → is_cut_at (parent_positions history) k ≡ is_critical history k
  unfolding is_cut_at is_critical
  cut_agrees k =
      ap (λ es. is_cut position_of parents_of nat_eq es k) places_made
      ∙ cut_made event_at position_of parents_of nat_eq zs k
      ∙ sym (cut_alike id_at ids_above id_eq place places_above nat_eq zs both k)
      ∙ sym (ap (λ es. is_cut (λ (e : Event). e.id) (λ (e : Event). e.parents) id_eq es k) (sym events_made)
      ∙ cut_made (λ (z : Numbered). z.1) (λ (e : Event). e.id) (λ (e : Event). e.parents) id_eq zs k)

  pub cuts_agree : cuts_at (parent_positions history) ≡ cuts_of history
  cuts_agree =
      ap (passing_to (is_cut_at (parent_positions history))) (length-map history (λ e. positions_in history e.parents))
      ∙ passing_alike (is_cut_at (parent_positions history)) (is_critical history) cut_agrees (length history)

  -- the parents' positions are a history
  pub history_agrees : AllByRecursion (λ (e : Event). length e.parents ≤ 16) history → IsHistoryOfParents (parent_positions history)
  history_agrees few =
      history_to (parent_positions history) (from 0 history (λ z m. record {
        rising = increasing_of (places_above z) (positions_rising z.1.parents 0 history);
        lower = All-from_recursion (λ p. p < place z) (places_above z) (all_from (λ p. p < place z) (places_above z) (λ p k. lower_at z m p k));
        few = let some = few_positions z.1.parents 0 history distinct in
            let short = all_at (λ (e : Event). length e.parents ≤ 16) history z.1 few (numbered_among 0 history z m) in
            omega (arith, some, short);
      }))
    where
      lower_at : (z : Numbered) → Among z zs → (p : ℕ) → Among p (places_above z) → p < place z
      lower_at z m p k =
          let w = among_map place (filter (λ (y : Numbered). is_among z.1.parents y.1.id) zs) p (subst (Among p) (positions_filtered z.1.parents 0 history) k) in
          let parts = among_filter (λ (y : Numbered). is_among z.1.parents y.1.id) zs w.0 w.1 in
          let low : place w.0 < place z = parents_lower 0 history (points_back [] history laid) z w.0 m parts.0 parts.1 in
          let same = w.2 in
          omega (arith, low, same)

      from : (n : ℕ) (events : List Event) → ((z : Numbered) → Among z (numbered n events) → AreParents (place z) (places_above z)) → AreHistoryFrom n (map (λ e. positions_in history e.parents) events)
      from n [] h = tt
      from n (e ∷ events) h = (h (n, e) (inl refl), from (suc n) events (λ z m. h z (inr m)))

-- the events of a good history have few parents
good_few : (before later : List Event) → IsGoodAfter before later → AllByRecursion (λ (e : Event). length e.parents ≤ 16) later
good_few before [] h = tt
good_few before (e ∷ later) h = ((next_from_good before e h.0).few, good_few (before ++ e ∷ []) later h.1)

-- The law of positions.
pub positions_agree : PositionsAgree
unfolding IsGood
positions_agree history good =
    let laid = good_laid_out history good in
    record {
      parents = history_agrees history laid (good_few [] history good);
      versions = versions_agree history laid;
      known = known_agrees history laid;
      heads = heads_agree history laid;
      reduced = reduced_agree history laid;
      cut = cut_agrees history laid;
      latest = greatest_alike (is_cut_at (parent_positions history)) (is_critical history) (cut_agrees history laid);
      cuts = cuts_agree history laid;
    }

-- The law of one more event.
pub positions_grow : PositionsGrow
positions_grow history e good =
    let laid = good_laid_out (history ++ e ∷ []) good in
    let last : Among e (history ++ e ∷ []) = joined_right history (e ∷ []) e (inl refl) in
    let kept : (f : Event) → Among f (history ++ e ∷ []) → positions_in (history ++ e ∷ []) f.parents ≡ positions_in history f.parents = λ f m.
    positions_before f.parents 0 history e (not_parent (history ++ e ∷ []) (no_later_parent (λ (g : Event). g.id) (λ (g : Event). g.parents) id_eq [] history e laid) f m) in
    map-append (λ (f : Event). positions_in (history ++ e ∷ []) f.parents) history (e ∷ [])
    ∙ (λ i. map_same (λ (f : Event). positions_in (history ++ e ∷ []) f.parents) (λ (f : Event). positions_in history f.parents) history (λ f m. kept f (joined_left history (e ∷ []) f m)) i ++ kept e last i ∷ [])
  where
    not_parent : (events : List Event) → has_child (λ (g : Event). g.id) (λ (g : Event). g.parents) id_eq events e.id ≡ false → (f : Event) → Among f events → is_among f.parents e.id ≡ false
    not_parent events h f m = false_from_ne_true (is_among f.parents e.id) (λ q. false≢true (sym h ∙ any_from (λ (g : Event). is_among g.parents e.id) events f m q))
