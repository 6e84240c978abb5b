-- Critical cuts among the events of a run.
use Rattle.std.proofs.Common.{◌≡◌, ℕ, zero, suc, ◌+◌, ◌-◌, ◌<◌, ◌≤◌, ◌&&◌, ◌||◌, nat_eq, nat_le, nat_lt, Bool, inl, inr, ⊎_elim, true, false, List, [], ◌∷◌, ◌++◌, length, take, drop, Some, refl, sym, ap, ◌∙◌, subst, arith, le-leb}
use Rattle.std.specs.Prelude.{slice_get}
use Rattle.std.specs.List.{list_all}
use Rattle.std.proofs.lemmas.Bool.{and_parts, false_from_ne_true, false≢true, ltb-true, ltb-false}
use Rattle.std.proofs.lemmas.Map.Steps.{list_any_congr}
use Rattle.std.proofs.lemmas.Option.{slice_get_within}
use Rattle.ew_model.specs.declared.id.Id.{Id}
use Rattle.ew_model.specs.declared.event.Event.{Event}
use Rattle.ew_model.specs.Sets.{Among}
use Rattle.ew_model.specs.Ids.{id_eq, is_among}
use Rattle.ew_model.specs.Ancestors.{ids_of, is_held, ancestors}
use Rattle.ew_model.specs.Cuts.{are_among, is_critical, latest_cut}
use Rattle.ew_model.specs.Graph.{is_named}
use Rattle.ew_model.specs.Positions.{parents_at, parent_positions}
use Rattle.ew_model.specs.TouchLaws.{prepared_from}
use Rattle.ew_model.specs.Touches.{touches}
use Rattle.ew_model.proofs.AncestorLaws.{among-append, ancestors_before}
use Rattle.ew_model.proofs.CoverLaws.{ids_alike}
use Rattle.ew_model.proofs.CutLaws.{latest_at_most, latest_critical, latest_greatest}
use Rattle.ew_model.proofs.EntryLaws.{LaidOut}
use Rattle.ew_model.proofs.ListParts.{element_there}
use Rattle.ew_model.proofs.ListTests.{any_from, pass_all, passes}
use Rattle.ew_model.proofs.PositionNumbers.{numbered, position_named}
use Rattle.ew_model.proofs.SetLaws.{joined_left, map_among}
use Rattle.event_graph.specs.Keeping.{IsAdmitted}
use Rattle.event_graph.proofs.Admitted.{laid}
use Rattle.frontier.specs.Chains.{IsChain}
use Rattle.transform.specs.Reaching.{over_since, prepared_since}
use Rattle.transform.specs.Running.{HasNoCut, StandAlone}
use Rattle.transform.proofs.AtPlaces.{knows_at, new_there}
use Rattle.transform.proofs.Fronts.{parents_before, prepared_next}
use Rattle.transform.proofs.Sides.{over_last, split_at, take_next}
use Rattle.transform.proofs.Turning.{cost_unmoved}

-- an event has a number
numbered_of : (n : ℕ) (events : List Event) (x : Event) → Among x events → (k : ℕ) × Among (k, x) (numbered n events)
numbered_of n [] x m = absurd m
numbered_of n (e ∷ events) x m = ⊎_elim (λ same. (n, inl (ap (λ (y : Event). (n, y)) same))) (λ k. let more = numbered_of (suc n) events x k in (more.0, inr more.1)) m

-- an event that isn't held has another id than those that are
other_id : (held : List Event) (f x : Event) → is_held held f.id ≡ false → Among x held → is_among (f.id ∷ []) x.id ≡ false
other_id held f x new m = false_from_ne_true (is_among (f.id ∷ []) x.id) (λ same.
    let there : is_held held x.id ≡ true = any_from (id_eq x.id) (ids_of held) x.id (map_among (λ (g : Event). g.id) held x m) (ids_alike.refl x.id) in
    false≢true (sym new ∙ (list_any_congr ids_alike f.id x.id (ids_of held) (ids_alike.symm f.id x.id ∙ alone (id_eq x.id f.id) same) ∙ there)))
  where
    alone : (b : Bool) → (b || false) ≡ true → b ≡ true
    alone true h = refl
    alone false h = h

-- what is behind a place
drop_here : (history : List Event) (n : ℕ) (f : Event) → slice_get history n ≡ Some f → drop n history ≡ f ∷ drop (suc n) history
drop_here [] n f h = let no : ⊥ = cc in absurd no
drop_here (g ∷ history) zero f h = let here : g ≡ f = cc in ap (λ (x : Event). x ∷ history) here
drop_here (g ∷ history) (suc n) f h = drop_here history n f h

-- AN EVENT AND THE NEXT ONE, which has it as its only parent
module _ (history : List Event) (admitted : IsAdmitted history) (n : ℕ) (f e : Event) (there : slice_get history n ≡ Some f) (at : slice_get history (n + 1) ≡ Some e) (only : parents_at (parent_positions history) (n + 1) ≡ n ∷ []) (critical : is_critical history (n + 1) ≡ true) where
  abbrev below : List Event
  below = take n history

  front : take (n + 1) history ≡ below ++ f ∷ []
  front = take_next history n f there

  -- the first one knows what is below it: the next one does, and knows it by the first
  knows_below : (x : Event) → Among x below → is_among (ancestors below f.parents) x.id ≡ true
  knows_below x m =
      let whole = take (n + 1) history in
      let here : Among x whole = subst (Among x) (sym front) (joined_left below (f ∷ []) x m) in
      let z = numbered_of 0 whole x here in
      let same : over_since whole 0 e ≡ prepared_since whole 0 = over_last history (n + 1) n e admitted refl (slice_get_within history (n + 1) e at) at only in
      let next : is_among (ancestors whole e.parents) x.id ≡ true = knows_at history admitted (n + 1) e at (n + 1) (omega arith) critical x here in
      let prepared : is_among (prepared_from whole 0) x.id ≡ true =
      sym (position_named (prepared_from whole 0) 0 whole (z.0, x) z.1) ∙ ap (λ (ps : List ℕ). is_named nat_eq ps z.0) (sym same) ∙ position_named (ancestors whole e.parents) 0 whole (z.0, x) z.1 ∙ next in
      let parted : (is_among (ancestors below f.parents) x.id || is_among (f.id ∷ []) x.id) ≡ true =
      sym (among-append (ancestors below f.parents) (f.id ∷ []) x.id)
      ∙ ap (λ ids. is_among ids x.id) (sym (prepared_next below 0 f (omega arith) (new_there history admitted n f there)) ∙ ap (λ (es : List Event). prepared_from es 0) (sym front))
      ∙ prepared in
      left (is_among (ancestors below f.parents) x.id) (is_among (f.id ∷ []) x.id) parted (other_id below f x (new_there history admitted n f there) m)
    where
      left : (a b : Bool) → (a || b) ≡ true → b ≡ false → a ≡ true
      left true b h none = refl
      left false b h none = absurd (false≢true (sym none ∙ h))

  first_knows : are_among (ancestors history f.parents) (ids_of below) ≡ true
  first_knows =
      let later = drop (suc n) history in
      let split : history ≡ below ++ f ∷ later = split_at history n f there in
      let same : ancestors history f.parents ≡ ancestors below f.parents =
      ap (λ (h : List Event). ancestors h f.parents) split ∙ ancestors_before below (f ∷ later) f.parents (parents_before below f later (subst (LaidOut []) split (laid history admitted))) in
      ap (λ ids. are_among ids (ids_of below)) same ∙ all_below below knows_below
    where
      all_below : (events : List Event) → ((x : Event) → Among x events → is_among (ancestors below f.parents) x.id ≡ true) → are_among (ancestors below f.parents) (ids_of events) ≡ true
      all_below [] h = refl
      all_below (x ∷ events) h = λ i. h x (inl refl) i && all_below events (λ y m. h y (inr m)) i

  -- A cut behind an event that is the next one's only parent is critical only where the cut before it is.
  pub cut_before : is_critical history n ≡ true
  unfolding is_critical
  cut_before =
      let high : n ≤ length history = omega (arith, slice_get_within history n f there) in
      let parts = and_parts (nat_le (n + 1) (length history)) (list_all (λ g. are_among (ancestors history g.parents) (ids_of (take (n + 1) history))) (drop (n + 1) history)) critical in
      let next : suc n ≡ n + 1 = omega arith in
      let later : (g : Event) → Among g (drop (suc n) history) → are_among (ancestors history g.parents) (ids_of below) ≡ true = λ g m.
      fewer (ancestors history g.parents) below (f ∷ [])
      (ap (λ (es : List Event). are_among (ancestors history g.parents) (ids_of es)) (sym front)
      ∙ passes (λ g. are_among (ancestors history g.parents) (ids_of (take (n + 1) history))) (drop (n + 1) history) g parts.1 (subst (λ k. Among g (drop k history)) next m)) in
      λ i. le-leb n (length history) high i
      && (ap (list_all (λ g. are_among (ancestors history g.parents) (ids_of below))) (drop_here history n f there)
      ∙ (λ j. first_knows j && pass_all (λ g. are_among (ancestors history g.parents) (ids_of below)) (drop (suc n) history) later j)) i
    where
      fewer : (ids : List Id) (xs ys : List Event) → are_among ids (ids_of (xs ++ ys)) ≡ true → are_among ids (ids_of xs) ≡ true
      fewer ids [] ys h = refl
      fewer ids (x ∷ xs) ys h = let parts = and_parts (is_among ids x.id) (are_among ids (ids_of (xs ++ ys))) h in λ i. parts.0 i && fewer ids xs ys parts.1 i

-- A CHAIN OF EVENTS
module _ (history : List Event) (admitted : IsAdmitted history) (first last : ℕ) (chain : IsChain (parent_positions history) first last) (within : last < length history) where
  -- each place between is one where the event's only parent is the one before it
  only_parent : (n : ℕ) → first ≤ n → n < last → parents_at (parent_positions history) (n + 1) ≡ n ∷ []
  only_parent n low high = let next : n + 1 ≡ suc n = omega arith in ap (parents_at (parent_positions history)) next ∙ chain.links n low high

  step_down : (n : ℕ) → first ≤ n → n < last → is_critical history (n + 1) ≡ true → is_critical history n ≡ true
  step_down n low high critical =
      let f = element_there history n (omega (arith, high, within)) in
      let e = element_there history (n + 1) (omega (arith, high, within)) in
      cut_before history admitted n f.0 e.0 f.1 e.1 (only_parent n low high) critical

  -- where a cut of it is critical, those before it are
  pub cuts_down : (far n : ℕ) → first ≤ n → n + far ≤ last → is_critical history (n + far) ≡ true → is_critical history n ≡ true
  cuts_down zero n low high critical = let same : n + 0 ≡ n = omega arith in ap (is_critical history) (sym same) ∙ critical
  cuts_down (suc far) n low high critical =
      let next : n + suc far ≡ n + far + 1 = omega arith in
      cuts_down far n low (omega (arith, high)) (step_down (n + far) (omega (arith, low)) (omega (arith, high)) (ap (is_critical history) (sym next) ∙ critical))

  pub cuts_below : (n cut : ℕ) → first ≤ n → n ≤ cut → cut ≤ last → is_critical history cut ≡ true → is_critical history n ≡ true
  cuts_below n cut low order high critical =
      let same : n + (cut - n) ≡ cut = omega (arith, order) in
      cuts_down (cut - n) n low (omega (arith, order, high)) (ap (is_critical history) same ∙ critical)

  -- where the first isn't, none is
  pub no_cuts : (count : ℕ) → last + 1 ≡ first + count → is_critical history first ≡ false → HasNoCut history first count
  no_cuts count all plain = λ k low high. false_from_ne_true (is_critical history k) (λ critical.
      false≢true (sym plain ∙ cuts_below first k (omega arith) (omega (arith, low)) (omega (arith, high, all)) critical))

  -- the events up to the latest cut stand alone
  pub alone_to : (cut : ℕ) → latest_cut history last ≡ cut → StandAlone history first (cut - first)
  alone_to cut is = λ k low.
      let most : cut ≤ last = omega (arith, latest_at_most history last, is) in
      let critical : is_critical history cut ≡ true = ap (is_critical history) (sym is) ∙ latest_critical history last in (
        omega (arith, low, most, within),
        cuts_below (first + k + 1) cut (omega arith) (omega (arith, low)) most critical,
      )

  -- and the last one too, where the next place is a critical cut
  pub alone_all : (count : ℕ) → last + 1 ≡ first + count → latest_cut history last ≡ last → last + 1 < length history → is_critical history (last + 1) ≡ true → StandAlone history first count
  alone_all count all is more critical = λ k low. at (nat_lt (first + k) last) k refl low
    where
      at : (b : Bool) (k : ℕ) → nat_lt (first + k) last ≡ b → k < count → (first + k + 1 < length history) × (is_critical history (first + k + 1) ≡ true)
      at true k q low = let less = ltb-true (first + k) last q in alone_to last is k (omega (arith, less))
      at false k q low =
          let far = ltb-false (first + k) last q in
          let end : first + k + 1 ≡ last + 1 = omega (arith, far, low, all) in
          (omega (arith, end, more), ap (is_critical history) end ∙ critical)

  -- where the first is the latest cut, no further one is critical
  pub none_behind : (count : ℕ) → last + 1 ≡ first + count → latest_cut history last ≡ first → HasNoCut history first count
  none_behind count all is = λ k low high. false_from_ne_true (is_critical history k) (λ critical.
      let most = latest_greatest history last k (omega (arith, high, all)) critical in
      omega (arith, most, is, low))

  -- the first is no later than the latest cut, where it is critical
  pub latest_behind : is_critical history first ≡ true → first ≤ latest_cut history last
  latest_behind critical = latest_greatest history last first chain.order critical

  -- EACH IS TOUCHED ONCE
  touched_next : (from n : ℕ) → from ≤ first → first ≤ n → n < last → touches (take (n + 1 + 1) history) from ≡ touches (take (n + 1) history) from + 1
  touched_next from n start low high =
      let e = element_there history (n + 1) (omega (arith, high, within)) in
      let same = over_last history (n + 1) n e.0 admitted refl (omega (arith, high, within)) e.1 (only_parent n low high) in
      omega (arith, cost_unmoved history (n + 1) from e.0 admitted e.1 (omega (arith, start, low)) same)

  touched_up : (from far : ℕ) → from ≤ first → first + far ≤ last → touches (take (first + far + 1) history) from ≡ touches (take (first + 1) history) from + far
  touched_up from zero start high =
      let same : first + 0 + 1 ≡ first + 1 = omega arith in omega (arith, ap (λ k. touches (take k history) from) same)
  touched_up from (suc far) start high =
      let same : first + suc far + 1 ≡ first + far + 1 + 1 = omega arith in
      omega (arith, ap (λ k. touches (take k history) from) same, touched_next from (first + far) start (omega arith) (omega (arith, high)), touched_up from far start (omega (arith, high)))

  -- The touches up to a place of the chain.
  pub touched_along : (from n : ℕ) → from ≤ first → first < n → n ≤ last + 1 → touches (take n history) from + first + 1 ≡ touches (take (first + 1) history) from + n
  touched_along from n start low high =
      let same : n ≡ first + (n - first - 1) + 1 = omega (arith, low) in
      omega (arith, ap (λ k. touches (take k history) from) same, touched_up from (n - first - 1) start (omega (arith, low, high)), low)
