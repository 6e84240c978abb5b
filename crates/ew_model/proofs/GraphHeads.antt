-- Which names have all of some events among their ancestors, for events of any kind.
use Rattle.std.proofs.Common.{◌≡◌, Bool, true, false, not, ◌||◌, ⊎_elim, List, [], ◌∷◌, map, refl, sym, ap, ◌∙◌, subst, ◌++◌, cond, inl, inr, filter, ◌&&◌}
use Rattle.std.specs.List.{list_all}
use Rattle.std.specs.Cmp.{IsEquivalence}
use Rattle.std.proofs.lemmas.Bool.{false≢true, false_from_ne_true, and_parts, and_from, or_from}
use Rattle.std.proofs.lemmas.List.{map-append}
use Rattle.std.proofs.lemmas.List.Folds.{list_any-append}
use Rattle.std.proofs.lemmas.List.Elements.{filter-append}
use Rattle.ew_model.specs.Sets.{Among}
use Rattle.ew_model.specs.Graph.{is_named, are_named, has_child, version_of, names_known, childless, none_below}
use Rattle.ew_model.specs.CutChange.{are_childless}
use Rattle.ew_model.proofs.ListTests.{any_from, found_by, passes, pass_all, same_truth, filter_alike, filter_twice}
use Rattle.ew_model.proofs.SetLaws.{among_map, map_among, among_filter, filter_among, joined_right}
use Rattle.ew_model.proofs.SortingLaws.{all_at}
use Rattle.ew_model.proofs.GraphVersions.{taken_held, taken_parent, taken_of_one, named_or_parent, all_taken}
use Rattle.ew_model.proofs.GraphOrder.{AreLaidOut, laid_point_back, event_of, held_by, equal_through, named_here, one_event, no_circle}

alone : (b : Bool) → (b || false) ≡ true → b ≡ true
alone true e = refl
alone false e = e

module _ {E N : Type 0} (name : E → N) (parents : E → List N) (same : N → N → Bool) where
  abbrev heads_of : List E → List N
  heads_of events = childless name parents same events

  -- no one of the names is an ancestor of another
  abbrev pub AreReduced : List E → List N → Type 0
  AreReduced events names = (m s : N) → Among m names → Among s names → is_named same (names_known name parents same events (m ∷ [])) s ≡ true → same m s ≡ true

  pub reduced_from : (events : List E) (names : List N) → none_below name parents same events names ≡ true → AreReduced events names
  reduced_from events names h m s im is a =
      let one = passes (λ y. same m y || not (is_named same (names_known name parents same events (m ∷ [])) y)) names s
      (passes (λ x. list_all (λ y. same x y || not (is_named same (names_known name parents same events (x ∷ [])) y)) names) names m h im) is in
      at (same m s) (is_named same (names_known name parents same events (m ∷ [])) s) one a
    where
      at : (b c : Bool) → (b || not c) ≡ true → c ≡ true → b ≡ true
      at true c e f = refl
      at false true e f = absurd (false≢true e)
      at false false e f = absurd (false≢true f)

  pub reduced_to : (events : List E) (names : List N) → AreReduced events names → none_below name parents same events names ≡ true
  reduced_to events names h =
      pass_all (λ x. list_all (λ y. same x y || not (is_named same (names_known name parents same events (x ∷ [])) y)) names) names (λ x m.
      pass_all (λ y. same x y || not (is_named same (names_known name parents same events (x ∷ [])) y)) names (λ y k.
      at (same x y) (is_named same (names_known name parents same events (x ∷ [])) y) (h x y m k)))
    where
      at : (b c : Bool) → (c ≡ true → b ≡ true) → (b || not c) ≡ true
      at true c f = refl
      at false true f = f refl
      at false false f = refl

module _ {E N : Type 0} (name : E → N) (parents : E → List N) (same : N → N → Bool) (alike : IsEquivalence same) where
  abbrev held : List E → N → Bool
  held events x = is_named same (map name events) x

  -- an event is a head where it isn't a parent
  head_there : (events : List E) (f : E) (x : N) → Among f events → same x (name f) ≡ true → has_child name parents same events (name f) ≡ false → is_named same (childless name parents same events) x ≡ true
  head_there events f x m e p =
      any_from (same x) (childless name parents same events) (name f)
      (filter_among (λ y. not (has_child name parents same events y)) (map name events) (name f) (map_among name events f m) (ap not p)) e

  named_head : (events : List E) (names : List N) (f : E) → Among f (version_of name parents same events names) → not (has_child name parents same events (name f)) ≡ true → is_named same names (name f) ≡ true
  named_head events names f m n = ⊎_elim (λ e. e) (λ e. absurd (false≢true (ap not (sym e) ∙ n))) (named_or_parent name parents same events names f m)

  covers_to : (events : List E) (names : List N) → AreLaidOut name parents same [] events → ((x : N) → Among x names → held events x ≡ true) → AreReduced name parents same events names
      → are_named same (names_known name parents same events names) (map name events) ≡ true → are_childless name parents same events names ≡ true
  covers_to events names laid there reduced cover =
      let back = laid_point_back name parents same [] events laid in
      let heads = childless name parents same events in
      let version = version_of name parents same events in
      let taken : (f : E) → Among f events → Among f (version names) = λ f m.
      let g = event_of name parents same (version names) (name f) (passes (is_named same (map name (version names))) (map name events) (name f) cover (map_among name events f m)) in
      subst (λ z. Among z (version names)) (sym (one_event name parents same alike [] events f g.0 laid m (taken_held name parents same events names g.0 g.1) g.2)) g.1 in
      and_from (are_named same names heads) (are_named same heads names)
      (pass_all (is_named same names) heads (λ x m.
      let parts = among_filter (λ y. not (has_child name parents same events y)) (map name events) x m in
      let f = among_map name events x parts.0 in
      ap (is_named same names) f.2 ∙ named_head events names f.0 (taken f.0 f.1) (ap (λ y. not (has_child name parents same events y)) (sym f.2) ∙ parts.1)))
      (pass_all (is_named same heads) names (λ s m.
      let f = event_of name parents same events s (there s m) in
      head_there events f.0 s f.1 f.2 (false_from_ne_true (has_child name parents same events (name f.0)) (λ p.
      let c = found_by (λ g. is_named same (parents g) (name f.0)) events p in
      let one = taken_of_one name parents same events names back c.0 (taken c.0 c.1) in
      let equal : same one.0 s ≡ true = reduced one.0 s one.1 m (held_by name parents same (version (one.0 ∷ [])) s f.0 (taken_parent name parents same events (one.0 ∷ []) f.0 c.0 back one.2 f.1 c.2) f.2) in
      no_circle name parents same alike [] events (one.0 ∷ []) f.0 c.0 laid f.1 c.2
      (λ z k e. one_event name parents same alike [] events z f.0 laid k f.1
      (equal_through name parents same alike (name z) one.0 (name f.0) (alone (same (name z) one.0) e) (equal_through name parents same alike one.0 s (name f.0) equal f.2)))
      one.2))))

  covers_from : (events : List E) (names : List N) → AreLaidOut name parents same [] events → are_childless name parents same events names ≡ true → are_named same (names_known name parents same events names) (map name events) ≡ true
  covers_from events names laid h =
      let heads = childless name parents same events in
      let heads_named = (and_parts (are_named same names heads) (are_named same heads names) h).0 in
      let all : version_of name parents same events names ≡ events = all_taken name parents same events names (laid_point_back name parents same [] events laid) (λ x m.
      at (is_named same names (name x)) (has_child name parents same events (name x)) (λ p.
      passes (is_named same names) heads (name x) heads_named (filter_among (λ y. not (has_child name parents same events y)) (map name events) (name x) (map_among name events x m) (ap not p)))) in
      ap (λ vs. are_named same (map name vs) (map name events)) all ∙ pass_all (is_named same (map name events)) (map name events) (λ x m. named_here name parents same alike (map name events) x m)
    where
      at : (b c : Bool) → (c ≡ false → b ≡ true) → (b || c) ≡ true
      at true c f = refl
      at false true f = refl
      at false false f = f refl

  -- Reduced names that are held have all events among their ancestors exactly where they are the heads.
  pub covers_heads : (events : List E) (names : List N) → AreLaidOut name parents same [] events → ((x : N) → Among x names → held events x ≡ true) → AreReduced name parents same events names
      → are_named same (names_known name parents same events names) (map name events) ≡ are_childless name parents same events names
  covers_heads events names laid there reduced =
      same_truth (are_named same (names_known name parents same events names) (map name events)) (are_childless name parents same events names)
      (covers_to events names laid there reduced) (covers_from events names laid)

module _ {E N : Type 0} (name : E → N) (parents : E → List N) (same : N → N → Bool) where
  -- no event has a later one as a parent
  pub no_later_parent : (before events : List E) (e : E) → AreLaidOut name parents same before (events ++ e ∷ []) → has_child name parents same (events ++ e ∷ []) (name e) ≡ false
  no_later_parent before [] e h = or_from (is_named same (parents e) (name e)) false h.1.0 refl
  no_later_parent before (f ∷ events) e h =
      or_from (is_named same (parents f) (name e)) (has_child name parents same (events ++ e ∷ []) (name e))
      (all_at (λ g. is_named same (parents f) (name g) ≡ false) (f ∷ (events ++ e ∷ [])) e h.1 (inr (joined_right events (e ∷ []) e (inl refl))))
      (no_later_parent (before ++ f ∷ []) events e h.2)

  -- The heads after one more event are those before it but for its parents, and the event.
  pub heads_push : (events : List E) (e : E) → AreLaidOut name parents same [] (events ++ e ∷ [])
      → childless name parents same (events ++ e ∷ []) ≡ filter (λ x. not (is_named same (parents e) x)) (childless name parents same events) ++ name e ∷ []
  heads_push events e laid =
      let passes_now = λ (x : N). not (has_child name parents same (events ++ e ∷ []) x) in
      let passed = λ (x : N). not (has_child name parents same events x) in
      let no_parent = λ (x : N). not (is_named same (parents e) x) in
      let both : (x : N) → passes_now x ≡ (passed x && no_parent x) = λ x.
      ap not (list_any-append (λ f. is_named same (parents f) x) events (e ∷ []))
      ∙ two (has_child name parents same events x) (is_named same (parents e) x) in
      ap (filter passes_now) (map-append name events (e ∷ []))
      ∙ filter-append passes_now (map name events) (name e ∷ [])
      ∙ (λ i. filter_alike passes_now (λ x. passed x && no_parent x) (map name events) (λ x m. both x) i ++ cond (not (no_later_parent [] events e laid i)) (name e ∷ []) [])
      ∙ ap (λ xs. xs ++ name e ∷ []) (sym (filter_twice passed no_parent (map name events)))
    where
      two : (a b : Bool) → not (a || (b || false)) ≡ (not a && not b)
      two true b = refl
      two false true = refl
      two false false = refl
