-- Versions of events of any kind.
use Rattle.std.proofs.Common.{◌≡◌, Bool, true, false, cond, ◌||◌, ◌⊎◌, inl, inr, ⊎_elim, List, [], ◌∷◌, ◌++◌, map, flat_map, refl, sym, ap, ◌∙◌, subst, append-nil}
use Rattle.std.specs.List.{AllByRecursion}
use Rattle.std.proofs.lemmas.Bool.{false≢true, or_cases, or_left, or_right}
use Rattle.std.proofs.lemmas.List.Folds.{list_any-append}
use Rattle.ew_model.specs.Sets.{Among}
use Rattle.ew_model.specs.Graph.{is_named, has_child, version_of, names_known}
use Rattle.ew_model.proofs.ListTests.{any_from, found_by, kept_cases}
use Rattle.ew_model.proofs.SetLaws.{kept_front, kept_more}
use Rattle.ew_model.proofs.SortingLaws.{all_at}

-- named, or a parent in the first part, or in the second
three_ways : (named first second : Bool) → (named || (first || second)) ≡ ((named || second) || first)
three_ways true first second = refl
three_ways false true true = refl
three_ways false true false = refl
three_ways false false true = refl
three_ways false false false = refl

cond-append : {X : Type 0} (b : Bool) (x : X) (xs ys : List X) → (cond b (x ∷ xs) xs) ++ ys ≡ cond b (x ∷ (xs ++ ys)) (xs ++ ys)
cond-append true x xs ys = refl
cond-append false x xs ys = refl

module _ {E N : Type 0} (name : E → N) (parents : E → List N) (same : N → N → Bool) where
  abbrev named_in : List N → N → Bool
  named_in names x = is_named same names x

  abbrev child : List E → N → Bool
  child events x = has_child name parents same events x

  abbrev version : List E → List N → List E
  version events named = version_of name parents same events named

  -- the parents of all the events
  abbrev pub all_parents : List E → List N
  all_parents events = flat_map parents events

  pub named-append : (xs ys : List N) (x : N) → named_in (xs ++ ys) x ≡ (named_in xs x || named_in ys x)
  named-append xs ys x = list_any-append (same x) xs ys

  pub child-named : (events : List E) (x : N) → child events x ≡ named_in (all_parents events) x
  child-named [] x = refl
  child-named (e ∷ events) x =
      ap (λ b. named_in (parents e) x || b) (child-named events x) ∙ sym (named-append (parents e) (all_parents events) x)

  -- A version of events in two parts: its events of the second part, and the version of the first part in which these
  -- events' parents are named too.
  pub version-append : (events later : List E) (named : List N) → version (events ++ later) named ≡ version events (named ++ all_parents (version later named)) ++ version later named
  version-append [] later named = refl
  version-append (e ∷ events) later named =
      let taken = version later named in
      let older = version events (named ++ all_parents taken) in
      let ih : version (events ++ later) named ≡ older ++ taken = version-append events later named in
      let test : (named_in named (name e) || child (older ++ taken) (name e)) ≡ (named_in (named ++ all_parents taken) (name e) || child older (name e)) =
      ap (λ b. named_in named (name e) || b) (list_any-append (λ f. named_in (parents f) (name e)) older taken)
      ∙ three_ways (named_in named (name e)) (child older (name e)) (child taken (name e))
      ∙ ap (λ b. (named_in named (name e) || b) || child older (name e)) (child-named taken (name e))
      ∙ ap (λ b. b || child older (name e)) (sym (named-append named (all_parents taken) (name e))) in
      ap (λ vs. cond (named_in named (name e) || child vs (name e)) (e ∷ vs) vs) ih
      ∙ ap (λ b. cond b (e ∷ (older ++ taken)) (older ++ taken)) test
      ∙ sym (cond-append (named_in (named ++ all_parents taken) (name e) || child older (name e)) e older taken)

  -- none of the events is named
  abbrev pub AreUnnamed : List E → List N → Type 0
  AreUnnamed events named = AllByRecursion (λ e. named_in named (name e) ≡ false) events

  -- nothing is taken of events that aren't named
  pub version_none : (events : List E) (named : List N) → AreUnnamed events named → version events named ≡ []
  version_none [] named h = refl
  version_none (e ∷ events) named h =
      let ih : version events named ≡ [] = version_none events named h.1 in
      ap (λ vs. cond (named_in named (name e) || child vs (name e)) (e ∷ vs) vs) ih ∙ ap (λ b. cond (b || false) (e ∷ []) []) h.0

  -- Events that come later and aren't named change no version.
  pub version_before : (events later : List E) (named : List N) → AreUnnamed later named → version (events ++ later) named ≡ version events named
  version_before events later named h =
      let none : version later named ≡ [] = version_none later named h in
      version-append events later named
      ∙ ap (λ vs. version events (named ++ all_parents vs) ++ vs) none
      ∙ append-nil (version events (named ++ []))
      ∙ ap (version events) (append-nil named)

  pub known_before : (events later : List E) (named : List N) → AreUnnamed later named → names_known name parents same (events ++ later) named ≡ names_known name parents same events named
  known_before events later named h = ap (map name) (version_before events later named h)

  -- the version of one new event is its parents' version and itself
  pub version_of_last : (events : List E) (e : E) (named : List N) → named_in named (name e) ≡ true → version (events ++ e ∷ []) named ≡ version events (named ++ parents e) ++ e ∷ []
  version_of_last events e named h =
      let one : version (e ∷ []) named ≡ e ∷ [] = ap (λ b. cond (b || false) (e ∷ []) []) h in
      version-append events (e ∷ []) named
      ∙ ap (λ vs. version events (named ++ all_parents vs) ++ vs) one
      ∙ ap (λ ps. version events (named ++ ps) ++ e ∷ []) (append-nil (parents e))

  -- no event is a parent of itself or of an earlier one
  abbrev pub PointBack : List E → Type 0
  PointBack [] = Unit {0}
  PointBack (e ∷ later) = AllByRecursion (λ f. named_in (parents e) (name f) ≡ false) (e ∷ later) × PointBack later

  -- the events of a version are among the events
  pub taken_held : (events : List E) (named : List N) (x : E) → Among x (version events named) → Among x events
  taken_held [] named x m = m
  taken_held (e ∷ later) named x m =
      ⊎_elim (λ h. inl h.0) (λ k. inr (taken_held later named x k))
      (kept_cases (named_in named (name e) || child (version later named) (name e)) e x (version later named) m)

  -- a named event is in the version
  pub taken_named : (events : List E) (named : List N) (x : E) → Among x events → named_in named (name x) ≡ true → Among x (version events named)
  taken_named [] named x m e = m
  taken_named (y ∷ later) named x m e =
      let test = named_in named (name y) || child (version later named) (name y) in
      ⊎_elim
      (λ alike. subst (λ z. Among z (version (y ∷ later) named)) (sym alike)
      (kept_front test y (version later named) (or_left (named_in named (name y)) (child (version later named) (name y)) (subst (λ z. named_in named (name z) ≡ true) alike e))))
      (λ k. kept_more test y x (version later named) (taken_named later named x k e))
      m

  -- the parents of an event of the version are in the version
  pub taken_parent : (events : List E) (named : List N) (x f : E) → PointBack events → Among f (version events named) → Among x events → named_in (parents f) (name x) ≡ true → Among x (version events named)
  taken_parent [] named x f h mf mx e = mx
  taken_parent (y ∷ later) named x f h mf mx e =
      let test = named_in named (name y) || child (version later named) (name y) in
      let taken = version later named in
      ⊎_elim
      (λ fy. absurd (false≢true (sym (all_at (λ z. named_in (parents y) (name z) ≡ false) (y ∷ later) x h.0 mx) ∙ subst (λ z. named_in (parents z) (name x) ≡ true) fy.0 e)))
      (λ k. ⊎_elim
      (λ alike. subst (λ z. Among z (version (y ∷ later) named)) (sym alike)
      (kept_front test y taken (or_right (named_in named (name y)) (child taken (name y)) (any_from (λ g. named_in (parents g) (name y)) taken f k (subst (λ z. named_in (parents f) (name z) ≡ true) alike e)))))
      (λ j. kept_more test y x taken (taken_parent later named x f h.1 k j e))
      mx)
      (kept_cases test y f taken mf)

  -- what has the named events and the parents of its events has all that is taken
  pub taken_within : (T : E → Type 0) (events : List E) (named : List N) → ((x : E) → Among x events → named_in named (name x) ≡ true → T x)
      → ((f x : E) → T f → Among x events → named_in (parents f) (name x) ≡ true → T x) → (x : E) → Among x (version events named) → T x
  taken_within T [] named start close x m = absurd m
  taken_within T (y ∷ later) named start close x m =
      let taken = version later named in
      let ih : (z : E) → Among z taken → T z = taken_within T later named (λ z k. start z (inr k)) (λ f z t k. close f z t (inr k)) in
      ⊎_elim
      (λ xy. subst T (sym xy.0)
      (⊎_elim
      (λ e. start y (inl refl) e)
      (λ e. let above = found_by (λ g. named_in (parents g) (name y)) taken e in close above.0 y (ih above.0 above.1) (inl refl) above.2)
      (or_cases (named_in named (name y)) (child taken (name y)) xy.1)))
      (λ k. ih x k)
      (kept_cases (named_in named (name y) || child taken (name y)) y x taken m)

  -- the version of an event of a version is a part of it
  pub taken_below : (events : List E) (named : List N) (g : E) → PointBack events → Among g (version events named) → (x : E) → Among x (version events (parents g)) → Among x (version events named)
  taken_below events named g back m =
      taken_within (λ z. Among z (version events named)) events (parents g)
      (λ x k e. taken_parent events named x g back m k e)
      (λ f x t k e. taken_parent events named x f back t k e)

  -- what is taken is taken of one of those named
  pub taken_of_one : (events : List E) (named : List N) → PointBack events → (x : E) → Among x (version events named) → (m : N) × Among m named × Among x (version events (m ∷ []))
  taken_of_one events named back =
      taken_within (λ x. (m : N) × Among m named × Among x (version events (m ∷ []))) events named
      (λ x k e. let found = found_by (same (name x)) named e in (found.0, found.1, taken_named events (found.0 ∷ []) x k (or_left (same (name x) found.0) false found.2)))
      (λ f x t k e. (t.0, t.1, taken_parent events (t.0 ∷ []) x f back t.2 k e))

  -- what is taken is named, or a parent
  pub named_or_parent : (events : List E) (named : List N) (f : E) → Among f (version events named) → (named_in named (name f) ≡ true) ⊎ (child events (name f) ≡ true)
  named_or_parent [] named f m = absurd m
  named_or_parent (y ∷ later) named f m =
      let taken = version later named in
      ⊎_elim
      (λ fy. ⊎_elim
      (λ e. inl (ap (λ z. named_in named (name z)) fy.0 ∙ e))
      (λ e. let above = found_by (λ g. named_in (parents g) (name y)) taken e in
      inr (ap (λ z. child (y ∷ later) (name z)) fy.0 ∙ or_right (named_in (parents y) (name y)) (child later (name y)) (any_from (λ g. named_in (parents g) (name y)) later above.0 (taken_held later named above.0 above.1) above.2)))
      (or_cases (named_in named (name y)) (child taken (name y)) fy.1))
      (λ k. ⊎_elim (λ e. inl e) (λ e. inr (or_right (named_in (parents y) (name f)) (child later (name f)) e)) (named_or_parent later named f k))
      (kept_cases (named_in named (name y) || child taken (name y)) y f taken m)

  -- where each event is named or a parent all are taken
  pub all_taken : (events : List E) (named : List N) → PointBack events → ((x : E) → Among x events → (named_in named (name x) || child events (name x)) ≡ true) → version events named ≡ events
  all_taken [] named back f = refl
  all_taken (y ∷ later) named back f =
      let ih : version later named ≡ later =
      all_taken later named back.1 (λ x m. ap (λ b. named_in named (name x) || (b || child later (name x))) (sym (all_at (λ z. named_in (parents y) (name z) ≡ false) later x back.0.1 m)) ∙ f x (inr m)) in
      ap (λ vs. cond (named_in named (name y) || child vs (name y)) (y ∷ vs) vs) ih
      ∙ ap (λ b. cond b (y ∷ later) later) (ap (λ b. named_in named (name y) || (b || child later (name y))) (sym back.0.0) ∙ f y (inl refl))
