-- Events of any kind that stand in order: each has a name of its own, and none has a parent that is itself or comes later.
use Rattle.std.proofs.Common.{◌≡◌, Bool, true, false, ◌||◌, inl, inr, ⊎_elim, List, [], ◌∷◌, ◌++◌, map, refl, sym, ap, ◌∙◌, subst, append-nil, append_assoc}
use Rattle.std.specs.List.{AllByRecursion}
use Rattle.std.specs.Cmp.{IsEquivalence}
use Rattle.std.proofs.lemmas.Bool.{false≢true, false_from_ne_true, or_parts}
use Rattle.std.proofs.lemmas.List.{map-append}
use Rattle.ew_model.specs.Sets.{Among}
use Rattle.ew_model.specs.Graph.{is_named, are_named, has_child, version_of, names_known}
use Rattle.ew_model.specs.CutChange.{AreInOrder}
use Rattle.ew_model.proofs.ListTests.{any_from, found_by, kept_cases, passes}
use Rattle.ew_model.proofs.SetLaws.{among_map, map_among}
use Rattle.ew_model.proofs.SortingLaws.{all_at, all_from}
use Rattle.ew_model.proofs.GraphVersions.{named-append, AreUnnamed, version_none, PointBack, taken_held}

module _ {E N : Type 0} (name : E → N) (parents : E → List N) (same : N → N → Bool) where
  abbrev held : List E → N → Bool
  held events x = is_named same (map name events) x

  abbrev version : List E → List N → List E
  version events named = version_of name parents same events named

  -- Behind the events before, each event has a name of its own, and no parent that is itself or comes later.
  abbrev pub AreLaidOut : List E → List E → Type 0
  AreLaidOut before [] = Unit {0}
  AreLaidOut before (e ∷ later) = (held before (name e) ≡ false) × AllByRecursion (λ f. is_named same (parents e) (name f) ≡ false) (e ∷ later) × AreLaidOut (before ++ e ∷ []) later

  -- none of the events is held
  abbrev pub AreNew : List E → List E → Type 0
  AreNew before events = AllByRecursion (λ f. held before (name f) ≡ false) events

  pub laid_point_back : (before later : List E) → AreLaidOut before later → PointBack name parents same later
  laid_point_back before [] h = tt
  laid_point_back before (e ∷ later) h = (h.1, laid_point_back (before ++ e ∷ []) later h.2)

  pub held-append : (xs ys : List E) (x : N) → held (xs ++ ys) x ≡ (held xs x || held ys x)
  held-append xs ys x = ap (λ names. is_named same names x) (map-append name xs ys) ∙ named-append name parents same (map name xs) (map name ys) x

  -- what isn't held after more events wasn't held before
  pub new_before : (before : List E) (e : E) (x : N) → held (before ++ e ∷ []) x ≡ false → held before x ≡ false
  new_before before e x h = (or_parts (held before x) (held (e ∷ []) x) (sym (held-append before (e ∷ []) x) ∙ h)).0

  -- and is no other's name
  pub other_name : (before : List E) (e : E) (x : N) → held (before ++ e ∷ []) x ≡ false → same x (name e) ≡ false
  other_name before e x h =
      (or_parts (same x (name e)) false (or_parts (held before x) (held (e ∷ []) x) (sym (held-append before (e ∷ []) x) ∙ h)).1).0

  pub new_less : (before : List E) (e : E) (events : List E) → AreNew (before ++ e ∷ []) events → AreNew before events
  new_less before e [] h = tt
  new_less before e (f ∷ events) h = (new_before before e (name f) h.0, new_less before e events h.1)

  pub laid_new : (before later : List E) → AreLaidOut before later → AreNew before later
  laid_new before [] h = tt
  laid_new before (e ∷ later) h = (h.0, new_less before e later (laid_new (before ++ e ∷ []) later h.2))

  -- parts of what is laid out
  unnamed_part : (names : List N) (xs ys : List E) → AllByRecursion (λ f. is_named same names (name f) ≡ false) (xs ++ ys) → AllByRecursion (λ f. is_named same names (name f) ≡ false) xs
  unnamed_part names [] ys h = tt
  unnamed_part names (x ∷ xs) ys h = (h.0, unnamed_part names xs ys h.1)

  pub laid_front : (before xs ys : List E) → AreLaidOut before (xs ++ ys) → AreLaidOut before xs
  laid_front before [] ys h = tt
  laid_front before (x ∷ xs) ys h = (h.0, unnamed_part (parents x) (x ∷ xs) ys h.1, laid_front (before ++ x ∷ []) xs ys h.2)

  pub laid_behind : (before xs ys : List E) → AreLaidOut before (xs ++ ys) → AreLaidOut (before ++ xs) ys
  laid_behind before [] ys h = subst (λ b. AreLaidOut b ys) (sym (append-nil before)) h
  laid_behind before (x ∷ xs) ys h = subst (λ b. AreLaidOut b ys) (append_assoc before (x ∷ []) xs) (laid_behind (before ++ x ∷ []) xs ys h.2)

  -- the parts of what stands in order
  pub order_front : (before xs ys : List E) → AreInOrder name parents same before (xs ++ ys) → AreInOrder name parents same before xs
  order_front before [] ys h = tt
  order_front before (x ∷ xs) ys h = (h.0, h.1, order_front (before ++ x ∷ []) xs ys h.2)

  pub order_behind : (before xs ys : List E) → AreInOrder name parents same before (xs ++ ys) → AreInOrder name parents same (before ++ xs) ys
  order_behind before [] ys h = subst (λ b. AreInOrder name parents same b ys) (sym (append-nil before)) h
  order_behind before (x ∷ xs) ys h = subst (λ b. AreInOrder name parents same b ys) (append_assoc before (x ∷ []) xs) (order_behind (before ++ x ∷ []) xs ys h.2)

  -- ancestors are held
  pub known_held : (events : List E) (named : List N) (x : N) → is_named same (names_known name parents same events named) x ≡ true → held events x ≡ true
  known_held events named x e =
      let found = found_by (same x) (names_known name parents same events named) e in
      let event = among_map name (version events named) found.0 found.1 in
      any_from (same x) (map name events) (name event.0) (map_among name events event.0 (taken_held name parents same events named event.0 event.1)) (subst (λ y. same x y ≡ true) event.2 found.2)

  -- a name that is found is that of an event
  pub event_of : (events : List E) (x : N) → held events x ≡ true → (f : E) × Among f events × (same x (name f) ≡ true)
  event_of events x h =
      let found = found_by (same x) (map name events) h in
      let f = among_map name events found.0 found.1 in
      (f.0, f.1, subst (λ y. same x y ≡ true) f.2 found.2)

  pub held_by : (events : List E) (x : N) (f : E) → Among f events → same x (name f) ≡ true → held events x ≡ true
  held_by events x f m e = any_from (same x) (map name events) (name f) (map_among name events f m) e

  pub names_within : (xs ys : List E) → ((z : E) → Among z xs → Among z ys) → (x : N) → held xs x ≡ true → held ys x ≡ true
  names_within xs ys f x h = let e = event_of xs x h in held_by ys x e.0 (f e.0 e.1) e.2

  -- the last of some events
  pub last_among : (xs : List E) (x : E) → Among x (xs ++ x ∷ [])
  last_among [] x = inl refl
  last_among (z ∷ xs) x = inr (last_among xs x)

module _ {E N : Type 0} (name : E → N) (parents : E → List N) (same : N → N → Bool) (alike : IsEquivalence same) where
  pub equal_through : (x y z : N) → same x y ≡ true → same y z ≡ true → same x z ≡ true
  equal_through x y z e f = alike.congr x y z e ∙ f

  pub held_of : (events : List E) (f : E) → Among f events → is_named same (map name events) (name f) ≡ true
  held_of events f m = held_by name parents same events (name f) f m (alike.refl (name f))

  pub named_here : (names : List N) (x : N) → Among x names → is_named same names x ≡ true
  named_here names x m = any_from (same x) names x m (alike.refl x)

  -- equal names are among the same
  pub named_alike : (names : List N) (x y : N) → same x y ≡ true → is_named same names x ≡ is_named same names y
  named_alike [] x y e = refl
  named_alike (z ∷ names) x y e = λ i. alike.congr x y z e i || named_alike names x y e i

  -- an event behind another has another name
  apart : (before : List E) (x : E) (events : List E) (g : E) → AreLaidOut name parents same before (x ∷ events) → Among g events → same (name g) (name x) ≡ true → ⊥
  apart before x events g h m e =
      false≢true (sym (other_name name parents same before x (name g) (all_at (λ f. is_named same (map name (before ++ x ∷ [])) (name f) ≡ false) events g (laid_new name parents same (before ++ x ∷ []) events h.2) m)) ∙ e)

  -- events with one name are one
  pub one_event : (before events : List E) (f g : E) → AreLaidOut name parents same before events → Among f events → Among g events → same (name f) (name g) ≡ true → f ≡ g
  one_event before [] f g h mf mg e = absurd mf
  one_event before (x ∷ events) f g h mf mg e =
      ⊎_elim
      (λ fx. ⊎_elim
      (λ gx. fx ∙ sym gx)
      (λ k. absurd (apart before x events g h k (alike.symm (name g) (name x) ∙ (ap (λ z. same (name z) (name g)) (sym fx) ∙ e))))
      mg)
      (λ j. ⊎_elim
      (λ gx. absurd (apart before x events f h j (ap (λ z. same (name f) (name z)) (sym gx) ∙ e)))
      (λ k. one_event (before ++ x ∷ []) events f g h.2 j k e)
      mg)
      mf

  -- What is held is no parent's, and the parents stand before: so what stands in order is laid out.
  no_parent : (before : List E) (names : List N) (x : N) → are_named same (map name before) names ≡ true → is_named same (map name before) x ≡ false → is_named same names x ≡ false
  no_parent before names x h n =
      false_from_ne_true (is_named same names x) (λ e.
      let found = found_by (same x) names e in
      false≢true (sym n ∙ named_alike (map name before) x found.0 found.2 ∙ passes (is_named same (map name before)) names found.0 h found.1))

  pub order_new : (before later : List E) → AreInOrder name parents same before later → AreNew name parents same before later
  order_new before [] h = tt
  order_new before (e ∷ later) h = (
    h.0,
    all_from (λ f. is_named same (map name before) (name f) ≡ false) later (λ f m.
        new_before name parents same before e (name f) (all_at (λ f. is_named same (map name (before ++ e ∷ [])) (name f) ≡ false) later f (order_new (before ++ e ∷ []) later h.2) m)),
  )

  pub order_laid_out : (before later : List E) → AreInOrder name parents same before later → AreLaidOut name parents same before later
  order_laid_out before [] h = tt
  order_laid_out before (e ∷ later) h = (
    h.0,
    all_from (λ f. is_named same (parents e) (name f) ≡ false) (e ∷ later) (λ f m. no_parent before (parents e) (name f) h.1 (all_at (λ f. is_named same (map name before) (name f) ≡ false) (e ∷ later) f (order_new before (e ∷ later) h) m)),
    order_laid_out (before ++ e ∷ []) later h.2,
  )

  -- an event isn't taken where one of its parents alone is named
  pub no_circle : (before events : List E) (named : List N) (f c : E) → AreLaidOut name parents same before events → Among f events → is_named same (parents c) (name f) ≡ true
      → ((z : E) → Among z events → is_named same named (name z) ≡ true → z ≡ f) → Among c (version_of name parents same events named) → ⊥
  no_circle before [] named f c h mf p only m = m
  no_circle before (y ∷ later) named f c h mf p only m =
      let taken = version_of name parents same later named in
      let test = is_named same named (name y) || has_child name parents same taken (name y) in
      ⊎_elim
      (λ fy.
      let none : AreUnnamed name parents same later named =
      all_from (λ z. is_named same named (name z) ≡ false) later (λ z k. false_from_ne_true (is_named same named (name z)) (λ e.
      false≢true (sym (all_at (λ w. is_named same (map name (before ++ y ∷ [])) (name w) ≡ false) later z (laid_new name parents same (before ++ y ∷ []) later h.2) k)
      ∙ held_by name parents same (before ++ y ∷ []) (name z) y (last_among name parents same before y) (ap (λ w. same (name z) (name w)) (sym (only z (inr k) e ∙ fy)) ∙ alike.refl (name z))))) in
      ⊎_elim
      (λ cy. false≢true (sym h.1.0 ∙ (ap (λ w. is_named same (parents y) (name w)) (sym fy) ∙ subst (λ w. is_named same (parents w) (name f) ≡ true) cy.0 p)))
      (λ k. subst (Among c) (version_none name parents same later named none) k)
      (kept_cases test y c taken m))
      (λ k. ⊎_elim
      (λ cy. false≢true (sym (all_at (λ z. is_named same (parents y) (name z) ≡ false) later f h.1.1 k) ∙ subst (λ w. is_named same (parents w) (name f) ≡ true) cy.0 p))
      (λ j. no_circle (before ++ y ∷ []) later named f c h.2 k p (λ z q. only z (inr q)) j)
      (kept_cases test y c taken m))
      mf
