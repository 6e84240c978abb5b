-- Events made from others, and events under two kinds of names: their versions, heads, reduced names and cuts agree.
use Rattle.std.proofs.Common.{◌≡◌, ℕ, Bool, true, false, not, cond, ◌&&◌, ◌||◌, inl, inr, nat_le, List, [], ◌∷◌, ◌++◌, map, filter, length, take, drop, refl, sym, ap, ◌∙◌, subst}
use Rattle.std.specs.List.{list_all, AllByRecursion}
use Rattle.std.specs.Cmp.{IsEquivalence}
use Rattle.std.proofs.lemmas.Bool.{false≢true, false_from_ne_true, or_left, or_from}
use Rattle.std.proofs.lemmas.List.{length-map, take-map, drop-map, take-append-drop}
use Rattle.ew_model.specs.Sets.{Among}
use Rattle.ew_model.specs.Graph.{is_named, are_named, has_child, version_of, names_known, childless, none_below, is_cut}
use Rattle.ew_model.proofs.ListTests.{any_from, found_by, pass_alike, same_truth, any_alike, any_mapped, all_mapped, filter_alike}
use Rattle.ew_model.proofs.SetLaws.{among_map, map_among, among_filter, filter_among, joined_left, joined_right}
use Rattle.ew_model.proofs.SortingLaws.{all_at, all_from}
use Rattle.ew_model.proofs.GraphVersions.{taken_held, version_none}
use Rattle.ew_model.proofs.GraphOrder.{event_of, known_held, named_alike, equal_through, AreLaidOut, laid_new, other_name}
use Rattle.ew_model.proofs.GraphHeads.{AreReduced, reduced_from, reduced_to}
use Rattle.ew_model.proofs.RecordLaws.{map_map}

pub among_take : {X : Type 0} (k : ℕ) (xs : List X) (x : X) → Among x (take k xs) → Among x xs
among_take k xs x m = subst (Among x) (take-append-drop k xs) (joined_left (take k xs) (drop k xs) x m)

pub among_drop : {X : Type 0} (k : ℕ) (xs : List X) (x : X) → Among x (drop k xs) → Among x xs
among_drop k xs x m = subst (Among x) (take-append-drop k xs) (joined_right (take k xs) (drop k xs) x m)

-- Events made from others: the names and the parents of what they are made from.
module _ {Z E N : Type 0} (made : Z → E) (name : E → N) (parents : E → List N) (same : N → N → Bool) where
  pub child_made : (zs : List Z) (x : N) → has_child name parents same (map made zs) x ≡ has_child (λ z. name (made z)) (λ z. parents (made z)) same zs x
  child_made zs x = any_mapped made (λ e. is_named same (parents e) x) zs

  kept_made : (b : Bool) (z : Z) (zs : List Z) → cond b (made z ∷ map made zs) (map made zs) ≡ map made (cond b (z ∷ zs) zs)
  kept_made true z zs = refl
  kept_made false z zs = refl

  pub version_made : (zs : List Z) (named : List N) → version_of name parents same (map made zs) named ≡ map made (version_of (λ z. name (made z)) (λ z. parents (made z)) same zs named)
  version_made [] named = refl
  version_made (z ∷ later) named =
      let taken = version_of (λ z. name (made z)) (λ z. parents (made z)) same later named in
      ap (λ vs. cond (is_named same named (name (made z)) || has_child name parents same vs (name (made z))) (made z ∷ vs) vs) (version_made later named)
      ∙ ap (λ b. cond (is_named same named (name (made z)) || b) (made z ∷ map made taken) (map made taken)) (child_made taken (name (made z)))
      ∙ kept_made (is_named same named (name (made z)) || has_child (λ z. name (made z)) (λ z. parents (made z)) same taken (name (made z))) z taken

  pub known_made : (zs : List Z) (named : List N) → names_known name parents same (map made zs) named ≡ names_known (λ z. name (made z)) (λ z. parents (made z)) same zs named
  known_made zs named = ap (map name) (version_made zs named) ∙ map_map made name (version_of (λ z. name (made z)) (λ z. parents (made z)) same zs named)

  pub childless_made : (zs : List Z) → childless name parents same (map made zs) ≡ childless (λ z. name (made z)) (λ z. parents (made z)) same zs
  childless_made zs =
      ap (filter (λ x. not (has_child name parents same (map made zs) x))) (map_map made name zs)
      ∙ filter_alike (λ x. not (has_child name parents same (map made zs) x)) (λ x. not (has_child (λ z. name (made z)) (λ z. parents (made z)) same zs x)) (map (λ z. name (made z)) zs) (λ x m. ap not (child_made zs x))

  pub none_below_made : (zs : List Z) (names : List N) → none_below name parents same (map made zs) names ≡ none_below (λ z. name (made z)) (λ z. parents (made z)) same zs names
  none_below_made zs names =
      pass_alike (λ x. list_all (λ y. same x y || not (is_named same (names_known name parents same (map made zs) (x ∷ [])) y)) names)
      (λ x. list_all (λ y. same x y || not (is_named same (names_known (λ z. name (made z)) (λ z. parents (made z)) same zs (x ∷ [])) y)) names) names
      (λ x m. ap (λ known. list_all (λ y. same x y || not (is_named same known y)) names) (known_made zs (x ∷ [])))

  pub cut_made : (zs : List Z) (k : ℕ) → is_cut name parents same (map made zs) k ≡ is_cut (λ z. name (made z)) (λ z. parents (made z)) same zs k
  cut_made zs k =
      let below : map name (take k (map made zs)) ≡ map (λ z. name (made z)) (take k zs) = ap (map name) (take-map made k zs) ∙ map_map made name (take k zs) in
      let knows = λ (e : E). are_named same (names_known name parents same (map made zs) (parents e)) (map name (take k (map made zs))) in
      let each : list_all knows (drop k (map made zs)) ≡ list_all (λ z. are_named same (names_known (λ z. name (made z)) (λ z. parents (made z)) same zs (parents (made z))) (map (λ z. name (made z)) (take k zs))) (drop k zs) =
      ap (list_all knows) (drop-map made k zs)
      ∙ all_mapped made knows (drop k zs)
      ∙ pass_alike (λ z. knows (made z)) (λ z. are_named same (names_known (λ z. name (made z)) (λ z. parents (made z)) same zs (parents (made z))) (map (λ z. name (made z)) (take k zs))) (drop k zs)
      (λ z m i. are_named same (known_made zs (parents (made z)) i) (below i)) in
      λ i. nat_le k (length-map zs made i) && each i

-- Events under two kinds of names, which are equal alike, as parents too.
pub record AreAlike {Z N M : Type 0} (name : Z → N) (parents : Z → List N) (same : N → N → Bool) (label : Z → M) (above : Z → List M) (equal : M → M → Bool) (zs : List Z) : Type 0 where
  pub names : (w z : Z) → Among w zs → Among z zs → same (name w) (name z) ≡ equal (label w) (label z)
  pub links : (w z : Z) → Among w zs → Among z zs → is_named same (parents w) (name z) ≡ is_named equal (above w) (label z)

module _ {Z N M : Type 0} (name : Z → N) (parents : Z → List N) (same : N → N → Bool) (label : Z → M) (above : Z → List M) (equal : M → M → Bool) where
  abbrev AreLinksAlike : List Z → Type 0
  AreLinksAlike zs = (w z : Z) → Among w zs → Among z zs → is_named same (parents w) (name z) ≡ is_named equal (above w) (label z)

  -- the events are named alike by names of both kinds
  abbrev pub AreNamedAlike : List Z → List N → List M → Type 0
  AreNamedAlike zs named labels = (z : Z) → Among z zs → is_named same named (name z) ≡ is_named equal labels (label z)

  child_alike : (zs ws : List Z) (z : Z) → AreLinksAlike zs → ((w : Z) → Among w ws → Among w zs) → Among z zs → has_child name parents same ws (name z) ≡ has_child label above equal ws (label z)
  child_alike zs ws z h within m = any_alike (λ w. is_named same (parents w) (name z)) (λ w. is_named equal (above w) (label z)) ws (λ w k. h w z (within w k) m)

  version_by : (zs : List Z) → AreLinksAlike zs → (named : List N) (labels : List M) → AreNamedAlike zs named labels → version_of name parents same zs named ≡ version_of label above equal zs labels
  version_by [] h named labels n = refl
  version_by (z ∷ later) h named labels n =
      let taken = version_of name parents same later named in
      let ih : taken ≡ version_of label above equal later labels = version_by later (λ w y j k. h w y (inr j) (inr k)) named labels (λ y m. n y (inr m)) in
      let child : has_child name parents same taken (name z) ≡ has_child label above equal taken (label z) =
      child_alike (z ∷ later) taken z h (λ w k. inr (taken_held name parents same later named w k)) (inl refl) in
      (λ i. cond (n z (inl refl) i || child i) (z ∷ taken) taken)
      ∙ ap (λ vs. cond (is_named equal labels (label z) || has_child label above equal vs (label z)) (z ∷ vs) vs) ih

module _ {Z N M : Type 0} (name : Z → N) (parents : Z → List N) (same : N → N → Bool) (label : Z → M) (above : Z → List M) (equal : M → M → Bool) (zs : List Z) (alike : AreAlike name parents same label above equal zs) where
  -- the same events are taken
  pub version_alike : (named : List N) (labels : List M) → AreNamedAlike name parents same label above equal zs named labels → version_of name parents same zs named ≡ version_of label above equal zs labels
  version_alike named labels n = version_by name parents same label above equal zs alike.links named labels n

  -- some of the events are named alike by their own names
  pub own_names : (ws : List Z) → ((w : Z) → Among w ws → Among w zs) → AreNamedAlike name parents same label above equal zs (map name ws) (map label ws)
  own_names ws within z m =
      any_mapped name (same (name z)) ws ∙ any_alike (λ w. same (name z) (name w)) (λ w. equal (label z) (label w)) ws (λ w k. alike.names z w m (within w k)) ∙ sym (any_mapped label (equal (label z)) ws)

  -- and known alike
  pub known_alike : (named : List N) (labels : List M) → AreNamedAlike name parents same label above equal zs named labels → AreNamedAlike name parents same label above equal zs (names_known name parents same zs named) (names_known label above equal zs labels)
  known_alike named labels n z m =
      own_names (version_of name parents same zs named) (λ w k. taken_held name parents same zs named w k) z m
      ∙ ap (λ vs. is_named equal (map label vs) (label z)) (version_alike named labels n)

  -- the same events have no child
  pub heads_alike : filter (λ z. not (has_child name parents same zs (name z))) zs ≡ filter (λ z. not (has_child label above equal zs (label z))) zs
  heads_alike =
      filter_alike (λ z. not (has_child name parents same zs (name z))) (λ z. not (has_child label above equal zs (label z))) zs
      (λ z m. ap not (child_alike name parents same label above equal zs zs z alike.links (λ w k. k) m))

  pub none_below_alike : (ws : List Z) → ((w : Z) → Among w ws → Among w zs) → none_below name parents same zs (map name ws) ≡ none_below label above equal zs (map label ws)
  none_below_alike ws within =
      let apart = λ (x y : N). same x y || not (is_named same (names_known name parents same zs (x ∷ [])) y) in
      let apart' = λ (x y : M). equal x y || not (is_named equal (names_known label above equal zs (x ∷ [])) y) in
      all_mapped name (λ x. list_all (apart x) (map name ws)) ws
      ∙ pass_alike (λ w. list_all (apart (name w)) (map name ws)) (λ w. list_all (apart' (label w)) (map label ws)) ws (λ w m.
      all_mapped name (apart (name w)) ws
      ∙ pass_alike (λ v. apart (name w) (name v)) (λ v. apart' (label w) (label v)) ws (λ v k.
      let one : AreNamedAlike name parents same label above equal zs (name w ∷ []) (label w ∷ []) = λ z j. ap (λ b. b || false) (alike.names z w j (within w m)) in
      λ i. alike.names w v (within w m) (within v k) i || not (known_alike (name w ∷ []) (label w ∷ []) one v (within v k) i))
      ∙ sym (all_mapped label (apart' (label w)) ws))
      ∙ sym (all_mapped label (λ x. list_all (apart' x) (map label ws)) ws)

  pub cut_alike : (k : ℕ) → is_cut name parents same zs k ≡ is_cut label above equal zs k
  cut_alike k =
      ap (λ b. nat_le k (length zs) && b)
      (pass_alike (λ z. are_named same (names_known name parents same zs (parents z)) (map name (take k zs))) (λ z. are_named equal (names_known label above equal zs (above z)) (map label (take k zs))) (drop k zs) (λ z m.
      let known = known_alike (parents z) (above z) (λ y j. alike.links z y (among_drop k zs z m) j) in
      all_mapped name (is_named same (names_known name parents same zs (parents z))) (take k zs)
      ∙ pass_alike (λ y. is_named same (names_known name parents same zs (parents z)) (name y)) (λ y. is_named equal (names_known label above equal zs (above z)) (label y)) (take k zs) (λ y j. known y (among_take k zs y j))
      ∙ sym (all_mapped label (is_named equal (names_known label above equal zs (above z))) (take k zs))))

-- Names of one's own.
module _ {E N : Type 0} (name : E → N) (parents : E → List N) (same : N → N → Bool) where
  -- each event's name is no later one's
  abbrev pub AreDistinct : List E → Type 0
  AreDistinct [] = Unit {0}
  AreDistinct (e ∷ later) = AllByRecursion (λ f. same (name f) (name e) ≡ false) later × AreDistinct later

  pub laid_distinct : (before later : List E) → AreLaidOut name parents same before later → AreDistinct later
  laid_distinct before [] h = tt
  laid_distinct before (e ∷ later) h = (
    all_from (λ f. same (name f) (name e) ≡ false) later
        (λ f m. other_name name parents same before e (name f) (all_at (λ g. is_named same (map name (before ++ e ∷ [])) (name g) ≡ false) later f (laid_new name parents same (before ++ e ∷ []) later h.2) m)),
    laid_distinct (before ++ e ∷ []) later h.2,
  )

module _ {E N : Type 0} (name : E → N) (parents : E → List N) (same : N → N → Bool) (alike : IsEquivalence same) where
  -- then what is taken is what is known
  pub version_filtered : (events : List E) (named : List N) → AreDistinct name parents same events → version_of name parents same events named ≡ filter (λ e. is_named same (names_known name parents same events named) (name e)) events
  version_filtered [] named h = refl
  version_filtered (e ∷ later) named h =
      let taken = version_of name parents same later named in
      at (is_named same named (name e) || has_child name parents same taken (name e)) taken (version_filtered later named h.1)
      (false_from_ne_true (is_named same (map name taken) (name e)) (λ q.
      let f = event_of name parents same taken (name e) q in
      false≢true (sym (all_at (λ f. same (name f) (name e) ≡ false) later f.0 h.0 (taken_held name parents same later named f.0 f.1)) ∙ (alike.symm (name f.0) (name e) ∙ f.2))))
    where
      at : (b : Bool) (taken : List E) → taken ≡ filter (λ f. is_named same (map name taken) (name f)) later → is_named same (map name taken) (name e) ≡ false
          → cond b (e ∷ taken) taken ≡ filter (λ f. is_named same (map name (cond b (e ∷ taken) taken)) (name f)) (e ∷ later)
      at true taken ih new =
          let own : (same (name e) (name e) || is_named same (map name taken) (name e)) ≡ true = or_left (same (name e) (name e)) _ (alike.refl (name e)) in
          let rest : filter (λ f. is_named same (map name (e ∷ taken)) (name f)) later ≡ filter (λ f. is_named same (map name taken) (name f)) later =
          filter_alike (λ f. is_named same (map name (e ∷ taken)) (name f)) (λ f. is_named same (map name taken) (name f)) later
          (λ f m. ap (λ b. b || is_named same (map name taken) (name f)) (all_at (λ f. same (name f) (name e) ≡ false) later f h.0 m)) in
          ap (λ vs. e ∷ vs) (ih ∙ sym rest) ∙ sym (ap (λ b. cond b (e ∷ filter (λ f. is_named same (map name (e ∷ taken)) (name f)) later) (filter (λ f. is_named same (map name (e ∷ taken)) (name f)) later)) own)
      at false taken ih new =
          ih ∙ sym (ap (λ b. cond b (e ∷ filter (λ f. is_named same (map name taken) (name f)) later) (filter (λ f. is_named same (map name taken) (name f)) later)) new)

  -- a head is what has no child
  pub heads_tell : (events : List E) (f : E) → Among f events → is_named same (childless name parents same events) (name f) ≡ not (has_child name parents same events (name f))
  heads_tell events f m = at (has_child name parents same events (name f)) refl
    where
      child_same : (x : N) → same (name f) x ≡ true → has_child name parents same events (name f) ≡ has_child name parents same events x
      child_same x e = any_alike (λ g. is_named same (parents g) (name f)) (λ g. is_named same (parents g) x) events (λ g k. named_alike name parents same alike (parents g) (name f) x e)

      at : (b : Bool) → has_child name parents same events (name f) ≡ b → is_named same (childless name parents same events) (name f) ≡ not b
      at true e = false_from_ne_true (is_named same (childless name parents same events) (name f)) (λ q.
          let x = found_by (same (name f)) (childless name parents same events) q in
          let passed = (among_filter (λ y. not (has_child name parents same events y)) (map name events) x.0 x.1).1 in
          false≢true (ap not (sym e ∙ child_same x.0 x.2) ∙ passed))
      at false e =
          any_from (same (name f)) (childless name parents same events) (name f)
          (filter_among (λ y. not (has_child name parents same events y)) (map name events) (name f) (map_among name events f m) (ap not e)) (alike.refl (name f))

  -- Names that aren't held, and names listed twice, don't matter to what is reduced.
  pub reduced_held : (events : List E) (names : List N) → none_below name parents same events (map name (filter (λ e. is_named same names (name e)) events)) ≡ none_below name parents same events names
  reduced_held events names =
      same_truth (none_below name parents same events (map name held)) (none_below name parents same events names)
      (λ h. reduced_to name parents same events names (outward (reduced_from name parents same events (map name held) h)))
      (λ h. reduced_to name parents same events (map name held) (inward (reduced_from name parents same events names h)))
    where
      held : List E
      held = filter (λ e. is_named same names (name e)) events

      turned : (x y : N) → same x y ≡ true → same y x ≡ true
      turned x y e = alike.symm y x ∙ e

      one_known : (m m' s : N) → same m m' ≡ true → is_named same (names_known name parents same events (m ∷ [])) s ≡ is_named same (names_known name parents same events (m' ∷ [])) s
      one_known m m' s e =
          ap (λ vs. is_named same (map name vs) s)
          (version_by name parents same name parents same events (λ w z j k. refl) (m ∷ []) (m' ∷ []) (λ z k. ap (λ b. b || false) (alike.symm (name z) m ∙ alike.congr m m' (name z) e ∙ alike.symm m' (name z))))

      inward : AreReduced name parents same events names → AreReduced name parents same events (map name held)
      inward h m s im is a =
          let w = among_map name held m im in
          let v = among_map name held s is in
          let m' = found_by (same (name w.0)) names (among_filter (λ e. is_named same names (name e)) events w.0 w.1).1 in
          let s' = found_by (same (name v.0)) names (among_filter (λ e. is_named same names (name e)) events v.0 v.1).1 in
          let mm : same m m'.0 ≡ true = ap (λ x. same x m'.0) w.2 ∙ m'.2 in
          let ss : same s s'.0 ≡ true = ap (λ x. same x s'.0) v.2 ∙ s'.2 in
          let known : is_named same (names_known name parents same events (m'.0 ∷ [])) s'.0 ≡ true =
          sym (named_alike name parents same alike (names_known name parents same events (m'.0 ∷ [])) s s'.0 ss) ∙ sym (one_known m m'.0 s mm) ∙ a in
          equal_through name parents same alike m m'.0 s mm (equal_through name parents same alike m'.0 s'.0 s (h m'.0 s'.0 m'.1 s'.1 known) (turned s s'.0 ss))

      -- a name under which something is known is held
      known_name : (m s : N) → is_named same (names_known name parents same events (m ∷ [])) s ≡ true → is_named same (map name events) m ≡ true
      known_name m s a = at (is_named same (map name events) m) refl
        where
          at : (b : Bool) → is_named same (map name events) m ≡ b → b ≡ true
          at true e = refl
          at false e =
              let none : version_of name parents same events (m ∷ []) ≡ [] =
              version_none name parents same events (m ∷ []) (all_from (λ f. is_named same (m ∷ []) (name f) ≡ false) events (λ f k.
              or_from (same (name f) m) false (false_from_ne_true (same (name f) m) (λ q. false≢true (sym e ∙ any_from (same m) (map name events) (name f) (map_among name events f k) (turned (name f) m q)))) refl)) in
              ap (λ vs. is_named same (map name vs) s) (sym none) ∙ a

      outward : AreReduced name parents same events (map name held) → AreReduced name parents same events names
      outward h m s im is a =
          let w = event_of name parents same events m (known_name m s a) in
          let v = event_of name parents same events s (known_held name parents same events (m ∷ []) s a) in
          let wh : Among w.0 held = filter_among (λ e. is_named same names (name e)) events w.0 w.1 (any_from (same (name w.0)) names m im (turned m (name w.0) w.2)) in
          let vh : Among v.0 held = filter_among (λ e. is_named same names (name e)) events v.0 v.1 (any_from (same (name v.0)) names s is (turned s (name v.0) v.2)) in
          let known : is_named same (names_known name parents same events (name w.0 ∷ [])) (name v.0) ≡ true =
          sym (named_alike name parents same alike (names_known name parents same events (name w.0 ∷ [])) s (name v.0) v.2) ∙ sym (one_known m (name w.0) s w.2) ∙ a in
          equal_through name parents same alike m (name w.0) s w.2
          (equal_through name parents same alike (name w.0) (name v.0) s (h (name w.0) (name v.0) (map_among name held w.0 wh) (map_among name held v.0 vh) known) (turned s (name v.0) v.2))
