-- Which cuts stop being critical when an event is appended, for events of any kind.
use Rattle.std.proofs.Common.{◌≡◌, ℕ, zero, suc, ◌<◌, ◌≤◌, Bool, true, false, cond, ◌&&◌, ◌||◌, ◌⊎◌, inl, inr, ⊎_elim, nat_le, nat_lt, List, [], ◌∷◌, ◌++◌, map, length, take, drop, refl, sym, ap, ◌∙◌, subst, arith, append_assoc, append-nil, le-leb, le-ltb, length-append}
use Rattle.std.specs.List.{list_any, list_all}
use Rattle.std.specs.Cmp.{IsEquivalence}
use Rattle.std.proofs.lemmas.Bool.{false≢true, false_from_ne_true, and_parts, or_cases, or_left, or_parts, or_from, or_right, ltb-true, ltb-false, eq-eqb, ne_eqb, lt-ltb}
use Rattle.std.proofs.lemmas.List.{take-append-drop, length-take-le}
use Rattle.std.proofs.lemmas.List.Folds.{list_all-append}
use Rattle.std.proofs.Math.Seq.{take-append_seam, drop-append_seam}
use Rattle.ew_model.specs.Sets.{Among}
use Rattle.ew_model.specs.Graph.{is_named, are_named, version_of, names_known, none_below, is_cut}
use Rattle.ew_model.specs.CutChange.{AreInOrder, CutsChange, stays_behind, past_last, are_childless}
use Rattle.ew_model.proofs.ListTests.{any_from, found_by, passes, pass_all, pass_alike, one_fails}
use Rattle.ew_model.proofs.SetLaws.{map_among, joined_right}
use Rattle.ew_model.proofs.SortingLaws.{all_at, all_from}
use Rattle.ew_model.proofs.GraphVersions.{AreUnnamed, known_before, taken_named, taken_below}
use Rattle.ew_model.proofs.GraphOrder.{AreLaidOut, laid_point_back, laid_front, laid_behind, known_held, held-append, event_of, names_within, order_laid_out, order_behind}
use Rattle.ew_model.proofs.GraphHeads.{AreReduced, reduced_from, covers_heads}
use Rattle.ew_model.proofs.CutNumbers.{cuts_change}

and_true : (b : Bool) → (b && true) ≡ b
and_true true = refl
and_true false = refl

alone : (b : Bool) → (b || false) ≡ true → b ≡ true
alone true e = refl
alone false e = e

pub where_is : (k n : ℕ) → (k < n) ⊎ ((k ≡ n) ⊎ (n < k))
where_is k n = at (nat_lt k n) (nat_lt n k) refl refl
  where
    at : (b c : Bool) → nat_lt k n ≡ b → nat_lt n k ≡ c → (k < n) ⊎ ((k ≡ n) ⊎ (n < k))
    at true c p q = inl (ltb-true k n p)
    at false true p q = inr (inr (ltb-true n k q))
    at false false p q = inr (inl (omega (arith, ltb-false k n p, ltb-false n k q)))

-- the first element behind a front is below each further place
taken_in : {X : Type 0} (front : List X) (g : X) (rest : List X) (k : ℕ) → length front < k → Among g (take k (front ++ g ∷ rest))
taken_in [] g rest zero h = absurd (omega (arith, h))
taken_in [] g rest (suc k) h = inl refl
taken_in (x ∷ front) g rest zero h = absurd (omega (arith, h))
taken_in (x ∷ front) g rest (suc k) h = inr (taken_in front g rest k (omega (arith, h)))

module _ {E N : Type 0} (name : E → N) (parents : E → List N) (same : N → N → Bool) where
  abbrev cut : List E → ℕ → Bool
  cut events k = is_cut name parents same events k

  abbrev known : List E → List N → List N
  known events named = names_known name parents same events named

  -- the test of a cut of events in two parts
  pub cut_between : (below above : List E) → cut (below ++ above) (length below) ≡ list_all (λ f. are_named same (known (below ++ above) (parents f)) (map name below)) above
  cut_between below above =
      let long : length below ≤ length (below ++ above) = omega (arith, length-append below above) in
      λ i. le-leb (length below) (length (below ++ above)) long i
      && list_all (λ f. are_named same (known (below ++ above) (parents f)) (map name (take-append_seam below above i))) (drop-append_seam below above i)

  -- no event is below the cut 0
  pub cut_at_start : (events : List E) → cut events 0 ≡ true
  cut_at_start events = λ i. le-leb 0 (length events) (omega arith) i && pass_all (λ e. are_named same (known events (parents e)) (map name (take 0 events))) (drop 0 events) (λ e m. refl) i

  -- and none is above the whole length
  pub cut_at_end : (events : List E) → cut events (length events) ≡ true
  cut_at_end events = ap (λ w. cut w (length events)) (sym (append-nil events)) ∙ cut_between events []

  -- no event has a later one as a parent
  not_named_by : (before events : List E) (e : E) → AreLaidOut name parents same before (events ++ e ∷ []) → (f : E) → Among f events → is_named same (parents f) (name e) ≡ false
  not_named_by before [] e h f m = absurd m
  not_named_by before (y ∷ events) e h f m =
      ⊎_elim
      (λ fy. ap (λ z. is_named same (parents z) (name e)) fy ∙ all_at (λ z. is_named same (parents y) (name z) ≡ false) (y ∷ (events ++ e ∷ [])) e h.1 (inr (joined_right events (e ∷ []) e (inl refl))))
      (λ k. not_named_by (before ++ y ∷ []) events e h.2 f k)
      m

  -- one event more: the cuts up to the old length go on where its parents know all that is below
  step_at : (below above : List E) (e : E) → AreLaidOut name parents same [] ((below ++ above) ++ e ∷ [])
      → cut ((below ++ above) ++ e ∷ []) (length below) ≡ (cut (below ++ above) (length below) && are_named same (known (below ++ above) (parents e)) (map name below))
  step_at below above e laid =
      let events = below ++ above in
      let whole = events ++ e ∷ [] in
      let joined : whole ≡ below ++ (above ++ e ∷ []) = append_assoc below above (e ∷ []) in
      let knows = λ (f : E). are_named same (known whole (parents f)) (map name below) in
      let knew = λ (f : E). are_named same (known events (parents f)) (map name below) in
      let alike : (f : E) → is_named same (parents f) (name e) ≡ false → knows f ≡ knew f = λ f n. ap (λ names. are_named same names (map name below)) (known_before name parents same events (e ∷ []) (parents f) (n, tt)) in
      let old : list_all knows above ≡ list_all knew above = pass_alike knows knew above (λ f m. alike f (not_named_by [] events e laid f (joined_right below above f m))) in
      let last : AreLaidOut name parents same events (e ∷ []) = laid_behind name parents same [] events (e ∷ []) laid in
      let own : knows e ≡ knew e = alike e last.1.0 in
      ap (λ w. cut w (length below)) joined
      ∙ cut_between below (above ++ e ∷ [])
      ∙ ap (λ w. list_all (λ f. are_named same (known w (parents f)) (map name below)) (above ++ e ∷ [])) (sym joined)
      ∙ list_all-append knows above (e ∷ [])
      ∙ (λ i. old i && (own i && true))
      ∙ ap (λ b. list_all knew above && b) (and_true (knew e))
      ∙ ap (λ b. b && knew e) (sym (cut_between below above))

  step_for : (events : List E) (e : E) (k : ℕ) → AreLaidOut name parents same [] (events ++ e ∷ []) → k ≤ length events
      → cut (events ++ e ∷ []) k ≡ (cut events k && are_named same (known events (parents e)) (map name (take k events)))
  step_for events e k laid h =
      let below = take k events in
      let above = drop k events in
      subst (λ w. AreLaidOut name parents same [] (w ++ e ∷ []) → cut (w ++ e ∷ []) k ≡ (cut w k && are_named same (known w (parents e)) (map name below)))
      (take-append-drop k events)
      (λ l. subst (λ n. cut ((below ++ above) ++ e ∷ []) n ≡ (cut (below ++ above) n && are_named same (known (below ++ above) (parents e)) (map name below))) (length-take-le k events h) (step_at below above e l))
      laid

  -- how far the named events reach
  abbrev top_of : List E → List N → ℕ
  top_of events named = past_last name parents same events named

  abbrev some_named : List N → List E → Bool
  some_named named events = list_any (λ f. is_named same named (name f)) events

  pub top_within : (events : List E) (named : List N) → top_of events named ≤ length events
  top_within [] named = omega arith
  top_within (e ∷ later) named = at (is_named same named (name e) || some_named named later) (top_within later named)
    where
      at : (b : Bool) → top_of later named ≤ length later → cond b (suc (top_of later named)) 0 ≤ length (e ∷ later)
      at true h = omega (arith, h)
      at false h = omega arith

  none_of : (named : List N) (events : List E) → some_named named events ≡ false → AreUnnamed name parents same events named
  none_of named [] h = tt
  none_of named (e ∷ events) h = let parts = or_parts (is_named same named (name e)) (some_named named events) h in (parts.0, none_of named events parts.1)

  -- behind it none is named
  pub top_none : (events : List E) (named : List N) → AreUnnamed name parents same (drop (top_of events named) events) named
  top_none [] named = tt
  top_none (e ∷ later) named = at (is_named same named (name e) || some_named named later) refl (top_none later named)
    where
      at : (b : Bool) → (is_named same named (name e) || some_named named later) ≡ b → AreUnnamed name parents same (drop (top_of later named) later) named
          → AreUnnamed name parents same (drop (cond b (suc (top_of later named)) 0) (e ∷ later)) named
      at true q h = h
      at false q h = none_of named (e ∷ later) q

  -- so it is the number of events up to the last that is named
  pub top_nothing : (events : List E) (named : List N) → AreUnnamed name parents same events named → top_of events named ≡ 0
  top_nothing [] named h = refl
  top_nothing (e ∷ later) named h = ap (λ b. cond b (suc (top_of later named)) 0) (or_from (is_named same named (name e)) (some_named named later) h.0 (none later h.1))
    where
      none : (events : List E) → AreUnnamed name parents same events named → some_named named events ≡ false
      none [] k = refl
      none (f ∷ events) k = or_from (is_named same named (name f)) (some_named named events) k.0 (none events k.1)

  pub top_is : (front : List E) (g : E) (rest : List E) (named : List N) → is_named same named (name g) ≡ true → AreUnnamed name parents same rest named → top_of (front ++ g ∷ rest) named ≡ suc (length front)
  top_is [] g rest named h none =
      ap (λ b. cond b (suc (top_of rest named)) 0) (or_left (is_named same named (name g)) (some_named named rest) h) ∙ ap (λ n. suc n) (top_nothing rest named none)
  top_is (x ∷ front) g rest named h none =
      ap (λ b. cond b (suc (top_of (front ++ g ∷ rest) named)) 0)
      (or_right (is_named same named (name x)) (some_named named (front ++ g ∷ rest)) (any_from (λ f. is_named same named (name f)) (front ++ g ∷ rest) g (joined_right front (g ∷ rest) g (inl refl)) h))
      ∙ ap (λ n. suc n) (top_is front g rest named h none)

  -- from each place below it on one is named
  top_named : (events : List E) (named : List N) (k : ℕ) → k < top_of events named → (g : E) × Among g (drop k events) × (is_named same named (name g) ≡ true)
  top_named [] named k h = absurd (omega (arith, h))
  top_named (e ∷ later) named k h = at (is_named same named (name e) || some_named named later) refl k h (top_named later named)
    where
      at : (b : Bool) → (is_named same named (name e) || some_named named later) ≡ b → (k : ℕ) → k < cond b (suc (top_of later named)) 0
          → ((k : ℕ) → k < top_of later named → (g : E) × Among g (drop k later) × (is_named same named (name g) ≡ true)) → (g : E) × Among g (drop k (e ∷ later)) × (is_named same named (name g) ≡ true)
      at false q k h f = absurd (omega (arith, h))
      at true q zero h f = found_by (λ g. is_named same named (name g)) (e ∷ later) q
      at true q (suc k) h f = f k (omega (arith, h))

  -- A cut below a parent: the parent knows all below, and so does the new event.
  known_below : (events : List E) (named : List N) (k : ℕ) → AreLaidOut name parents same [] events → cut events k ≡ true → k < top_of events named → are_named same (known events named) (map name (take k events)) ≡ true
  known_below events named k laid c h =
      let g = top_named events named k h in
      let test = λ (f : E). are_named same (known events (parents f)) (map name (take k events)) in
      let knows = passes test (drop k events) g.0 (and_parts (nat_le k (length events)) (list_all test (drop k events)) c).1 g.1 in
      let here : Among g.0 events = subst (Among g.0) (take-append-drop k events) (joined_right (take k events) (drop k events) g.0 g.1) in
      let back = laid_point_back name parents same [] events laid in
      pass_all (is_named same (known events named)) (map name (take k events)) (λ x m.
      names_within name parents same (version_of name parents same events (parents g.0)) (version_of name parents same events named)
      (taken_below name parents same events named g.0 back (taken_named name parents same events named g.0 here g.2)) x (passes (is_named same (known events (parents g.0))) (map name (take k events)) x knows m))

module _ {E N : Type 0} (name : E → N) (parents : E → List N) (same : N → N → Bool) (alike : IsEquivalence same) where
  abbrev known_in : List E → List N → List N
  known_in events named = names_known name parents same events named

  -- A cut above all parents but the one right behind them: an event below it isn't known.
  unknown_above : (front rest : List E) (named : List N) (k : ℕ) → AreLaidOut name parents same [] (front ++ rest) → AreUnnamed name parents same rest named → length front < k → k ≤ length (front ++ rest)
      → are_named same (known_in (front ++ rest) named) (map name (take k (front ++ rest))) ≡ false
  unknown_above front [] named k laid none far h = let short : length (front ++ []) ≡ length front = ap (length {A = E}) (append-nil front) in absurd (omega (arith, far, h, short))
  unknown_above front (g ∷ rest) named k laid none far h =
      let fresh : is_named same (map name front) (name g) ≡ false = (laid_behind name parents same [] front (g ∷ rest) laid).0 in
      let gone : is_named same (known_in (front ++ g ∷ rest) named) (name g) ≡ false =
      ap (λ names. is_named same names (name g)) (known_before name parents same front (g ∷ rest) named none)
      ∙ false_from_ne_true (is_named same (known_in front named) (name g)) (λ e. false≢true (sym fresh ∙ known_held name parents same front named (name g) e)) in
      one_fails (is_named same (known_in (front ++ g ∷ rest) named)) (map name (take k (front ++ g ∷ rest))) (name g) (map_among name (take k (front ++ g ∷ rest)) g (taken_in front g rest k far)) gone

  -- The cut right behind the last parent.
  known_at : (front rest : List E) (named : List N) → AreLaidOut name parents same [] (front ++ rest) → AreUnnamed name parents same rest named → are_named same (map name (front ++ rest)) named ≡ true
      → none_below name parents same (front ++ rest) named ≡ true → are_named same (known_in (front ++ rest) named) (map name front) ≡ are_childless name parents same front named
  known_at front rest named laid none held reduced =
      let not_later : (x : N) → Among x named → (f : E) → Among f rest → same x (name f) ≡ true → ⊥ =
      λ x m f k e. false≢true (sym (all_at (λ f. is_named same named (name f) ≡ false) rest f none k) ∙ any_from (same (name f)) named x m (alike.symm (name f) x ∙ e)) in
      let in_front : (x : N) → Among x named → is_named same (map name front) x ≡ true = λ x m.
      ⊎_elim (λ e. e) (λ e. let f = event_of name parents same rest x e in absurd (not_later x m f.0 f.1 f.2))
      (or_cases (is_named same (map name front) x) (is_named same (map name rest) x)
      (sym (held-append name parents same front rest x) ∙ passes (is_named same (map name (front ++ rest))) named x held m)) in
      let whole = reduced_from name parents same (front ++ rest) named reduced in
      let less : AreReduced name parents same front named = λ m s im is a.
      whole m s im is (ap (λ names. is_named same names s) (known_before name parents same front rest (m ∷ [])
      (all_from (λ f. is_named same (m ∷ []) (name f) ≡ false) rest (λ f k. false_from_ne_true (is_named same (m ∷ []) (name f)) (λ e. not_later m im f k (alike.symm m (name f) ∙ alone (same (name f) m) e))))) ∙ a) in
      ap (λ names. are_named same names (map name front)) (known_before name parents same front rest named none) ∙ covers_heads name parents same alike front named (laid_front name parents same [] front rest laid) in_front less

  -- The three cases together.
  rule_at : (events : List E) (named : List N) (k : ℕ) → AreLaidOut name parents same [] events → are_named same (map name events) named ≡ true → none_below name parents same events named ≡ true → k ≤ length events
      → (k < past_last name parents same events named) ⊎ ((k ≡ past_last name parents same events named) ⊎ (past_last name parents same events named < k))
      → (is_cut name parents same events k && are_named same (known_in events named) (map name (take k events)))
      ≡ (is_cut name parents same events k && stays_behind (past_last name parents same events named) (are_childless name parents same (take (past_last name parents same events named) events) named) k)
  rule_at events named k laid held reduced h (inl low) =
      let top = past_last name parents same events named in
      under (is_cut name parents same events k) (λ c. known_below name parents same events named k laid c low ∙ sym (or_left (nat_lt k top) _ (lt-ltb k top low)))
    where
      under : (c : Bool) {x y : Bool} → (c ≡ true → x ≡ y) → (c && x) ≡ (c && y)
      under true f = f refl
      under false f = refl
  rule_at events named k laid held reduced h (inr (inl at)) =
      let top = past_last name parents same events named in
      let front = take top events in
      let rest = drop top events in
      let whole : front ++ rest ≡ events = take-append-drop top events in
      let rule : are_named same (known_in events named) (map name front) ≡ are_childless name parents same front named =
      subst (λ w. AreLaidOut name parents same [] w → are_named same (map name w) named ≡ true → none_below name parents same w named ≡ true → are_named same (known_in w named) (map name front) ≡ are_childless name parents same front named) whole
      (λ l q r. known_at front rest named l (top_none name parents same events named) q r) laid held reduced in
      ap (λ b. is_cut name parents same events k && b)
      (ap (λ n. are_named same (known_in events named) (map name (take n events))) at ∙ rule
      ∙ sym ((λ i. le-ltb k top (omega (arith, at)) i || (eq-eqb k top at i && are_childless name parents same front named))))
  rule_at events named k laid held reduced h (inr (inr high)) =
      let top = past_last name parents same events named in
      let front = take top events in
      let rest = drop top events in
      let whole : front ++ rest ≡ events = take-append-drop top events in
      let long : length front ≡ top = length-take-le top events (top_within name parents same events named) in
      let gone : are_named same (known_in events named) (map name (take k events)) ≡ false =
      subst (λ w. AreLaidOut name parents same [] w → k ≤ length w → are_named same (known_in w named) (map name (take k w)) ≡ false) whole
      (λ l q. unknown_above front rest named k l (top_none name parents same events named) (omega (arith, high, long)) q) laid h in
      ap (λ b. is_cut name parents same events k && b)
      (gone ∙ sym ((λ i. le-ltb k top (omega (arith, high)) i || (ne_eqb k top (λ q. omega (arith, q, high)) i && are_childless name parents same front named))))

  -- THE RULE, for events that are laid out.
  pub cut_step : (events : List E) (e : E) (k : ℕ) → AreLaidOut name parents same [] (events ++ e ∷ []) → are_named same (map name events) (parents e) ≡ true → none_below name parents same events (parents e) ≡ true → k ≤ length events
      → is_cut name parents same (events ++ e ∷ []) k
      ≡ (is_cut name parents same events k && stays_behind (past_last name parents same events (parents e)) (are_childless name parents same (take (past_last name parents same events (parents e)) events) (parents e)) k)
  cut_step events e k laid held reduced h =
      step_for name parents same events e k laid h ∙ rule_at events (parents e) k (laid_front name parents same [] events (e ∷ []) laid) held reduced h (where_is k (past_last name parents same events (parents e)))

  -- The law of cuts.
  -- Where parents stand before their children, and none of the new event's parents is an ancestor of another, the cuts are
  -- those that stay, and the new whole length.
  pub cuts_follow : (events : List E) (e : E) → AreInOrder name parents same [] (events ++ e ∷ []) → none_below name parents same events (parents e) ≡ true
      → CutsChange (is_cut name parents same) events e (past_last name parents same events (parents e)) (are_childless name parents same (take (past_last name parents same events (parents e)) events) (parents e))
  cuts_follow events e order reduced =
      let held = (order_behind name parents same [] events (e ∷ []) order).1 in
      let laid = order_laid_out name parents same alike [] (events ++ e ∷ []) order in
      cuts_change (is_cut name parents same) events e (past_last name parents same events (parents e)) _ (top_within name parents same events (parents e)) (cut_at_start name parents same) (cut_at_end name parents same)
      (λ k h. cut_step events e k laid held reduced h)
