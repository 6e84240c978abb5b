-- One walk from the highest pending position down.
use Rattle.std.proofs.Common.{◌≡◌, ℕ, suc, ◌+◌, ◌-◌, ◌<◌, ◌≤◌, ◌⊎◌, inl, inr, Bool, true, false, not, cond, ◌&&◌, ◌||◌, nat_le, nat_eq, List, [], ◌∷◌, ◌++◌, flat_map, take, drop, slice_index_or, length, reverse, All, refl, sym, ap, ◌∙◌, subst, arith, append-nil, append_assoc, ne_eqb}
use Rattle.std.specs.List.{list_any, list_all, range_with_len}
use Rattle.std.specs.List.Sorted.{IsStrictlyIncreasing}
use Rattle.std.proofs.lemmas.Bool.{false≢true, false_from_ne_true, le-leb, leb-true, leb-false, eqb-false, and_parts, or_left, or_right}
use Rattle.std.proofs.lemmas.List.{nil_from_length, take_all, reverse-reverse, reverse-append}
use Rattle.std.proofs.lemmas.List.Elements.{All-append, recursion_from_All}
use Rattle.std.proofs.lemmas.List.FromFn.{length-range_with_len, get_or-range_with_len}
use Rattle.ew_model.specs.Sets.{Among}
use Rattle.ew_model.specs.Graph.{is_named}
use Rattle.ew_model.specs.Positions.{parents_at, IsHistoryOfParents, known_positions, is_known_at, is_reduced_at}
use Rattle.ew_model.proofs.ListTests.{any_from, found_by, pass_all, pass_alike, one_fails}
use Rattle.ew_model.proofs.RisingLists.{rise_of, named_low, number_among}
use Rattle.ew_model.proofs.SetLaws.{among_flat}
use Rattle.ew_model.proofs.SortingLaws.{all_at}
use Rattle.ew_model.proofs.PositionWalk.{taken, taken_agree, taken_none, walk_takes, after_taking}
use Rattle.ew_model.proofs.PositionSides.{any_reversed, not_taken}
use Rattle.ew_model.proofs.PositionReduced.{known_joined, reduced_by_parents}
use Rattle.frontier.specs.Chains.{IsChain}
use Rattle.ancestors.specs.Sides.{AgreeFrom}
use Rattle.ancestors.proofs.Chains.{Reached, Stretch, stretch_of, stretch_lessens, stretch_within, taken_there, taken_beside}

-- WHAT LIES BELOW A FLOOR LEADS TO NOTHING ABOVE IT

-- nothing is taken that isn't a position there
taken_short : (r : List (List ℕ)) (pending : ℕ → Bool) (p : ℕ) → length r ≤ p → is_named nat_eq (taken r pending) p ≡ false
taken_short [] pending p l = refl
taken_short (ps ∷ r) pending p l = at (pending (length r)) (λ S. taken_short r S p (omega (arith, l)))
  where
    at : (b : Bool) → ((S : ℕ → Bool) → is_named nat_eq (taken r S) p ≡ false) → is_named nat_eq (cond b (length r ∷ taken r (λ q. pending q || is_named nat_eq ps q)) (taken r pending)) p ≡ false
    at true later = ap (λ b. b || is_named nat_eq (taken r (λ q. pending q || is_named nat_eq ps q)) p) (ne_eqb p (length r) (λ e. omega (arith, l, e))) ∙ later (λ q. pending q || is_named nat_eq ps q)
    at false later = later pending

-- tests that agree from the floor on take the same from there on
pub taken_from : (r : List (List ℕ)) (floor : ℕ) (S T : ℕ → Bool) → AgreeFrom floor S T → (p : ℕ) → floor ≤ p → is_named nat_eq (taken r S) p ≡ is_named nat_eq (taken r T) p
taken_from [] floor S T h p l = refl
taken_from (ps ∷ r) floor S T h p l = by (nat_le floor (length r)) refl (λ S T k. taken_from r floor S T k p l)
  where
    by : (b : Bool) → nat_le floor (length r) ≡ b → ((S T : ℕ → Bool) → AgreeFrom floor S T → is_named nat_eq (taken r S) p ≡ is_named nat_eq (taken r T) p) → is_named nat_eq (taken (ps ∷ r) S) p ≡ is_named nat_eq (taken (ps ∷ r) T) p
    by true q later = at (S (length r)) (T (length r)) (h (length r) (leb-true floor (length r) q))
      where
        at : (b c : Bool) → b ≡ c → is_named nat_eq (cond b (length r ∷ taken r (λ q. S q || is_named nat_eq ps q)) (taken r S)) p ≡ is_named nat_eq (cond c (length r ∷ taken r (λ q. T q || is_named nat_eq ps q)) (taken r T)) p
        at true true e = ap (λ b. nat_eq p (length r) || b) (later (λ q. S q || is_named nat_eq ps q) (λ q. T q || is_named nat_eq ps q) (λ q k. ap (λ b. b || is_named nat_eq ps q) (h q k)))
        at true false e = absurd (false≢true (sym e))
        at false true e = absurd (false≢true e)
        at false false e = later S T h
    by false q later =
        let low = leb-false floor (length r) q in
        let short : length (ps ∷ r) ≤ p = omega (arith, low, l) in
        taken_short (ps ∷ r) S p short ∙ sym (taken_short (ps ∷ r) T p short)

-- what passes more takes as much or more
taken_fewer : (r : List (List ℕ)) (S T : ℕ → Bool) → ((q : ℕ) → S q ≡ true → T q ≡ true) → length (taken r S) ≤ length (taken r T)
taken_fewer [] S T h = omega arith
taken_fewer (ps ∷ r) S T h = at (S (length r)) (T (length r)) (h (length r)) (λ S T k. taken_fewer r S T k)
  where
    wider : (a b c : Bool) → (a ≡ true → b ≡ true) → (a || c) ≡ true → (b || c) ≡ true
    wider true b c k e = or_left b c (k refl)
    wider false b c k e = or_right b c e

    at : (b c : Bool) → (b ≡ true → c ≡ true) → ((S T : ℕ → Bool) → ((q : ℕ) → S q ≡ true → T q ≡ true) → length (taken r S) ≤ length (taken r T))
        → length (cond b (length r ∷ taken r (λ q. S q || is_named nat_eq ps q)) (taken r S)) ≤ length (cond c (length r ∷ taken r (λ q. T q || is_named nat_eq ps q)) (taken r T))
    at true true k later = let more = later (λ q. S q || is_named nat_eq ps q) (λ q. T q || is_named nat_eq ps q) (λ q e. wider (S q) (T q) (is_named nat_eq ps q) (h q) e) in omega (arith, more)
    at true false k later = absurd (false≢true (k refl))
    at false true k later = let more = later S (λ q. T q || is_named nat_eq ps q) (λ q e. or_left (T q) (is_named nat_eq ps q) (h q e)) in omega (arith, more)
    at false false k later = later S T h

-- A walk takes the highest position off what is pending, and goes down a chain to it that lies above all the others. It
-- puts in those parents of the first event that aren't below the floor.
pub record Going (history : List (List ℕ)) (floor first n : ℕ) (old mid new : ℕ → Bool) : Type 0 where
  pub within : n < length history
  pub here : old n ≡ true
  pub top : (q : ℕ) → old q ≡ true → q ≤ n
  pub without : (q : ℕ) → mid q ≡ cond (nat_eq n q) false (old q)
  pub chain : IsChain history first n
  pub above : (q : ℕ) → mid q ≡ true → q < first
  pub with : (q : ℕ) → new q ≡ (mid q || (nat_le floor q && is_named nat_eq (parents_at history first) q))

-- what is left once the highest was taken off lies below it
pub rest_below : (old mid : ℕ → Bool) (n : ℕ) → ((q : ℕ) → old q ≡ true → q ≤ n) → ((q : ℕ) → mid q ≡ cond (nat_eq n q) false (old q)) → (q : ℕ) → mid q ≡ true → q < n
rest_below old mid n top without q e = at (nat_eq n q) refl
  where
    at : (b : Bool) → nat_eq n q ≡ b → q < n
    at true f = absurd (false≢true (sym (without q ∙ ap (λ b. cond b false (old q)) f) ∙ e))
    at false f =
        let low = top q (sym (without q ∙ ap (λ b. cond b false (old q)) f) ∙ e) in
        let ne = eqb-false n q f in
        omega (arith, low, ne)

module _ (history : List (List ℕ)) (good : IsHistoryOfParents history) (floor first n : ℕ) (old mid new : ℕ → Bool) (g : Going history floor first n old mid new) where
  -- the walk has come to it
  pub going_reached : Reached history first n old
  going_reached = record {
    within = g.within;
    chain = g.chain;
    here = g.here;
    above = λ m l. false_from_ne_true (old m) (λ e. let low = g.top m e in omega (arith, low, l));
    clear = λ m low high. false_from_ne_true (old m) (λ e. let less = g.above m (g.without m ∙ ap (λ b. cond b false (old m)) (ne_eqb n m (λ s. omega (arith, s, high))) ∙ e) in omega (arith, less, low));
  }

  -- what is pending where all the parents are put in
  abbrev whole : ℕ → Bool
  whole = after_taking old (parents_at history first) n

  whole_stretch : Stretch history first n old whole
  whole_stretch = stretch_of history good first n old whole going_reached (λ m. refl)

  from_floor : AgreeFrom floor new whole
  from_floor q l = g.with q ∙ (λ i. g.without q i || ((le-leb floor q l ∙ sym g.here) i && is_named nat_eq (parents_at history first) q))

  part_of_whole : (q : ℕ) → new q ≡ true → whole q ≡ true
  part_of_whole q e =
      ap (λ b. cond (nat_eq n q) false (old q) || (b && is_named nat_eq (parents_at history first) q)) g.here
      ∙ ap (λ b. b || is_named nat_eq (parents_at history first) q) (sym (g.without q))
      ∙ all_of (mid q) (nat_le floor q) (is_named nat_eq (parents_at history first) q) (sym (g.with q) ∙ e)
    where
      all_of : (a b c : Bool) → (a || (b && c)) ≡ true → (a || c) ≡ true
      all_of true b c k = refl
      all_of false true c k = k
      all_of false false c k = absurd (false≢true k)

  -- where nothing lies below the floor
  pub going_whole : floor ≡ 0 → Stretch history first n old new
  going_whole none = stretch_of history good first n old new going_reached (λ q. from_floor q (omega (arith, none)))

  -- there is less to take
  pub going_lessens : length (taken (reverse history) new) < length (taken (reverse history) old)
  going_lessens =
      let part = taken_fewer (reverse history) new whole part_of_whole in
      let less = stretch_lessens history first n old whole whole_stretch in
      omega (arith, part, less)

  going_within : (q : ℕ) → new q ≡ true → q < length history
  going_within q e = stretch_within history first n old whole whole_stretch g.within q (part_of_whole q e)

  -- another position that isn't below the floor is taken later or not at all
  going_beside : (p : ℕ) → floor ≤ p → (p < first) ⊎ (n < p) → is_named nat_eq (taken (reverse history) new) p ≡ is_named nat_eq (taken (reverse history) old) p
  going_beside p l off = taken_from (reverse history) floor new whole from_floor p l ∙ taken_beside history first n p old whole whole_stretch off

-- what a walk that begins with these positions takes
pub start_takes : (history : List (List ℕ)) (version : List ℕ) (pending : ℕ → Bool) → ((q : ℕ) → pending q ≡ is_named nat_eq version q)
    → taken (reverse history) pending ≡ reverse (known_positions history version)
start_takes history version pending same = taken_agree (reverse history) pending (is_named nat_eq version) (λ q l. same q) ∙ walk_takes history version

pub start_knows : (history : List (List ℕ)) (version : List ℕ) (pending : ℕ → Bool) (p : ℕ) → ((q : ℕ) → pending q ≡ is_named nat_eq version q)
    → is_named nat_eq (taken (reverse history) pending) p ≡ is_known_at history version p
start_knows history version pending p same = ap (λ ps. is_named nat_eq ps p) (start_takes history version pending same) ∙ any_reversed (nat_eq p) (known_positions history version)

-- ALL THAT A VERSION KNOWS

-- What was found and what the walk still takes are the version; all that is pending lies below what was found.
pub record Closing (history : List (List ℕ)) (version : List ℕ) (pending : ℕ → Bool) (found : List ℕ) : Type 0 where
  pub whole : reverse found ++ taken (reverse history) pending ≡ reverse (known_positions history version)
  pub within : (q : ℕ) → pending q ≡ true → q < length history
  pub lower : (q : ℕ) → pending q ≡ true → All (λ p. q < p) found

none_in_all : (P : ℕ → Type 0) → All P []
none_in_all P k d l = absurd (omega (arith, l))

pub start_within : (history : List (List ℕ)) (version : List ℕ) (pending : ℕ → Bool) → All (λ v. v < length history) version → ((q : ℕ) → pending q ≡ is_named nat_eq version q)
    → (q : ℕ) → pending q ≡ true → q < length history
start_within history version pending low same q e = named_low version (length history) q low (sym (same q) ∙ e)

pub closing_starts : (history : List (List ℕ)) (version : List ℕ) (pending : ℕ → Bool) → All (λ v. v < length history) version → ((q : ℕ) → pending q ≡ is_named nat_eq version q) → Closing history version pending []
closing_starts history version pending low same = record {
  whole = start_takes history version pending same;
  within = start_within history version pending low same;
  lower = λ q e. none_in_all (λ p. q < p);
}

pub closing_goes : (history : List (List ℕ)) (version found : List ℕ) (first n : ℕ) (old new : ℕ → Bool) → Stretch history first n old new → old n ≡ true → Closing history version old found
    → Closing history version new (range_with_len first (n + 1 - first) ++ found)
closing_goes history version found first n old new t at h =
    let chain : List ℕ = range_with_len first (n + 1 - first) in
    record {
      whole = ap (λ ps. ps ++ taken (reverse history) new) (reverse-append chain found) ∙ append_assoc (reverse found) (reverse chain) (taken (reverse history) new) ∙ ap (λ ps. reverse found ++ ps) (sym t.walk) ∙ h.whole;
      within = stretch_within history first n old new t (h.within n at);
      lower = λ q e.
          let low = t.below q e in
          All-append (λ p. q < p) chain found
          (λ k d l. let long = length-range_with_len first (n + 1 - first) in let at = get_or-range_with_len first (n + 1 - first) k d (omega (arith, l, long)) in omega (arith, low, at))
          (λ k d l. let high = h.lower n at k d l in let order = t.order in omega (arith, low, high, order));
    }

pub closing_ends : (history : List (List ℕ)) (version found : List ℕ) (pending : ℕ → Bool) → ((q : ℕ) → pending q ≡ false) → Closing history version pending found → found ≡ known_positions history version
closing_ends history version found pending none h =
    sym (reverse-reverse found)
    ∙ ap reverse (sym (append-nil (reverse found)) ∙ ap (λ ps. reverse found ++ ps) (sym (taken_none (reverse history) pending (λ m l. none m))) ∙ h.whole)
    ∙ reverse-reverse (known_positions history version)

-- WHETHER A POSITION IS KNOWN

pub record Seeking (history : List (List ℕ)) (version : List ℕ) (sought : ℕ) (pending : ℕ → Bool) : Type 0 where
  pub same : is_named nat_eq (taken (reverse history) pending) sought ≡ is_known_at history version sought
  pub within : (q : ℕ) → pending q ≡ true → q < length history
  pub high : (q : ℕ) → pending q ≡ true → sought ≤ q

pub seeking_starts : (history : List (List ℕ)) (version : List ℕ) (sought : ℕ) (pending : ℕ → Bool) → All (λ v. v < length history) version
    → ((q : ℕ) → pending q ≡ (nat_le sought q && is_named nat_eq version q)) → Seeking history version sought pending
seeking_starts history version sought pending low from = record {
  same =
      taken_from (reverse history) sought pending (is_named nat_eq version) (λ q l. from q ∙ ap (λ b. b && is_named nat_eq version q) (le-leb sought q l)) sought (omega arith)
      ∙ start_knows history version (is_named nat_eq version) sought (λ q. refl);
  within = λ q e. start_within history version (is_named nat_eq version) low (λ q. refl) q (and_parts (nat_le sought q) (is_named nat_eq version q) (sym (from q) ∙ e)).1;
  high = λ q e. leb-true sought q (and_parts (nat_le sought q) (is_named nat_eq version q) (sym (from q) ∙ e)).0;
}

pub seeking_goes : (history : List (List ℕ)) → IsHistoryOfParents history → (version : List ℕ) (sought first n : ℕ) (old mid new : ℕ → Bool) → Going history sought first n old mid new → sought < first → Seeking history version sought old
    → Seeking history version sought new
seeking_goes history good version sought first n old mid new g low h = record {
  same = going_beside history good sought first n old mid new g sought (omega arith) (inl low) ∙ h.same;
  within = going_within history good sought first n old mid new g;
  high = λ q e. at q (mid q) (nat_le sought q) refl refl (sym (g.with q) ∙ e);
}
  where
    at : (q : ℕ) (a b : Bool) → mid q ≡ a → nat_le sought q ≡ b → (a || (b && is_named nat_eq (parents_at history first) q)) ≡ true → sought ≤ q
    at q true b f l e = h.high q (was (nat_eq n q) (sym (g.without q) ∙ f))
      where
        was : (c : Bool) → cond c false (old q) ≡ true → old q ≡ true
        was true k = absurd (false≢true k)
        was false k = k
    at q false true f l e = leb-true sought q l
    at q false false f l e = absurd (false≢true e)

pub seeking_passes : (history : List (List ℕ)) → IsHistoryOfParents history → (version : List ℕ) (sought first n : ℕ) (pending : ℕ → Bool) → Reached history first n pending → first ≤ sought → sought ≤ n → Seeking history version sought pending
    → true ≡ is_known_at history version sought
seeking_passes history good version sought first n pending r low high h = sym (taken_there history good first n sought pending r low high) ∙ h.same

pub seeking_misses : (history : List (List ℕ)) → IsHistoryOfParents history → (version : List ℕ) (sought : ℕ) (pending : ℕ → Bool) → ((q : ℕ) → pending q ≡ false) → Seeking history version sought pending → false ≡ is_known_at history version sought
seeking_misses history good version sought pending none h = sym (not_taken history good pending sought (λ q e. absurd (false≢true (sym (none q) ∙ e)))) ∙ h.same

-- WHETHER POSITIONS ARE REDUCED

pub record Comparing (history : List (List ℕ)) (positions above : List ℕ) (pending : ℕ → Bool) : Type 0 where
  pub same : (p : ℕ) → Among p positions → is_named nat_eq (taken (reverse history) pending) p ≡ is_known_at history (flat_map (parents_at history) above) p
  pub within : (q : ℕ) → pending q ≡ true → q < length history

comparing_starts : (history : List (List ℕ)) → IsHistoryOfParents history → (positions above : List ℕ) (floor : ℕ) (pending : ℕ → Bool) → All (λ p. p < length history) above → ((p : ℕ) → Among p positions → floor ≤ p)
    → ((q : ℕ) → pending q ≡ (nat_le floor q && is_named nat_eq (flat_map (parents_at history) above) q)) → Comparing history positions above pending
comparing_starts history good positions above floor pending low least from = record {
  same = λ p m.
      taken_from (reverse history) floor pending (is_named nat_eq (flat_map (parents_at history) above)) (λ q l. from q ∙ ap (λ b. b && is_named nat_eq (flat_map (parents_at history) above) q) (le-leb floor q l)) p (least p m)
      ∙ start_knows history (flat_map (parents_at history) above) (is_named nat_eq (flat_map (parents_at history) above)) p (λ q. refl);
  within = λ q e. lows above low q (and_parts (nat_le floor q) (is_named nat_eq (flat_map (parents_at history) above) q) (sym (from q) ∙ e)).1;
}
  where
    lows : (above : List ℕ) → All (λ p. p < length history) above → (q : ℕ) → is_named nat_eq (flat_map (parents_at history) above) q ≡ true → q < length history
    lows above low q e =
        let found = among_flat (parents_at history) above q (number_among (flat_map (parents_at history) above) q e) in
        let upper : found.0 < length history = all_at (λ p. p < length history) above found.0 (recursion_from_All (λ p. p < length history) above low) found.1 in
        let less : q < found.0 = all_at (λ p. p < found.0) (parents_at history found.0) q (recursion_from_All (λ p. p < found.0) (parents_at history found.0) (good found.0 upper).lower) found.2 in
        omega (arith, upper, less)

-- the chain from one position to another
abbrev pub in_chain : ℕ → ℕ → ℕ → Bool
in_chain first n p = nat_le first p && nat_le p n

-- positions none of which is in the chain lie beside it
beside : (positions : List ℕ) (first n : ℕ) → list_any (in_chain first n) positions ≡ false → (p : ℕ) → Among p positions → (p < first) ⊎ (n < p)
beside positions first n none p m = at (nat_le first p) refl (nat_le p n) refl
  where
    at : (b : Bool) → nat_le first p ≡ b → (c : Bool) → nat_le p n ≡ c → (p < first) ⊎ (n < p)
    at false e c f = inl (leb-false first p e)
    at true e false f = inr (leb-false p n f)
    at true e true f = absurd (false≢true (sym none ∙ any_from (in_chain first n) positions p m (λ i. e i && f i)))

comparing_goes : (history : List (List ℕ)) → IsHistoryOfParents history → (positions above : List ℕ) (floor first n : ℕ) (old mid new : ℕ → Bool) → ((p : ℕ) → Among p positions → floor ≤ p)
    → Going history floor first n old mid new → list_any (in_chain first n) positions ≡ false → Comparing history positions above old → Comparing history positions above new
comparing_goes history good positions above floor first n old mid new least g none h = record {
  same = λ p m. going_beside history good floor first n old mid new g p (least p m) (beside positions first n none p m) ∙ h.same p m;
  within = going_within history good floor first n old mid new g;
}

-- the parents of the lowest position know none of the positions
module _ (history : List (List ℕ)) (good : IsHistoryOfParents history) (lowest : ℕ) (others : List ℕ) (rising : IsStrictlyIncreasing (lowest ∷ others)) (within : All (λ p. p < length history) (lowest ∷ others)) where
  at_least : (p : ℕ) → Among p (lowest ∷ others) → lowest ≤ p
  at_least p (inl e) = omega (arith, e)
  at_least p (inr m) = let less : lowest < p = all_at (λ q. lowest < q) others p (rise_of (lowest ∷ others) rising).0 m in omega (arith, less)

  lowest_within : lowest < length history
  lowest_within = within 0 0 (omega arith)

  lowest_knows_none : (p : ℕ) → Among p (lowest ∷ others) → is_known_at history (parents_at history lowest) p ≡ false
  lowest_knows_none p m =
      sym (start_knows history (parents_at history lowest) (is_named nat_eq (parents_at history lowest)) p (λ q. refl))
      ∙ not_taken history good (is_named nat_eq (parents_at history lowest)) p (λ q e. let less = named_low (parents_at history lowest) lowest q (good lowest lowest_within).lower e in let least = at_least p m in omega (arith, less, least))

  by_others : is_reduced_at history (lowest ∷ others) ≡ list_all (λ p. not (is_known_at history (flat_map (parents_at history) others) p)) (lowest ∷ others)
  by_others =
      reduced_by_parents history good (lowest ∷ others) within
      ∙ pass_alike (λ p. not (is_known_at history (parents_at history lowest ++ flat_map (parents_at history) others) p)) (λ p. not (is_known_at history (flat_map (parents_at history) others) p)) (lowest ∷ others)
      (λ p m. ap not (known_joined history good (parents_at history lowest) (flat_map (parents_at history) others) p ∙ ap (λ b. b || is_known_at history (flat_map (parents_at history) others) p) (lowest_knows_none p m)))

  -- one that the walk takes is an ancestor of another
  comparing_finds : (p : ℕ) (pending : ℕ → Bool) → Among p (lowest ∷ others) → is_named nat_eq (taken (reverse history) pending) p ≡ true → Comparing history (lowest ∷ others) others pending → false ≡ is_reduced_at history (lowest ∷ others)
  comparing_finds p pending m there h =
      sym (by_others ∙ one_fails (λ p. not (is_known_at history (flat_map (parents_at history) others) p)) (lowest ∷ others) p m (ap not (sym (h.same p m) ∙ there)))

  -- and where nothing is pending none is
  comparing_misses : (pending : ℕ → Bool) → ((q : ℕ) → pending q ≡ false) → Comparing history (lowest ∷ others) others pending → true ≡ is_reduced_at history (lowest ∷ others)
  comparing_misses pending none h =
      sym (by_others ∙ pass_all (λ p. not (is_known_at history (flat_map (parents_at history) others) p)) (lowest ∷ others)
      (λ p m. ap not (sym (h.same p m) ∙ not_taken history good pending p (λ q e. absurd (false≢true (sym (none q) ∙ e))))))

-- The same of positions that were split into the lowest and the others.
module _ (history : List (List ℕ)) (good : IsHistoryOfParents history) (positions : List ℕ) (lowest : ℕ) (others : List ℕ) (split : positions ≡ lowest ∷ others) (rising : IsStrictlyIncreasing positions) (within : All (λ p. p < length history) positions) where
  abbrev Judged : (ℕ → Bool) → Bool → List ℕ → Type 0
  Judged pending answer ps = IsStrictlyIncreasing ps → All (λ p. p < length history) ps → Comparing history ps (drop 1 ps) pending → answer ≡ is_reduced_at history ps

  pub reduced_starts : (pending : ℕ → Bool) (place : ℕ) → length others ≤ place → ((q : ℕ) → pending q ≡ (nat_le lowest q && is_named nat_eq (flat_map (parents_at history) (take place others)) q))
      → Comparing history positions (drop 1 positions) pending
  reduced_starts pending place all put =
      let from : (q : ℕ) → pending q ≡ (nat_le lowest q && is_named nat_eq (flat_map (parents_at history) others) q) =
      λ q. put q ∙ ap (λ ps. nat_le lowest q && is_named nat_eq (flat_map (parents_at history) ps) q) (take_all place others all) in
      subst (λ ps. IsStrictlyIncreasing ps → All (λ p. p < length history) ps → Comparing history ps (drop 1 ps) pending) (sym split)
      (λ r low. comparing_starts history good (lowest ∷ others) others lowest pending (λ k d l. low (suc k) d (omega (arith, l))) (at_least history good lowest others r low) from)
      rising within

  pub reduced_goes : (first n : ℕ) (old mid new : ℕ → Bool) → Going history lowest first n old mid new → list_any (in_chain first n) positions ≡ false → Comparing history positions (drop 1 positions) old
      → Comparing history positions (drop 1 positions) new
  reduced_goes first n old mid new g none =
      subst (λ ps. IsStrictlyIncreasing ps → All (λ p. p < length history) ps → list_any (in_chain first n) ps ≡ false → Comparing history ps (drop 1 ps) old → Comparing history ps (drop 1 ps) new) (sym split)
      (λ r low e. comparing_goes history good (lowest ∷ others) others lowest first n old mid new (at_least history good lowest others r low) g e)
      rising within none

  pub reduced_finds : (first n : ℕ) (pending : ℕ → Bool) → Reached history first n pending → list_any (in_chain first n) positions ≡ true → Comparing history positions (drop 1 positions) pending → false ≡ is_reduced_at history positions
  reduced_finds first n pending r e =
      let found = found_by (in_chain first n) positions e in
      let parts = and_parts (nat_le first found.0) (nat_le found.0 n) found.2 in
      let low = leb-true first found.0 parts.0 in
      let high = leb-true found.0 n parts.1 in
      let there = taken_there history good first n found.0 pending r low high in
      subst (λ ps. Among found.0 ps → Judged pending false ps) (sym split) (λ m r w h. comparing_finds history good lowest others r w found.0 pending m there h) found.1 rising within

  pub other_within : (place : ℕ) → place < length others → slice_index_or others place 0 < length history
  other_within place l = subst (λ ps. All (λ p. p < length history) ps → slice_index_or others place 0 < length history) (sym split) (λ low. low (suc place) 0 (omega (arith, l))) within

  pub reduced_misses : (pending : ℕ → Bool) → ((q : ℕ) → pending q ≡ false) → Comparing history positions (drop 1 positions) pending → true ≡ is_reduced_at history positions
  reduced_misses pending none = subst (Judged pending true) (sym split) (λ r w h. comparing_misses history good lowest others r w pending none h) rising within

-- no positions are reduced
pub none_reduced : (history : List (List ℕ)) (positions : List ℕ) → length positions ≡ 0 → true ≡ is_reduced_at history positions
unfolding is_reduced_at
none_reduced history positions none = ap (is_reduced_at history) (sym (nil_from_length positions none))
