-- The critical cuts of the front of a history that ends at a critical cut.
use Rattle.std.proofs.Common.{◌≡◌, ℕ, zero, suc, ◌+◌, ◌<◌, ◌≤◌, Bool, true, false, cond, ◌&&◌, ◌⊎◌, inl, inr, ⊎_elim, nat_eq, nat_lt, List, [], ◌∷◌, ◌++◌, length, map, filter, take, drop, refl, sym, ap, ◌∙◌, subst, arith, append-nil, append_assoc, le-ltb, lt-ltb}
use Rattle.std.specs.List.{list_all, AllByRecursion, take-map}
use Rattle.std.specs.Cmp.Lexicographic.{pointwise}
use Rattle.std.proofs.Math.Seq.{take-length}
use Rattle.std.proofs.lemmas.Bool.{true≢false, false_from_ne_true, and_parts, ltb-true}
use Rattle.std.proofs.lemmas.List.{map-append, length-take-le, take-take, take-append-drop, take_more}
use Rattle.std.proofs.lemmas.List.Elements.{filter-append, recursion_from_All}
use Rattle.std.proofs.lemmas.List.Folds.{list_all-append}
use Rattle.ew_model.specs.Sets.{Among}
use Rattle.ew_model.specs.Graph.{is_named, are_named, names_known, is_cut, passing_to}
use Rattle.ew_model.specs.CutChange.{stays_behind}
use Rattle.ew_model.specs.Positions.{AreParents, IsHistoryOfParents, EventAt, events_from, parents_at, frontier_of, is_reduced_at, is_cut_at, cuts_at}
use Rattle.ew_model.specs.PositionCuts.{past_parents, is_frontier}
use Rattle.ew_model.proofs.GraphCuts.{cut_between}
use Rattle.ew_model.proofs.GraphVersions.{AreUnnamed, known_before}
use Rattle.ew_model.proofs.ListTests.{pass_all, pass_alike, passes, filter_alike, filter_twice, same_truth}
use Rattle.ew_model.proofs.PositionCuts.{cut_step_at, past_within}
use Rattle.ew_model.proofs.PositionEvents.{AreHistoryFrom, position_of, parents_of, events_from-append, length-events_from, position_low, history_from, history_to}
use Rattle.ew_model.proofs.RisingLists.{number_among, pointwise_same}
use Rattle.ew_model.proofs.SetLaws.{joined_right, among_filter}
use Rattle.ew_model.proofs.SortingLaws.{all_at, all_from}
use Rattle.critical.specs.KeptCuts.{inner_cuts, heads_below, kept_for}
use Rattle.critical.proofs.Searching.{stays_at, stops_high}

-- a history begins with a history
front_history : (n : ℕ) (front later : List (List ℕ)) → AreHistoryFrom n (front ++ later) → AreHistoryFrom n front
front_history n [] later h = tt
front_history n (parents ∷ front) later h = (h.0, front_history (suc n) front later h.1)

-- the parents of its events stand in it
parents_inside : (n : ℕ) (front : List (List ℕ)) → AreHistoryFrom n front → (e : EventAt) → Among e (events_from n front) → (p : ℕ) → Among p e.parents → p < n + length front
parents_inside n [] h e m p k = absurd m
parents_inside n (parents ∷ front) h e m p k =
    ⊎_elim
    (λ first. let low = all_at (λ q. q < n) parents p (recursion_from_All (λ q. q < n) parents h.0.lower) (subst (Among p) (ap parents_of first) k) in omega (arith, low))
    (λ later. let low = parents_inside (suc n) front h.1 e later p k in omega (arith, low))
    m

module _ (below between later : List (List ℕ)) (good : IsHistoryOfParents ((below ++ between) ++ later)) where
  abbrev front : List (List ℕ)
  front = below ++ between

  abbrev before : List EventAt
  before = events_from 0 below

  abbrev inside : List EventAt
  inside = events_from (0 + length below) between

  abbrev behind : List EventAt
  behind = events_from (0 + length front) later

  -- the event knows all events below, where these are the events
  abbrev knows : List EventAt → List EventAt → EventAt → Bool
  knows events low e = are_named nat_eq (names_known position_of parents_of nat_eq events e.parents) (map position_of low)

  front_events : events_from 0 front ≡ before ++ inside
  front_events = events_from-append 0 below between

  all_events : events_from 0 (front ++ later) ≡ (before ++ inside) ++ behind
  all_events = events_from-append 0 front later ∙ ap (λ es. es ++ behind) front_events

  -- no event of the front has one behind it as a parent
  apart : (e : EventAt) → Among e (before ++ inside) → AreUnnamed position_of parents_of nat_eq behind e.parents
  apart e m =
      all_from (λ (g : EventAt). is_named nat_eq e.parents g.position ≡ false) behind (λ g k.
      false_from_ne_true (is_named nat_eq e.parents g.position) (λ q.
      let low = parents_inside 0 front (front_history 0 front later (history_from (front ++ later) good)) e (subst (Among e) (sym front_events) m) g.position (number_among e.parents g.position q) in
      let high = position_low (0 + length front) later g k in
      omega (arith, low, high)))

  -- so these know the same in the front and in all
  known_alike : list_all (knows ((before ++ inside) ++ behind) before) inside ≡ list_all (knows (before ++ inside) before) inside
  known_alike =
      pass_alike (knows ((before ++ inside) ++ behind) before) (knows (before ++ inside) before) inside
      (λ e m. ap (λ names. are_named nat_eq names (map position_of before))
      (known_before position_of parents_of nat_eq (before ++ inside) behind e.parents (apart e (joined_right before inside e m))))

  -- A CUT is critical in all where it is in the front, and the events behind the front know what is below it.
  cut_parts : is_cut_at (front ++ later) (length below) ≡ (is_cut_at front (length below) && list_all (knows ((before ++ inside) ++ behind) before) behind)
  unfolding is_cut_at
  cut_parts =
      let long : length below ≡ length before = sym (length-events_from 0 below) in
      let cut = λ (events : List EventAt) (k : ℕ). is_cut position_of parents_of nat_eq events k in
      let all : list_all (knows ((before ++ inside) ++ behind) before) (inside ++ behind) ≡ (list_all (knows (before ++ inside) before) inside && list_all (knows ((before ++ inside) ++ behind) before) behind) =
      list_all-append (knows ((before ++ inside) ++ behind) before) inside behind ∙ ap (λ b. b && list_all (knows ((before ++ inside) ++ behind) before) behind) known_alike in
      (λ i. cut (all_events i) (long i))
      ∙ ap (λ es. cut es (length before)) (append_assoc before inside behind)
      ∙ cut_between position_of parents_of nat_eq before (inside ++ behind)
      ∙ ap (λ es. list_all (knows es before) (inside ++ behind)) (sym (append_assoc before inside behind))
      ∙ all
      ∙ ap (λ b. b && list_all (knows ((before ++ inside) ++ behind) before) behind) (sym (cut_between position_of parents_of nat_eq before inside))
      ∙ sym (λ i. cut (front_events i) (long i) && list_all (knows ((before ++ inside) ++ behind) before) behind)

  -- they know it where the front ends at a critical cut
  behind_knows : is_cut_at (front ++ later) (length front) ≡ true → list_all (knows ((before ++ inside) ++ behind) before) behind ≡ true
  unfolding is_cut_at
  behind_knows whole =
      let long : length front ≡ length (before ++ inside) = sym (length-events_from 0 front) ∙ ap length front_events in
      let cut = λ (events : List EventAt) (k : ℕ). is_cut position_of parents_of nat_eq events k in
      let every : list_all (knows ((before ++ inside) ++ behind) (before ++ inside)) behind ≡ true =
      sym (cut_between position_of parents_of nat_eq (before ++ inside) behind) ∙ sym (λ i. cut (all_events i) (long i)) ∙ whole in
      pass_all (knows ((before ++ inside) ++ behind) before) behind (λ e m.
      let names = names_known position_of parents_of nat_eq ((before ++ inside) ++ behind) e.parents in
      let both : (are_named nat_eq names (map position_of before) && are_named nat_eq names (map position_of inside)) ≡ true =
      sym (ap (are_named nat_eq names) (map-append position_of before inside) ∙ list_all-append (is_named nat_eq names) (map position_of before) (map position_of inside))
      ∙ passes (knows ((before ++ inside) ++ behind) (before ++ inside)) behind e every m in
      (and_parts (are_named nat_eq names (map position_of before)) (are_named nat_eq names (map position_of inside)) both).0)

and_true : (b : Bool) → (b && true) ≡ b
and_true true = refl
and_true false = refl

-- numbers that pass up to a bound
passing_same : (n : ℕ) (p q : ℕ → Bool) → ((k : ℕ) → k ≤ n → p k ≡ q k) → passing_to p n ≡ passing_to q n
passing_same zero p q h = refl
passing_same (suc n) p q h =
    let ih = passing_same n p q (λ k l. h k (omega (arith, l))) in
    λ i. cond (h (suc n) (omega arith) i) (ih i ++ suc n ∷ []) (ih i)

passing_below : (p : ℕ → Bool) (n m : ℕ) → n ≤ m → filter (λ k. nat_lt k n) (passing_to p m) ≡ filter (λ k. nat_lt k n) (passing_to p n)
passing_below p n zero l = let none : 0 ≡ n = omega (arith, l) in ap (λ m. filter (λ k. nat_lt k n) (passing_to p m)) none
passing_below p n (suc m) l = ⊎_elim (λ low. one (p (suc m)) low ∙ passing_below p n m low) (λ top. ap (λ k. filter (λ j. nat_lt j n) (passing_to p k)) (sym top)) (two_ways n m l)
  where
    two_ways : (k m : ℕ) → k ≤ suc m → (k ≤ m) ⊎ (k ≡ suc m)
    two_ways zero m l = inl (omega arith)
    two_ways (suc k) zero l = inr (omega (arith, l))
    two_ways (suc k) (suc m) l = ⊎_elim (λ low. inl (omega (arith, low))) (λ e. inr (ap suc e)) (two_ways k m (omega (arith, l)))

    one : (b : Bool) → n ≤ m → filter (λ k. nat_lt k n) (cond b (passing_to p m ++ suc m ∷ []) (passing_to p m)) ≡ filter (λ k. nat_lt k n) (passing_to p m)
    one true low =
        filter-append (λ k. nat_lt k n) (passing_to p m) (suc m ∷ []) ∙ ap (λ b. filter (λ k. nat_lt k n) (passing_to p m) ++ cond b (suc m ∷ []) []) (le-ltb (suc m) n (omega (arith, low)))
        ∙ append-nil (filter (λ k. nat_lt k n) (passing_to p m))
    one false low = refl

below_twice : (n m : ℕ) → n ≤ m → (xs : List ℕ) → filter (λ k. nat_lt k n) (filter (λ k. nat_lt k m) xs) ≡ filter (λ k. nat_lt k n) xs
below_twice n m l xs =
    filter_twice (λ k. nat_lt k m) (λ k. nat_lt k n) xs
    ∙ filter_alike (λ k. nat_lt k m && nat_lt k n) (λ k. nat_lt k n) xs (λ k a.
    same_truth (nat_lt k m && nat_lt k n) (nat_lt k n) (λ e. (and_parts (nat_lt k m) (nat_lt k n) e).1)
    (λ e. let less = ltb-true k n e in λ i. lt-ltb k m (omega (arith, less, l)) i && e i))

-- a cut at the end of the events stays only where the new event's parents are all heads
stays_heads : (front : List (List ℕ)) (past n : ℕ) (parents : List ℕ) → past ≤ n → length front ≡ n → stays_behind past (is_frontier (take past front) parents) n ≡ true → pointwise nat_eq parents (frontier_of front) ≡ true
stays_heads front past n parents l long stays = ⊎_elim (λ low. absurd (true≢false (sym stays ∙ stops_high past _ n low))) (λ at. ap (λ h. is_frontier h parents) (sym (whole at)) ∙ sym (stays_at past _ n (sym at)) ∙ stays) (is_lower past n l)
  where
    whole : past ≡ n → take past front ≡ front
    whole at = ap (λ k. take k front) (at ∙ sym long) ∙ take-length front

    is_lower : (a b : ℕ) → a ≤ b → (a < b) ⊎ (a ≡ b)
    is_lower zero zero l = inr refl
    is_lower zero (suc b) l = inl (omega arith)
    is_lower (suc a) zero l = absurd (omega (arith, l))
    is_lower (suc a) (suc b) l = ⊎_elim (λ s. inl (omega (arith, s))) (λ e. inr (ap suc e)) (is_lower a b (omega (arith, l)))

module _ (history : List (List ℕ)) (n : ℕ) (good : IsHistoryOfParents history) (low : n ≤ length history) where
  -- the parts of the front
  parts_of : (k m : ℕ) → k ≤ m → m ≤ length history → (take k history ++ drop k (take m history) ≡ take m history) × (length (take k history) ≡ k) × (length (take m history) ≡ m)
  parts_of k m l h = (
    ap (λ xs. xs ++ drop k (take m history)) (sym (take-take k m history l)) ∙ take-append-drop k (take m history),
    length-take-le k history (omega (arith, l, h)),
    length-take-le m history h,
  )

  -- a cut is critical in each front that reaches to it
  pub cut_of_front : (k m : ℕ) → k ≤ m → m ≤ length history → is_cut_at history k ≡ true → is_cut_at (take m history) k ≡ true
  cut_of_front k m l h cut =
      let below = take k history in
      let between = drop k (take m history) in
      let later = drop m history in
      let parts = parts_of k m l h in
      let whole : (below ++ between) ++ later ≡ history = ap (λ xs. xs ++ later) parts.0 ∙ take-append-drop m history in
      let rule = cut_parts below between later (subst IsHistoryOfParents (sym whole) good) in
      let here : is_cut_at ((below ++ between) ++ later) (length below) ≡ true = (λ i. is_cut_at (whole i) (parts.1 i)) ∙ cut in
      sym (λ i. is_cut_at (parts.0 i) (parts.1 i)) ∙ (and_parts (is_cut_at (below ++ between) (length below)) _ (sym rule ∙ here)).0

  module _ (cut : is_cut_at history n ≡ true) where
    -- THE CUTS up to a critical one are those of the events below it.
    pub front_cuts : (k : ℕ) → k ≤ n → is_cut_at history k ≡ is_cut_at (take n history) k
    front_cuts k l =
        let below = take k history in
        let between = drop k (take n history) in
        let later = drop n history in
        let parts = parts_of k n l low in
        let whole : (below ++ between) ++ later ≡ history = ap (λ xs. xs ++ later) parts.0 ∙ take-append-drop n history in
        let there = subst IsHistoryOfParents (sym whole) good in
        let long : length (below ++ between) ≡ n = ap length parts.0 ∙ parts.2 in
        let known = behind_knows below between later there ((λ i. is_cut_at (whole i) (long i)) ∙ cut) in
        sym (λ i. is_cut_at (whole i) (parts.1 i))
        ∙ cut_parts below between later there
        ∙ ap (λ b. is_cut_at (below ++ between) (length below) && b) known
        ∙ and_true (is_cut_at (below ++ between) (length below))
        ∙ (λ i. is_cut_at (parts.0 i) (parts.1 i))

    inner_front : inner_cuts (take n history) ≡ filter (λ k. nat_lt k n) (inner_cuts history)
    inner_front =
        let long : length (take n history) ≡ n = length-take-le n history low in
        ap (λ m. filter (λ k. nat_lt k m) (passing_to (is_cut_at (take n history)) m)) long
        ∙ ap (filter (λ k. nat_lt k n)) (passing_same n (is_cut_at (take n history)) (is_cut_at history) (λ k l. sym (front_cuts k l)))
        ∙ sym (passing_below (is_cut_at history) n (length history) low)
        ∙ sym (below_twice n (length history) low (cuts_at history))

    heads_front : (cuts : List ℕ) → AllByRecursion (λ k. k < n) cuts → heads_below (take n history) cuts ≡ heads_below history cuts
    heads_front [] h = refl
    heads_front (k ∷ cuts) h = λ i. frontier_of (take-take k n history (let first : k < n = h.0 in omega (arith, first)) i) ∷ heads_front cuts h.1 i

    -- WHAT IS KEPT of the events below a critical cut.
    pub kept_front : (kept : List ℕ) → kept ≡ filter (λ k. nat_lt k n) (inner_cuts history) → take (length kept) (inner_cuts history) ≡ kept
        → kept_for (take n history) ≡ record { cuts = kept; heads = take (length kept) (heads_below history (inner_cuts history)); count = n }
    kept_front kept are first =
        let cuts : inner_cuts (take n history) ≡ kept = inner_front ∙ sym are in
        let under : AllByRecursion (λ k. k < n) kept = all_from (λ k. k < n) kept (λ k m. ltb-true k n ((among_filter (λ j. nat_lt j n) (inner_cuts history) k (subst (Among k) are m)).1)) in
        let heads : heads_below (take n history) (inner_cuts (take n history)) ≡ take (length kept) (heads_below history (inner_cuts history)) =
        ap (heads_below (take n history)) cuts ∙ heads_front kept under ∙ ap (heads_below history) (sym first) ∙ sym (take-map (λ k. frontier_of (take k history)) (length kept) (inner_cuts history)) in
        λ i. record { cuts = cuts i; heads = heads i; count = length-take-le n history low i }

    -- THE HEADS below a critical cut are the parents of the event behind it, if that has reduced ones.
    pub parents_are_heads : n < length history → is_reduced_at (take n history) (parents_at history n) ≡ true → parents_at history n ≡ frontier_of (take n history)
    parents_are_heads more reduced =
        let front = take n history in
        let parents = parents_at history n in
        let long : length front ≡ n = length-take-le n history low in
        let next : take (n + 1) history ≡ front ++ parents ∷ [] = take_more history n [] more in
        let above : is_cut_at (front ++ parents ∷ []) n ≡ true = ap (λ h. is_cut_at h n) (sym next) ∙ cut_of_front n (n + 1) (omega arith) (omega (arith, more)) cut in
        let whole : front ++ drop n history ≡ history = take-append-drop n history in
        let first : IsHistoryOfParents front = history_to front (front_history 0 front (drop n history) (history_from (front ++ drop n history) (subst IsHistoryOfParents (sym whole) good))) in
        let lower : AreParents (length front) parents = subst (λ m. AreParents m parents) (sym long) (good n more) in
        let rule = cut_step_at front parents n first lower reduced (omega (arith, long)) in
        let stays : stays_behind (past_parents parents) (is_frontier (take (past_parents parents) front) parents) n ≡ true = (and_parts (is_cut_at front n) _ (sym rule ∙ above)).1 in
        let past : past_parents parents ≤ n = let within = past_within front parents lower in omega (arith, within, long) in
        pointwise_same parents (frontier_of front) (stays_heads front (past_parents parents) n parents past long stays)
