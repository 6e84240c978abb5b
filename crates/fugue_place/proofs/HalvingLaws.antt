-- Children found by halving: the nodes of the first ones rise.
use Rattle.std.proofs.Common.{◌≡◌, ℕ, suc, ◌+◌, ◌<◌, ◌≤◌, true, false, ⊎_elim, List, length, take, get_or, slice_get, slice_index_or, nat_lt, nat_le, Some, refl, sym, ap, ◌∙◌, subst, arith, length-take}
use Rattle.std.specs.List.Sorted.{IsNonDecreasingBy, IsPartitionedBy}
use Rattle.std.specs.List.{AllWithin}
use Rattle.std.specs.Ordering.{ordering_index, nat_cmp}
use Rattle.std.specs.declared.cmp.Ordering.{Ordering}
use Rattle.std.specs.declared.cmp.Ordering.TheVariants.{Less, Equal, Greater}
use Rattle.std.proofs.lemmas.Bool.{false≢true, false_from_ne_true, and_parts, and_from, leb-true, ltb-true, le-leb, lt-ltb, cases_order, cases_lt}
use Rattle.std.proofs.lemmas.Cmp.{nat_cmp_total, ranked}
use Rattle.std.proofs.lemmas.List.Sorted.{IsNonDecreasingBy-from_all_adjacent}
use Rattle.std.proofs.lemmas.Option.{slice_get_within, slice_get-get_or, get_or_from_slice_get, same_Some}
use Rattle.ew_model.specs.declared.node.Node.{Node}
use Rattle.ew_model.specs.declared.node.Node.TheVariants.{Root, Base, Event}
use Rattle.ew_model.proofs.ListPlaces.{get-take_within}
use Rattle.ew_model.proofs.VersionLaws.{found_by}
use Rattle.fugue_place.specs.declared.child.Attached.{Attached}
use Rattle.fugue_place.specs.declared.children.Run.{Run}
use Rattle.fugue_place.specs.Attachments.{node_eq, is_attached}
use Rattle.fugue_place.specs.Members.{child_of, children_of, AreRuns, is_ahead}
use Rattle.fugue_place.specs.Places.{HasNodeAt, AreRising}
use Rattle.fugue_place.specs.Spots.{node_cmp}
use Rattle.fugue_place.proofs.ListLaws.{place_of}
use Rattle.fugue_place.proofs.NodeLaws.{node_same}
use Rattle.fugue_place.proofs.RunLaws.{places_rise, next_place, read_run, IsHeld, held}
use Rattle.fugue_place.proofs.SpotLaws.{node_exact, node_tied}

-- THE ORDER OF NODES
node_trans : (u v w : Node) → node_cmp u v ≡ Less → node_cmp v w ≡ Less → node_cmp u w ≡ Less
node_trans u Root Root e f = let no : ⊥ = cc in absurd no
node_trans u (Base j) Root e f = let no : ⊥ = cc in absurd no
node_trans u (Event j) Root e f = let no : ⊥ = cc in absurd no
node_trans Root v (Base k) e f = refl
node_trans Root v (Event k) e f = refl
node_trans (Base i) Root (Base k) e f = let no : ⊥ = cc in absurd no
node_trans (Base i) (Base j) (Base k) e f = nat_cmp_total.trans i j k e f
node_trans (Base i) (Event j) (Base k) e f = let no : ⊥ = cc in absurd no
node_trans (Base i) v (Event k) e f = refl
node_trans (Event i) Root w e f = let no : ⊥ = cc in absurd no
node_trans (Event i) (Base j) w e f = let no : ⊥ = cc in absurd no
node_trans (Event i) (Event j) (Base k) e f = let no : ⊥ = cc in absurd no
node_trans (Event i) (Event j) (Event k) e f = nat_cmp_total.trans i j k e f

at_most : (o : Ordering) → ordering_index o ≤ 2
at_most Less = omega arith
at_most Equal = omega arith
at_most Greater = omega arith

-- of two nodes that rise, the second stands no lower to a third
no_lower : (u v w : Node) → node_cmp u v ≡ Less → ordering_index (node_cmp u w) ≤ ordering_index (node_cmp v w)
no_lower u v w e = at (node_cmp v w) refl
  where
    at : (o : Ordering) → node_cmp v w ≡ o → ordering_index (node_cmp u w) ≤ ordering_index (node_cmp v w)
    at Less f = let low : ordering_index (node_cmp u w) ≡ 0 = ap ordering_index (node_trans u v w e f) in omega arith
    at Equal f = let low : ordering_index (node_cmp u w) ≡ 0 = ap ordering_index (ap (node_cmp u) (sym (node_exact v w f)) ∙ e) in omega arith
    at Greater f = let high : ordering_index (node_cmp v w) ≡ 2 = ap ordering_index f in let most = at_most (node_cmp u w) in omega arith

no_higher : (m n : ℕ) (o : Ordering) → nat_cmp m n ≡ o → ordering_index (nat_cmp m n) ≤ 1 → m ≤ n
no_higher m n Less e l = let lt : m < n = ranked m n Less (sym e) in omega (arith, lt)
no_higher m n Equal e l = let same : m ≡ n = ranked m n Equal (sym e) in omega (arith, same)
no_higher m n Greater e l = let high : ordering_index (nat_cmp m n) ≡ 2 = ap ordering_index e in absurd (omega (arith, high, l))

module _ (names : List (List ℕ)) (runs : List Run) (count end : ℕ) (are : AreRuns names 0 runs count) (rise : AreRising (take end (children_of names runs))) where
  abbrev front : List Attached
  front = take end (children_of names runs)

  risen : (v : Node) → IsNonDecreasingBy (λ (a : Attached). ordering_index (node_cmp a.node v)) front
  risen v =
      IsNonDecreasingBy-from_all_adjacent (λ (a : Attached). ordering_index (node_cmp a.node v)) front (λ k d lt.
      no_lower (get_or front k d).node (get_or front (k + 1) d).node v
      (rise k (get_or front k d) (get_or front (k + 1) d) (slice_get-get_or front k d (omega (arith, lt))) (slice_get-get_or front (k + 1) d lt)))

  -- the child in a run, where it is one of the first
  in_front : (at i : ℕ) (x : Run) → slice_get runs at ≡ Some x → i ≤ x.heirs → x.place + i < end → slice_get front (x.place + i) ≡ Some (child_of names x i)
  in_front at i x e l low = get-take_within end (children_of names runs) (x.place + i) low ∙ read_run names runs 0 count at i (x.place + i) x are e l (omega arith)

  -- the events of the runs rise
  events_rise : (at to : ℕ) (x y : Run) → slice_get runs at ≡ Some x → slice_get runs to ≡ Some y → x.place ≤ y.place → y.place < end → x.event ≤ y.event
  events_rise at to x y e f l low =
      let d = child_of names x 0 in
      let v = Event (y.event + 0) in
      let first = in_front at 0 x e (omega arith) (omega (arith, l, low)) in
      let second = in_front to 0 y f (omega arith) (omega (arith, low)) in
      let key = λ (a : Attached). ordering_index (node_cmp a.node v) in
      let up : key (get_or front (x.place + 0) d) ≤ key (get_or front (y.place + 0) d) = risen v (x.place + 0) (y.place + 0) d (omega (arith, l)) (slice_get_within front (y.place + 0) (child_of names y 0) second) in
      let left : key (get_or front (x.place + 0) d) ≡ ordering_index (nat_cmp (x.event + 0) (y.event + 0)) = ap key (get_or_from_slice_get front (x.place + 0) (child_of names x 0) d first) in
      let right : key (get_or front (y.place + 0) d) ≡ 1 = ap key (get_or_from_slice_get front (y.place + 0) (child_of names y 0) d second) ∙ ap ordering_index (node_tied v) in
      let le : x.event + 0 ≤ y.event + 0 = no_higher (x.event + 0) (y.event + 0) (nat_cmp (x.event + 0) (y.event + 0)) refl (omega (arith, up, left, right)) in
      omega (arith, le)

  -- the next run begins above the last event of the one before it
  next_event : (at : ℕ) (x y : Run) → slice_get runs at ≡ Some x → slice_get runs (suc at) ≡ Some y → y.place < end → x.event + x.heirs < y.event
  next_event at x y e f low =
      let next : y.place ≡ x.place + suc x.heirs = next_place names runs 0 count at x y are e f in
      let p = x.place + x.heirs in
      let here : slice_get front p ≡ Some (child_of names x x.heirs) = in_front at x.heirs x e (omega arith) (omega (arith, next, low)) in
      let same : y.place + 0 ≡ p + 1 = omega (arith, next) in
      let there : slice_get front (p + 1) ≡ Some (child_of names y 0) = ap (slice_get front) (sym same) ∙ in_front (suc at) 0 y f (omega arith) (omega (arith, low)) in
      let lt : x.event + x.heirs < y.event + 0 = ranked (x.event + x.heirs) (y.event + 0) Less (sym (rise p (child_of names x x.heirs) (child_of names y 0) here there)) in
      omega (arith, lt)

  -- so the runs that begin ahead of the end, at an event or before it, are the first ones
  pub ahead_first : (event : ℕ) → IsPartitionedBy (is_ahead end event) runs
  ahead_first event i j d l m h =
      let x = slice_index_or runs i d in
      let y = slice_index_or runs j d in
      let both = and_parts (nat_lt y.place end) (nat_le y.event event) h in
      let low : y.place < end = ltb-true y.place end both.0 in
      let high : y.event ≤ event = leb-true y.event event both.1 in
      let places : x.place ≤ y.place = places_rise names runs 0 count i j d are l m in
      let events : x.event ≤ y.event = events_rise i j x y (slice_get-get_or runs i d (omega (arith, l, m))) (slice_get-get_or runs j d m) places low in
      and_from (nat_lt x.place end) (nat_le x.event event) (lt-ltb x.place end (omega (arith, places, low))) (le-leb x.event event (omega (arith, events, high)))

  -- THE SEARCH ends at the node
  pub halved_some : (at i event : ℕ) (x : Run) → slice_get runs at ≡ Some x → i ≤ x.heirs → x.place + i < end → x.event + i ≡ event → HasNodeAt front (Event event) (x.place + i)
  halved_some at i event x e l low same = (child_of names x i, in_front at i x e l low, ap Event same)

  -- an attached node is that of a child in a run
  record IsOfRun (v : Node) : Type 0 where
    at : ℕ
    run : Run
    i : ℕ
    there : slice_get runs at ≡ Some run
    within : i ≤ run.heirs
    low : run.place + i < end
    node : Event (run.event + i) ≡ v

  of_held : (v : Node) (p : ℕ) (a : Attached) → p < end → a.node ≡ v → IsHeld names runs 0 p a → IsOfRun v
  of_held v p a low is h = record {
    at = h.at;
    run = h.run;
    i = h.i;
    there = h.there;
    within = h.within;
    low = let same = h.place in omega (arith, same, low);
    node = ap (λ (b : Attached). b.node) h.child ∙ is;
  }

  first_low : (p : ℕ) (a : Attached) → slice_get front p ≡ Some a → p < end
  first_low p a f = let lt = slice_get_within front p a f in let most = length-take end (children_of names runs) in omega (arith, lt, most)

  of_first : (v : Node) (p : ℕ) (a : Attached) → slice_get front p ≡ Some a → a.node ≡ v → IsOfRun v
  of_first v p a here is = of_held v p a (first_low p a here) is (held names runs 0 count p a are (sym (get-take_within end (children_of names runs) p (first_low p a here)) ∙ here))

  of_run : (v : Node) → is_attached front v ≡ true → IsOfRun v
  of_run v e =
      let found = found_by (λ (a : Attached). node_eq a.node v) front e in
      let place = place_of front found.0 found.1 in
      of_first v place.0 found.0 place.1 (node_same found.0.node v found.2)

  pub no_event : (v : Node) → ((n : ℕ) → v ≡ Event n → ⊥) → is_attached front v ≡ false
  no_event v other = false_from_ne_true (is_attached front v) (λ e. let f = of_run v e in other (f.run.event + f.i) (sym f.node))

  event_number : (m n : ℕ) → Event m ≡ Event n → m ≡ n
  event_number m n e = ap number e
    where
      number : Node → ℕ
      number Root = 0
      number (Base k) = k
      number (Event k) = k

  module _ (event ahead : ℕ) (to : AllWithin (λ (r : Run). is_ahead end event r ≡ true) runs 0 ahead) (behind : AllWithin (λ (r : Run). is_ahead end event r ≡ false) runs ahead (length runs)) where
    -- a run with the event is one of those ahead
    run_ahead : (at i : ℕ) (x : Run) → slice_get runs at ≡ Some x → x.place + i < end → x.event + i ≡ event → at < ahead
    run_ahead at i x e low same =
        ⊎_elim
        (λ lt. lt)
        (λ high.
        let read : slice_index_or runs at x ≡ x = get_or_from_slice_get runs at x x e in
        let no : is_ahead end event x ≡ false = ap (is_ahead end event) (sym read) ∙ behind at x high (slice_get_within runs at x e) in
        let yes : is_ahead end event x ≡ true = and_from (nat_lt x.place end) (nat_le x.event event) (lt-ltb x.place end (omega (arith, low))) (le-leb x.event event (omega (arith, same))) in
        absurd (false≢true (sym no ∙ yes)))
        (cases_lt at ahead)

    pub none_ahead : ahead ≡ 0 → is_attached front (Event event) ≡ false
    none_ahead none = false_from_ne_true (is_attached front (Event event)) (λ e.
        let f = of_run (Event event) e in
        let lt = run_ahead f.at f.i f.run f.there f.low (event_number (f.run.event + f.i) event f.node) in
        absurd (omega (arith, lt, none)))

    -- only the last of them can have it
    pub none_there : (at : ℕ) (x : Run) → ahead ≡ suc at → ahead ≤ length runs → slice_get runs at ≡ Some x → ((i : ℕ) → i ≤ x.heirs → x.place + i < end → x.event + i ≡ event → ⊥) → is_attached front (Event event) ≡ false
    none_there at x last most here none = false_from_ne_true (is_attached front (Event event)) (λ e.
        let f = of_run (Event event) e in
        let same = event_number (f.run.event + f.i) event f.node in
        let lt = run_ahead f.at f.i f.run f.there f.low same in
        ⊎_elim
        (λ (is : f.at ≡ at).
        let one : f.run ≡ x = same_Some f.run x (sym f.there ∙ ap (slice_get runs) is ∙ here) in
        absurd (none f.i (subst (λ (z : Run). f.i ≤ z.heirs) one f.within) (subst (λ (z : Run). z.place + f.i < end) one f.low) (subst (λ (z : Run). z.event + f.i ≡ event) one same)))
        (λ r.
        ⊎_elim
        (λ (low : f.at < at).
        let y = slice_index_or runs (suc f.at) x in
        let there : slice_get runs (suc f.at) ≡ Some y = slice_get-get_or runs (suc f.at) x (omega (arith, low, last, most)) in
        let both = and_parts (nat_lt y.place end) (nat_le y.event event) (to (suc f.at) x (omega arith) (omega (arith, low, last))) in
        let up = next_event f.at f.run y f.there there (ltb-true y.place end both.0) in
        let high = leb-true y.event event both.1 in
        let within = f.within in
        absurd (omega (arith, up, high, same, within)))
        (λ (high : at < f.at). absurd (omega (arith, high, lt, last)))
        r)
        (cases_order f.at at))
