-- A run whose last character is deleted, and goes over to the deleted ones behind it.
use Rattle.std.proofs.Common.{◌≡◌, ℕ, suc, ◌+◌, ◌-◌, ◌<◌, Bool, false, List, [], ◌∷◌, ◌++◌, Option, Some, None, length, map, Contains, if◌then◌else◌, refl, sym, ap, ◌∙◌, subst, arith, append_assoc, inl, inr}
use Rattle.std.proofs.lemmas.List.{map-append}
use Rattle.std.proofs.lemmas.List.Elements.{All-cons, All-tail, All-contains, Contains-append_left, Contains-append_right}
use Rattle.ew_model.specs.declared.node.Node.{Node}
use Rattle.ew_model.specs.declared.node.Node.TheVariants.{Root}
use Rattle.walker_record.specs.Stretches.{Stretch, node_on, states_from, first_part, second_part}
use Rattle.fugue_place.proofs.NodeLaws.{node_itself}
use Rattle.order_tree.specs.Pairs.{IsRising, labels, lower, greater, changed}
use Rattle.order_tree.proofs.Around.{held_below, held_above}
use Rattle.character_runs.specs.declared.change.Change.TheVariants.{Strike}
use Rattle.character_runs.specs.declared.cursor.Cursor.{Cursor}
use Rattle.character_runs.specs.declared.cursor.Struck.{Struck}
use Rattle.character_runs.specs.declared.labels.Labels.{Labels}
use Rattle.character_runs.specs.Cursors.{StandsBehind, IsCursor, GaveEnd, last_of, shorter, struck_with, struck_long, with_end}
use Rattle.character_runs.specs.States.{changed_at, changed as after_change}
use Rattle.character_runs.specs.Labelled.{label_of, GoesOver}
use Rattle.character_runs.specs.Laid.{Stands, AreLabelled, record_of, records_of, chars_in}
use Rattle.character_runs.proofs.Moves.{is_first, is_second}
use Rattle.character_runs.proofs.PartedRuns.{Parted, parted}
use Rattle.character_runs.proofs.ChangedPairs.{changed_is, moves_changed}
use Rattle.character_runs.proofs.ChangedRuns.{changed_laid}
use Rattle.character_runs.proofs.CutPairs.{cut_is}
use Rattle.character_runs.proofs.KnownRuns.{held_label}
use Rattle.character_runs.proofs.AlteredChars.{same_long}
use Rattle.character_runs.proofs.Places.{one_label, not_root_on, on_on, same_steps, unlabelled}
use Rattle.character_runs.proofs.CutChars.{parts_records}
use Rattle.character_runs.proofs.CharPlaces.{none_in, none_of}
use Rattle.character_runs.proofs.Replaced.{none_changed}
use Rattle.character_runs.proofs.Settled.{behind_held, end_again}
use Rattle.character_runs.proofs.ShiftedEnds.{shifted_laid}
use Rattle.character_runs.proofs.RunChars.{one, chars-append}

-- TWO RUNS, one behind the other
module _ {R : Type 0} (front back : List (ℕ × R)) (label own : ℕ) where
  abbrev pub pair_of : R → R → List (ℕ × R)
  pair_of a b = front ++ (label, a) ∷ (own, b) ∷ back

  module _ (a b : R) (rising : IsRising (pair_of a b)) where
    abbrev pub at_first : Parted (pair_of a b) label a
    at_first = record {
      front = front;
      back = (own, b) ∷ back;
      is = refl;
      below = held_below front ((label, a) ∷ []) ((own, b) ∷ back) label a rising (is_first (label, a) []);
      above = held_above front ((label, a) ∷ []) ((own, b) ∷ back) label a rising (is_first (label, a) []);
    }

    pub regroup : (c : R) → pair_of a c ≡ (front ++ (label, a) ∷ []) ++ (((own, c) ∷ []) ++ back)
    regroup c = sym (append_assoc front ((label, a) ∷ []) ((own, c) ∷ back))

    abbrev pub at_second : Parted (pair_of a b) own b
    at_second =
        let rises = subst (λ (xs : List (ℕ × R)). IsRising xs) (regroup b) rising in
        record {
          front = front ++ (label, a) ∷ [];
          back = back;
          is = regroup b;
          below = held_below (front ++ (label, a) ∷ []) ((own, b) ∷ []) back own b rises (is_first (own, b) []);
          above = held_above (front ++ (label, a) ∷ []) ((own, b) ∷ []) back own b rises (is_first (own, b) []);
        }

    second_changed : (c : R) → changed (pair_of a b) own c ≡ pair_of a c
    second_changed c = changed_is own c (pair_of a b) b at_second ∙ sym (regroup c)

    -- the labels are two
    pub first_less : label < own
    first_less = All-contains (λ p. label < p.0) ((own, b) ∷ back) (own, b) at_first.above (is_first (own, b) back)

    pub both_changed : (c d : R) → changed (changed (pair_of a b) own c) label d ≡ pair_of d c
    both_changed c d =
        let at : Parted (pair_of a c) label a = record {
          front = front;
          back = (own, c) ∷ back;
          is = refl;
          below = at_first.below;
          above = All-cons (λ p. label < p.0) (own, c) back first_less (All-tail (λ p. label < p.0) (own, b) back at_first.above);
        } in
        ap (λ (xs : List (ℕ × R)). changed xs label d) (second_changed c) ∙ changed_is label d (pair_of a c) a at

-- CHARACTERS
module _ (run : Stretch) (some : 0 < run.len) where
  abbrev v : Node
  v = last_of run

  -- those that were deleted before
  abbrev rest : ℕ → List Stretch
  rest n = map record_of (states_from (node_on v 1) n 2 false)

  ends : records_of run ≡ records_of (shorter run) ++ one v run.prepared run.effect ∷ []
  ends =
      let single : run.len - (run.len - 1) ≡ 1 = omega (arith, some) in
      sym (parts_records run (run.len - 1) (omega (arith, some)))
      ∙ ap (λ (k : ℕ). records_of (shorter run) ++ map record_of (states_from v k run.prepared run.effect)) single

  struck_records : (n : ℕ) → records_of (struck_with v n) ≡ one v 2 false ∷ rest n
  struck_records n = let next : n + 1 ≡ suc n = omega arith in ap (λ (k : ℕ). map record_of (states_from v k 2 false)) next

  -- the run of those, where it goes on with the other's nodes
  rest_is : (r : Stretch) → r.from ≡ node_on run.from run.len → r.prepared ≡ 2 → r.effect ≡ false → records_of r ≡ rest r.len
  rest_is r from prepared effect =
      let all : run.len - 1 + 1 ≡ run.len = omega (arith, some) in
      let next : node_on v 1 ≡ node_on run.from run.len = on_on run.from (run.len - 1) 1 ∙ ap (node_on run.from) all in
      ap (λ (w : Node). map record_of (states_from w r.len r.prepared r.effect)) (from ∙ sym next)
      ∙ ap (λ (p : ℕ). map record_of (states_from (node_on v 1) r.len p r.effect)) prepared
      ∙ ap (λ (e : Bool). map record_of (states_from (node_on v 1) r.len 2 e)) effect

  abbrev after : Stretch → Stretch
  after = changed_at v Strike

  struck_one : run.prepared ≡ 1 → after (one v run.prepared run.effect) ≡ one v 2 false
  struck_one prepared =
      ap (λ (b : Bool). if b then after_change Strike (one v run.prepared run.effect) else one v run.prepared run.effect) (node_itself v)
      ∙ ap (λ (p : ℕ). one v (suc p) false) prepared

  module _ (ps : List (ℕ × Stretch)) (t : Labels) (label : ℕ) (laid : AreLabelled ps t) (at : Parted ps label run) (prepared : run.prepared ≡ 1) where
    abbrev here : Stands ps label (run.len - 1) v
    here = record {
      run = run;
      held = subst (λ (xs : List (ℕ × Stretch)). Contains xs (label, run)) (sym at.is) (Contains-append_right at.front (((label, run) ∷ []) ++ at.back) (label, run) (is_first (label, run) at.back));
      inside = omega (arith, some);
      node = refl;
    }

    -- it stands nowhere else
    free : (qs : List (ℕ × Stretch)) → ((l : ℕ) (q : Stretch) → Contains qs (l, q) → Contains ps (l, q) × (l ≡ label → ⊥)) → map after (chars_in qs) ≡ chars_in qs
    free qs others =
        none_changed (chars_in qs) v Strike (none_of qs v (λ l k s. let o = others l s.run s.held in
        o.1 (one_label ps t laid v l label k (run.len - 1) (record { run = s.run; held = o.0; inside = s.inside; node = s.node }) here)))

    free_front : map after (chars_in at.front) ≡ chars_in at.front
    free_front = free at.front (λ l q h. let low = All-contains (λ p. p.0 < label) at.front (l, q) at.below h in
        (subst (λ (xs : List (ℕ × Stretch)). Contains xs (l, q)) (sym at.is) (Contains-append_left at.front (((label, run) ∷ []) ++ at.back) (l, q) h), λ e. omega (arith, low, e)))

    free_back : map after (chars_in at.back) ≡ chars_in at.back
    free_back = free at.back (λ l q h. let high = All-contains (λ p. label < p.0) at.back (l, q) at.above h in (
      subst (λ (xs : List (ℕ × Stretch)). Contains xs (l, q)) (sym at.is)
          (Contains-append_right at.front (((label, run) ∷ []) ++ at.back) (l, q) (Contains-append_right ((label, run) ∷ []) at.back (l, q) h)),
      λ e. omega (arith, high, e),
    ))

    struck_chars : (front back : List (ℕ × Stretch)) (own n : ℕ) → front ≡ at.front → chars_in at.back ≡ rest n ++ chars_in back
        → chars_in (front ++ (label, shorter run) ∷ (own, struck_with v n) ∷ back) ≡ map after (chars_in ps)
    struck_chars front back own n same behind =
        ap (λ (xs : List (ℕ × Stretch)). chars_in (xs ++ (label, shorter run) ∷ (own, struck_with v n) ∷ back)) same
        ∙ chars-append at.front ((label, shorter run) ∷ (own, struck_with v n) ∷ back)
        ∙ ap (λ (xs : List Stretch). chars_in at.front ++ (records_of (shorter run) ++ (xs ++ chars_in back))) (struck_records n)
        ∙ ap (λ (xs : List Stretch). chars_in at.front ++ (records_of (shorter run) ++ one v 2 false ∷ xs)) (sym behind)
        ∙ ap (λ (xs : List Stretch). chars_in at.front ++ xs) (sym tail_is)
        ∙ (λ i. sym free_front i ++ map after (records_of run ++ chars_in at.back))
        ∙ sym (map-append after (chars_in at.front) (records_of run ++ chars_in at.back))
        ∙ ap (map after) (sym (ap chars_in at.is ∙ chars-append at.front (((label, run) ∷ []) ++ at.back)))
      where
        own_is : map after (records_of (shorter run)) ≡ records_of (shorter run)
        own_is =
            none_changed (records_of (shorter run)) v Strike
            (none_in (run.len - 1) run.from v run.prepared run.effect (λ k lt e. let s = same_steps run.from k (run.len - 1) (laid.rooted label run here.held) e in omega (arith, s, lt)))

        tail_is : map after (records_of run ++ chars_in at.back) ≡ records_of (shorter run) ++ one v 2 false ∷ chars_in at.back
        tail_is =
            map-append after (records_of run) (chars_in at.back)
            ∙ (λ i. (ap (map after) ends ∙ map-append after (records_of (shorter run)) (one v run.prepared run.effect ∷ []) ∙ (λ j. own_is j ++ struck_one prepared j ∷ [])) i ++ free_back i)
            ∙ append_assoc (records_of (shorter run)) (one v 2 false ∷ []) (chars_in at.back)

-- FIRST: the run is cut before its last character
module _ (ps qs : List (ℕ × Stretch)) (t u : Labels) (c : Cursor) (own : ℕ) (laid : AreLabelled ps t) (rising : IsRising ps) (rises : IsRising qs) (cursor : IsCursor ps c) (none : c.struck ≡ None) (long : 1 < c.run.len)
    (cut : qs ≡ lower ps c.label ++ (c.label, first_part c.run (c.run.len - 1)) ∷ (own, second_part c.run (c.run.len - 1)) ∷ greater ps c.label) where
  abbrev second : Stretch
  second = second_part c.run (c.run.len - 1)

  abbrev struck : Stretch
  struck = struck_with (last_of c.run) 0

  at : Parted ps c.label c.run
  at = parted ps c.label c.run rising cursor.held

  in_two : qs ≡ pair_of at.front at.back c.label own (shorter c.run) second
  in_two = cut ∙ cut_is ps c.label c.run own (shorter c.run) second at

  one_long : second.len ≡ 1
  one_long = omega (arith, long)

  cut_held : Contains qs (own, second)
  cut_held =
      subst (λ (xs : List (ℕ × Stretch)). Contains xs (own, second)) (sym in_two)
      (Contains-append_right at.front ((c.label, shorter c.run) ∷ (own, second) ∷ at.back) (own, second) (is_second (own, second) (c.label, shorter c.run) at.back))

  pub cut_label : Contains (labels qs) own
  cut_label = held_label qs own second cut_held

  pub cut_long : length (chars_in (changed qs own struck)) ≡ length (chars_in qs)
  cut_long = same_long qs rises own second struck cut_held (sym one_long)

  pub cut_laid : AreLabelled qs u → AreLabelled (changed qs own struck) u
  cut_laid labelled = changed_laid qs (changed qs own struck) u own second struck labelled cut_held (moves_changed own struck qs second rises cut_held) refl (sym one_long)

  now : changed qs own struck ≡ pair_of at.front at.back c.label own (shorter c.run) struck
  now =
      ap (λ (xs : List (ℕ × Stretch)). changed xs own struck) in_two
      ∙ second_changed at.front at.back c.label own (shorter c.run) second (subst (λ (xs : List (ℕ × Stretch)). IsRising xs) in_two rises) struck

  pub cut_struck : chars_in (changed qs own struck) ≡ map (changed_at (last_of c.run) Strike) (chars_in ps)
  cut_struck = ap chars_in now ∙ struck_chars c.run cursor.some ps t c.label laid at cursor.prepared at.front at.back own 0 refl refl

  pub cut_gave : GaveEnd ps (changed qs own struck) c (record { label = own; run = struck })
  cut_gave = record {
    front = at.front;
    back = at.back;
    was = inl at.is;
    now = now;
    struck = ap (λ (s : Option Struck). struck_with (last_of c.run) (struck_long s)) (sym none);
  }

-- AGAIN: the run behind it takes the last character in front
module _ (ps : List (ℕ × Stretch)) (t : Labels) (c : Cursor) (s : Struck) (v : Node) (laid : AreLabelled ps t) (rising : IsRising ps) (cursor : IsCursor ps c) (behind : c.struck ≡ Some s) (long : 1 < c.run.len)
    (node : v ≡ last_of c.run) where
  abbrev longer : Stretch
  longer = record { from = v; len = s.run.len + 1; prepared = s.run.prepared; effect = s.run.effect }

  abbrev mid : List (ℕ × Stretch)
  mid = changed ps s.label longer

  abbrev qs : List (ℕ × Stretch)
  qs = changed mid c.label (shorter c.run)

  stands : StandsBehind ps c.label c.run (Some s)
  stands = subst (λ (o : Option Struck). StandsBehind ps c.label c.run o) behind cursor.behind

  abbrev front : List (ℕ × Stretch)
  front = stands.0

  abbrev back : List (ℕ × Stretch)
  back = stands.1

  stood : ps ≡ pair_of front back c.label s.label c.run s.run
  stood = stands.2

  rises : IsRising (pair_of front back c.label s.label c.run s.run)
  rises = subst (λ (xs : List (ℕ × Stretch)). IsRising xs) stood rising

  pub struck_held : Contains ps (s.label, s.run)
  struck_held = behind_held c.label c.run ps s stands

  apart : c.label ≡ s.label → ⊥
  apart e = let less = first_less front back c.label s.label c.run s.run rises in omega (arith, e, less)

  both_now : qs ≡ pair_of front back c.label s.label (shorter c.run) longer
  both_now =
      ap (λ (xs : List (ℕ × Stretch)). changed (changed xs s.label longer) c.label (shorter c.run)) stood
      ∙ both_changed front back c.label s.label c.run s.run rises longer (shorter c.run)

  longer_is : longer ≡ struck_with (last_of c.run) s.run.len
  longer_is =
      ap (λ (w : Node). record { from = w; len = s.run.len + 1; prepared = s.run.prepared; effect = s.run.effect }) node
      ∙ ap (λ (p : ℕ). record { from = last_of c.run; len = s.run.len + 1; prepared = p; effect = s.run.effect }) stands.5
      ∙ ap (λ (e : Bool). record { from = last_of c.run; len = s.run.len + 1; prepared = 2; effect = e }) stands.6

  shifted_chars : chars_in qs ≡ map (changed_at (last_of c.run) Strike) (chars_in ps)
  shifted_chars =
      let at = at_first front back c.label s.label c.run s.run rises in
      let old : Parted ps c.label c.run = record { front = front; back = (s.label, s.run) ∷ back; is = stood; below = at.below; above = at.above } in
      ap chars_in (both_now ∙ ap (λ (r : Stretch). pair_of front back c.label s.label (shorter c.run) r) longer_is)
      ∙ struck_chars c.run cursor.some ps t c.label laid old cursor.prepared front back s.label s.run.len refl (ap (λ (xs : List Stretch). xs ++ chars_in back) (rest_is c.run cursor.some s.run stands.3 stands.5 stands.6))

  shifted_gave : GaveEnd ps qs c (record { label = s.label; run = longer })
  shifted_gave = record {
    front = front;
    back = back;
    was = inr (s, behind, stood);
    now = both_now;
    struck = longer_is ∙ ap (λ (o : Option Struck). struck_with (last_of c.run) (struck_long o)) (sym behind);
  }

  shifted_labelled : (u : Labels) → GoesOver t u s.run.from v s.label → AreLabelled qs u
  shifted_labelled u goes =
      shifted_laid ps t u c.label s.label c.run s.run longer laid rising cursor.held struck_held apart long stands.4 stands.3 node refl
      (subst (λ (w : Node). GoesOver t u s.run.from w s.label) node goes)

  pub shifted_root : v ≡ Root → ⊥
  shifted_root e = not_root_on c.run.from (c.run.len - 1) (laid.rooted c.label c.run cursor.held) (sym node ∙ e)

  pub shifted_bare : label_of t v ≡ None
  shifted_bare =
      subst (λ (w : Node). label_of t w ≡ None) (sym node)
      (unlabelled ps t c.label (c.run.len - 1) (last_of c.run) laid (record { run = c.run; held = cursor.held; inside = omega (arith, long); node = refl }) (omega (arith, long)))

  -- the same where the runs aren't told of the cursor's own, nor of those behind it
  module _ (ts : List (ℕ × Stretch)) (is : ps ≡ with_end ts c.label c.run (Some s)) where
    abbrev left : List (ℕ × Stretch)
    left = with_end ts c.label (shorter c.run) (Some (record { label = s.label; run = longer }))

    left_is : qs ≡ left
    left_is = ap (λ (xs : List (ℕ × Stretch)). changed (changed xs s.label longer) c.label (shorter c.run)) is ∙ end_again ts c.label s.label c.run longer s.run (shorter c.run) apart

    pub left_chars : chars_in left ≡ map (changed_at (last_of c.run) Strike) (chars_in ps)
    left_chars = ap chars_in (sym left_is) ∙ shifted_chars

    pub left_gave : GaveEnd ps left c (record { label = s.label; run = longer })
    left_gave = subst (λ (xs : List (ℕ × Stretch)). GaveEnd ps xs c (record { label = s.label; run = longer })) left_is shifted_gave

    pub left_labelled : (u : Labels) → GoesOver t u s.run.from v s.label → AreLabelled left u
    left_labelled u goes = subst (λ (xs : List (ℕ × Stretch)). AreLabelled xs u) left_is (shifted_labelled u goes)
