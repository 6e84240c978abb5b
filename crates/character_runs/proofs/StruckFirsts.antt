-- A run whose first character is deleted, and goes over to the deleted ones ahead of it.
use Rattle.std.proofs.Common.{◌≡◌, ℕ, suc, ◌+◌, ◌-◌, ◌<◌, ◌≤◌, Bool, true, false, ◌&&◌, List, [], ◌∷◌, ◌++◌, length, map, Contains, nat_lt, None, if◌then◌else◌, refl, sym, ap, ◌∙◌, subst, arith, append_assoc, append-nil}
use Rattle.std.proofs.lemmas.Bool.{lt-ltb}
use Rattle.std.proofs.lemmas.List.{length-map, map-append}
use Rattle.std.proofs.lemmas.List.Elements.{All-contains, Contains-append_left, Contains-append_right}
use Rattle.ew_model.specs.declared.node.Node.{Node}
use Rattle.ew_model.specs.declared.node.Node.TheVariants.{Root}
use Rattle.walker_record.specs.Stretches.{Stretch, node_on, chars_of, is_continued, joined_of, first_part, second_part}
use Rattle.walker_record.specs.StretchLaws.{GoesOn, goes_on, joined_chars_of}
use Rattle.fugue_place.proofs.NodeLaws.{node_itself}
use Rattle.order_tree.specs.Pairs.{IsRising, EndsWith, labels, lower, changed, runs, total}
use Rattle.character_runs.specs.declared.change.Change.TheVariants.{Strike}
use Rattle.character_runs.specs.declared.cursor.Struck.{Struck}
use Rattle.character_runs.specs.declared.labels.Labels.{Labels}
use Rattle.character_runs.specs.Cursors.{StandsAhead, struck_with}
use Rattle.character_runs.specs.States.{is_inserted, is_visible, knows, changed_at, changed as after_change}
use Rattle.character_runs.specs.Labelled.{label_of, GoesOver}
use Rattle.character_runs.specs.Laid.{Stands, AreLabelled, record_of, records_of, chars_in}
use Rattle.character_runs.specs.Loose.{begins_in, ends_in, loose_behind, loose_in}
use Rattle.character_runs.specs.Replacing.{Replaces, Recounted}
use Rattle.character_runs.proofs.ShiftedFirsts.{firsts_laid}
use Rattle.character_runs.proofs.StruckEnds.{pair_of, at_second, first_less, both_changed}
use Rattle.character_runs.proofs.Moves.{is_first, is_second}
use Rattle.character_runs.proofs.PartedRuns.{Parted, parted, lower_is}
use Rattle.character_runs.proofs.ChangedAt.{changed_kept}
use Rattle.character_runs.proofs.KnownRuns.{held_label}
use Rattle.character_runs.proofs.KnownNodes.{known_there}
use Rattle.character_runs.proofs.AlteredChars.{altered_long, long_total}
use Rattle.character_runs.proofs.GivenEnds.{two_total}
use Rattle.character_runs.proofs.Places.{one_label, not_root_on, on_on, same_steps, unlabelled}
use Rattle.character_runs.proofs.CutChars.{parts_records}
use Rattle.character_runs.proofs.CharPlaces.{none_in, none_of}
use Rattle.character_runs.proofs.Replaced.{none_changed, count_replaced, count_there}
use Rattle.character_runs.proofs.RunChars.{one, node_on_none, chars-append}
use Rattle.character_runs.proofs.LooseRuns.{one_of, one_most, ends_of, ends_second, loose-append}
use Rattle.character_runs.proofs.Splits.{runs-append}

-- what has a lower label last stands right ahead
pub ahead_stands : (ps : List (ℕ × Stretch)) (label own : ℕ) (run struck : Stretch) → IsRising ps → Contains ps (label, run) → EndsWith (lower ps label) own struck → is_continued struck (struck_with run.from 0) ≡ true → 0 < struck.len → 1 < run.len → run.prepared ≡ 1
    → StandsAhead ps (record { label = own; run = struck }) label run
ahead_stands ps label own run struck rising held ends goes some long prepared =
    let at = parted ps label run rising held in
    record {
      front = ends.0;
      back = at.back;
      stood = at.is ∙ ap (λ (xs : List (ℕ × Stretch)). xs ++ (((label, run) ∷ []) ++ at.back)) (sym (lower_is ps label run at) ∙ ends.1) ∙ append_assoc ends.0 ((own, struck) ∷ []) ((label, run) ∷ at.back);
      goes_on = goes;
      some = some;
      long = long;
      prepared = prepared;
    }

module _ (ps : List (ℕ × Stretch)) (t : Labels) (label : ℕ) (run : Stretch) (s : Struck) (laid : AreLabelled ps t) (rising : IsRising ps) (ahead : StandsAhead ps s label run) where
  abbrev v : Node
  v = run.from

  abbrev rest : Stretch
  rest = second_part run 1

  abbrev longer : Stretch
  longer = joined_of s.run (struck_with v 0)

  abbrev mid : List (ℕ × Stretch)
  mid = changed ps label rest

  abbrev qs : List (ℕ × Stretch)
  qs = changed mid s.label longer

  abbrev front : List (ℕ × Stretch)
  front = ahead.front

  abbrev back : List (ℕ × Stretch)
  back = ahead.back

  long : 1 < run.len
  long = ahead.long

  on : GoesOn s.run (struck_with v 0)
  on = goes_on s.run (struck_with v 0) ahead.goes_on

  rises : IsRising (pair_of front back s.label label s.run run)
  rises = subst (λ (xs : List (ℕ × Stretch)). IsRising xs) ahead.stood rising

  struck_held : Contains ps (s.label, s.run)
  struck_held =
      subst (λ (xs : List (ℕ × Stretch)). Contains xs (s.label, s.run)) (sym ahead.stood)
      (Contains-append_right front ((s.label, s.run) ∷ (label, run) ∷ back) (s.label, s.run) (is_first (s.label, s.run) ((label, run) ∷ back)))

  held : Contains ps (label, run)
  held =
      subst (λ (xs : List (ℕ × Stretch)). Contains xs (label, run)) (sym ahead.stood)
      (Contains-append_right front ((s.label, s.run) ∷ (label, run) ∷ back) (label, run) (is_second (label, run) (s.label, s.run) back))

  apart : label ≡ s.label → ⊥
  apart e = let less = first_less front back s.label label s.run run rises in omega (arith, e, less)

  now : qs ≡ pair_of front back s.label label longer rest
  now =
      ap (λ (xs : List (ℕ × Stretch)). changed (changed xs label rest) s.label longer) ahead.stood
      ∙ both_changed front back s.label label s.run run rises rest longer

  -- THE LABELS
  pub firsts_root : node_on v 1 ≡ Root → ⊥
  firsts_root e = not_root_on v 1 (laid.rooted label run held) e

  pub firsts_bare : label_of t (node_on v 1) ≡ None
  firsts_bare = unlabelled ps t label 1 (node_on v 1) laid (record { run = run; held = held; inside = long; node = refl }) (omega arith)

  pub firsts_labelled : (u : Labels) → GoesOver t u v (node_on v 1) label → AreLabelled qs u
  firsts_labelled u goes = firsts_laid ps t u label s.label run s.run laid rising held struck_held apart long ahead.some on.from goes

  -- HOW MANY CHARACTERS
  pub firsts_held : Contains (labels ps) label
  firsts_held = held_label ps label run held

  pub firsts_ahead : Contains (labels mid) s.label
  firsts_ahead = held_label mid s.label s.run (changed_kept label rest ps s.label s.run struck_held (λ e. apart (sym e)))

  pub mid_long : length (chars_in mid) + 1 ≡ length (chars_in ps)
  mid_long = let sum = altered_long ps rising label run rest held in omega (arith, sum, long)

  pub firsts_short : s.run.len + 1 < length (chars_in ps)
  firsts_short =
      let all = long_total ps in
      let was = ap (total (λ (r : Stretch). r.len)) ahead.stood in
      let two = two_total (λ (r : Stretch). r.len) front back (s.label, s.run) (label, run) in
      omega (arith, all, was, two, long)

  -- THE CHARACTERS
  abbrev before : List Stretch
  before = chars_in front ++ records_of s.run

  abbrev behind : List Stretch
  behind = records_of rest ++ chars_in back

  abbrev was_one : Stretch
  was_one = first_part run 1

  abbrev now_one : Stretch
  now_one = struck_with v 0

  four : (a b c d : List Stretch) → a ++ ((b ++ c) ++ d) ≡ (a ++ b) ++ (c ++ d)
  four a b c d = ap (λ (xs : List Stretch). a ++ xs) (append_assoc b c d) ∙ sym (append_assoc a b (c ++ d))

  run_records : records_of run ≡ was_one ∷ records_of rest
  run_records = sym (parts_records run 1 long)

  longer_records : records_of longer ≡ records_of s.run ++ now_one ∷ []
  longer_records = ap (map record_of) (joined_chars_of s.run (struck_with v 0) ahead.goes_on) ∙ map-append record_of (chars_of s.run) (chars_of (struck_with v 0))

  chars_was : chars_in ps ≡ before ++ was_one ∷ behind
  chars_was =
      ap chars_in ahead.stood ∙ chars-append front ((s.label, s.run) ∷ (label, run) ∷ back)
      ∙ ap (λ (xs : List Stretch). chars_in front ++ (records_of s.run ++ (xs ++ chars_in back))) run_records
      ∙ sym (append_assoc (chars_in front) (records_of s.run) (was_one ∷ behind))

  chars_now : chars_in qs ≡ before ++ now_one ∷ behind
  chars_now =
      ap chars_in now ∙ chars-append front ((s.label, longer) ∷ (label, rest) ∷ back)
      ∙ ap (λ (xs : List Stretch). chars_in front ++ (xs ++ behind)) longer_records
      ∙ four (chars_in front) (records_of s.run) (now_one ∷ []) behind

  pub firsts_replaced : Replaces (chars_in ps) (chars_in qs) was_one now_one
  firsts_replaced = record { front = before; back = behind; was = chars_was; now = chars_now }

  abbrev after : Stretch → Stretch
  after = changed_at v Strike

  here : Stands ps label 0 v
  here = record { run = run; held = held; inside = omega (arith, long); node = node_on_none v }

  abbrev at : Parted (pair_of front back s.label label s.run run) label run
  at = at_second front back s.label label s.run run rises

  -- it stands nowhere else
  free : (xs : List (ℕ × Stretch)) → ((l : ℕ) (q : Stretch) → Contains xs (l, q) → Contains ps (l, q) × (l ≡ label → ⊥)) → map after (chars_in xs) ≡ chars_in xs
  free xs others =
      none_changed (chars_in xs) v Strike (none_of xs v (λ l k st. let o = others l st.run st.held in
      o.1 (one_label ps t laid v l label k 0 (record { run = st.run; held = o.0; inside = st.inside; node = st.node }) here)))

  free_before : map after before ≡ before
  free_before =
      ap (map after) (sym same)
      ∙ free at.front (λ l q h. let low = All-contains (λ p. p.0 < label) at.front (l, q) at.below h in
      (subst (λ (xs : List (ℕ × Stretch)). Contains xs (l, q)) (sym (ahead.stood ∙ at.is)) (Contains-append_left at.front (((label, run) ∷ []) ++ at.back) (l, q) h), λ e. omega (arith, low, e)))
      ∙ same
    where
      same : chars_in at.front ≡ before
      same = chars-append front ((s.label, s.run) ∷ []) ∙ ap (λ (xs : List Stretch). chars_in front ++ xs) (append-nil (records_of s.run))

  free_back : map after (chars_in back) ≡ chars_in back
  free_back = free back (λ l q h. let high = All-contains (λ p. label < p.0) at.back (l, q) at.above h in (
    subst (λ (xs : List (ℕ × Stretch)). Contains xs (l, q)) (sym (ahead.stood ∙ at.is))
        (Contains-append_right at.front (((label, run) ∷ []) ++ at.back) (l, q) (Contains-append_right ((label, run) ∷ []) at.back (l, q) h)),
    λ e. omega (arith, high, e),
  ))

  free_rest : map after (records_of rest) ≡ records_of rest
  free_rest =
      none_changed (records_of rest) v Strike
      (none_in (run.len - 1) (node_on v 1) v run.prepared run.effect
      (λ k lt e. let s = same_steps v (1 + k) 0 (laid.rooted label run held) (sym (on_on v 1 k) ∙ e ∙ sym (node_on_none v)) in omega (arith, s)))

  struck_one : after was_one ≡ now_one
  struck_one =
      ap (λ (b : Bool). if b then after_change Strike was_one else was_one) (node_itself v)
      ∙ ap (λ (p : ℕ). one v (suc p) false) ahead.prepared

  pub firsts_chars : chars_in qs ≡ map after (chars_in ps)
  firsts_chars =
      chars_now
      ∙ sym (ap (map after) chars_was ∙ map-append after before (was_one ∷ behind)
      ∙ (λ i. free_before i ++ struck_one i ∷ (map-append after (records_of rest) (chars_in back) ∙ (λ j. free_rest j ++ free_back j)) i))

  pub firsts_long : length (chars_in qs) ≡ length (chars_in ps)
  firsts_long = ap length firsts_chars ∙ length-map (chars_in ps) after

  pub firsts_recounted : Recounted (chars_in ps) (chars_in qs) (record { before = was_one; after = now_one })
  firsts_recounted = record {
    visible = count_replaced is_visible (chars_in ps) (chars_in qs) was_one now_one firsts_replaced;
    visible_there = count_there is_visible (chars_in ps) (chars_in qs) was_one now_one firsts_replaced;
    shown = count_replaced (λ (r : Stretch). r.effect) (chars_in ps) (chars_in qs) was_one now_one firsts_replaced;
    shown_there = count_there (λ (r : Stretch). r.effect) (chars_in ps) (chars_in qs) was_one now_one firsts_replaced;
    long = firsts_long;
  }

  pub firsts_was : knows (chars_in ps) v ≡ is_inserted was_one
  firsts_was = known_there v ps t label 0 run laid rising held (omega (arith, long)) (node_on_none v)

  pub firsts_is : (u : Labels) → AreLabelled qs u → IsRising qs → knows (chars_in qs) v ≡ is_inserted now_one
  firsts_is u labelled up =
      let held_longer : Contains qs (s.label, longer) =
      subst (λ (xs : List (ℕ × Stretch)). Contains xs (s.label, longer)) (sym now)
      (Contains-append_right front ((s.label, longer) ∷ (label, rest) ∷ back) (s.label, longer) (is_first (s.label, longer) ((label, rest) ∷ back))) in
      known_there v qs u s.label s.run.len longer labelled up held_longer (omega arith) (sym on.from) ∙ ap (λ (p : ℕ). nat_lt 0 p) on.prepared

  -- RUNS THAT STAND APART
  module _ (among : Node → Bool) where
    same_begin : begins_in among longer ≡ begins_in among s.run
    same_begin =
        let one : nat_lt 0 (s.run.len + (0 + 1)) ≡ true = lt-ltb 0 (s.run.len + (0 + 1)) (omega arith) in
        let two : nat_lt 0 s.run.len ≡ true = lt-ltb 0 s.run.len ahead.some in
        ap (λ (b : Bool). b && among s.run.from) (one ∙ sym two)

    abbrev between : ℕ
    between = one_of (ends_in among longer) (begins_in among rest)

    few_between : between ≤ 1
    few_between = one_most (ends_in among longer) (begins_in among rest)

    ends_told : among v ≡ true → ends_in among longer ≡ true
    ends_told e =
        let one : nat_lt 0 (s.run.len + (0 + 1)) ≡ true = lt-ltb 0 (s.run.len + (0 + 1)) (omega arith) in
        let place : s.run.len + (0 + 1) - 1 ≡ s.run.len = omega arith in
        let last : node_on s.run.from (s.run.len + (0 + 1) - 1) ≡ v = ap (node_on s.run.from) place ∙ sym on.from in
        ap (λ (b : Bool). b && among (node_on s.run.from (s.run.len + (0 + 1) - 1))) one ∙ ap among last ∙ e

    none_between : among v ≡ true → between ≡ 0
    none_between e = ap (λ (b : Bool). one_of b (begins_in among rest)) (ends_told e)

    loose_now : loose_in among (runs qs) ≤ loose_in among (runs ps) + between
    loose_now =
        let new = ap (λ (xs : List (ℕ × Stretch)). loose_in among (runs xs)) now ∙ ap (loose_in among) (runs-append front ((s.label, longer) ∷ (label, rest) ∷ back)) ∙ loose-append among false (runs front) (longer ∷ rest ∷ runs back) in
        let old = ap (λ (xs : List (ℕ × Stretch)). loose_in among (runs xs)) ahead.stood ∙ ap (loose_in among) (runs-append front ((s.label, s.run) ∷ (label, run) ∷ back)) ∙ loose-append among false (runs front) (s.run ∷ run ∷ runs back) in
        let first = ap (one_of (ends_of among false (runs front))) same_begin in
        let last = ap (λ (b : Bool). loose_behind among b (runs back)) (ends_second among run 1 (omega arith) long) in
        omega (arith, new, old, first, last)

    pub firsts_loose : loose_in among (runs qs) ≤ loose_in among (runs ps) + 2
    firsts_loose = let le = loose_now in let few = few_between in omega (arith, le, few)

    pub firsts_told : among v ≡ true → loose_in among (runs qs) ≤ loose_in among (runs ps)
    firsts_told e = let le = loose_now in let none = none_between e in omega (arith, le, none)
