-- A cursor at whose run's end the characters of several events are typed in one go.
use Rattle.std.proofs.Common.{◌≡◌, ℕ, zero, suc, ◌+◌, ◌-◌, ◌<◌, ◌≤◌, ◌^◌, Bool, true, false, cond, ◌||◌, ◌&&◌, List, [], ◌++◌, length, take, drop, insert, Contains, Option, Some, None, nat_eq, refl, sym, ap, ◌∙◌, subst, arith}
use Rattle.std.specs.List.{list_any}
use Rattle.std.proofs.lemmas.Bool.{false≢true, and_from, ne_eqb, eq-eqb}
use Rattle.std.proofs.lemmas.List.{take-append-drop}
use Rattle.std.proofs.Math.Seq.{take-append_seam}
use Rattle.ew_model.specs.declared.node.Node.{Node}
use Rattle.ew_model.specs.declared.node.Node.TheVariants.{Root, Base, Event}
use Rattle.ew_model.proofs.ListTests.{count-append}
use Rattle.ew_model.proofs.StateLaws.{any_more}
use Rattle.fugue_place.specs.declared.child.Side.TheVariants.{Right}
use Rattle.walker_record.specs.Stretches.{Stretch, node_on, is_node_on, same_bool, is_continued, joined_of, prepared_of, effect_of}
use Rattle.order_tree.specs.Pairs.{IsRising, changed, total, lower, up_to, runs}
use Rattle.character_runs.specs.declared.cursor.Cursor.{Cursor}
use Rattle.character_runs.specs.declared.labels.Labels.{Labels}
use Rattle.character_runs.specs.declared.runs.child.Child.{Child}
use Rattle.character_runs.specs.Cursors.{IsCursor, MayBeCursor, AreKept, settled, last_of, longer_by, longer_at}
use Rattle.character_runs.specs.Entering.{run_of}
use Rattle.character_runs.specs.States.{is_of, is_visible, visible_in, single}
use Rattle.character_runs.specs.Laid.{AreCounted, records_of, chars_in}
use Rattle.character_runs.specs.Loose.{loose_in, AreAmong}
use Rattle.character_runs.specs.Spots.{ComesBehind, ComeEach}
use Rattle.character_runs.proofs.CharPlaces.{up_to_chars, index_behind}
use Rattle.character_runs.proofs.Entered.{old_chars, joined_enters}
use Rattle.character_runs.proofs.PartedRuns.{Parted, parted, lower_is}
use Rattle.character_runs.proofs.Replaced.{length_inserted}
use Rattle.character_runs.proofs.RunChars.{counted_in, visible-chars, shown-chars}
use Rattle.character_runs.proofs.Settled.{changed_twice, settled_rising}
use Rattle.character_runs.proofs.Typing.{typed_at, index_most, told, kept_more}
use Rattle.character_runs.proofs.VisiblePlaces.{run_below}

-- THE RUN AT ITS END
-- the node of a place in a run of events
node_before : (v : Node) (m n position : ℕ) → node_on v m ≡ Event position → node_on v (m + n) ≡ Event (position + n)
node_before Root m n position e = let no : ⊥ = cc in absurd no
node_before (Base i) m n position e = let no : ⊥ = cc in absurd no
node_before (Event i) m n position e =
    let same : i + m ≡ position = cc in
    ap Event (let on : i + (m + n) ≡ position + n = omega (arith, same) in on)

goes_behind : (v : Node) (m position : ℕ) → node_on v m ≡ Event position → is_node_on v (m + 1) (Event (position + 1)) ≡ true
goes_behind Root m position e = let no : ⊥ = cc in absurd no
goes_behind (Base i) m position e = let no : ⊥ = cc in absurd no
goes_behind (Event i) m position e = let same : i + m ≡ position = cc in eq-eqb (position + 1) (i + (m + 1)) (omega (arith, same))

-- a run of visible characters of the text goes on with the next event's
goes_on_run : (r : Stretch) (position : ℕ) (child : Child) → 0 < r.len → r.prepared ≡ 1 → r.effect ≡ true → last_of r ≡ Event position → child.position ≡ position + 1 → is_continued r (run_of child 1) ≡ true
goes_on_run r position child some prepared effect last is =
    let long : r.len - 1 + 1 ≡ r.len = omega (arith, some) in
    let states : (nat_eq r.prepared 1 && same_bool r.effect true) ≡ true = and_from (nat_eq r.prepared 1) (same_bool r.effect true) (eq-eqb r.prepared 1 prepared) (ap (λ (b : Bool). same_bool b true) effect) in
    let behind : is_node_on r.from r.len (Event child.position) ≡ true =
    ap (λ (n : ℕ). is_node_on r.from n (Event child.position)) (sym long) ∙ ap (λ (p : ℕ). is_node_on r.from (r.len - 1 + 1) (Event p)) is ∙ goes_behind r.from (r.len - 1) position last in
    together (nat_eq r.prepared 1) (same_bool r.effect true) (is_node_on r.from r.len (Event child.position)) states behind
  where
    together : (a b d : Bool) → (a && b) ≡ true → d ≡ true → (a && b && d) ≡ true
    together true true d ab e = e
    together true false d ab e = absurd (false≢true ab)
    together false b d ab e = absurd (false≢true ab)

-- what has no record among some has none once another one came in
not_inserted : (p : Stretch → Bool) (old : List Stretch) (index : ℕ) (x : Stretch) → list_any p old ≡ false → p x ≡ false → list_any p (insert old index x) ≡ false
not_inserted p old index x none new =
    any_more p (take index old) x (drop index old)
    ∙ ap (λ (b : Bool). b || list_any p (take index old ++ drop index old)) new
    ∙ ap (list_any p) (take-append-drop index old)
    ∙ none

-- WHERE ONE COMES that goes on with a run
module _ (ps : List (ℕ × Stretch)) (rising : IsRising ps) (label : ℕ) (run : Stretch) (held : Contains ps (label, run)) (child : Child) (goes : is_continued run (run_of child 1) ≡ true) (some : 0 < run.len) (prepared : run.prepared ≡ 1) where
  abbrev part : Parted ps label run
  part = parted ps label run rising held

  seen_front : visible_in (chars_in (up_to ps label)) ≡ total prepared_of (lower ps label) + run.len
  seen_front =
      let own : visible_in (records_of run) ≡ run.len =
      counted_in is_visible (nat_eq run.prepared 1) run.prepared run.effect (λ v. refl) run.len run.from ∙ ap (λ (b : Bool). cond b run.len 0) (eq-eqb run.prepared 1 prepared) in
      ap visible_in (up_to_chars ps rising label run held) ∙ count-append is_visible (chars_in part.front) (records_of run)
      ∙ ap (λ (n : ℕ). visible_in (chars_in part.front) + n) own ∙ ap (λ (n : ℕ). n + run.len) (visible-chars part.front)
      ∙ ap (λ (xs : List (ℕ × Stretch)). total prepared_of xs + run.len) (sym (lower_is ps label run part))

  front_of_all : take (length (chars_in (up_to ps label))) (chars_in ps) ≡ chars_in (up_to ps label)
  front_of_all =
      ap (take (length (chars_in (up_to ps label)))) (old_chars ps rising label run held child goes)
      ∙ take-append_seam (chars_in (up_to ps label)) (chars_in part.back)

  came_behind : (v : Node) (n : ℕ) → last_of run ≡ v → n ≡ total effect_of (lower ps label) + run.len
      → ComesBehind (chars_in ps) (chars_in (changed ps label (joined_of run (run_of child 1)))) v child.position (total prepared_of (lower ps label) + run.len) n
  came_behind v n last count =
      let e = joined_enters ps rising label run held child goes n count in (
        record {
          index = length (chars_in (up_to ps label));
          here = index_behind ps rising label run held v (run.len - 1) (omega (arith, some)) last (omega (arith, some));
          within = e.within;
          before = e.before;
          after = e.after;
        },
        ap visible_in front_of_all ∙ seen_front,
      )

-- ONE AFTER ANOTHER
module _ (ps : List (ℕ × Stretch)) (t : Labels) (visible shown : ℕ) (at : Option Cursor) (pending : Bool) (kept : AreKept ps t visible shown at pending) (c : Cursor) (is : at ≡ Some c) (position : ℕ) (last : last_of c.run ≡ Event position)
    (qs : List (ℕ × Stretch)) (u : Labels) (end : changed qs c.label c.run ≡ settled ps (Some c)) (table : u ≡ t) (own : length (chars_in qs) ≤ 2 ^ 25) (rises : IsRising qs)
    (count : ℕ) (unrecorded : (k : ℕ) → k < count → list_any (is_of (Event (position + k + 1))) (chars_in (settled ps at)) ≡ false) (room : length (chars_in (settled ps at)) + count ≤ 2 ^ 25) where
  abbrev old : List (ℕ × Stretch)
  old = settled ps at

  -- the runs once so many came
  abbrev now : ℕ → List (ℕ × Stretch)
  now n = settled qs (Some (longer_at c n))

  here : IsCursor old c
  here = subst (MayBeCursor old) is kept.cursor

  abbrev AreNewFrom : ℕ → Type 0
  AreNewFrom n = (k : ℕ) → n ≤ k → k < count → list_any (is_of (Event (position + k + 1))) (chars_in (now n)) ≡ false

  abbrev AreTold : ℕ → Type 0
  AreTold n = (among : Node → Bool) → AreAmong among position n → loose_in among (runs (now n)) ≤ loose_in among (runs old)

  -- what is so once so many came
  abbrev IsSo : ℕ → Type 0
  IsSo n =
      AreKept qs u (visible + n) (shown + n) (Some (longer_at c n)) true × ComeEach (chars_in old) (chars_in (now n)) position c.index n (c.before + c.run.len) × AreTold n × AreNewFrom n
      × (length (chars_in (now n)) ≡ length (chars_in old) + n)

  -- NONE
  same_run : c.run ≡ longer_by c.run 0
  same_run = let long : c.run.len ≡ c.run.len + 0 = omega arith in λ i. record { from = c.run.from; len = long i; prepared = c.run.prepared; effect = c.run.effect }

  none_is : old ≡ now 0
  none_is = ap (settled ps) is ∙ sym end ∙ ap (changed qs c.label) same_run

  let_go : IsCursor old (record { label = c.label; run = c.run; before = c.before; index = c.index; struck = None })
  let_go = record { held = here.held; some = here.some; prepared = here.prepared; effect = here.effect; before = here.before; index = here.index; behind = tt }

  none_so : IsSo 0
  none_so =
      let seen : visible ≡ visible + 0 = omega arith in
      let text : shown ≡ shown + 0 = omega arith in
      let place : c.index ≡ c.index + 0 = omega arith in (
        record {
          counted = subst (λ (n : ℕ). AreCounted (now 0) u n (shown + 0)) seen (subst (λ (n : ℕ). AreCounted (now 0) u visible n) text
              (subst (λ (x : Labels). AreCounted (now 0) x visible shown) (sym table) (subst (λ (xs : List (ℕ × Stretch)). AreCounted xs t visible shown) none_is kept.counted)));
          cursor = subst (λ (xs : List (ℕ × Stretch)). IsCursor xs (longer_at c 0)) none_is
              (subst (λ (n : ℕ). IsCursor old (record { label = c.label; run = longer_by c.run 0; before = c.before; index = n; struck = None })) place
              (subst (λ (r : Stretch). IsCursor old (record { label = c.label; run = r; before = c.before; index = c.index; struck = None })) same_run let_go));
          told = λ e. absurd (false≢true (sym e));
          few = own;
        },
        ap chars_in (sym none_is),
        λ among e. let same = ap (λ (xs : List (ℕ × Stretch)). loose_in among (runs xs)) none_is in omega (arith, same),
        λ k le lt. ap (λ (xs : List (ℕ × Stretch)). list_any (is_of (Event (position + k + 1))) (chars_in xs)) (sym none_is) ∙ unrecorded k lt,
        let same = ap (λ (xs : List (ℕ × Stretch)). length (chars_in xs)) none_is in omega (arith, same),
      )

  -- ONE MORE
  module _ (n : ℕ) (lt : n < count) (so : IsSo n) where
    abbrev child : Child
    child = record { slot = record { parent = Root; side = Right }; id = record { agent = []; seq = 0 }; position = position + n + 1 }

    abbrev at_end : Cursor
    at_end = longer_at c n

    last_now : last_of at_end.run ≡ Event (position + n)
    last_now =
        let some = here.some in
        let back : c.run.len + n - 1 ≡ c.run.len - 1 + n = omega (arith, some) in
        ap (node_on c.run.from) back ∙ node_before c.run.from (c.run.len - 1) n position last

    goes : is_continued at_end.run (run_of child 1) ≡ true
    goes =
        let some = here.some in
        goes_on_run at_end.run (position + n) child (omega (arith, some)) here.prepared here.effect last_now refl

    next_is : typed_at at_end child ≡ longer_at c (suc n)
    next_is =
        let long : c.run.len + n + 1 ≡ c.run.len + suc n = omega arith in
        let index : c.index + n + 1 ≡ c.index + suc n = omega arith in
        λ i. record { label = c.label; run = record { from = c.run.from; len = long i; prepared = c.run.prepared; effect = c.run.effect }; before = c.before; index = index i; struck = None }

    new_here : list_any (is_of (Event (position + n + 1))) (chars_in (now n)) ≡ false
    new_here = so.3 n (omega arith) lt

    at_now : IsCursor (now n) at_end
    at_now = so.0.cursor

    rises_now : IsRising (now n)
    rises_now = settled_rising qs (Some at_end) rises

    next_runs : changed (now n) c.label (joined_of at_end.run (run_of child 1)) ≡ now (suc n)
    next_runs = changed_twice c.label (joined_of at_end.run (run_of child 1)) qs at_end.run ∙ ap (λ (d : Cursor). settled qs (Some d)) next_is

    came : ComesBehind (chars_in (now n)) (chars_in (now (suc n))) (Event (position + n)) (position + n + 1) (c.index + n) (c.before + c.run.len + n)
    came =
        let before : c.before + c.run.len + n ≡ total effect_of (lower (now n) c.label) + at_end.run.len = let b = at_now.before in omega (arith, b) in
        subst (λ (m : ℕ). ComesBehind (chars_in (now n)) (chars_in (now (suc n))) (Event (position + n)) (position + n + 1) m (c.before + c.run.len + n)) (sym at_now.index)
        (subst (λ (xs : List (ℕ × Stretch)). ComesBehind (chars_in (now n)) (chars_in xs) (Event (position + n)) (position + n + 1) (total prepared_of (lower (now n) c.label) + at_end.run.len) (c.before + c.run.len + n)) next_runs
        (came_behind (now n) rises_now c.label at_end.run at_now.held child goes at_now.some at_now.prepared (Event (position + n)) (c.before + c.run.len + n) last_now before))

    kept_next : AreKept qs u (visible + suc n) (shown + suc n) (Some (longer_at c (suc n))) true
    kept_next =
        let seen : visible + n + 1 ≡ visible + suc n = omega arith in
        let text : shown + n + 1 ≡ shown + suc n = omega arith in
        let many = so.4 in
        subst (λ (m : ℕ). AreKept qs u m (shown + suc n) (Some (longer_at c (suc n))) true) seen
        (subst (λ (m : ℕ). AreKept qs u (visible + n + 1) m (Some (longer_at c (suc n))) true) text
        (subst (λ (d : Cursor). AreKept qs u (visible + n + 1) (shown + n + 1) (Some d) true) next_is
        (kept_more qs u (visible + n) (shown + n) (Some at_end) true so.0 rises at_end refl child goes qs u refl refl own new_here (omega (arith, many, room, lt)))))

    told_next : AreTold (suc n)
    told_next among e =
        let le = so.2 among (λ k low. e k (omega (arith, low))) in
        let more = told qs u (visible + n) (shown + n) (Some at_end) true so.0 rises at_end refl child goes qs u refl refl own among (e n (omega arith)) in
        let same = ap (λ (d : Cursor). loose_in among (runs (settled qs (Some d)))) next_is in
        omega (arith, le, more, same)

    new_next : AreNewFrom (suc n)
    new_next k low high =
        ap (list_any (is_of (Event (position + k + 1)))) came.0.after
        ∙ not_inserted (is_of (Event (position + k + 1))) (chars_in (now n)) came.0.index (single (Event (position + n + 1)) 1 true) (so.3 k (omega (arith, low)) high)
        (ne_eqb (position + n + 1) (position + k + 1) (λ same. absurd (omega (arith, same, low))))

    next_so : IsSo (suc n)
    next_so = (
      kept_next,
      (chars_in (now n), so.1, came),
      told_next,
      new_next,
      let more = ap length came.0.after ∙ length_inserted (chars_in (now n)) came.0.index (single (Event (position + n + 1)) 1 true) in let many = so.4 in omega (arith, more, many),
    )

  so_to : (n : ℕ) → n ≤ count → IsSo n
  so_to zero le = none_so
  so_to (suc n) le = next_so n (omega arith) (so_to n (omega arith))

  -- once all came
  pub kept_typed : AreKept qs u (visible + count) (shown + count) (Some (longer_at c count)) true
  kept_typed = (so_to count (omega arith)).0

  pub come_typed : ComeEach (chars_in old) (chars_in (settled qs (Some (longer_at c count)))) position c.index count (c.before + c.run.len)
  come_typed = (so_to count (omega arith)).1

  pub told_typed : (among : Node → Bool) → AreAmong among position count → loose_in among (runs (settled qs (Some (longer_at c count)))) ≤ loose_in among (runs old)
  told_typed = (so_to count (omega arith)).2

-- HOW MANY there are at a cursor of kept runs
module _ (ps : List (ℕ × Stretch)) (t : Labels) (visible shown : ℕ) (at : Option Cursor) (pending : Bool) (kept : AreKept ps t visible shown at pending) (rising : IsRising ps) (c : Cursor) (is : at ≡ Some c) where
  abbrev all : List (ℕ × Stretch)
  all = settled ps at

  stands : IsCursor all c
  stands = subst (MayBeCursor all) is kept.cursor

  all_rise : IsRising all
  all_rise = settled_rising ps at rising

  pub index_few : c.index ≤ visible
  index_few = let most = index_most all all_rise c stands in let seen = kept.counted.visible_is in omega (arith, most, seen)

  pub run_few : c.run.len ≤ c.index
  run_few = let index = stands.index in omega (arith, index)

  pub text_few : c.before + c.run.len ≤ shown
  text_few =
      let most = run_below effect_of all c.label c.run all_rise stands.held in
      let own : effect_of c.run ≡ c.run.len = ap (λ (b : Bool). effect_of (record { from = c.run.from; len = c.run.len; prepared = c.run.prepared; effect = b })) stands.effect in
      let chars = shown-chars all in
      let before = stands.before in
      let text = kept.counted.shown_is in
      omega (arith, most, own, chars, before, text)
