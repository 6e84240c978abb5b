-- The last character of a cursor's run went over to the deleted ones behind it.
use Rattle.std.proofs.Common.{◌≡◌, ℕ, ◌+◌, ◌-◌, ◌<◌, ◌≤◌, ◌^◌, ◌⊎◌, inl, inr, Bool, true, false, List, ◌∷◌, ◌++◌, map, length, Contains, Option, Some, None, IfSome, IfNone, nat_lt, refl, sym, ap, ◌∙◌, subst, arith}
use Rattle.std.proofs.lemmas.List.Elements.{Contains-append_right}
use Rattle.ew_model.specs.declared.node.Node.{Node}
use Rattle.walker_record.specs.Stretches.{Stretch, node_on, prepared_of, effect_of}
use Rattle.order_tree.specs.Pairs.{IsRising, lower, total, runs}
use Rattle.order_tree.proofs.PairLaws.{total-append, total-cons}
use Rattle.character_runs.specs.declared.change.Change.TheVariants.{Strike}
use Rattle.character_runs.specs.declared.cursor.Cursor.{Cursor}
use Rattle.character_runs.specs.declared.cursor.Struck.{Struck}
use Rattle.character_runs.specs.declared.labels.Labels.{Labels}
use Rattle.character_runs.specs.Cursors.{IsCursor, MayBeCursor, StandsBehind, GaveEnd, AreKept, last_of, shorter, struck_with, struck_long, with_end, settled}
use Rattle.character_runs.specs.States.{knows, changed_at}
use Rattle.character_runs.specs.Laid.{AreLabelled, AreCounted, chars_in}
use Rattle.character_runs.specs.Loose.{loose_behind, loose_in}
use Rattle.character_runs.proofs.AlteredChars.{long_total}
use Rattle.character_runs.proofs.Cuts.{length-mapped}
use Rattle.character_runs.proofs.KnownNodes.{known_there}
use Rattle.character_runs.proofs.LooseEnds.{alone_loose, alone_told, joined_loose, joined_told}
use Rattle.character_runs.proofs.Moves.{is_first, is_second}
use Rattle.character_runs.proofs.PartedRuns.{lower_of}
use Rattle.character_runs.proofs.RunChars.{node_on_none, visible-chars, shown-chars}
use Rattle.character_runs.proofs.Settled.{end_rising, end_same, settled_rising}
use Rattle.character_runs.proofs.Splits.{runs-append}

-- WHAT A RUN COUNTS
prepared_all : (r : Stretch) → r.prepared ≡ 1 → prepared_of r ≡ r.len
prepared_all r e = rw e refl

prepared_none : (r : Stretch) → r.prepared ≡ 2 → prepared_of r ≡ 0
prepared_none r e = rw e refl

effect_all : (r : Stretch) → r.effect ≡ true → effect_of r ≡ r.len
effect_all r e = rw e refl

effect_none : (r : Stretch) → r.effect ≡ false → effect_of r ≡ 0
effect_none r e = rw e refl

-- two runs in the place of one, or of two
one_total : (count : Stretch → ℕ) (front back : List (ℕ × Stretch)) (x : ℕ × Stretch) → total count (front ++ x ∷ back) ≡ total count front + (count x.1 + total count back)
one_total count front back x = let all = total-append count front (x ∷ back) in let own = total-cons count x back in omega (arith, all, own)

pub two_total : (count : Stretch → ℕ) (front back : List (ℕ × Stretch)) (x y : ℕ × Stretch) → total count (front ++ x ∷ y ∷ back) ≡ total count front + (count x.1 + (count y.1 + total count back))
two_total count front back x y = let all = one_total count front (y ∷ back) x in let own = total-cons count y back in omega (arith, all, own)

-- what a deletion at the end of the cursor's run leaves
pub record Gives (old new : List (ℕ × Stretch)) (t u : Labels) (visible shown : ℕ) (c : Cursor) (s : Struck) : Type 0 where
  pub counted : AreCounted old t visible shown
  pub cursor : IsCursor old c
  pub long : 1 < c.run.len
  pub laid : AreLabelled new u
  pub up : IsRising old
  pub rises : IsRising new
  pub gave : GaveEnd old new c s
  pub chars : chars_in new ≡ map (changed_at (last_of c.run) Strike) (chars_in old)

-- of kept runs
module _ (ps qs : List (ℕ × Stretch)) (t u : Labels) (visible shown : ℕ) (at : Option Cursor) (pending : Bool) (kept : AreKept ps t visible shown at pending) (c : Cursor) (here : at ≡ Some c) where
  abbrev before_it : List (ℕ × Stretch)
  before_it = settled ps (Some c)

  abbrev after_it : Struck → List (ℕ × Stretch)
  after_it s = with_end qs c.label (shorter c.run) (Some s)

  pub gives : 1 < c.run.len → IsRising ps → IsRising qs → (found : Option Struck) → IfSome found (λ s. AreLabelled (after_it s) u) → IfSome found (λ s. GaveEnd before_it (after_it s) c s)
      → IfSome found (λ s. chars_in (after_it s) ≡ map (changed_at (last_of c.run) Strike) (chars_in before_it)) → (s : Struck) → found ≡ Some s → Gives before_it (after_it s) t u visible shown c s
  gives long up rises found laid gave chars s is = record {
    counted = subst (λ (o : Option Cursor). AreCounted (settled ps o) t visible shown) here kept.counted;
    cursor = subst (λ (o : Option Cursor). MayBeCursor (settled ps o) o) here kept.cursor;
    long = long;
    laid = subst (λ (o : Option Struck). IfSome o (λ s. AreLabelled (after_it s) u)) is laid;
    up = settled_rising ps (Some c) up;
    rises = end_rising c.label (shorter c.run) qs (Some s) rises;
    gave = subst (λ (o : Option Struck). IfSome o (λ s. GaveEnd before_it (after_it s) c s)) is gave;
    chars = subst (λ (o : Option Struck). IfSome o (λ s. chars_in (after_it s) ≡ map (changed_at (last_of c.run) Strike) (chars_in before_it))) is chars;
  }

pub some_each : (o : Option Struck) (P : Struck → Type 0) → ((s : Struck) → P s) → IfSome o P
some_each None P each = tt
some_each (Some s) P each = each s

pub none_then : (o : Option Struck) (P Q : Type 0) → (P → Q) → IfNone o P → IfNone o Q
none_then None P Q then h = then h
none_then (Some s) P Q then h = tt

-- runs that have both under their labels already are the same
module _ (old new : List (ℕ × Stretch)) (c : Cursor) (long : 1 < c.run.len) (rises : IsRising new) where
  abbrev ended : Struck → List (ℕ × Stretch)
  ended s = with_end new c.label (shorter c.run) (Some s)

  ended_same : (s : Struck) → GaveEnd old new c s → ended s ≡ new
  ended_same s gave =
      let held = subst (λ (ps : List (ℕ × Stretch)). Contains ps (c.label, shorter c.run)) (sym gave.now)
      (Contains-append_right gave.front ((c.label, shorter c.run) ∷ (s.label, s.run) ∷ gave.back) (c.label, shorter c.run) (is_first (c.label, shorter c.run) ((s.label, s.run) ∷ gave.back))) in
      let some : s.run.len ≡ struck_long c.struck + 1 = ap (λ (r : Stretch). r.len) gave.struck in
      end_same c.label (shorter c.run) new (Some s) rises held
      (gave.front, gave.back, gave.now, ap (λ (r : Stretch). r.from) gave.struck, omega (arith, some), ap (λ (r : Stretch). r.prepared) gave.struck, ap (λ (r : Stretch). r.effect) gave.struck)

  pub some_ended : (o : Option Struck) → IfSome o (GaveEnd old new c) → (P : Struck → List (ℕ × Stretch) → Type 0) → IfSome o (λ s. P s new) → IfSome o (λ s. P s (ended s))
  some_ended None gave P p = tt
  some_ended (Some s) gave P p = subst (P s) (sym (ended_same s gave)) p

  pub some_told : (o : Option Struck) → IfSome o (GaveEnd old new c) → (P : Type 0) → IfSome o (λ s. P → ended s ≡ new)
  some_told None gave P = tt
  some_told (Some s) gave P = λ p. ended_same s gave

module _ (old new : List (ℕ × Stretch)) (t u : Labels) (visible shown : ℕ) (c : Cursor) (s : Struck) (so : Gives old new t u visible shown c s) where
  counted : AreCounted old t visible shown
  counted = so.counted

  at : IsCursor old c
  at = so.cursor

  abbrev gave : GaveEnd old new c s
  gave = so.gave

  long : 1 < c.run.len
  long = so.long

  same_long : length (chars_in new) ≡ length (chars_in old)
  same_long = ap length so.chars ∙ length-mapped (changed_at (last_of c.run) Strike) (chars_in old)

  struck_some : s.run.len ≡ struck_long c.struck + 1
  struck_some = ap (λ (r : Stretch). r.len) gave.struck

  struck_from : s.run.from ≡ last_of c.run
  struck_from = ap (λ (r : Stretch). r.from) gave.struck

  struck_prepared : s.run.prepared ≡ 2
  struck_prepared = ap (λ (r : Stretch). r.prepared) gave.struck

  struck_effect : s.run.effect ≡ false
  struck_effect = ap (λ (r : Stretch). r.effect) gave.struck

  -- WHAT STANDS THERE
  held_shorter : Contains new (c.label, shorter c.run)
  held_shorter =
      subst (λ (ps : List (ℕ × Stretch)). Contains ps (c.label, shorter c.run)) (sym gave.now)
      (Contains-append_right gave.front ((c.label, shorter c.run) ∷ (s.label, s.run) ∷ gave.back) (c.label, shorter c.run) (is_first (c.label, shorter c.run) ((s.label, s.run) ∷ gave.back)))

  held_struck : Contains new (s.label, s.run)
  held_struck =
      subst (λ (ps : List (ℕ × Stretch)). Contains ps (s.label, s.run)) (sym gave.now)
      (Contains-append_right gave.front ((c.label, shorter c.run) ∷ (s.label, s.run) ∷ gave.back) (s.label, s.run) (is_second (s.label, s.run) (c.label, shorter c.run) gave.back))

  -- the last character is known before and after
  pub last_known : knows (chars_in old) (last_of c.run) ≡ true
  last_known = known_there (last_of c.run) old t c.label (c.run.len - 1) c.run counted.labelled so.up at.held (omega (arith, long)) refl ∙ ap (λ (n : ℕ). nat_lt 0 n) at.prepared

  pub still_known : knows (chars_in new) (last_of c.run) ≡ true
  still_known =
      known_there (last_of c.run) new u s.label 0 s.run so.laid so.rises held_struck (omega (arith, struck_some)) (node_on_none s.run.from ∙ struck_from)
      ∙ ap (λ (n : ℕ). nat_lt 0 n) struck_prepared

  -- the behind of the cursor
  behind_prepared : (r : Struck) → c.struck ≡ Some r → r.run.prepared ≡ 2
  behind_prepared r e = (subst (λ (o : Option Struck). StandsBehind old c.label c.run o) e at.behind).5

  behind_effect : (r : Struck) → c.struck ≡ Some r → r.run.effect ≡ false
  behind_effect r e = (subst (λ (o : Option Struck). StandsBehind old c.label c.run o) e at.behind).6

  -- THE COUNTS
  module _ (count : Stretch → ℕ) (whole : count c.run ≡ c.run.len) (part : count (shorter c.run) ≡ c.run.len - 1) (none : (r : Stretch) → r.prepared ≡ 2 → r.effect ≡ false → count r ≡ 0) where
    new_total : total count new ≡ total count gave.front + ((c.run.len - 1) + total count gave.back)
    new_total =
        let is = ap (total count) gave.now in
        let all = two_total count gave.front gave.back (c.label, shorter c.run) (s.label, s.run) in
        let zero = none s.run struck_prepared struck_effect in
        omega (arith, is, all, part, zero)

    old_total : total count old ≡ total count gave.front + (c.run.len + total count gave.back)
    old_total = by gave.was
      where
        by : (old ≡ gave.front ++ (c.label, c.run) ∷ gave.back) ⊎ ((r : Struck) × (c.struck ≡ Some r) × (old ≡ gave.front ++ (c.label, c.run) ∷ (r.label, r.run) ∷ gave.back)) → total count old ≡ total count gave.front + (c.run.len + total count gave.back)
        by (inl e) =
            let is = ap (total count) e in
            let all = one_total count gave.front gave.back (c.label, c.run) in
            omega (arith, is, all, whole)
        by (inr h) =
            let is = ap (total count) h.2 in
            let all = two_total count gave.front gave.back (c.label, c.run) (h.0.label, h.0.run) in
            let zero = none h.0.run (behind_prepared h.0 h.1) (behind_effect h.0 h.1) in
            omega (arith, is, all, whole, zero)

    one_less : total count new + 1 ≡ total count old
    one_less = let now = new_total in let was = old_total in omega (arith, now, was, long)

  fewer_prepared : total prepared_of new + 1 ≡ total prepared_of old
  fewer_prepared = one_less prepared_of (prepared_all c.run at.prepared) (prepared_all (shorter c.run) at.prepared) (λ r p e. prepared_none r p)

  fewer_effect : total effect_of new + 1 ≡ total effect_of old
  fewer_effect = one_less effect_of (effect_all c.run at.effect) (effect_all (shorter c.run) at.effect) (λ r p e. effect_none r e)

  -- THE CURSOR
  lower_old : lower old c.label ≡ gave.front
  lower_old = by gave.was
    where
      by : (old ≡ gave.front ++ (c.label, c.run) ∷ gave.back) ⊎ ((r : Struck) × (c.struck ≡ Some r) × (old ≡ gave.front ++ (c.label, c.run) ∷ (r.label, r.run) ∷ gave.back)) → lower old c.label ≡ gave.front
      by (inl e) = lower_of old gave.front gave.back c.label c.run so.up e
      by (inr h) = lower_of old gave.front ((h.0.label, h.0.run) ∷ gave.back) c.label c.run so.up h.2

  same_lower : lower old c.label ≡ lower new c.label
  same_lower = lower_old ∙ sym (lower_of new gave.front ((s.label, s.run) ∷ gave.back) c.label (shorter c.run) so.rises gave.now)

  abbrev next_at : ℕ → Cursor
  next_at n = record { label = c.label; run = shorter c.run; before = c.before; index = n; struck = Some s }

  cursor_next : (n : ℕ) → n + 1 ≡ c.index → IsCursor new (next_at n)
  cursor_next n less = record {
    held = held_shorter;
    some = omega (arith, long);
    prepared = at.prepared;
    effect = at.effect;
    before = at.before ∙ ap (total effect_of) same_lower;
    index = let is = at.index in let same = ap (total prepared_of) same_lower in omega (arith, is, same, less, long);
    behind = (gave.front, gave.back, gave.now, struck_from, omega (arith, struck_some), struck_prepared, struck_effect);
  }

  cursor_behind : (d : Cursor) → d.label ≡ c.label → d.run ≡ shorter c.run → d.before ≡ c.before → d.index + 1 ≡ c.index → d.struck ≡ Some s → IsCursor new d
  cursor_behind d label run before index struck =
      subst (λ (e : Cursor). IsCursor new e) (sym ((λ i. record { label = label i; run = run i; before = before i; index = d.index; struck = struck i }))) (cursor_next d.index index)

  -- ALL THAT IS KEPT
  pub visible_some : 1 ≤ visible
  visible_some = let is = counted.visible_is in let sum = visible-chars old in omega (arith, is, sum, fewer_prepared)

  pub shown_some : 1 ≤ shown
  shown_some = let is = counted.shown_is in let sum = shown-chars old in omega (arith, is, sum, fewer_effect)

  less_counted : AreCounted new u (visible - 1) (shown - 1)
  less_counted = record {
    labelled = so.laid;
    visible_is = let is = counted.visible_is in let sum = visible-chars old in let less = visible-chars new in omega (arith, is, sum, less, fewer_prepared);
    shown_is = let is = counted.shown_is in let sum = shown-chars old in let less = shown-chars new in omega (arith, is, sum, less, fewer_effect);
    few = let few = counted.few in omega (arith, few, same_long);
  }

  -- the runs and what is pending, with the cursor that comes after
  module _ (ps : List (ℕ × Stretch)) (end : new ≡ with_end ps c.label (shorter c.run) (Some s)) (d : Cursor) (label : d.label ≡ c.label) (run : d.run ≡ shorter c.run) (struck : d.struck ≡ Some s) where
    pub settles : settled ps (Some d) ≡ new
    settles = (λ i. with_end ps (label i) (run i) (struck i)) ∙ sym end

    pub kept_less : d.before ≡ c.before → d.index + 1 ≡ c.index → (pending : Bool) → (pending ≡ false → new ≡ ps) → length (chars_in ps) ≤ 2 ^ 25 → AreKept ps u (visible - 1) (shown - 1) (Some d) pending
    kept_less before index pending told few = record {
      counted = subst (λ (xs : List (ℕ × Stretch)). AreCounted xs u (visible - 1) (shown - 1)) (sym settles) less_counted;
      cursor = subst (λ (xs : List (ℕ × Stretch)). IsCursor xs d) (sym settles) (cursor_behind d label run before index struck);
      told = λ e. settles ∙ told e;
      few = few;
    }

  -- RUNS THAT STAND APART
  -- none was struck before where it went behind no others
  first_struck : old ≡ gave.front ++ (c.label, c.run) ∷ gave.back → struck_long c.struck ≡ 0
  first_struck e =
      let long_old = long_total old in
      let long_new = long_total new in
      let was = ap (total (λ (r : Stretch). r.len)) e in
      let now = ap (total (λ (r : Stretch). r.len)) gave.now in
      let one = one_total (λ (r : Stretch). r.len) gave.front gave.back (c.label, c.run) in
      let two = two_total (λ (r : Stretch). r.len) gave.front gave.back (c.label, shorter c.run) (s.label, s.run) in
      omega (arith, same_long, long_old, long_new, was, now, one, two, struck_some, long)

  now_runs : runs new ≡ runs gave.front ++ shorter c.run ∷ struck_with (last_of c.run) (struck_long c.struck) ∷ runs gave.back
  now_runs = ap runs gave.now ∙ runs-append gave.front ((c.label, shorter c.run) ∷ (s.label, s.run) ∷ gave.back) ∙ ap (λ (r : Stretch). runs gave.front ++ shorter c.run ∷ r ∷ runs gave.back) gave.struck

  module _ (among : Node → Bool) where
    abbrev now_loose : ℕ
    now_loose = loose_behind among false (runs gave.front ++ shorter c.run ∷ struck_with (last_of c.run) (struck_long c.struck) ∷ runs gave.back)

    -- what holds of the runs ahead holds of all
    by_was : (more : ℕ)
        → (struck_long c.struck ≡ 0 → now_loose ≤ loose_behind among false (runs gave.front ++ c.run ∷ runs gave.back) + more)
        → ((other : Stretch) → other.from ≡ node_on c.run.from c.run.len → other.len ≡ struck_long c.struck → 0 < struck_long c.struck → now_loose ≤ loose_behind among false (runs gave.front ++ c.run ∷ other ∷ runs gave.back) + more)
        → loose_in among (runs new) ≤ loose_in among (runs old) + more
    by_was more alone joined = by gave.was
      where
        now : loose_in among (runs new) ≡ now_loose
        now = ap (loose_in among) now_runs

        by : (old ≡ gave.front ++ (c.label, c.run) ∷ gave.back) ⊎ ((r : Struck) × (c.struck ≡ Some r) × (old ≡ gave.front ++ (c.label, c.run) ∷ (r.label, r.run) ∷ gave.back)) → loose_in among (runs new) ≤ loose_in among (runs old) + more
        by (inl e) =
            let was = ap (λ (ps : List (ℕ × Stretch)). loose_in among (runs ps)) e ∙ ap (loose_in among) (runs-append gave.front ((c.label, c.run) ∷ gave.back)) in
            let le = alone (first_struck e) in
            omega (arith, was, now, le)
        by (inr h) =
            let was = ap (λ (ps : List (ℕ × Stretch)). loose_in among (runs ps)) h.2 ∙ ap (loose_in among) (runs-append gave.front ((c.label, c.run) ∷ (h.0.label, h.0.run) ∷ gave.back)) in
            let behind = subst (λ (o : Option Struck). StandsBehind old c.label c.run o) h.1 at.behind in
            let same : struck_long c.struck ≡ h.0.run.len = ap struck_long h.1 in
            let some = behind.4 in
            let le = joined h.0.run behind.3 (sym same) (omega (arith, same, some)) in
            omega (arith, was, now, le)

    pub given_loose : loose_in among (runs new) ≤ loose_in among (runs old) + 2
    given_loose =
        let le = by_was 1
        (λ none. alone_loose among c.run long (struck_long c.struck) false (runs gave.front) (runs gave.back) none)
        (λ other from len some. joined_loose among c.run long (struck_long c.struck) false (runs gave.front) (runs gave.back) other from len some) in
        omega (arith, le)

    pub given_told : among (last_of c.run) ≡ true → loose_in among (runs new) ≤ loose_in among (runs old)
    given_told e =
        let le = by_was 0
        (λ none. let told = alone_told among c.run long (struck_long c.struck) false (runs gave.front) (runs gave.back) none e in omega (arith, told))
        (λ other from len some. let told = joined_told among c.run long (struck_long c.struck) false (runs gave.front) (runs gave.back) other from len some e in omega (arith, told)) in
        omega (arith, le)
